-- The head of a stream: its parameters, what they say, and how it is written (yuv4mpeg(5) of mjpegtools).
use Rattle.std.specs.Char.{is_ascii_digit}
use Rattle.std.specs.Fmt.{decimal}
use Rattle.std.specs.List.{list_all, before_first, after_first, join_with_byte}
use Rattle.std.specs.Option.{option_or, option_zip, option_and_then}
use Rattle.std.specs.Prelude.{ℕ, List, [], ◌∷◌, ◌++◌, codes, find, Option, Bool, if◌then◌else◌, ◌==◌, ◌+◌, ◌-◌, ◌*◌, ◌/◌, ◌^◌, nat_le, nat_lt, length, Some, None, not, ◌&&◌, ◌||◌, is_none, unwrap_or}
use Rattle.std.specs.Str.{bytes_eq, byte}
use Rattle.fv_plane.specs.Format.{digits_of, has_whole_sides, frame_bytes, format_of}
use Rattle.fv_plane.specs.Info.{gcd}
use Rattle.fv_plane.specs.Refusals.{Refusals, first_fault}
use Rattle.fv_plane.specs.declared.format.Field.{Field}
use Rattle.fv_plane.specs.declared.format.Field.TheVariants.{Progressive, Top, Bottom, Unknown}
use Rattle.fv_plane.specs.declared.format.Info.{Info}
use Rattle.fv_plane.specs.declared.format.PixelType.{PixelType}
use Rattle.fv_plane.specs.declared.format.PixelType.TheVariants.{Y8, YV12, YV16, YV24, YV411}
use Rattle.fv_plane.specs.declared.format.Tag.{Tag}
use Rattle.fv_plane.specs.declared.format.Tag.TheVariants.{Jpeg, Mpeg2, Paldv, Plain}
use Rattle.fv_plane.specs.declared.format.TheConstants.Shape.{MAX_BYTES}
use Rattle.fv_plane.specs.declared.format_names.Format.{Format}
use Rattle.y4m_stream.specs.declared.fault.Y4mFault.{Y4mFault}
use Rattle.y4m_stream.specs.declared.fault.Y4mFault.TheVariants.{NoSize, BadNumber, UnknownColour, BadSize, TooLarge}

-- ==== The names that YUV4MPEG2 has for the format of the chroma (yuv4mpeg(5) of mjpegtools, and for more than eight bits as
-- ffmpeg writes them).

abbrev pub tag_name : Tag → List ℕ
tag_name Jpeg = codes "420jpeg"
tag_name Mpeg2 = codes "420mpeg2"
tag_name Paldv = codes "420paldv"
tag_name Plain = codes "420"

-- with eight bits; only 4:2:0 says where its chroma samples lie
abbrev pub narrow_name : PixelType → Tag → List ℕ
narrow_name Y8 tag = codes "mono"
narrow_name YV12 tag = tag_name tag
narrow_name YV16 tag = codes "422"
narrow_name YV24 tag = codes "444"
narrow_name YV411 tag = codes "411"

-- with more bits
abbrev pub deep_name : PixelType → ℕ → List ℕ
deep_name Y8 bits = codes "mono" ++ digits_of bits
deep_name YV12 bits = codes "420p" ++ digits_of bits
deep_name YV16 bits = codes "422p" ++ digits_of bits
deep_name YV24 bits = codes "444p" ++ digits_of bits
deep_name YV411 bits = codes "411"

abbrev pub colourspace_name : Format → Tag → List ℕ
colourspace_name format tag =
    if format.bits == 8 then narrow_name format.kind tag else deep_name format.kind format.bits

-- a format, and where its chroma samples lie
abbrev pub Colourspace : Type 0
Colourspace = Format × Tag

-- of eight bits
abbrev pub narrow : PixelType → Format
narrow kind = record { kind = kind; bits = 8 }

-- and of more
abbrev pub deep : PixelType → ℕ → Format
deep kind bits = record { kind = kind; bits = bits }

-- each format of as many bits; 4:1:1 has no more than eight
abbrev pub deep_colourspaces : ℕ → List Colourspace
deep_colourspaces bits =
    (deep YV12 bits, Jpeg) ∷ (deep YV16 bits, Jpeg) ∷ (deep YV24 bits, Jpeg) ∷ (deep Y8 bits, Jpeg) ∷ []

-- all that have a name of their own
abbrev pub colourspaces : List Colourspace
colourspaces =
    (narrow YV12, Jpeg) ∷ (narrow YV12, Mpeg2) ∷ (narrow YV12, Paldv) ∷ (narrow YV12, Plain) ∷ (narrow YV16, Jpeg)
    ∷ (narrow YV24, Jpeg) ∷ (narrow YV411, Jpeg) ∷ (narrow Y8, Jpeg)
    ∷ (deep_colourspaces 10 ++ deep_colourspaces 12 ++ deep_colourspaces 14 ++ deep_colourspaces 16)

abbrev pub has_name : List ℕ → Colourspace → Bool
has_name name (format, tag) = bytes_eq name (colourspace_name format tag)

abbrev pub colourspace_named : List ℕ → Option Colourspace
colourspace_named name = find (has_name name) colourspaces

-- ==== What the parameters of a stream's head say: each is a letter and its value (yuv4mpeg(5) of mjpegtools).

-- the value of a parameter, where it has this letter
abbrev pub value_in : ℕ → List ℕ → Option (List ℕ)
value_in letter [] = None
value_in letter (first ∷ text) = if first == letter then Some text else None

-- the value of the last parameter with this letter
abbrev pub value : ℕ → List (List ℕ) → Option (List ℕ)
value letter [] = None
value letter (parameter ∷ later) = option_or (value letter later) (value_in letter parameter)

-- the number that decimal digits write, after those of n
abbrev pub digits_after : ℕ → List ℕ → ℕ
digits_after n [] = n
digits_after n (digit ∷ digits) = digits_after (10 * n + (digit - 48)) digits

-- 1 to 10 decimal digits that write at most 2147483647
abbrev pub is_number : List ℕ → Bool
is_number text = list_all is_ascii_digit text && (nat_le 1 (length text) && (nat_le (length text) 10 && nat_lt (digits_after 0 text) (2 ^ 31)))

abbrev pub number : List ℕ → Option ℕ
number text = if is_number text then Some (digits_after 0 text) else None

abbrev pub is_colon : ℕ → Bool
is_colon byte = byte == 58

-- two numbers around a colon
abbrev pub ratio_in : List ℕ → Option (ℕ × ℕ)
ratio_in text = option_zip (number (before_first is_colon text)) (number (after_first is_colon text))

-- a rate in lowest terms: 0:0 means 25:1, and no other part may be 0
abbrev pub lowest : ℕ × ℕ → Option (ℕ × ℕ)
lowest (num, den) =
    if num == 0 && den == 0 then Some (25, 1)
    else (if num == 0 || den == 0 then None else Some (num / gcd num den, den / gcd num den))

-- frames a second
abbrev pub rate_of : Option (List ℕ) → Option (ℕ × ℕ)
rate_of None = Some (25, 1)
rate_of (Some text) = option_and_then lowest (ratio_in text)

-- the shape of a pixel, kept as it is given
abbrev pub par_of : Option (List ℕ) → Option (ℕ × ℕ)
par_of None = Some (0, 0)
par_of (Some text) = ratio_in text

abbrev pub field_of : Option (List ℕ) → Field
field_of None = Unknown
field_of (Some text) =
    if bytes_eq text (codes "p") then Progressive
    else (if bytes_eq text (codes "t") then Top
    else (if bytes_eq text (codes "b") then Bottom
    else Unknown))

-- 4:2:0 of eight bits
abbrev pub default_colour : Colourspace
default_colour = (narrow YV12, Jpeg)

abbrev pub colour_of : Option (List ℕ) → Option Colourspace
colour_of None = Some default_colour
colour_of (Some name) = colourspace_named name

module _ (parameters : List (List ℕ)) where
  abbrev pub width : Option ℕ
  width = option_and_then number (value (byte "W") parameters)

  abbrev pub height : Option ℕ
  height = option_and_then number (value (byte "H") parameters)

  abbrev pub rate : Option (ℕ × ℕ)
  rate = rate_of (value (byte "F") parameters)

  abbrev pub par : Option (ℕ × ℕ)
  par = par_of (value (byte "A") parameters)

  abbrev pub colour : Option Colourspace
  colour = colour_of (value (byte "C") parameters)

  -- what they say, where they have no fault; no frames are counted
  unfoldable pub info_of : Info
  info_of = record {
    shape = record {
      kind = (unwrap_or colour default_colour).0.kind;
      bits = (unwrap_or colour default_colour).0.bits;
      width = unwrap_or width 0;
      height = unwrap_or height 0;
    };
    frames = 0;
    num = (unwrap_or rate (25, 1)).0;
    den = (unwrap_or rate (25, 1)).1;
    field = field_of (value (byte "I") parameters);
    par = record { num = (unwrap_or par (0, 0)).0; den = (unwrap_or par (0, 0)).1 };
    tag = (unwrap_or colour default_colour).1;
  }

-- what may be wrong with the parameters, in the order in which it is told
abbrev pub parameter_refusals : List (List ℕ) → Refusals Y4mFault
parameter_refusals parameters =
    (NoSize, is_none (value (byte "W") parameters) || is_none (value (byte "H") parameters))
    ∷ (BadNumber (byte "W"), is_none (width parameters))
    ∷ (BadNumber (byte "H"), is_none (height parameters))
    ∷ (BadNumber (byte "F"), is_none (rate parameters))
    ∷ (BadNumber (byte "A"), is_none (par parameters))
    ∷ (UnknownColour, is_none (colour parameters))
    ∷ (BadSize, not (has_whole_sides (info_of parameters).shape))
    ∷ (TooLarge, nat_lt MAX_BYTES (frame_bytes (info_of parameters).shape))
    ∷ []

-- the first fault of the parameters
unfoldable pub parameter_fault : List (List ℕ) → Option Y4mFault
parameter_fault parameters = first_fault (parameter_refusals parameters)

-- ==== The head of a stream as it is written: the word YUV4MPEG2, and parameters, each after a space (yuv4mpeg(5) of mjpegtools).

abbrev pub magic : List ℕ
magic = codes "YUV4MPEG2"

abbrev pub field_name : Field → List ℕ
field_name Progressive = codes "p"
field_name Top = codes "t"
field_name Bottom = codes "b"
field_name Unknown = codes "?"

-- two numbers around a colon
abbrev pub ratio : ℕ → ℕ → List ℕ
ratio num den = decimal num ++ (codes ":" ++ decimal den)

-- the parameters, in the order in which they are written
abbrev pub written : Info → List (List ℕ)
written info =
    (codes "W" ++ decimal info.shape.width) ∷ (codes "H" ++ decimal info.shape.height) ∷ (codes "F" ++ ratio info.num info.den)
    ∷ (codes "I" ++ field_name info.field) ∷ (codes "A" ++ ratio info.par.num info.par.den) ∷ (codes "C" ++ colourspace_name (format_of info.shape) info.tag) ∷ []

-- the head without its newline
unfoldable pub head_line : Info → List ℕ
head_line info = join_with_byte 32 (magic ∷ written info)

abbrev pub head : Info → List ℕ
head info = head_line info ++ 10 ∷ []
