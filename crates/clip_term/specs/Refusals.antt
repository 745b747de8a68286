-- Why a filter refuses its input or its arguments.
use Rattle.std.specs.List.{list_all}
use Rattle.std.specs.Prelude.{Bool, not, ◌&&◌, ◌||◌, ◌==◌, ℤ, neg_ℤ, int_lt, List, length, ℕ, ◌*◌, ◌/◌, ◌%◌, true, false, if◌then◌else◌, nat_lt, pos, unsigned_abs, [], ◌∷◌, slice_index_or, Option, Some, None, Result, Ok, Err, codes}
use Rattle.fv_plane.specs.Format.{sub_w, sub_h, scale, frame_bytes}
use Rattle.fv_plane.specs.Info.{Rate, lowest}
use Rattle.fv_plane.specs.Refusals.{Refusals, first_fault}
use Rattle.fv_plane.specs.declared.format.Field.TheVariants.{Progressive}
use Rattle.fv_plane.specs.declared.format.Info.{Info}
use Rattle.fv_plane.specs.declared.format.PixelType.{PixelType}
use Rattle.fv_plane.specs.declared.format.PixelType.TheVariants.{Y8, YV12, YV16, YV24, YV411}
use Rattle.fv_plane.specs.declared.format.Shape.{Shape}
use Rattle.fv_plane.specs.declared.format.Tag.TheVariants.{Jpeg}
use Rattle.fv_plane.specs.declared.format.TheConstants.Info.{MAX_FRAMES, MAX_RATE}
use Rattle.fv_plane.specs.declared.format.TheConstants.Shape.{MAX_SIDE, MAX_BYTES}
use Rattle.clip_term.specs.declared.arguments.TheConstants.{MAX_BIAS, MAX_WEIGHT}
use Rattle.clip_term.specs.declared.fault.FilterFault.{FilterFault}
use Rattle.clip_term.specs.declared.fault.FilterFault.TheVariants.{EmptyClip, FormatDiffers, SizeDiffers, LengthLimit, RateLimit, TooLarge, BadRange, BadText, NotWholeChroma, OutOfPicture, TurnFormat, NeedsChroma, DepthRefused}

-- ==== What arguments may be, where several crates ask it.

-- the size of a number is over this
abbrev pub is_over : ℤ → ℤ → Bool
is_over most z = int_lt z (neg_ℤ most) || int_lt most z

-- a weight of GeneralConvolution
abbrev pub is_weight : ℤ → Bool
is_weight z = not (is_over MAX_WEIGHT z)

-- 9 or 25 of these
abbrev pub is_matrix : List ℤ → Bool
is_matrix entries = (length entries == 9 || length entries == 25) && list_all is_weight entries

-- a bias of GeneralConvolution
abbrev pub is_bias : ℤ → Bool
is_bias bias = not (is_over MAX_BIAS bias)

-- ==== The limits that every clip keeps, and refusals and tests that many filters share.

-- Numbers of arguments.

-- an argument that was found to be no less than 0
abbrev pub nat_of : ℤ → ℕ
nat_of z = unsigned_abs z

abbrev pub below : ℤ → ℕ → Bool
below z n = int_lt z (pos n)

abbrev pub above : ℤ → ℕ → Bool
above z n = int_lt (pos n) z

-- not 0 to n
abbrev pub beyond : ℤ → ℕ → Bool
beyond z n = below z 0 || above z n

-- Clips.

abbrev pub rate_of : Info → Rate
rate_of c = record { num = c.num; den = c.den }

-- what stands where an input is missing
abbrev pub no_info : Info
no_info = record {
  shape = record { kind = Y8; bits = 8; width = 0; height = 0 };
  frames = 0;
  num = 0;
  den = 1;
  field = Progressive;
  par = record { num = 0; den = 0 };
  tag = Jpeg;
}

abbrev pub info_at : List Info → ℕ → Info
info_at infos i = slice_index_or infos i no_info

abbrev pub sized : Shape → ℕ → ℕ → Shape
sized shape width height = record shape { width = width; height = height }

abbrev pub same_kind : PixelType → PixelType → Bool
same_kind Y8 Y8 = true
same_kind YV12 YV12 = true
same_kind YV16 YV16 = true
same_kind YV24 YV24 = true
same_kind YV411 YV411 = true
same_kind _ _ = false

abbrev pub same_format : Shape → Shape → Bool
same_format a b = same_kind a.kind b.kind && a.bits == b.bits

abbrev pub same_size : Shape → Shape → Bool
same_size a b = a.width == b.width && a.height == b.height

-- across and down on whole chroma samples
abbrev pub is_whole : Shape → ℕ → ℕ → Bool
is_whole shape width height = (width % sub_w shape.kind) == 0 && (height % sub_h shape.kind) == 0

abbrev pub are_whole : Shape → ℕ → ℕ → ℕ → ℕ → Bool
are_whole shape left top right bottom = is_whole shape left top && is_whole shape right bottom

-- Colours, $YYUUVV.

abbrev pub is_colour : ℤ → Bool
is_colour z = not (beyond z 16777215)

-- the part for a plane
abbrev pub part_of : ℕ → ℕ → ℕ
part_of colour p = if p == 0 then colour / 65536 % 256 else if p == 1 then colour / 256 % 256 else colour % 256

abbrev pub paint : ℤ → Shape → ℕ → ℕ
paint colour shape p = part_of (nat_of colour) p * scale shape

-- Refusals.

-- what follows where nothing is refused
abbrev pub unless : Option FilterFault → Result Info FilterFault → Result Info FilterFault
unless (Some fault) rest = Err fault
unless None rest = rest

-- formats come before sizes
abbrev pub disagreements : List Info → Refusals FilterFault
disagreements infos =
    let shape = (info_at infos 0).shape in
    (FormatDiffers, not (list_all (λ (d : Info). same_format d.shape shape) infos))
    ∷ (SizeDiffers, not (list_all (λ (d : Info). same_size d.shape shape) infos))
    ∷ []

-- of a clip with this length, rate in lowest terms, and size
abbrev pub limit_refusals : ℕ → Rate → Shape → Refusals FilterFault
limit_refusals frames rate shape =
    (EmptyClip, frames == 0)
    ∷ (LengthLimit, nat_lt MAX_FRAMES frames)
    ∷ (RateLimit, nat_lt MAX_RATE rate.num || nat_lt MAX_RATE rate.den)
    ∷ (TooLarge, nat_lt MAX_SIDE shape.width || nat_lt MAX_SIDE shape.height || nat_lt MAX_BYTES (frame_bytes shape))
    ∷ []

-- what ends each row: the clip c with this length, rate and size, where it passes no limit
abbrev pub limits : Info → ℕ → Rate → Shape → Result Info FilterFault
limits c frames rate shape =
    let made = lowest rate in
    unless (first_fault (limit_refusals frames made shape))
    (Ok (record c { frames = frames; num = made.num; den = made.den; shape = shape }))

-- ==== The printed names of the refusals of filters.

abbrev pub filter_fault_name : FilterFault → List ℕ
filter_fault_name BadRange = codes "BadRange"
filter_fault_name BadText = codes "BadText"
filter_fault_name EmptyClip = codes "EmptyClip"
filter_fault_name FormatDiffers = codes "FormatDiffers"
filter_fault_name SizeDiffers = codes "SizeDiffers"
filter_fault_name LengthLimit = codes "LengthLimit"
filter_fault_name RateLimit = codes "RateLimit"
filter_fault_name NotWholeChroma = codes "NotWholeChroma"
filter_fault_name OutOfPicture = codes "OutOfPicture"
filter_fault_name TurnFormat = codes "TurnFormat"
filter_fault_name NeedsChroma = codes "NeedsChroma"
filter_fault_name TooLarge = codes "TooLarge"
filter_fault_name DepthRefused = codes "DepthRefused"
