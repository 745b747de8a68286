-- BlankClip: its arguments, their refusals in argument order, and the clip that they make (AviSynth+ wiki, "BlankClip").
use Rattle.std.specs.Prelude.{ℕ, ◌*◌, Bool, false, not, ◌||◌, if◌then◌else◌, ◌==◌, ℤ, List, [], ◌∷◌, Option, Some, None, Result, is_some, is_none}
use Rattle.std.specs.Option.{unwrap_or}
use Rattle.fv_plane.specs.declared.format.Info.{Info}
use Rattle.fv_plane.specs.declared.format.Shape.{Shape}
use Rattle.fv_plane.specs.declared.format.Colour.{Colour}
use Rattle.fv_plane.specs.declared.format.PixelType.TheVariants.{YV12}
use Rattle.fv_plane.specs.declared.format.Field.TheVariants.{Progressive}
use Rattle.fv_plane.specs.declared.format.Tag.TheVariants.{Jpeg}
use Rattle.fv_plane.specs.Format.{scale, format_named, format_of}
use Rattle.fv_plane.specs.declared.format_names.Format.{Format}
use Rattle.clip_term.specs.declared.arguments.TheConstants.{BLACK}
use Rattle.clip_term.specs.declared.fault.FilterFault.{FilterFault}
use Rattle.clip_term.specs.declared.fault.FilterFault.TheVariants.{BadRange, BadText, NotWholeChroma}
use Rattle.fv_plane.specs.Picture.{Look}
use Rattle.fv_plane.specs.Refusals.{Refusals, first_fault}
use Rattle.clip_term.specs.Refusals.{rate_of, nat_of, below, is_whole, is_colour, part_of, unless, limits}

-- None is an argument that isn't given
pub record BlankArgs : Type 0 where
  pub length : Option ℤ
  pub width : Option ℤ
  pub height : Option ℤ
  pub pixel_type : Option (List ℕ)
  pub fps : Option ℤ
  pub fps_denominator : Option ℤ
  pub color_yuv : Option ℤ

-- what isn't given where there is no clip
abbrev pub default_clip : Info
default_clip = record {
  shape = record { kind = YV12; bits = 8; width = 640; height = 480 };
  frames = 240;
  num = 24;
  den = 1;
  field = Progressive;
  par = record { num = 0; den = 0 };
  tag = Jpeg;
}

abbrev pub default_colour : ℤ
default_colour = BLACK

abbrev pub given_below : Option ℤ → ℕ → Bool
given_below None n = false
given_below (Some z) n = below z n

abbrev pub bad_format : Option (List ℕ) → Bool
bad_format None = false
bad_format (Some text) = is_none (format_named text)

abbrev pub format_or : Format → Option (List ℕ) → Format
format_or format None = format
format_or format (Some text) = unwrap_or (format_named text) format

abbrev pub nat_or : ℕ → Option ℤ → ℕ
nat_or n None = n
nat_or n (Some z) = nat_of z

abbrev pub colour_given : BlankArgs → ℤ
colour_given args = unwrap_or args.color_yuv default_colour

-- c is the clip, or the default one
abbrev pub blank_info : Info → BlankArgs → Info
blank_info c args = record c {
  shape = record c.shape {
    kind = (format_or (format_of c.shape) args.pixel_type).kind;
    bits = (format_or (format_of c.shape) args.pixel_type).bits;
    width = nat_or c.shape.width args.width;
    height = nat_or c.shape.height args.height;
  };
  frames = nat_or c.frames args.length;
  num = nat_or c.num args.fps;
  den = nat_or (if is_some args.fps then 1 else c.den) args.fps_denominator;
}

abbrev pub colour_of : ℤ → Colour
colour_of z = record { y = part_of (nat_of z) 0; u = part_of (nat_of z) 1; v = part_of (nat_of z) 2 }

abbrev pub blank_refusals : Info → BlankArgs → Refusals FilterFault
blank_refusals c args =
    (BadRange, given_below args.length 0)
    ∷ (BadRange, given_below args.width 1)
    ∷ (BadRange, given_below args.height 1)
    ∷ (BadText, bad_format args.pixel_type)
    ∷ (BadRange, given_below args.fps 1)
    ∷ (BadRange, given_below args.fps_denominator 1)
    ∷ (BadRange, not (is_colour (colour_given args)))
    ∷ []

abbrev pub has_zero : Info → Bool
has_zero info = info.shape.width == 0 || info.shape.height == 0 || info.num == 0 || info.den == 0

-- what the op's own info must keep: parts of at least 1, and whole chroma samples
abbrev pub plain_refusals : Info → Refusals FilterFault
plain_refusals info =
    (BadRange, has_zero info)
    ∷ (NotWholeChroma, not (is_whole info.shape info.shape.width info.shape.height))
    ∷ []

abbrev pub check_plain : Info → Result Info FilterFault
check_plain info = unless (first_fault (plain_refusals info)) (limits info info.frames (rate_of info) info.shape)

-- the whole row
abbrev pub check_blank : Info → BlankArgs → Result Info FilterFault
check_blank c args = unless (first_fault (blank_refusals c args)) (check_plain (blank_info c args))

abbrev pub colour_at : Colour → Shape → Look
colour_at colour shape p x y = (if p == 0 then colour.y else if p == 1 then colour.u else colour.v) * scale shape
