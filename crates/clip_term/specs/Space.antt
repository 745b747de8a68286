-- The filters that change a picture (AviSynth+ wiki, "Geometric deformation filters", "Color conversion and adjustment
-- filters" and "ConvertBits"). The shape is that of the clip, p is a plane.
use Rattle.std.specs.Prelude.{ℕ, ◌+◌, ◌-◌, ◌*◌, ◌/◌, ◌^◌, min, max, Bool, false, not, ◌&&◌, ◌||◌, if◌then◌else◌, ◌==◌, nat_lt, nat_le, ℤ, pos, ◌+ℤ◌, ◌-ℤ◌, int_lt, List, [], ◌∷◌, Result}
use Rattle.fv_plane.specs.declared.format.Info.{Info}
use Rattle.fv_plane.specs.declared.format.Shape.{Shape}
use Rattle.fv_plane.specs.declared.format.PixelType.TheVariants.{Y8, YV16, YV411}
use Rattle.fv_plane.specs.Format.{is_depth, has_depth, largest_sample, scale, plane_width, plane_height}
use Rattle.clip_term.specs.declared.fault.FilterFault.{FilterFault}
use Rattle.clip_term.specs.declared.fault.FilterFault.TheVariants.{BadRange, NotWholeChroma, OutOfPicture, TurnFormat, NeedsChroma, DepthRefused}
use Rattle.clip_term.specs.declared.filter.Filter.{Filter}
use Rattle.clip_term.specs.declared.filter.Filter.TheVariants as filters
use Rattle.clip_term.specs.declared.op.Channels.{Channels}
use Rattle.clip_term.specs.declared.op.SpaceOp.{SpaceOp}
use Rattle.clip_term.specs.declared.op.SpaceOp.TheVariants as op
use Rattle.fv_plane.specs.Picture.{Picture, Look, look_in, picture_from, across, down}
use Rattle.fv_plane.specs.Refusals.{Refusals, first_fault}
use Rattle.clip_term.specs.Refusals.{rate_of, nat_of, below, above, beyond, info_at, sized, same_kind, are_whole, is_colour, paint, unless, limits}

-- Crop: a size that is 0 or less counts from the far edge
abbrev pub size_from : ℤ → ℤ → ℕ → ℤ
size_from start size whole = if above size 0 then size else pos whole -ℤ start +ℤ size

abbrev pub is_no_part : ℕ → ℤ → ℤ → Bool
is_no_part whole start size = below size 1 || above (start +ℤ size) whole

abbrev pub is_outside : Shape → ℤ → ℤ → ℤ → ℤ → Bool
is_outside shape left top width height = is_no_part shape.width left width || is_no_part shape.height top height

abbrev pub cut_refusals : Shape → ℤ → ℤ → ℤ → ℤ → Refusals FilterFault
cut_refusals shape left top width height =
    (OutOfPicture, is_outside shape left top width height)
    ∷ (NotWholeChroma, not (are_whole shape (nat_of left) (nat_of top) (nat_of width) (nat_of height)))
    ∷ []

-- AddBorders, LetterBox
abbrev pub bad_borders : ℤ → ℤ → ℤ → ℤ → ℤ → Bool
bad_borders left top right bottom color =
    below left 0 || below top 0 || below right 0 || below bottom 0 || not (is_colour color)

abbrev pub cover_more : Shape → ℕ → ℕ → ℕ → ℕ → Bool
cover_more shape left top right bottom = nat_lt shape.height (top + bottom) || nat_lt shape.width (left + right)

-- from one place to before another
abbrev pub is_within : ℕ → ℕ → ℕ → Bool
is_within start end x = nat_le start x && nat_lt x end

-- Invert
abbrev pub is_among : Channels → ℕ → Bool
is_among channels p = if p == 0 then channels.y else if p == 1 then channels.u else channels.v

-- Limiter
abbrev pub bad_bounds : ℤ → ℤ → Bool
bad_bounds low high = beyond low 255 || beyond high 255 || int_lt high low

abbrev pub limited : ℕ → ℕ → ℕ → ℕ
limited low high sample = min (max sample low) high

-- SwapUV
abbrev pub swapped : ℕ → ℕ
swapped p = if p == 1 then 2 else if p == 2 then 1 else p

-- ConvertBits
abbrev pub names_depth : ℤ → Bool
names_depth bits = not (below bits 0) && is_depth (nat_of bits)

-- a sample of `old` bits as one of `new` bits: to fewer bits it is rounded, a half upwards
abbrev pub converted : ℕ → ℕ → ℕ → ℕ
converted old new sample =
    if nat_le old new then sample * 2 ^ (new - old)
    else min (2 ^ new - 1) ((sample + 2 ^ (old - new - 1)) / 2 ^ (old - new))

-- TurnLeft, TurnRight
abbrev pub turn_refusals : Shape → Refusals FilterFault
turn_refusals shape = (TurnFormat, same_kind shape.kind YV16 || same_kind shape.kind YV411) ∷ []

-- UToY8, VToY8
abbrev pub chroma_refusals : Shape → Refusals FilterFault
chroma_refusals shape = (NeedsChroma, same_kind shape.kind Y8) ∷ (DepthRefused, not (shape.bits == 8)) ∷ []

-- plane p alone, as luma
abbrev pub luma_of : Shape → ℕ → Shape
luma_of shape p = record shape { kind = Y8; width = plane_width shape p; height = plane_height shape p }

-- What is said of a filter over a clip of a shape: what it refuses, in this order; the size and the bits of what it makes; the
-- sample in a plane at x and y; and the planes that it shows as they are.
pub record SpaceRow : Type 0 where
  pub filter : Filter
  pub refusals : Shape → Refusals FilterFault
  pub shape : Shape → Shape
  pub at : Shape → Look → Look
  pub keeps : ℕ → Bool

-- where a row says no more: nothing is refused, the size and the samples stay, and no plane is named as one that stays
abbrev row : Filter → SpaceRow
row filter = record {
  filter = filter;
  refusals = λ shape. [];
  shape = λ shape. shape;
  at = λ shape from p x y. from p x y;
  keeps = λ p. false;
}

abbrev pub space_row : SpaceOp → SpaceRow
space_row (op.Crop left top width height) = record (row filters.Crop) {
  refusals = λ shape.
      (BadRange, below left 0 || below top 0)
      ∷ cut_refusals shape left top (size_from left width shape.width) (size_from top height shape.height);
  shape = λ shape. sized shape (nat_of (size_from left width shape.width)) (nat_of (size_from top height shape.height));
  at = λ shape from p x y. from p (x + across shape p (nat_of left)) (y + down shape p (nat_of top));
}
space_row (op.CropBottom n) = record (row filters.CropBottom) {
  refusals = λ shape.
      (BadRange, below n 0) ∷ cut_refusals shape (pos 0) (pos 0) (pos shape.width) (pos shape.height -ℤ n);
  shape = λ shape. sized shape shape.width (shape.height - nat_of n);
}
space_row (op.AddBorders left top right bottom color_yuv) = record (row filters.AddBorders) {
  refusals = λ shape.
      (BadRange, bad_borders left top right bottom color_yuv)
      ∷ (NotWholeChroma, not (are_whole shape (nat_of left) (nat_of top) (nat_of right) (nat_of bottom)))
      ∷ [];
  shape = λ shape. sized shape (shape.width + nat_of left + nat_of right) (shape.height + nat_of top + nat_of bottom);
  at = λ shape from p x y.
      let dx = across shape p (nat_of left) in
      let dy = down shape p (nat_of top) in
      if is_within dx (dx + plane_width shape p) x && is_within dy (dy + plane_height shape p) y
      then from p (x - dx) (y - dy) else paint color_yuv shape p;
}
space_row (op.LetterBox top bottom x1 x2 color_yuv) = record (row filters.LetterBox) {
  refusals = λ shape.
      (BadRange, bad_borders x1 top x2 bottom color_yuv)
      ∷ (OutOfPicture, cover_more shape (nat_of x1) (nat_of top) (nat_of x2) (nat_of bottom))
      ∷ (NotWholeChroma, not (are_whole shape (nat_of x1) (nat_of top) (nat_of x2) (nat_of bottom)))
      ∷ [];
  at = λ shape from p x y.
      if is_within (across shape p (nat_of x1)) (plane_width shape p - across shape p (nat_of x2)) x
      && is_within (down shape p (nat_of top)) (plane_height shape p - down shape p (nat_of bottom)) y
      then from p x y else paint color_yuv shape p;
}
space_row op.FlipHorizontal = record (row filters.FlipHorizontal) {
  at = λ shape from p x y. from p (plane_width shape p - 1 - x) y;
}
space_row op.FlipVertical = record (row filters.FlipVertical) {
  at = λ shape from p x y. from p x (plane_height shape p - 1 - y);
}
space_row op.Turn180 = record (row filters.Turn180) {
  at = λ shape from p x y. from p (plane_width shape p - 1 - x) (plane_height shape p - 1 - y);
}
space_row op.TurnLeft = record (row filters.TurnLeft) {
  refusals = turn_refusals;
  shape = λ shape. sized shape shape.height shape.width;
  at = λ shape from p x y. from p (plane_width shape p - 1 - y) x;
}
space_row op.TurnRight = record (row filters.TurnRight) {
  refusals = turn_refusals;
  shape = λ shape. sized shape shape.height shape.width;
  at = λ shape from p x y. from p y (plane_height shape p - 1 - x);
}
space_row op.Greyscale = record (row filters.Greyscale) {
  at = λ shape from p x y. if p == 0 then from p x y else 128 * scale shape;
  keeps = λ p. p == 0;
}
space_row (op.Invert channels) = record (row filters.Invert) {
  at = λ shape from p x y. if is_among channels p then largest_sample shape - from p x y else from p x y;
  keeps = λ p. not (is_among channels p);
}
space_row (op.Limiter min_luma max_luma min_chroma max_chroma) = record (row filters.Limiter) {
  refusals = λ shape. (BadRange, bad_bounds min_luma max_luma || bad_bounds min_chroma max_chroma) ∷ [];
  at = λ shape from p x y.
      if p == 0 then limited (nat_of min_luma * scale shape) (nat_of max_luma * scale shape) (from p x y)
      else limited (nat_of min_chroma * scale shape) (nat_of max_chroma * scale shape) (from p x y);
}
space_row op.SwapUV = record (row filters.SwapUV) { at = λ shape from p x y. from (swapped p) x y }
space_row op.UToY8 = record (row filters.UToY8) {
  refusals = chroma_refusals;
  shape = λ shape. luma_of shape 1;
  at = λ shape from p x y. from 1 x y;
}
space_row op.VToY8 = record (row filters.VToY8) {
  refusals = chroma_refusals;
  shape = λ shape. luma_of shape 2;
  at = λ shape from p x y. from 2 x y;
}
space_row op.ConvertToY8 = record (row filters.ConvertToY8) {
  refusals = λ shape. (DepthRefused, not (shape.bits == 8)) ∷ [];
  shape = λ shape. luma_of shape 0;
  at = λ shape from p x y. from 0 x y;
}
space_row (op.ConvertBits bits) = record (row filters.ConvertBits) {
  refusals = λ shape. (BadRange, not (names_depth bits)) ∷ (DepthRefused, not (has_depth shape.kind (nat_of bits))) ∷ [];
  shape = λ shape. record shape { bits = nat_of bits };
  at = λ shape from p x y. converted shape.bits (nat_of bits) (from p x y);
}

-- The words of a row.

abbrev pub space_filter : SpaceOp → Filter
space_filter op = (space_row op).filter

abbrev pub space_refusals : SpaceOp → Shape → Refusals FilterFault
space_refusals op = (space_row op).refusals

abbrev pub space_shape : SpaceOp → Shape → Shape
space_shape op = (space_row op).shape

abbrev pub space_at : SpaceOp → Shape → Look → Look
space_at op = (space_row op).at

abbrev pub check_space : SpaceOp → List Info → Result Info FilterFault
check_space op infos =
    let c = info_at infos 0 in
    unless (first_fault (space_refusals op c.shape)) (limits c c.frames (rate_of c) (space_shape op c.shape))

-- what a filter makes of a picture
abbrev pub space_picture : SpaceOp → Picture → Picture
space_picture op picture = picture_from (space_shape op picture.shape) (space_at op picture.shape (look_in picture))
