-- What each filter of the group Space owes to the laws.
use Rattle.std.proofs.Common.{◌≡◌, ℕ, ◌+◌, ◌-◌, ◌*◌, ◌/◌, ◌%◌, ◌^◌, ◌<◌, ◌≤◌, refl, ap, arith, Bool, true, false}
use Rattle.std.specs.Prelude.{ℤ, ◌&&◌, ◌||◌, not, min, if◌then◌else◌, ◌==◌, nat_le}
use Rattle.std.proofs.lemmas.Nat.{shl_below, pow_pos}
use Rattle.std.proofs.lemmas.Bool.Decides.{nat_tests}
use Rattle.std.proofs.lemmas.Int.{ints}
use Rattle.std.proofs.lemmas.Grind.{common_steps}
use Rattle.fv_plane.specs.declared.format.Shape.{Shape}
use Rattle.fv_plane.specs.declared.format.PixelType.{PixelType}
use Rattle.fv_plane.specs.declared.format.PixelType.TheVariants.{Y8, YV16, YV411}
use Rattle.fv_plane.specs.Format.{IsLegal, planes, has_depth, sub_w, sub_h, largest_sample, scale, plane_width, plane_height}
use Rattle.fv_plane.specs.Picture.{Look, across, down}
use Rattle.fv_plane.proofs.LookLemmas.{Inside, Agree}
use Rattle.fv_plane.specs.Refusals.{Refusals}
use Rattle.clip_term.specs.declared.fault.FilterFault.{FilterFault}
use Rattle.clip_term.specs.declared.filter.Filter.{Filter}
use Rattle.clip_term.specs.declared.op.SpaceOp.{SpaceOp}
use Rattle.clip_term.specs.declared.op.SpaceOp.TheVariants as op
use Rattle.clip_term.specs.Refusals.{nat_of, below, same_kind, sized, is_whole, part_of, paint}
use Rattle.clip_term.specs.Space.{SpaceRow, space_row, size_from, cut_refusals, turn_refusals, is_within, is_among, bad_bounds, limited, converted, luma_of}
use Rattle.clip_term.proofs.PassedLemmas.{Passed, or_false, both, not_false, if_same}
use Rattle.clip_term.proofs.BoundLemmas.{IsBounded, scaled, if_few}
use Rattle.clip_term.proofs.PartLemmas.{across_ratio, down_ratio, part_fits, whole_sum, some_planes}
use Rattle.clip_term.proofs.LimitLemmas.{IsSized, whole_parts}

-- the size stays, and so do the samples of a plane
pub record IsKept (row : SpaceRow) (shape : Shape) (p : ℕ) : Type 0 where
  pub size : row.shape shape ≡ shape
  pub samples : (from : Look) (x y : ℕ) → row.at shape from p x y ≡ from p x y

-- What a row owes: what it makes inside its picture needs the input only inside the input's; its size is that of a clip; no sample
-- is over the largest one, where none of the input is; and the planes that it keeps are those of the input.
pub record SpaceFacts (row : SpaceRow) : Type 0 where
  pub local : (shape : Shape) (a b : Look) → Passed (row.refusals shape) → Agree shape a b → Agree (row.shape shape) (row.at shape a) (row.at shape b)
  pub sized : (shape : Shape) → Passed (row.refusals shape) → IsSized shape → IsSized (row.shape shape)
  pub bounded : (shape : Shape) (from : Look) → Passed (row.refusals shape) → IsLegal shape → IsBounded shape from → IsBounded (row.shape shape) (row.at shape from)
  pub kept : (shape : Shape) (p : ℕ) → row.keeps p ≡ true → IsKept row shape p

-- A row whose samples are samples of its input: which one, and that it lies inside the input where it's shown inside the picture.
moved : {filter : Filter} {refusals : Shape → Refusals FilterFault} {size : Shape → Shape} {plane column line : Shape → ℕ → ℕ → ℕ → ℕ}
    → ((shape : Shape) (p x y : ℕ) → Passed (refusals shape) → Inside (size shape) p x y → Inside shape (plane shape p x y) (column shape p x y) (line shape p x y))
    → ((shape : Shape) → Passed (refusals shape) → IsSized shape → IsSized (size shape))
    → ((shape : Shape) → largest_sample shape ≡ largest_sample (size shape))
    → SpaceFacts (record { filter = filter; refusals = refusals; shape = size; at = λ shape from p x y. from (plane shape p x y) (column shape p x y) (line shape p x y); keeps = λ p. false })
moved inside sized bits = grind (arith, common_steps)

-- CUTS: the signed sizes fit

-- a part that is cut lies inside the picture, and is the size of a clip
record IsCut (shape : Shape) (left top width height : ℤ) : Type 0 where
  wide : nat_of left + nat_of width ≤ shape.width
  high : nat_of top + nat_of height ≤ shape.height

cut_inside : (shape : Shape) (left top width height : ℤ) → below left 0 ≡ false → below top 0 ≡ false → Passed (cut_refusals shape left top width height) → IsCut shape left top width height
cut_inside shape left top width height a b told = grind (arith, common_steps)

cut_sized : (shape : Shape) (left top width height : ℤ) → has_depth shape.kind shape.bits ≡ true → Passed (cut_refusals shape left top width height) → IsSized (sized shape (nat_of width) (nat_of height))
cut_sized shape left top width height depth told = grind (arith, common_steps)

crop : (left top width height : ℤ) → SpaceFacts (space_row (op.Crop left top width height))
crop left top width height = moved
    (λ shape p x y told i.
    let starts = or_false (below left 0) (below top 0) told.0 in
    let cut = cut_inside shape left top (size_from left width shape.width) (size_from top height shape.height) starts.0 starts.1 told.1 in
    record {
      plane = i.plane;
      across = part_fits (p == 0) (across_ratio shape.kind) x (nat_of left) _ shape.width i.across cut.wide;
      down = part_fits (p == 0) (down_ratio shape.kind) y (nat_of top) _ shape.height i.down cut.high;
    })
    (λ shape told fits. cut_sized shape left top (size_from left width shape.width) (size_from top height shape.height) fits.depth told.1)
    (λ shape. refl)

crop_bottom : (n : ℤ) → SpaceFacts (space_row (op.CropBottom n))
crop_bottom n = grind (arith, common_steps)

-- BORDERS: a place inside them is one of the picture

within : (d x w : ℕ) → is_within d (d + w) x ≡ true → x - d < w
within d x w e = grind (arith, nat_tests)

part_few : (c p : ℕ) → part_of c p ≤ 255
part_few c p = if_few (p == 0) (c / 65536 % 256) (if p == 1 then c / 256 % 256 else c % 256) 255 (omega arith) (if_few (p == 1) (c / 256 % 256) (c % 256) 255 (omega arith) (omega arith))

paint_few : (color : ℤ) (shape : Shape) (p : ℕ) → IsLegal shape → paint color shape p ≤ largest_sample shape
paint_few color shape p legal = scaled shape (part_of (nat_of color) p) legal (part_few (nat_of color) p)

add_borders : (left top right bottom color_yuv : ℤ) → SpaceFacts (space_row (op.AddBorders left top right bottom color_yuv))
add_borders left top right bottom color_yuv = record {
  local = λ shape a b told agree. record {
    same = λ p x y i.
        let dx = across shape p (nat_of left) in
        let dy = down shape p (nat_of top) in
        if_same (is_within dx (dx + plane_width shape p) x && is_within dy (dy + plane_height shape p) y) _ _ _ _
        (λ e.
        let inside = both (is_within dx (dx + plane_width shape p) x) (is_within dy (dy + plane_height shape p) y) e in
        agree.same p (x - dx) (y - dy) (record { plane = i.plane; across = within dx x (plane_width shape p) inside.0; down = within dy y (plane_height shape p) inside.1 }))
        refl;
  };
  sized = λ shape told fits.
      let whole = both (is_whole shape (nat_of left) (nat_of top)) (is_whole shape (nat_of right) (nat_of bottom)) (not_false _ told.1.0) in
      let first = whole_parts shape (nat_of left) (nat_of top) whole.0 in
      let last = whole_parts shape (nat_of right) (nat_of bottom) whole.1 in
      let w = fits.some_width in
      let h = fits.some_height in
      let wide = across_ratio shape.kind in
      let high = down_ratio shape.kind in
      record {
        depth = fits.depth;
        some_width = omega arith;
        some_height = omega arith;
        whole_width = whole_sum wide (shape.width + nat_of left) (nat_of right) (whole_sum wide shape.width (nat_of left) fits.whole_width first.0) last.0;
        whole_height = whole_sum high (shape.height + nat_of top) (nat_of bottom) (whole_sum high shape.height (nat_of top) fits.whole_height first.1) last.1;
      };
  bounded = λ shape from told legal few. record { at = λ p x y. if_few _ _ _ _ (few.at _ _ _) (paint_few color_yuv shape p legal) };
  kept = λ shape p e. cc;
}

-- TURNS: both sizes of a plane are parts alike

square : (k : PixelType) → same_kind k YV16 || same_kind k YV411 ≡ false → sub_w k ≡ sub_h k
square k e = grind (arith, common_steps)

turn_sized : (shape : Shape) → Passed (turn_refusals shape) → IsSized shape → IsSized (sized shape shape.height shape.width)
turn_sized shape told fits = grind (arith, common_steps)

turn_inside : (shape : Shape) (p x y : ℕ) → Passed (turn_refusals shape) → Inside (sized shape shape.height shape.width) p x y → (y < plane_width shape p) × (x < plane_height shape p)
turn_inside shape p x y told i = grind (arith, common_steps)

-- SWAPUV

three_planes : (k : PixelType) → 1 < planes k → 2 < planes k
three_planes k h = grind (arith, common_steps)

swap_by : (a b : Bool) (shape : Shape) (p x y : ℕ) → (p == 1) ≡ a → (p == 2) ≡ b → Inside shape p x y → Inside shape (if a then 2 else if b then 1 else p) x y
swap_by a b shape p x y e f i = grind (arith, common_steps)

-- PLANES AS PICTURES

chroma_planes : (k : PixelType) → same_kind k Y8 ≡ false → 2 < planes k
chroma_planes k e = grind (arith, common_steps)

luma_inside : (shape : Shape) (q p x y : ℕ) → q < planes shape.kind → Inside (luma_of shape q) p x y → Inside shape q x y
luma_inside shape q p x y h i = grind (arith, common_steps)

-- and so has each plane the size of a clip
luma_sized : (shape : Shape) (b : Bool) → IsSized shape
    → IsSized (record shape { kind = Y8; width = (if b then shape.width else shape.width / sub_w shape.kind); height = (if b then shape.height else shape.height / sub_h shape.kind) })
luma_sized shape b fits = grind (arith, common_steps)

-- LIMITER, CONVERTBITS

high_few : (low high : ℤ) → bad_bounds low high ≡ false → nat_of high ≤ 255
high_few low high e = grind (arith, ints, nat_tests)

raised_few : (old new n : ℕ) → nat_le old new ≡ true → n ≤ 2 ^ old - 1 → n * 2 ^ (new - old) ≤ 2 ^ new - 1
raised_few old new n e few =
    let some = pow_pos old in
    let sum : old + (new - old) ≡ new = grind (arith, nat_tests) in
    let below = shl_below n old (new - old) (omega arith) in
    let same = ap (λ k. 2 ^ k) sum in
    omega arith

converted_by : (t : Bool) (old new n : ℕ) → nat_le old new ≡ t → n ≤ 2 ^ old - 1
    → (if t then n * 2 ^ (new - old) else min (2 ^ new - 1) ((n + 2 ^ (old - new - 1)) / 2 ^ (old - new))) ≤ 2 ^ new - 1
converted_by t old new n e few = grind (arith, nat_tests, raised_few)

-- no sample of other bits is over the greatest one of these
pub converted_few : (old new n : ℕ) → n ≤ 2 ^ old - 1 → converted old new n ≤ 2 ^ new - 1
converted_few old new n few = converted_by (nat_le old new) old new n refl few

second_of : (test : Bool) (a b : ℕ) → not test ≡ true → (if test then a else b) ≡ b
second_of test a b e = grind (arith, common_steps)

-- EACH FILTER

pub space_facts : (inner : SpaceOp) → SpaceFacts (space_row inner)
space_facts (op.Crop left top width height) = crop left top width height
space_facts (op.CropBottom n) = crop_bottom n
space_facts (op.AddBorders left top right bottom color_yuv) = add_borders left top right bottom color_yuv
space_facts (op.LetterBox top bottom x1 x2 color_yuv) = record {
  local = λ shape a b told agree. record { same = λ p x y i. rw (agree.same p x y i) refl };
  sized = λ shape told fits. fits;
  bounded = λ shape from told legal few. record { at = λ p x y. if_few _ _ _ _ (few.at _ _ _) (paint_few color_yuv shape p legal) };
  kept = λ shape p e. cc;
}
space_facts op.FlipHorizontal = moved
    (λ shape p x y told i. record { plane = i.plane; across = (let h = i.across in omega arith); down = i.down })
    (λ shape told fits. fits) (λ shape. refl)
space_facts op.FlipVertical = moved
    (λ shape p x y told i. record { plane = i.plane; across = i.across; down = (let h = i.down in omega arith) })
    (λ shape told fits. fits) (λ shape. refl)
space_facts op.Turn180 = moved
    (λ shape p x y told i. record { plane = i.plane; across = (let h = i.across in omega arith); down = (let h = i.down in omega arith) })
    (λ shape told fits. fits) (λ shape. refl)
space_facts op.TurnLeft = moved
    (λ shape p x y told i. let h = turn_inside shape p x y told i in record { plane = i.plane; across = (let g = h.0 in omega arith); down = h.1 })
    turn_sized (λ shape. refl)
space_facts op.TurnRight = moved
    (λ shape p x y told i. let h = turn_inside shape p x y told i in record { plane = i.plane; across = h.0; down = (let g = h.1 in omega arith) })
    turn_sized (λ shape. refl)
space_facts op.Greyscale = record {
  local = λ shape a b told agree. record { same = λ p x y i. rw (agree.same p x y i) refl };
  sized = λ shape told fits. fits;
  bounded = λ shape from told legal few. record { at = λ p x y. if_few _ _ _ _ (few.at _ _ _) (scaled shape 128 legal (omega arith)) };
  kept = λ shape p e. record { size = refl; samples = λ from x y. rw e refl };
}
space_facts (op.Invert channels) = record {
  local = λ shape a b told agree. record { same = λ p x y i. rw (agree.same p x y i) refl };
  sized = λ shape told fits. fits;
  bounded = λ shape from told legal few. record { at = λ p x y. if_few _ (largest_sample shape - from p x y) _ _ (omega arith) (few.at p x y) };
  kept = λ shape p e. record { size = refl; samples = λ from x y. second_of (is_among channels p) _ _ e };
}
space_facts (op.Limiter min_luma max_luma min_chroma max_chroma) = record {
  local = λ shape a b told agree. record { same = λ p x y i. rw (agree.same p x y i) refl };
  sized = λ shape told fits. fits;
  bounded = λ shape from told legal few. record {
    at = λ p x y.
        let bounds = or_false (bad_bounds min_luma max_luma) (bad_bounds min_chroma max_chroma) told.0 in
        let luma = scaled shape (nat_of max_luma) legal (high_few min_luma max_luma bounds.0) in
        let chroma = scaled shape (nat_of max_chroma) legal (high_few min_chroma max_chroma bounds.1) in
        let shown : (low high : ℤ) → nat_of high * scale shape ≤ largest_sample shape → limited (nat_of low * scale shape) (nat_of high * scale shape) (from p x y) ≤ largest_sample shape = λ low high h. omega arith in
        if_few _ _ _ _ (shown min_luma max_luma luma) (shown min_chroma max_chroma chroma);
  };
  kept = λ shape p e. cc;
}
space_facts op.SwapUV = moved
    (λ shape p x y told i. swap_by (p == 1) (p == 2) shape p x y refl refl i)
    (λ shape told fits. fits) (λ shape. refl)
space_facts op.UToY8 = moved
    (λ shape p x y told i. luma_inside shape 1 p x y (let h = chroma_planes shape.kind told.0 in omega arith) i)
    (λ shape told fits. luma_sized shape false fits) (λ shape. refl)
space_facts op.VToY8 = moved
    (λ shape p x y told i. luma_inside shape 2 p x y (chroma_planes shape.kind told.0) i)
    (λ shape told fits. luma_sized shape false fits) (λ shape. refl)
space_facts op.ConvertToY8 = moved
    (λ shape p x y told i. luma_inside shape 0 p x y (some_planes shape.kind) i)
    (λ shape told fits. luma_sized shape true fits) (λ shape. refl)
space_facts (op.ConvertBits bits) = record {
  local = λ shape a b told agree. record { same = λ p x y i. rw (agree.same p x y (record { plane = i.plane; across = i.across; down = i.down })) refl };
  sized = λ shape told fits. record { depth = not_false (has_depth shape.kind (nat_of bits)) told.1.0; some_width = fits.some_width; some_height = fits.some_height; whole_width = fits.whole_width; whole_height = fits.whole_height };
  bounded = λ shape from told legal few. record { at = λ p x y. converted_few shape.bits (nat_of bits) (from p x y) (few.at p x y) };
  kept = λ shape p e. cc;
}
