-- Rows that are parts of rows of the input.
use Rattle.std.proofs.Common.{◌≡◌, ◌∙◌, ℕ, zero, suc, refl, ◌+◌, ◌-◌, ◌*◌, ◌<◌, ◌≤◌, List, ◌∷◌, ◌++◌, length, take, drop, replicate, ap, arith, true, false}
use Rattle.std.specs.Prelude.{ℤ}
use Rattle.std.proofs.lemmas.List.{take_all, length-take-le, length-drop}
use Rattle.fv_plane.specs.Picture.{wide_bytes, across, down, look_in, row_from, Picture, IsPicture, row_of}
use Rattle.fv_plane.specs.Format.{planes, plane_width, plane_height}
use Rattle.fv_plane.proofs.CallerLemmas.{length-row}
use Rattle.fv_plane.proofs.WideLemmas.{wide_bytes-append, wide_bytes-drop, wide_bytes-take}
use Rattle.clip_term.specs.Refusals.{nat_of, paint}
use Rattle.clip_term.specs.declared.op.SpaceOp.TheVariants.{AddBorders, LetterBox}
use Rattle.clip_term.specs.Space.{is_within, space_at}
use Rattle.flt_space.specs.Rows.{padded}
use Rattle.flt_space.proofs.BorderLemmas.{below_start, border_row, bordered_row, box_row, boxed_row, covered, inside_of}

-- a part of a row of one value
pub part_replicate : (few many value : ℕ) → few ≤ many → take few (replicate many value) ≡ replicate few value
part_replicate zero many value less = refl
part_replicate (suc few) zero value less = absurd (omega arith)
part_replicate (suc few) (suc many) value less = ap (λ l. value ∷ l) (part_replicate few many value (omega arith))

-- no row is a row of one value
pub padded_nothing : (row : List ℕ) (value width : ℕ) → padded 0 value (take 0 (drop 0 row)) width ≡ replicate width value
padded_nothing row value width = ap (λ n. replicate n value) (let left : width - 0 - 0 ≡ width = omega arith in left)

-- the bytes of a part of a row
pub part_bytes : (samples : List ℕ) (left count a n : ℕ) → a ≡ left * 2 → n ≡ count * 2 → take n (drop a (wide_bytes samples)) ≡ wide_bytes (take count (drop left samples))
part_bytes samples left count a n begins is = search (arith, wide_bytes-drop, wide_bytes-take)

-- a part of a row has as many samples as are asked
pub length_part : (row : List ℕ) (from count width : ℕ) → length row ≡ width → from + count ≤ width → length (take count (drop from row)) ≡ count
length_part row from count width long inside = length-take-le count (drop from row) (omega (arith, long, length-drop from row))

-- the bytes of a row between samples of one value
pub padded_bytes : (before value width after : ℕ) (part bytes : List ℕ) → wide_bytes part ≡ bytes → after ≡ width - before - length part
    → wide_bytes (replicate before value) ++ (bytes ++ wide_bytes (replicate after value)) ≡ wide_bytes (padded before value part width)
padded_bytes before value width after part bytes is count = search (arith, wide_bytes-append)

-- a row of a picture with borders, by its plan
pub bordered_plan : (input : Picture) (left top right bottom color : ℤ) (p y before dy high count width : ℕ) → IsPicture input → p < planes input.shape.kind → before ≡ across input.shape p (nat_of left)
    → dy ≡ down input.shape p (nat_of top) → high ≡ plane_height input.shape p → count ≡ plane_width input.shape p → across input.shape p (nat_of left) + plane_width input.shape p ≤ width → is_within dy (dy + high) y ≡ true
    → padded before (paint color input.shape p) (take count (drop 0 (row_of input.planes p (y - dy)))) width
    ≡ row_from (space_at (AddBorders left top right bottom color) input.shape (look_in input)) p width y
bordered_plan input left top right bottom color p y before dy high count width sizes there left_is top_is high_is count_is room told =
    let row : List ℕ = row_of input.planes p (y - dy) in
    let long : length row ≡ plane_width input.shape p = length-row input p (y - dy) sizes there (below_start dy high (plane_height input.shape p) y high_is told) in
    let whole : take count (drop 0 row) ≡ row = take_all count row (omega (arith, long, count_is)) in
    ap (λ l. padded before (paint color input.shape p) l width) whole ∙ ap (λ n. padded n (paint color input.shape p) row width) left_is
    ∙ ap (λ n. padded (across input.shape p (nat_of left)) (paint color input.shape p) (row_of input.planes p (y - n)) width) top_is
    ∙ bordered_row input left top right bottom color p y width (rw top_is at long) room (rw (top_is, high_is) at told)

-- and one of its borders
pub border_plan : (input : Picture) (left top right bottom color : ℤ) (p y dy high width : ℕ) → dy ≡ down input.shape p (nat_of top) → high ≡ plane_height input.shape p → is_within dy (dy + high) y ≡ false
    → padded 0 (paint color input.shape p) (take 0 (drop 0 (row_of input.planes p 0))) width
    ≡ row_from (space_at (AddBorders left top right bottom color) input.shape (look_in input)) p width y
border_plan input left top right bottom color p y dy high width top_is high_is told =
    padded_nothing (row_of input.planes p 0) (paint color input.shape p) width ∙ border_row input left top right bottom color p y width (rw (top_is, high_is) at told)

-- a row of a picture in a letter box, by its plan
pub boxed_plan : (input : Picture) (top bottom x1 x2 color : ℤ) (p y left right dy end count : ℕ) → IsPicture input → p < planes input.shape.kind → left ≡ across input.shape p (nat_of x1) → right ≡ across input.shape p (nat_of x2)
    → dy ≡ down input.shape p (nat_of top) → end ≡ plane_height input.shape p - down input.shape p (nat_of bottom) → count ≡ plane_width input.shape p - right - left
    → across input.shape p (nat_of x1) + across input.shape p (nat_of x2) ≤ plane_width input.shape p → is_within dy end y ≡ true
    → padded left (paint color input.shape p) (take count (drop left (row_of input.planes p y))) (plane_width input.shape p)
    ≡ row_from (space_at (LetterBox top bottom x1 x2 color) input.shape (look_in input)) p (plane_width input.shape p) y
boxed_plan input top bottom x1 x2 color p y left right dy end count sizes there left_is right_is top_is end_is count_is room told = search (arith, inside_of, length-row, covered, boxed_row)

-- and one that it covers
pub box_plan : (input : Picture) (top bottom x1 x2 color : ℤ) (p y dy end width : ℕ) → dy ≡ down input.shape p (nat_of top) → end ≡ plane_height input.shape p - down input.shape p (nat_of bottom) → is_within dy end y ≡ false
    → padded 0 (paint color input.shape p) (take 0 (drop 0 (row_of input.planes p 0))) width
    ≡ row_from (space_at (LetterBox top bottom x1 x2 color) input.shape (look_in input)) p width y
box_plan input top bottom x1 x2 color p y dy end width top_is end_is told =
    padded_nothing (row_of input.planes p 0) (paint color input.shape p) width ∙ box_row input top bottom x1 x2 color p y width (rw (top_is, end_is) at told)
