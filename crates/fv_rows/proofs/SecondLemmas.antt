-- Every second row, by twice the stride.
use Rattle.std.proofs.Common.{◌≡◌, ℕ, ◌+◌, ◌*◌, ◌/◌, ◌%◌, ◌<◌, ◌≤◌, List, [], length, get_or, take, drop, map, refl, sym, ap, ◌∙◌, arith, Bool, true, false}
use Rattle.std.specs.List.{range_with_len}
use Rattle.std.proofs.lemmas.List.{drop-drop}
use Rattle.std.proofs.lemmas.List.FromFn.{fill_by_all}
use Rattle.fv_rows.specs.Rows.{rows_of, seen, first_stored, every_second, second_stored}
use Rattle.fv_rows.proofs.RowLemmas.{length-rows_of, row-rows_of}
use Rattle.fv_rows.proofs.SeenLemmas.{length-seen, row-seen}

-- row y from there on is row 2y from here
twice : (offset stride s y : ℕ) → offset + s * stride + y * (2 * stride) ≡ offset + (2 * y + s) * stride
twice offset stride s y = grind arith

row_is : (items : List ℕ) (offset stride width height s y : ℕ) → s < 2 → height % 2 ≡ 0 → y < height / 2
    → get_or (rows_of (drop (offset + s * stride) items) (2 * stride) width (height / 2)) y [] ≡ get_or (rows_of (drop offset items) stride width height) (2 * y + s) []
row_is items offset stride width height s y few even inside =
    row-rows_of (drop (offset + s * stride) items) (2 * stride) width (height / 2) y inside
    ∙ ap (take width) (drop-drop (y * (2 * stride)) (offset + s * stride) items ∙ ap (λ n. drop n items) (twice offset stride s y) ∙ sym (drop-drop ((2 * y + s) * stride) offset items))
    ∙ sym (row-rows_of (drop offset items) stride width height (2 * y + s) (omega arith))

-- the place of a row that is seen
place_is : (upwards : Bool) (height from y : ℕ) → from < 2 → height % 2 ≡ 0 → y < height / 2
    → 2 * first_stored upwards (height / 2) y 1 + second_stored upwards from ≡ first_stored upwards height (2 * y + from) 1
place_is true height from y few even inside = omega arith
place_is false height from y few even inside = refl

stored_inside : (upwards : Bool) (height y : ℕ) → y < height → first_stored upwards height y 1 < height
stored_inside true height y h = omega arith
stored_inside false height y h = h

pub start_few : (upwards : Bool) (from : ℕ) → from < 2 → second_stored upwards from < 2
start_few true from h = omega arith
start_few false from h = h

pub seconds : (items : List ℕ) (offset stride width height from : ℕ) (upwards : Bool) → from < 2 → height % 2 ≡ 0
    → seen upwards (rows_of (drop (offset + second_stored upwards from * stride) items) (2 * stride) width (height / 2)) ≡ every_second from (seen upwards (rows_of (drop offset items) stride width height))
seconds items offset stride width height from upwards few even =
    let s = second_stored upwards from in
    let all : List (List ℕ) = rows_of (drop offset items) stride width height in
    let half : List (List ℕ) = rows_of (drop (offset + s * stride) items) (2 * stride) width (height / 2) in
    let high = length-rows_of (drop offset items) stride width height in
    let low = length-rows_of (drop (offset + s * stride) items) (2 * stride) width (height / 2) in
    let count : length (seen upwards all) / 2 ≡ height / 2 = ap (λ n. n / 2) (length-seen upwards all ∙ high) in
    fill_by_all (λ y. get_or (seen upwards all) (2 * y + from) []) (seen upwards half) (height / 2) [] (length-seen upwards half ∙ low)
    (λ y inside.
    let z = first_stored upwards (height / 2) y 1 in
    row-seen upwards half y (omega (arith, low)) ∙ ap (λ n. get_or half (first_stored upwards n y 1) []) low
    ∙ row_is items offset stride width height s z (start_few upwards from few) even (stored_inside upwards (height / 2) y inside)
    ∙ ap (λ n. get_or all n []) (place_is upwards height from y few even inside)
    ∙ sym (row-seen upwards all (2 * y + from) (omega (arith, high)) ∙ ap (λ n. get_or all (first_stored upwards n (2 * y + from) 1) []) high))
    ∙ ap (λ n. map (λ y. get_or (seen upwards all) (2 * y + from) []) (range_with_len 0 n)) (sym count)

-- every second row is inside the bytes
pub second_ends : (offset stride width height s size : ℕ) → s < 2 → ((y : ℕ) → y < height → offset + y * stride + width ≤ size)
    → (y : ℕ) → y < height / 2 → offset + s * stride + y * (2 * stride) + width ≤ size
second_ends offset stride width height s size few ends y inside = omega (arith, twice offset stride s y, ends (2 * y + s) (omega arith))
