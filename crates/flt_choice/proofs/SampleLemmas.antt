-- The samples of bytes, one after the other.
use Rattle.std.proofs.Common.{◌≡◌, ℕ, ◌+◌, ◌*◌, ◌/◌, ◌%◌, ◌<◌, ◌≤◌, List, [], ◌∷◌, ◌++◌, length, take, drop, get_or, suc, ◌-◌, Bool, false, inl, inr, refl, ap, sym, ◌∙◌, subst, arith}
use Rattle.std.specs.Prelude.{◌==◌, if◌then◌else◌}
use Rattle.std.specs.List.{fold}
use Rattle.std.proofs.Math.Nat.{mul-mod_left}
use Rattle.std.proofs.Math.Seq.{take-add}
use Rattle.std.proofs.lemmas.Grind.{flat_map-append}
use Rattle.std.proofs.lemmas.Bool.{cases_lt}
use Rattle.std.proofs.lemmas.List.{take_all, get_or_append_left, get_or-append_right, length-append}
use Rattle.std.proofs.lemmas.Nat.{mul-le}
use Rattle.std.proofs.lemmas.List.Sums.{fold_more, fold-append}
use Rattle.std.proofs.lemmas.Grind.{common_steps}
use Rattle.fv_rows.specs.Rows.{flat_rows}
use Rattle.fv_plane.specs.declared.format.Shape.{Shape}
use Rattle.fv_plane.specs.Picture.{wide_samples, row_of_bytes, bytes_of_rows, Picture, IsPicture}
use Rattle.fv_plane.specs.Format.{IsLegal, planes, sub_w, sub_h, frame_samples, largest_sample, plane_width, plane_height, sample_bytes}
use Rattle.fv_rows.proofs.RowLemmas.{length-flat_rows, length-front}
use Rattle.fv_plane.proofs.BytesLemmas.{bytes_of_rows-flat, length-bytes_of_row}
use Rattle.fv_plane.proofs.CallerLemmas.{row_again}
use Rattle.fv_plane.proofs.WideLemmas.{length-wide_samples, wide_samples-at}
use Rattle.flt_choice.specs.Table.{plane_samples}

-- one more sample
pub wide_step : (h : ℕ → ℕ → ℕ) (start : ℕ) (bytes : List ℕ) (x : ℕ) → length bytes % 2 ≡ 0 → x < length bytes / 2
    → fold h start (take (x + 1) (wide_samples bytes)) ≡ h (fold h start (take x (wide_samples bytes))) (get_or bytes (2 * x) 0 + 256 * get_or bytes (2 * x + 1) 0)
wide_step h start bytes x whole inside =
    let long = length-wide_samples (length bytes / 2) bytes (omega arith) in
    fold_more h start (wide_samples bytes) x 0 (omega arith) ∙ ap (h (fold h start (take x (wide_samples bytes)))) (wide_samples-at bytes x (omega arith))

pub wide_whole : (h : ℕ → ℕ → ℕ) (start : ℕ) (bytes : List ℕ) (x : ℕ) → length bytes % 2 ≡ 0 → length bytes / 2 ≤ x → fold h start (take x (wide_samples bytes)) ≡ fold h start (wide_samples bytes)
wide_whole h start bytes x whole past =
    let long = length-wide_samples (length bytes / 2) bytes (omega arith) in
    ap (fold h start) (take_all x (wide_samples bytes) (omega arith))

pub not_eight : (shape : Shape) → (shape.bits ≡ 8 → ⊥) → shape.bits == 8 ≡ false
not_eight shape never = grind (arith, common_steps)

-- ROWS OF A PLANE

-- the samples of rows that lie side by side
rows_again : (shape : Shape) (rows : List (List ℕ)) → row_of_bytes shape (bytes_of_rows shape rows) ≡ flat_rows rows
rows_again shape rows = ap (row_of_bytes shape) (bytes_of_rows-flat shape rows) ∙ row_again shape (flat_rows rows)

-- some more rows
pub rows_step : (h : ℕ → ℕ → ℕ) (start : ℕ) (shape : Shape) (rows : List (List ℕ)) (y count : ℕ) (bytes : List ℕ) → bytes ≡ bytes_of_rows shape (take count (drop y rows))
    → fold h start (flat_rows (take (y + count) rows)) ≡ fold h (fold h start (flat_rows (take y rows))) (row_of_bytes shape bytes)
rows_step h start shape rows y count bytes is = search (arith, take-add, flat_map-append, fold-append, rows_again)

pub whole_rows : (shape : Shape) (rows : List (List ℕ)) (bytes : List ℕ) → bytes ≡ bytes_of_rows shape rows → length bytes % sample_bytes shape ≡ 0
whole_rows shape rows bytes is = search (arith, bytes_of_rows-flat, length-bytes_of_row, mul-mod_left)

-- all rows of a plane
pub all_rows : (h : ℕ → ℕ → ℕ) (start : ℕ) (picture : Picture) (p y : ℕ) → IsPicture picture → p < planes picture.shape.kind → plane_height picture.shape p ≤ y
    → fold h start (flat_rows (take y (get_or picture.planes p []))) ≡ fold h start (plane_samples picture p)
all_rows h start picture p y is within past = grind (arith, common_steps)

-- NO SAMPLE IS OVER THE LARGEST ONE

bounded_flat : (most : ℕ) (rows : List (List ℕ)) → ((x y : ℕ) → get_or (get_or rows y []) x 0 ≤ most) → (x : ℕ) → get_or (flat_rows rows) x 0 ≤ most
bounded_flat most [] few x = omega arith
bounded_flat most (row ∷ rows) few x = elim (cases_lt x (length row)) [
  | inl within ↦ rw (get_or_append_left row (flat_rows rows) 0 x within) (few x 0)
  | inr past ↦ rw (get_or-append_right row (flat_rows rows) (length row) x 0 refl past) (bounded_flat most rows (λ k y. few k (suc y)) (x - length row))
]

part_few : (most : ℕ) (rows : List (List ℕ)) (y n : ℕ) → ((x z : ℕ) → get_or (get_or rows z []) x 0 ≤ most) → (x z : ℕ) → get_or (get_or (take n (drop y rows)) z []) x 0 ≤ most
part_few most rows y n few x z = grind (arith, common_steps)

pub rows_fit : (picture : Picture) (p y n : ℕ) (bytes : List ℕ) → IsPicture picture → bytes ≡ bytes_of_rows picture.shape (take n (drop y (get_or picture.planes p [])))
    → (x : ℕ) → get_or (row_of_bytes picture.shape bytes) x 0 ≤ largest_sample picture.shape
rows_fit picture p y n bytes is told x =
    let rows : List (List ℕ) = take n (drop y (get_or picture.planes p [])) in
    subst (λ (l : List ℕ). get_or l x 0 ≤ largest_sample picture.shape) (sym (ap (row_of_bytes picture.shape) told ∙ rows_again picture.shape rows))
    (bounded_flat (largest_sample picture.shape) rows (part_few (largest_sample picture.shape) (get_or picture.planes p []) y n (λ k z. is.bounded p k z)) x)

-- THE SAMPLES OF A PLANE ARE FEW

by_plane : (t : Bool) (s : Shape) → (if t then s.width else s.width / sub_w s.kind) * (if t then s.height else s.height / sub_h s.kind) ≤ frame_samples s
by_plane t s = grind (arith, common_steps)

size_cases : (t : Bool) → (1 ≤ (if t then 1 else 2)) × ((if t then 1 else 2) ≤ 2)
size_cases t = grind (arith, common_steps)

-- at most those of the largest frame
pub samples_few : (s : Shape) (p : ℕ) → IsLegal s → plane_width s p * plane_height s p ≤ 16777216
samples_few s p legal = search (arith, by_plane, size_cases, mul-le)

-- the samples so far and the bytes of some more rows
pub rows_room : (picture : Picture) (p y n : ℕ) (bytes : List ℕ) → IsPicture picture → p < planes picture.shape.kind → y + n ≤ plane_height picture.shape p
    → bytes ≡ bytes_of_rows picture.shape (take n (drop y (get_or picture.planes p [])))
    → length (flat_rows (take y (get_or picture.planes p []))) + length bytes < 4294967296
rows_room picture p y n bytes is within inside told =
    let s = picture.shape in
    let rows = get_or picture.planes p [] in
    let plane = is.sizes p (let k = is.count in omega arith) in
    let w = plane_width s p in
    let h = plane_height s p in
    let size = size_cases (s.bits == 8) in
    let front = length-front w h y rows plane (omega arith) in
    let all = length-front w h (y + n) rows plane inside in
    let joined = ap (λ l. length (flat_rows l)) (take-add y n rows) ∙ ap length (flat_map-append (λ row. row) (take y rows) (take n (drop y rows))) ∙ length-append (flat_rows (take y rows)) (flat_rows (take n (drop y rows))) in
    let wide = ap length (told ∙ bytes_of_rows-flat s (take n (drop y rows))) ∙ length-bytes_of_row s (flat_rows (take n (drop y rows))) in
    let few = samples_few s p is.legal in
    let most : (y + n) * w ≤ h * w = mul-le (y + n) w h w inside (omega arith) in
    let swap : h * w ≡ w * h = grind arith in
    let grown : length (flat_rows (take n (drop y rows))) * sample_bytes s ≤ length (flat_rows (take n (drop y rows))) * 2 = mul-le (length (flat_rows (take n (drop y rows)))) (sample_bytes s) (length (flat_rows (take n (drop y rows)))) 2 (omega arith) size.1 in
    omega (arith, front, all, joined, wide, few, most, swap, grown)

pub length-plane_samples : (picture : Picture) (p : ℕ) → IsPicture picture → p < planes picture.shape.kind → length (plane_samples picture p) ≡ plane_width picture.shape p * plane_height picture.shape p
length-plane_samples picture p is within =
    let plane = is.sizes p (let k = is.count in omega arith) in
    length-flat_rows (plane_width picture.shape p) (plane_height picture.shape p) (get_or picture.planes p []) plane ∙ (let swap : plane_height picture.shape p * plane_width picture.shape p ≡ plane_width picture.shape p * plane_height picture.shape p = grind arith in swap)

pub rows_joined : (shape : Shape) (rows : List (List ℕ)) (y count : ℕ) (bytes : List ℕ) → bytes ≡ bytes_of_rows shape (take count (drop y rows))
    → flat_rows (take (y + count) rows) ≡ flat_rows (take y rows) ++ row_of_bytes shape bytes
rows_joined shape rows y count bytes is = search (arith, take-add, flat_map-append, rows_again)
