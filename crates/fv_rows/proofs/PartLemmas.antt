-- A part of rows.
use Rattle.std.proofs.Common.{◌≡◌, ℕ, zero, suc, ◌+◌, ◌-◌, ◌*◌, ◌<◌, ◌≤◌, List, [], ◌∷◌, length, get_or, take, drop, map, refl, sym, ◌∙◌, ap, arith}
use Rattle.std.proofs.lemmas.List.{drop-drop, drop-take, take-take, length-take-le, length-drop}
use Rattle.fv_rows.specs.Rows.{rows_of, rows_part}
use Rattle.fv_rows.proofs.RowLemmas.{drop-rows_of, take-rows_of, times_add, row-rows_of}

-- the rows from a column on, of fewer bytes
narrow-rows_of : (bytes : List ℕ) (stride width x w height : ℕ) → x + w ≤ width → map (λ row. take w (drop x row)) (rows_of bytes stride width height) ≡ rows_of (drop x bytes) stride w height
narrow-rows_of bytes stride width x w zero fits = refl
narrow-rows_of bytes stride width x w (suc height) fits =
    let width_is : width ≡ x + (width - x) = omega arith in
    let row : take w (drop x (take width bytes)) ≡ take w (drop x bytes)
    = ap (λ n. take w (drop x (take n bytes))) width_is ∙ ap (λ (l : List ℕ). take w l) (drop-take x (width - x) bytes) ∙ take-take w (width - x) (drop x bytes) (omega arith) in
    let rest : drop x (drop stride bytes) ≡ drop stride (drop x bytes) = drop-drop x stride bytes ∙ ap (λ n. drop n bytes) (let swap : stride + x ≡ x + stride = omega arith in swap) ∙ sym (drop-drop stride x bytes) in
    ap (λ r. r ∷ map (λ row. take w (drop x row)) (rows_of (drop stride bytes) stride width height)) row
    ∙ ap (λ l. take w (drop x bytes) ∷ l) (narrow-rows_of (drop stride bytes) stride width x w height fits ∙ ap (λ (l : List ℕ). rows_of l stride w height) rest)

-- a part of rows begins at its first byte
pub part-rows_of : (bytes : List ℕ) (offset stride width height x y w h : ℕ) → x + w ≤ width → y + h ≤ height
    → rows_of (drop (offset + y * stride + x) bytes) stride w h ≡ rows_part (rows_of (drop offset bytes) stride width height) x y w h
part-rows_of bytes offset stride width height x y w h wide high =
    let all : List ℕ = drop offset bytes in
    let start : drop (offset + y * stride + x) bytes ≡ drop x (drop (y * stride) all)
    = sym (ap (drop x) (drop-drop (y * stride) offset bytes) ∙ drop-drop x (offset + y * stride) bytes) in
    let rows : take h (drop y (rows_of all stride width height)) ≡ rows_of (drop (y * stride) all) stride width h
    = ap (take h) (drop-rows_of all stride width height y (omega arith)) ∙ take-rows_of (drop (y * stride) all) stride width (height - y) h (omega arith) in
    ap (λ (l : List ℕ). rows_of l stride w h) start ∙ sym (ap (map (λ row. take w (drop x row))) rows ∙ narrow-rows_of (drop (y * stride) all) stride width x w h wide)

-- a row of a plane whose bytes are all there has its width
pub width-rows_of : (bytes : List ℕ) (offset stride width height y : ℕ) → y < height → ((k : ℕ) → k < height → offset + k * stride + width ≤ length bytes)
    → length (get_or (rows_of (drop offset bytes) stride width height) y []) ≡ width
width-rows_of bytes offset stride width height y within ends =
    ap length (row-rows_of (drop offset bytes) stride width height y within)
    ∙ length-take-le width (drop (y * stride) (drop offset bytes)) (let end = ends y within in rw (drop-drop, length-drop) (omega arith))

-- the rows of a part are inside the bytes
pub part_ends : (offset stride width height x y w h size : ℕ) → ((k : ℕ) → k < height → offset + k * stride + width ≤ size) → x + w ≤ width → y + h ≤ height
    → (k : ℕ) → k < h → offset + y * stride + x + k * stride + w ≤ size
part_ends offset stride width height x y w h size ends wide high k within = omega (arith, ends (y + k) (omega arith), times_add y k stride)
