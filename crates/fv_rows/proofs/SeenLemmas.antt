-- Rows as they are seen, from the top down or from the bottom up.
use Rattle.std.proofs.Common.{◌≡◌, ℕ, ◌+◌, ◌-◌, ◌*◌, ◌<◌, ◌≤◌, List, [], ◌∷◌, ◌++◌, length, get_or, take, drop, map, refl, sym, ◌∙◌, ap, arith, Bool, true, false}
use Rattle.std.specs.Prelude.{reverse, not}
use Rattle.std.proofs.lemmas.List.{append_assoc, reverse-append, reverse-reverse, length-reverse, get_or-reverse, map-append, take-append-drop, take_at, drop_at, length-drop, length-take-le}
use Rattle.fv_rows.specs.Rows.{rows_of, rows_part, width_of, seen, first_stored, flat_rows, IsPlane}
use Rattle.fv_rows.proofs.RowLemmas.{length-rows_of, length-flat_rows}
use Rattle.fv_rows.proofs.PartLemmas.{width-rows_of}

-- as many rows are seen as there are
pub length-seen : (upwards : Bool) (rows : List (List ℕ)) → length (seen upwards rows) ≡ length rows
unfolding seen
length-seen true rows = length-reverse rows
length-seen false rows = refl

-- rows are seen as they are stored
pub seen_down : (rows : List (List ℕ)) → seen false rows ≡ rows
unfolding seen
seen_down rows = refl

-- each row that is seen is one of those that are stored
pub row-seen : (upwards : Bool) (rows : List (List ℕ)) (y : ℕ) → y < length rows → get_or (seen upwards rows) y [] ≡ get_or rows (first_stored upwards (length rows) y 1) []
unfolding seen
row-seen true rows y within = get_or-reverse rows y [] within ∙ ap (λ n. get_or rows n []) (omega arith)
row-seen false rows y within = refl

-- some rows that are seen lie among those that are stored
pub inside-stored : (upwards : Bool) (height y count : ℕ) → y + count ≤ height → first_stored upwards height y count + count ≤ height
inside-stored true height y count within = omega arith
inside-stored false height y count within = within

-- rows from the other end are the same rows in the other order
pub seen_flipped : (upwards : Bool) (rows : List (List ℕ)) → seen (not upwards) rows ≡ reverse (seen upwards rows)
unfolding seen
seen_flipped true rows = sym (reverse-reverse rows)
seen_flipped false rows = refl

-- each row of the other order, changed
pub map-reverse : (f : List ℕ → List ℕ) (rows : List (List ℕ)) → map f (reverse rows) ≡ reverse (map f rows)
map-reverse f [] = refl
map-reverse f (row ∷ rows) =
    ap (map f) (reverse-append (row ∷ []) rows) ∙ map-append f (reverse rows) (row ∷ [])
    ∙ ap (λ l. l ++ f row ∷ []) (map-reverse f rows) ∙ sym (reverse-append (f row ∷ []) (map f rows))

-- what is in the middle stays there in the other order
middle-reverse : (above rows below : List (List ℕ)) (y h : ℕ) → length below ≡ y → length rows ≡ h → take h (drop y (reverse (above ++ (rows ++ below)))) ≡ reverse rows
middle-reverse above rows below y h deep high =
    let all : reverse (above ++ (rows ++ below)) ≡ reverse below ++ (reverse rows ++ reverse above)
    = reverse-append above (rows ++ below) ∙ ap (λ l. l ++ reverse above) (reverse-append rows below) ∙ append_assoc (reverse below) (reverse rows) (reverse above) in
    ap (λ l. take h (drop y l)) all ∙ ap (take h) (drop_at (reverse below) (reverse rows ++ reverse above) y (length-reverse below ∙ deep))
    ∙ take_at (reverse rows) (reverse above) h (length-reverse rows ∙ high)

-- some rows of the other order
run-reverse : (rows : List (List ℕ)) (y h : ℕ) → y + h ≤ length rows → take h (drop y (reverse rows)) ≡ reverse (take h (drop (length rows - y - h) rows))
run-reverse rows y h within =
    let k : ℕ = length rows - y - h in
    let rest : List (List ℕ) = drop k rows in
    let whole : take k rows ++ (take h rest ++ drop h rest) ≡ rows = ap (λ l. take k rows ++ l) (take-append-drop h rest) ∙ take-append-drop k rows in
    ap (λ l. take h (drop y (reverse l))) (sym whole)
    ∙ middle-reverse (take k rows) (take h rest) (drop h rest) y h (omega (arith, length-drop h rest, length-drop k rows)) (length-take-le h rest (omega (arith, length-drop k rows)))

-- a part of the rows that are seen is a part of those that are stored, as it is seen
pub part-seen : (upwards : Bool) (rows : List (List ℕ)) (x y w h : ℕ) → y + h ≤ length rows
    → seen upwards (rows_part rows x (first_stored upwards (length rows) y h) w h) ≡ rows_part (seen upwards rows) x y w h
unfolding seen
part-seen true rows x y w h within =
    let cut : List ℕ → List ℕ = λ row. take w (drop x row) in
    sym (ap (map cut) (run-reverse rows y h within) ∙ map-reverse cut (take h (drop (length rows - y - h) rows)))
part-seen false rows x y w h within = refl

-- the rows that are seen have the sizes of those that are stored
pub IsPlane-seen : (upwards : Bool) (bytes : List ℕ) (offset stride width height : ℕ) → ((y : ℕ) → y < height → offset + y * stride + width ≤ length bytes)
    → IsPlane width height (seen upwards (rows_of (drop offset bytes) stride width height))
IsPlane-seen upwards bytes offset stride width height ends =
    let rows : List (List ℕ) = rows_of (drop offset bytes) stride width height in
    let high : length rows ≡ height = length-rows_of (drop offset bytes) stride width height in
    record {
      count = length-seen upwards rows ∙ high;
      widths = λ y within.
          ap length (row-seen upwards rows y (omega (arith, high, within)))
          ∙ width-rows_of bytes offset stride width height (first_stored upwards (length rows) y 1) (omega (arith, high, inside-stored upwards (length rows) y 1 (omega (arith, high, within)))) ends;
    }

pub width-seen : (upwards : Bool) (bytes : List ℕ) (offset stride width height : ℕ) → 0 < height → ((y : ℕ) → y < height → offset + y * stride + width ≤ length bytes)
    → width_of (seen upwards (rows_of (drop offset bytes) stride width height)) ≡ width
width-seen upwards bytes offset stride width height some ends = (IsPlane-seen upwards bytes offset stride width height ends).widths 0 some

-- and lie in bytes that are no fewer
pub rows_large : (upwards : Bool) (bytes : List ℕ) (offset stride width height : ℕ) → ((y : ℕ) → y < height → offset + y * stride + width ≤ length bytes) → height * width ≤ length bytes
    → length (flat_rows (seen upwards (rows_of (drop offset bytes) stride width height))) ≤ length bytes
rows_large upwards bytes offset stride width height ends large = omega (arith, large, length-flat_rows width height _ (IsPlane-seen upwards bytes offset stride width height ends))
