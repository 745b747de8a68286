-- Rows in bytes, and some of them written anew.
use Rattle.std.proofs.Common.{◌≡◌, ℕ, zero, suc, ◌+◌, ◌*◌, ◌-◌, ◌<◌, ◌≤◌, List, [], ◌∷◌, ◌++◌, length, take, drop, get_or, set, replicate, refl, sym, ◌∙◌, ap, arith, Option, None, Some, unwrap_or, inl, inr}
use Rattle.std.proofs.lemmas.List.{drop-drop, length-drop, length-append, take_at, drop_at, take-append-le, drop-append-le, take-take, drop-take, length-take-le, take-replicate, drop-replicate, append-nil, append_assoc, take_all, get_or-take, get_or-drop, length-replicate, get_or-replicate, length-set, get_or-set_same, get_or-set_other, nil_from_length, set_split, get_or_past, replicate-append-replicate}
use Rattle.std.proofs.lemmas.Bool.{cases_lt, cases_eq}
use Rattle.std.proofs.lemmas.Nat.{mul-le}
use Rattle.std.proofs.Math.Seq.{take-add}
use Rattle.fv_rows.specs.Rows.{rows_of, IsPlane, flat_rows, rows_put, bytes_put, width_of, filled_to, IsBuilding}

-- rows are as many as they are said to be
pub length-rows_of : (bytes : List ℕ) (stride width height : ℕ) → length (rows_of bytes stride width height) ≡ height
length-rows_of bytes stride width zero = refl
length-rows_of bytes stride width (suc height) = ap suc (length-rows_of (drop stride bytes) stride width height)

-- a row within the list of rows is within their number
pub inside_rows : (bytes : List ℕ) (stride width height y : ℕ) (rows : List (List ℕ)) → rows_of bytes stride width height ≡ rows → y < length rows → y < height
inside_rows bytes stride width height y rows is within = omega (arith, ap length is, length-rows_of bytes stride width height)

-- no rows have no bytes
pub zero_times : (n : ℕ) → 0 ≡ 0 * n
zero_times n = omega arith

-- one row more has the bytes of a row more
pub suc_times : (n y : ℕ) → n + y * n ≡ suc y * n
suc_times n y = omega arith

-- the row at each distance from the first
pub row-rows_of : (bytes : List ℕ) (stride width height y : ℕ) → y < height → get_or (rows_of bytes stride width height) y [] ≡ take width (drop (y * stride) bytes)
row-rows_of bytes stride width zero y within = absurd (omega arith)
row-rows_of bytes stride width (suc height) zero within = ap (λ n. take width (drop n bytes)) (zero_times stride)
row-rows_of bytes stride width (suc height) (suc y) within =
    row-rows_of (drop stride bytes) stride width height y (omega arith)
    ∙ ap (λ (l : List ℕ). take width l) (drop-drop (y * stride) stride bytes) ∙ ap (λ n. take width (drop n bytes)) (suc_times stride y)

-- the rows from one on are the rows of the bytes from there on
pub drop-rows_of : (bytes : List ℕ) (stride width height y : ℕ) → y ≤ height → drop y (rows_of bytes stride width height) ≡ rows_of (drop (y * stride) bytes) stride width (height - y)
drop-rows_of bytes stride width height zero within =
    ap (λ n. rows_of (drop n bytes) stride width height) (zero_times stride) ∙ ap (λ n. rows_of (drop (0 * stride) bytes) stride width n) (omega arith)
drop-rows_of bytes stride width zero (suc y) within = absurd (omega arith)
drop-rows_of bytes stride width (suc height) (suc y) within =
    drop-rows_of (drop stride bytes) stride width height y (omega arith)
    ∙ ap (λ (l : List ℕ). rows_of l stride width (height - y)) (drop-drop (y * stride) stride bytes ∙ ap (λ n. drop n bytes) (suc_times stride y))
    ∙ ap (λ n. rows_of (drop (suc y * stride) bytes) stride width n) (omega arith)

-- the end of a row is not past the end of all
pub row_ends : (y height width : ℕ) → y < height → y * width + width ≤ height * width
row_ends y height width within = grind arith

-- where the last row ends
pub all_ends : (offset width height size : ℕ) → ((y : ℕ) → y < height → offset + y * width + width ≤ size) → 0 < height → offset + height * width ≤ size
all_ends offset width zero size ends some = absurd (omega arith)
all_ends offset width (suc height) size ends some = omega (arith, ends height (omega arith), suc_times width height)

-- rows of two lists of whole rows are the rows of the one, and then those of the other
pub rows_of-append : (front rest : List ℕ) (width m n : ℕ) → length front ≡ m * width → rows_of (front ++ rest) width width (m + n) ≡ rows_of front width width m ++ rows_of rest width width n
rows_of-append front rest width zero n long =
    let none : front ≡ [] = nil_from_length front (long ∙ sym (zero_times width)) in
    let n_is : 0 + n ≡ n = omega arith in
    ap (λ (l : List ℕ). rows_of (l ++ rest) width width (0 + n)) none ∙ ap (λ k. rows_of rest width width k) n_is
rows_of-append front rest width (suc m) n long =
    let row : width ≤ length front = omega (arith, long, suc_times width m) in
    let shorter : length (drop width front) ≡ m * width = rw length-drop (omega (arith, long, suc_times width m)) in
    let one_more : suc m + n ≡ suc (m + n) = omega arith in
    ap (λ k. rows_of (front ++ rest) width width k) one_more
    ∙ ap (λ l. l ∷ rows_of (drop width (front ++ rest)) width width (m + n)) (take-append-le width front rest row)
    ∙ ap (λ (l : List ℕ). take width front ∷ rows_of l width width (m + n)) (drop-append-le width front rest row)
    ∙ ap (λ l. take width front ∷ l) (rows_of-append (drop width front) rest width m n shorter)

-- the first rows are the rows of the bytes, fewer of them
pub take-rows_of : (bytes : List ℕ) (stride width height y : ℕ) → y ≤ height → take y (rows_of bytes stride width height) ≡ rows_of bytes stride width y
take-rows_of bytes stride width height zero within = refl
take-rows_of bytes stride width zero (suc y) within = absurd (omega arith)
take-rows_of bytes stride width (suc height) (suc y) within = ap (λ l. take width bytes ∷ l) (take-rows_of (drop stride bytes) stride width height y (omega arith))

-- past the end of bytes is 0
pub bounded_all : (most : ℕ) (bytes : List ℕ) → ((k : ℕ) → k < length bytes → get_or bytes k 0 ≤ most) → (k : ℕ) → get_or bytes k 0 ≤ most
bounded_all most bytes bounded k = elim (cases_lt k (length bytes)) [
  | inl within ↦ bounded k within
  | inr past ↦ rw (get_or_past bytes k 0 past) (omega arith)
]

-- rows that follow each other are read from the bytes that they take
pub rows_of-take : (bytes : List ℕ) (width height : ℕ) → rows_of (take (height * width) bytes) width width height ≡ rows_of bytes width width height
rows_of-take bytes width zero = refl
rows_of-take bytes width (suc height) =
    let size : suc height * width ≡ width + height * width = sym (suc_times width height) in
    rw (size, take-take width (width + height * width) bytes (omega arith), drop-take) (ap (λ l. take width bytes ∷ l) (rows_of-take (drop width bytes) width height))

-- more rows are at least as many bytes
pub times_le : (m n width : ℕ) → m ≤ n → m * width ≤ n * width
times_le m n width le = mul-le m width n width le (omega arith)

-- bytes of some rows and of some rows more
pub times_add : (y n width : ℕ) → y * width + n * width ≡ (y + n) * width
times_add y n width = omega arith

-- bytes that are filled up have the size
pub length-filled : (size value : ℕ) (bytes : List ℕ) → length bytes ≤ size → length (filled_to size value bytes) ≡ size
length-filled size value bytes fits = length-append bytes _ ∙ ap (λ k. length bytes + k) (length-replicate (size - length bytes) value) ∙ omega arith

-- new bytes in the place of old ones
abbrev pub put_at : ℕ → ℕ → List ℕ → List ℕ → List ℕ
put_at at size bytes rows = take at bytes ++ (rows ++ drop size (drop at bytes))

-- writing over the bytes of rows writes these rows alone
pub put-rows_of : (bytes rows : List ℕ) (width height y n : ℕ) → y + n ≤ height → length rows ≡ n * width → height * width ≤ length bytes
    → rows_of (put_at (y * width) (n * width) bytes rows) width width height ≡ rows_put (rows_of bytes width width height) y (rows_of rows width width n)
put-rows_of bytes rows width height y n within long fits =
    let left : ℕ = height - y - n in
    let height_is : height ≡ y + (n + left) = omega arith in
    let ends : y * width ≤ height * width = times_le y height width (omega arith) in
    let front : length (take (y * width) bytes) ≡ y * width = length-take-le (y * width) bytes (omega arith) in
    let rest : List ℕ = drop (n * width) (drop (y * width) bytes) in
    let left_is : left ≡ height - (y + n) = omega arith in
    let rest_is : rest ≡ drop ((y + n) * width) bytes = drop-drop (n * width) (y * width) bytes ∙ ap (λ k. drop k bytes) (times_add y n width) in
    let above : rows_of (take (y * width) bytes) width width y ≡ take y (rows_of bytes width width height)
    = rows_of-take bytes width y ∙ sym (take-rows_of bytes width width height y (omega arith)) in
    let below : rows_of rest width width left ≡ drop (y + length (rows_of rows width width n)) (rows_of bytes width width height)
    = ap (λ (l : List ℕ). rows_of l width width left) rest_is ∙ ap (λ k. rows_of (drop ((y + n) * width) bytes) width width k) left_is
    ∙ sym (drop-rows_of bytes width width height (y + n) within) ∙ ap (λ k. drop (y + k) (rows_of bytes width width height)) (sym (length-rows_of rows width width n)) in
    ap (λ k. rows_of (put_at (y * width) (n * width) bytes rows) width width k) height_is
    ∙ rows_of-append (take (y * width) bytes) (rows ++ rest) width y (n + left) front
    ∙ ap (λ l. rows_of (take (y * width) bytes) width width y ++ l) (rows_of-append rows rest width n left long)
    ∙ ap (λ l. l ++ (rows_of rows width width n ++ rows_of rest width width left)) above
    ∙ ap (λ l. take y (rows_of bytes width width height) ++ (rows_of rows width width n ++ l)) below

-- bytes that are filled in two steps are filled
pub filled-filled : (size at value : ℕ) (bytes : List ℕ) → length bytes ≤ at → at ≤ size → filled_to size value (filled_to at value bytes) ≡ filled_to size value bytes
filled-filled size at value bytes fits within =
    let gap : ℕ = at - length bytes in
    let left : size - length (filled_to at value bytes) ≡ size - at = ap (λ k. size - k) (length-filled at value bytes fits) in
    let all : gap + (size - at) ≡ size - length bytes = omega arith in
    append_assoc bytes (replicate gap value) _ ∙ ap (λ k. bytes ++ (replicate gap value ++ replicate k value)) left
    ∙ ap (λ (l : List ℕ). bytes ++ l) (replicate-append-replicate gap (size - at) value ∙ ap (λ k. replicate k value) all)

-- rows that follow the bytes so far are written where the filling was
pub put-filled : (bytes rows : List ℕ) (size value width height y n : ℕ) → size ≡ height * width → length bytes ≡ y * width → y + n ≤ height → length rows ≡ n * width
    → rows_of (filled_to size value (bytes ++ rows)) width width height ≡ rows_put (rows_of (filled_to size value bytes) width width height) y (rows_of rows width width n)
put-filled bytes rows size value width height y n size_is so_far within long =
    let fills : (y + n) * width ≤ height * width = times_le (y + n) height width within in
    let both : (y + n) * width ≡ y * width + n * width = sym (times_add y n width) in
    let gap : ℕ = size - length bytes in
    let all : List ℕ = filled_to size value bytes in
    let less : size - length (bytes ++ rows) ≡ gap - n * width = rw length-append (omega (arith, long)) in
    let same : filled_to size value (bytes ++ rows) ≡ put_at (y * width) (n * width) all rows
    = append_assoc bytes rows _
    ∙ ap (λ k. bytes ++ (rows ++ replicate k value)) less
    ∙ ap (λ (l : List ℕ). bytes ++ (rows ++ l)) (sym (drop-replicate (n * width) gap value))
    ∙ ap (λ (l : List ℕ). bytes ++ (rows ++ drop (n * width) l)) (sym (drop_at bytes (replicate gap value) (y * width) so_far))
    ∙ ap (λ (l : List ℕ). l ++ (rows ++ drop (n * width) (drop (y * width) all))) (sym (take_at bytes (replicate gap value) (y * width) so_far)) in
    ap (λ (l : List ℕ). rows_of l width width height) same
    ∙ put-rows_of all rows width height y n within long (omega (arith, length-filled size value bytes (omega arith)))

-- rows of equal bytes are equal rows
pub rows_replicate : (width height n : ℕ) (sample : ℕ) → n ≡ height * width → rows_of (replicate n sample) width width height ≡ replicate height (replicate width sample)
rows_replicate width zero n sample is = refl
rows_replicate width (suc height) n sample is =
    let n_is : n ≡ width + height * width = is ∙ sym (suc_times width height) in
    let front : take width (replicate n sample) ≡ replicate width sample = take-replicate width n sample (omega arith) in
    let rest : rows_of (drop width (replicate n sample)) width width height ≡ replicate height (replicate width sample)
    = rw drop-replicate (rows_replicate width height (n - width) sample (omega arith)) in
    rw (front, rest) refl

-- the bytes at a row's place are the row
pub row_at : (bytes : List ℕ) (offset stride width height y : ℕ) → y < height → take width (drop (offset + y * stride) bytes) ≡ get_or (rows_of (drop offset bytes) stride width height) y []
row_at bytes offset stride width height y within = sym (row-rows_of (drop offset bytes) stride width height y within ∙ ap (λ (l : List ℕ). take width l) (drop-drop (y * stride) offset bytes))

-- rows that lie in the bytes are a plane
pub IsPlane-rows_of : (bytes : List ℕ) (width height : ℕ) → height * width ≤ length bytes → IsPlane width height (rows_of bytes width width height)
IsPlane-rows_of bytes width height fits = record {
  count = length-rows_of bytes width width height;
  widths = λ y within.
      let ends : y * width + width ≤ height * width = row_ends y height width within in
      ap length (row-rows_of bytes width width height y within) ∙ length-take-le width (drop (y * width) bytes) (rw length-drop (omega arith));
}

-- rows that follow each other, joined, are the bytes that they take
pub flat-rows_of : (bytes : List ℕ) (width height : ℕ) → flat_rows (rows_of bytes width width height) ≡ take (height * width) bytes
flat-rows_of bytes width zero = ap (λ n. take n bytes) (zero_times width)
flat-rows_of bytes width (suc height) =
    ap (λ (l : List ℕ). take width bytes ++ l) (flat-rows_of (drop width bytes) width height)
    ∙ sym (take-add width (height * width) bytes) ∙ ap (λ n. take n bytes) (suc_times width height)

-- the rows from one to the last, joined, are the bytes from there to the end
pub flat_rest : (bytes : List ℕ) (offset width height y : ℕ) → y < height
    → take ((height - y) * width) (drop (offset + y * width) bytes) ≡ flat_rows (take (height - y) (drop y (rows_of (drop offset bytes) width width height)))
flat_rest bytes offset width height y within =
    let rows = rows_of (drop offset bytes) width width height in
    let all : take (height - y) (drop y rows) ≡ rows_of (drop (offset + y * width) bytes) width width (height - y)
    = take_all (height - y) (drop y rows) (rw (length-drop, length-rows_of) (omega arith)) ∙ drop-rows_of (drop offset bytes) width width height y (omega arith)
    ∙ ap (λ (l : List ℕ). rows_of l width width (height - y)) (drop-drop (y * width) offset bytes) in
    sym (ap flat_rows all ∙ flat-rows_of (drop (offset + y * width) bytes) width (height - y))

-- a plane without its first row is a plane of one row less
rest_plane : (width height : ℕ) (row : List ℕ) (rows : List (List ℕ)) → IsPlane width (suc height) (row ∷ rows) → IsPlane width height rows
rest_plane width height row rows is = record { count = omega (arith, is.count); widths = λ y within. is.widths (suc y) (omega arith) }

-- the bytes of a plane are its width for each row
pub length-flat_rows : (width height : ℕ) (rows : List (List ℕ)) → IsPlane width height rows → length (flat_rows rows) ≡ height * width
length-flat_rows width height [] is = rw (sym is.count) (zero_times width)
length-flat_rows width zero (row ∷ rows) is = absurd (omega (arith, is.count))
length-flat_rows width (suc height) (row ∷ rows) is =
    length-append row (flat_rows rows) ∙ omega (arith, is.widths 0 (omega arith), length-flat_rows width height rows (rest_plane width height row rows is), suc_times width height)

-- a plane, cut from bytes that begin with its own, is the plane
pub rows_of-flat : (width height : ℕ) (rows : List (List ℕ)) (rest : List ℕ) → IsPlane width height rows → rows_of (flat_rows rows ++ rest) width width height ≡ rows
rows_of-flat width zero [] rest is = refl
rows_of-flat width zero (row ∷ rows) rest is = absurd (omega (arith, is.count))
rows_of-flat width (suc height) [] rest is = absurd (omega (arith, is.count))
rows_of-flat width (suc height) (row ∷ rows) rest is =
    let long : length row ≡ width = is.widths 0 (omega arith) in
    rw (append_assoc, take_at row (flat_rows rows ++ rest) width long, drop_at row (flat_rows rows ++ rest) width long)
    (ap (λ l. row ∷ l) (rows_of-flat width height rows rest (rest_plane width height row rows is)))

-- no item of a front is greater than those of all
pub bounded_take : (most width : ℕ) (bytes : List ℕ) → ((k : ℕ) → get_or bytes k 0 ≤ most) → (x : ℕ) → get_or (take width bytes) x 0 ≤ most
bounded_take most zero bytes bounded x = omega arith
bounded_take most (suc width) [] bounded x = omega arith
bounded_take most (suc width) (byte ∷ bytes) bounded zero = bounded 0
bounded_take most (suc width) (byte ∷ bytes) bounded (suc x) = bounded_take most width bytes (λ k. bounded (suc k)) x

-- no item of a row is greater than those of all
pub bounded-rows_of : (most : ℕ) (bytes : List ℕ) (stride width height : ℕ) → ((k : ℕ) → get_or bytes k 0 ≤ most) → (x y : ℕ) → get_or (get_or (rows_of bytes stride width height) y []) x 0 ≤ most
bounded-rows_of most bytes stride width zero bounded x y = omega arith
bounded-rows_of most bytes stride width (suc height) bounded x zero = bounded_take most width bytes bounded x
bounded-rows_of most bytes stride width (suc height) bounded x (suc y) =
    bounded-rows_of most (drop stride bytes) stride width height (λ k. rw get_or-drop (bounded (stride + k))) x y

-- a run of rows of a plane is a plane
pub IsPlane-part : (width height y n : ℕ) (rows : List (List ℕ)) → IsPlane width height rows → y + n ≤ height → IsPlane width n (take n (drop y rows))
IsPlane-part width height y n rows is within = record {
  count = length-take-le n (drop y rows) (rw length-drop (omega (arith, is.count)));
  widths = λ k below. ap length (get_or-take n (drop y rows) k [] below ∙ get_or-drop y rows k []) ∙ is.widths (y + k) (omega arith);
}

-- a row is put as rows are, one of them
pub put_one : (plane : List (List ℕ)) (y : ℕ) (row : List ℕ) → y < length plane → rows_put plane y (row ∷ []) ≡ set plane y row
put_one plane y row within =
    let next : y + 1 ≡ suc y = omega arith in
    ap (λ k. take y plane ++ row ∷ drop k plane) next ∙ sym (set_split plane y row within)

-- some rows from the first on have their width for each row
pub length-front : (width height n : ℕ) (rows : List (List ℕ)) → IsPlane width height rows → n ≤ height → length (flat_rows (take n rows)) ≡ n * width
length-front width height n rows is within = length-flat_rows width n (take n rows) (IsPlane-part width height 0 n rows is (omega arith))

-- the rows of a plane, joined and cut, are the plane
pub rows_of-flat_all : (width height : ℕ) (rows : List (List ℕ)) → IsPlane width height rows → rows_of (flat_rows rows) width width height ≡ rows
rows_of-flat_all width height rows is = ap (λ (l : List ℕ). rows_of l width width height) (sym (append-nil (flat_rows rows))) ∙ rows_of-flat width height rows [] is

-- what a plane is built in shows a plane
pub IsPlane-building : (bytes : List ℕ) (capacity width height value : ℕ) (shared : Option (List (List ℕ))) → IsBuilding bytes capacity width height shared
    → IsPlane width height (unwrap_or shared (rows_of (filled_to (height * width) value bytes) width width height))
IsPlane-building bytes capacity width height value None is =
    IsPlane-rows_of (filled_to (height * width) value bytes) width height (omega (arith, length-filled (height * width) value bytes is.fits))
IsPlane-building bytes capacity width height value (Some rows) is = is.like

-- a plane of another's sizes
pub IsPlane-like : (width height : ℕ) (rows plane : List (List ℕ)) → IsPlane width height rows → IsPlane (width_of rows) (length rows) plane → IsPlane width height plane
IsPlane-like width height rows plane is like = record {
  count = like.count ∙ is.count;
  widths = λ y within. like.widths y (omega (arith, is.count)) ∙ is.widths 0 (omega arith);
}

-- a plane of the sizes that another shows
pub IsPlane-other : (width height : ℕ) (rows plane : List (List ℕ)) → IsPlane width height rows → IsPlane width height plane → IsPlane (width_of rows) (length rows) plane
IsPlane-other width height rows plane is other = record {
  count = other.count ∙ sym is.count;
  widths = λ y within. other.widths y (omega (arith, is.count)) ∙ sym (is.widths 0 (omega (arith, is.count)));
}

-- rows that are put have the width of the first row, or are none
pub rows_of-like : (width height y n : ℕ) (rows : List (List ℕ)) (bytes : List ℕ) → IsPlane width height rows → y + n ≤ length rows
    → rows_of bytes (width_of rows) (width_of rows) n ≡ rows_of bytes width width n
rows_of-like width height y zero rows bytes is within = refl
rows_of-like width height y (suc n) rows bytes is within = ap (λ w. rows_of bytes w w (suc n)) (is.widths 0 (omega (arith, is.count)))

pub times-like : (width height y n : ℕ) (rows : List (List ℕ)) → IsPlane width height rows → y + n ≤ length rows → n * width_of rows ≡ n * width
times-like width height y zero rows is within = omega arith
times-like width height y (suc n) rows is within = ap (λ w. suc n * w) (is.widths 0 (omega (arith, is.count)))

-- one row that is put is the row of its bytes
pub one_put : (old : List (List ℕ)) (y : ℕ) (row : List ℕ) → y < length old → length row ≡ width_of old → bytes_put old y 1 row ≡ set old y row
one_put old y row within wide = ap (λ (r : List ℕ). rows_put old y (r ∷ [])) (take_all (width_of old) row (omega (arith, wide))) ∙ put_one old y row within

-- a plane with a row of its width is a plane
pub IsPlane-set : (width height y : ℕ) (rows : List (List ℕ)) (row : List ℕ) → IsPlane width height rows → length row ≡ width → IsPlane width height (set rows y row)
IsPlane-set width height y rows row is long = record {
  count = length-set rows y row ∙ is.count;
  widths = λ z within. elim (cases_eq z y) [
    | inl same ↦ rw (same, get_or-set_same rows y row [] (omega (arith, is.count))) long
    | inr other ↦ rw (get_or-set_other rows y z row [] other) (is.widths z within)
  ];
}

-- rows of one value are a plane
pub IsPlane-replicate : (width height : ℕ) (row : List ℕ) → length row ≡ width → IsPlane width height (replicate height row)
IsPlane-replicate width height row long = record {
  count = length-replicate height row;
  widths = λ z within. ap length (get_or-replicate height z row [] within) ∙ long;
}
