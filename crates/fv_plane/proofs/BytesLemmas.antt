-- Rows of samples and their bytes.
use Rattle.std.proofs.Common.{◌≡◌, ℕ, zero, suc, ◌+◌, ◌-◌, ◌*◌, ◌/◌, ◌%◌, ◌≤◌, ◌^◌, Bool, true, false, if◌then◌else◌, ◌==◌, List, [], ◌∷◌, ◌++◌, length, get_or, take, drop, map, replicate, refl, sym, ◌∙◌, ap, subst, arith, inl, inr, eqb-true}
use Rattle.std.specs.Prelude.{min}
use Rattle.std.proofs.Math.ListN.{get_or-map}
use Rattle.std.proofs.lemmas.Bool.{cases_lt}
use Rattle.std.proofs.lemmas.List.{length-map, map-append, take-map, drop-map, get_or_past, length-take-le}
use Rattle.fv_plane.specs.declared.format.Shape.{Shape}
use Rattle.fv_plane.specs.Format.{sample_bytes, largest_sample, scale}
use Rattle.fv_rows.specs.Rows.{IsPlane, rows_of, flat_rows, rows_put}
use Rattle.fv_plane.specs.Picture.{wide_bytes, wide_samples, bytes_of_row, row_of_bytes, bytes_of_rows, decoded_rows, in_range, FitsRow, FitBytes, AreWhole}
use Rattle.fv_plane.proofs.PictureLemmas.{Bounded, Each, each-put}
use Rattle.fv_rows.proofs.RowLemmas.{bounded-rows_of, bounded_take, rows_of-take}
use Rattle.fv_plane.proofs.WideLemmas.{samples-bytes, bytes-samples, length-wide_bytes, length-wide_samples, wide_samples-drop, wide_samples-take, wide_bytes-drop, wide_bytes-take, wide_bytes-append, wide_samples-append, wide_samples-zero, wide_small}

-- Each rule below has the case of one byte a sample, `true`, and that of two.

-- the row that is made of its bytes
row_again_by : (b : Bool) (row : List ℕ) → (if b then (if b then row else wide_bytes row) else wide_samples (if b then row else wide_bytes row)) ≡ row
row_again_by true row = refl
row_again_by false row = samples-bytes row

pub row-bytes_of_row : (shape : Shape) (row : List ℕ) → row_of_bytes shape (bytes_of_row shape row) ≡ row
unfolding bytes_of_row row_of_bytes
row-bytes_of_row shape row = row_again_by (shape.bits == 8) row

-- the bytes of a row that was made of bytes
whole_by : (b : Bool) (n : ℕ) (bytes : List ℕ) → length bytes ≡ n * (if b then 1 else 2) → ((k : ℕ) → get_or bytes k 0 ≤ 255) → (if b then (if b then bytes else wide_samples bytes) else wide_bytes (if b then bytes else wide_samples bytes)) ≡ bytes
whole_by true n bytes long few = refl
whole_by false n bytes long few = bytes-samples n bytes long few

pub bytes-row_of_bytes : (shape : Shape) (n : ℕ) (bytes : List ℕ) → length bytes ≡ n * sample_bytes shape → ((k : ℕ) → get_or bytes k 0 ≤ 255) → bytes_of_row shape (row_of_bytes shape bytes) ≡ bytes
unfolding bytes_of_row row_of_bytes
bytes-row_of_bytes shape n bytes long few = whole_by (shape.bits == 8) n bytes long few

long_by : (b : Bool) (row : List ℕ) → length (if b then row else wide_bytes row) ≡ length row * (if b then 1 else 2)
long_by true row = omega arith
long_by false row = length-wide_bytes row

pub length-bytes_of_row : (shape : Shape) (row : List ℕ) → length (bytes_of_row shape row) ≡ length row * sample_bytes shape
unfolding bytes_of_row
length-bytes_of_row shape row = long_by (shape.bits == 8) row

read_by : (b : Bool) (width : ℕ) (bytes : List ℕ) → length bytes ≡ width * (if b then 1 else 2) → length (if b then bytes else wide_samples bytes) ≡ width
read_by true width bytes long = omega arith
read_by false width bytes long = length-wide_samples width bytes long

pub length-row_of_bytes : (shape : Shape) (width : ℕ) (bytes : List ℕ) → length bytes ≡ width * sample_bytes shape → length (row_of_bytes shape bytes) ≡ width
unfolding row_of_bytes
length-row_of_bytes shape width bytes long = read_by (shape.bits == 8) width bytes long

-- the bytes of a row of this width
pub length-stored : (shape : Shape) (width : ℕ) (bytes : List ℕ) → bytes_of_row shape (row_of_bytes shape bytes) ≡ bytes → length (row_of_bytes shape bytes) ≡ width → length bytes ≡ width * sample_bytes shape
length-stored shape width bytes whole long = sym (ap length whole) ∙ length-bytes_of_row shape (row_of_bytes shape bytes) ∙ ap (λ n. n * sample_bytes shape) long

nil_by : (b : Bool) → (if b then [] else wide_samples []) ≡ []
unfolding wide_samples
nil_by true = refl
nil_by false = refl

pub row_of_bytes-nil : (shape : Shape) → row_of_bytes shape [] ≡ []
unfolding row_of_bytes
row_of_bytes-nil shape = nil_by (shape.bits == 8)

no_bytes_by : (b : Bool) → (if b then [] else wide_bytes []) ≡ []
unfolding wide_bytes
no_bytes_by true = refl
no_bytes_by false = refl

pub bytes_of_row-nil : (shape : Shape) → bytes_of_row shape [] ≡ []
unfolding bytes_of_row
bytes_of_row-nil shape = no_bytes_by (shape.bits == 8)

-- a part of the bytes of a row is that part of its samples
read_take_by : (b : Bool) (w : ℕ) (bytes : List ℕ) → (if b then take (w * (if b then 1 else 2)) bytes else wide_samples (take (w * (if b then 1 else 2)) bytes)) ≡ take w (if b then bytes else wide_samples bytes)
read_take_by true w bytes = ap (λ n. take n bytes) (omega arith)
read_take_by false w bytes = wide_samples-take w bytes

pub row_of_bytes-take : (shape : Shape) (w : ℕ) (bytes : List ℕ) → row_of_bytes shape (take (w * sample_bytes shape) bytes) ≡ take w (row_of_bytes shape bytes)
unfolding row_of_bytes
row_of_bytes-take shape w bytes = read_take_by (shape.bits == 8) w bytes

read_drop_by : (b : Bool) (x : ℕ) (bytes : List ℕ) → (if b then drop (x * (if b then 1 else 2)) bytes else wide_samples (drop (x * (if b then 1 else 2)) bytes)) ≡ drop x (if b then bytes else wide_samples bytes)
read_drop_by true x bytes = ap (λ n. drop n bytes) (omega arith)
read_drop_by false x bytes = wide_samples-drop x bytes

pub row_of_bytes-drop : (shape : Shape) (x : ℕ) (bytes : List ℕ) → row_of_bytes shape (drop (x * sample_bytes shape) bytes) ≡ drop x (row_of_bytes shape bytes)
unfolding row_of_bytes
row_of_bytes-drop shape x bytes = read_drop_by (shape.bits == 8) x bytes

write_take_by : (b : Bool) (w : ℕ) (row : List ℕ) → (if b then take w row else wide_bytes (take w row)) ≡ take (w * (if b then 1 else 2)) (if b then row else wide_bytes row)
write_take_by true w row = ap (λ n. take n row) (omega arith)
write_take_by false w row = wide_bytes-take w row

pub bytes_of_row-take : (shape : Shape) (w : ℕ) (row : List ℕ) → bytes_of_row shape (take w row) ≡ take (w * sample_bytes shape) (bytes_of_row shape row)
unfolding bytes_of_row
bytes_of_row-take shape w row = write_take_by (shape.bits == 8) w row

write_drop_by : (b : Bool) (x : ℕ) (row : List ℕ) → (if b then drop x row else wide_bytes (drop x row)) ≡ drop (x * (if b then 1 else 2)) (if b then row else wide_bytes row)
write_drop_by true x row = ap (λ n. drop n row) (omega arith)
write_drop_by false x row = wide_bytes-drop x row

pub bytes_of_row-drop : (shape : Shape) (x : ℕ) (row : List ℕ) → bytes_of_row shape (drop x row) ≡ drop (x * sample_bytes shape) (bytes_of_row shape row)
unfolding bytes_of_row
bytes_of_row-drop shape x row = write_drop_by (shape.bits == 8) x row

write_append_by : (b : Bool) (front rest : List ℕ) → (if b then front ++ rest else wide_bytes (front ++ rest)) ≡ (if b then front else wide_bytes front) ++ (if b then rest else wide_bytes rest)
write_append_by true front rest = refl
write_append_by false front rest = wide_bytes-append front rest

pub bytes_of_row-append : (shape : Shape) (front rest : List ℕ) → bytes_of_row shape (front ++ rest) ≡ bytes_of_row shape front ++ bytes_of_row shape rest
unfolding bytes_of_row
bytes_of_row-append shape front rest = write_append_by (shape.bits == 8) front rest

-- the part of a row that was made of bytes is the part of the bytes
pub whole-part : (shape : Shape) (bytes : List ℕ) (x w : ℕ) → bytes_of_row shape (row_of_bytes shape bytes) ≡ bytes
    → bytes_of_row shape (row_of_bytes shape (take (w * sample_bytes shape) (drop (x * sample_bytes shape) bytes))) ≡ take (w * sample_bytes shape) (drop (x * sample_bytes shape) bytes)
whole-part shape bytes x w whole =
    let row : List ℕ = row_of_bytes shape bytes in
    ap (bytes_of_row shape) (row_of_bytes-take shape w (drop (x * sample_bytes shape) bytes) ∙ ap (λ (l : List ℕ). take w l) (row_of_bytes-drop shape x bytes))
    ∙ bytes_of_row-take shape w (drop x row) ∙ ap (λ (l : List ℕ). take (w * sample_bytes shape) l) (bytes_of_row-drop shape x row)
    ∙ ap (λ (l : List ℕ). take (w * sample_bytes shape) (drop (x * sample_bytes shape) l)) whole

-- equal bytes are equal samples in shapes whose samples have equal bits
pub row_of_bytes-same : (a b : Shape) (bytes : List ℕ) → a.bits ≡ b.bits → row_of_bytes a bytes ≡ row_of_bytes b bytes
unfolding row_of_bytes
row_of_bytes-same a b bytes same = ap (λ n. if n == 8 then bytes else wide_samples bytes) same

pub bytes_of_row-same : (a b : Shape) (row : List ℕ) → a.bits ≡ b.bits → bytes_of_row a row ≡ bytes_of_row b row
unfolding bytes_of_row
bytes_of_row-same a b row same = ap (λ n. if n == 8 then row else wide_bytes row) same

pub decoded-same : (a b : Shape) (rows : List (List ℕ)) → a.bits ≡ b.bits → decoded_rows a rows ≡ decoded_rows b rows
decoded-same a b [] same = refl
decoded-same a b (row ∷ rows) same = ap (λ r. r ∷ decoded_rows a rows) (row_of_bytes-same a b row same) ∙ ap (λ l. row_of_bytes b row ∷ l) (decoded-same a b rows same)

-- the bytes of rows that were made of bytes
pub bytes_of_rows-decoded : (shape : Shape) (rows : List (List ℕ)) → AreWhole shape rows → bytes_of_rows shape (decoded_rows shape rows) ≡ flat_rows rows
bytes_of_rows-decoded shape [] are = refl
bytes_of_rows-decoded shape (row ∷ rows) are =
    ap (λ (l : List ℕ). l ++ bytes_of_rows shape (decoded_rows shape rows)) (are.whole 0) ∙ ap (λ (l : List ℕ). row ++ l) (bytes_of_rows-decoded shape rows (record { whole = λ y. are.whole (suc y) }))

-- the rows that are made of their bytes
pub decoded-encoded : (shape : Shape) (rows : List (List ℕ)) → decoded_rows shape (map (bytes_of_row shape) rows) ≡ rows
decoded-encoded shape [] = refl
decoded-encoded shape (row ∷ rows) = ap (λ r. r ∷ decoded_rows shape (map (bytes_of_row shape) rows)) (row-bytes_of_row shape row) ∙ ap (λ l. row ∷ l) (decoded-encoded shape rows)

-- the bytes of rows, row by row
pub flat-encoded : (shape : Shape) (rows : List (List ℕ)) → flat_rows (map (bytes_of_row shape) rows) ≡ bytes_of_rows shape rows
flat-encoded shape [] = refl
flat-encoded shape (row ∷ rows) = ap (λ (l : List ℕ). bytes_of_row shape row ++ l) (flat-encoded shape rows)

-- the bytes of rows are those of their samples, one row after the other
pub bytes_of_rows-flat : (shape : Shape) (rows : List (List ℕ)) → bytes_of_rows shape rows ≡ bytes_of_row shape (flat_rows rows)
bytes_of_rows-flat shape [] = sym (bytes_of_row-nil shape)
bytes_of_rows-flat shape (row ∷ rows) = ap (λ (l : List ℕ). bytes_of_row shape row ++ l) (bytes_of_rows-flat shape rows) ∙ sym (bytes_of_row-append shape row (flat_rows rows))

pub get_or-decoded : (shape : Shape) (rows : List (List ℕ)) (y : ℕ) → get_or (decoded_rows shape rows) y [] ≡ row_of_bytes shape (get_or rows y [])
get_or-decoded shape rows y =
    ap (λ (d : List ℕ). get_or (decoded_rows shape rows) y d) (sym (row_of_bytes-nil shape)) ∙ get_or-map (row_of_bytes shape) rows y []

get_or-encoded : (shape : Shape) (rows : List (List ℕ)) (y : ℕ) → length (get_or (map (bytes_of_row shape) rows) y []) ≡ length (get_or rows y []) * sample_bytes shape
get_or-encoded shape [] y = omega arith
get_or-encoded shape (row ∷ rows) zero = length-bytes_of_row shape row
get_or-encoded shape (row ∷ rows) (suc y) = get_or-encoded shape rows y

-- the bytes of a plane are a plane of as many bytes a row
pub IsPlane-encoded : (shape : Shape) (width height : ℕ) (rows : List (List ℕ)) → IsPlane width height rows → IsPlane (width * sample_bytes shape) height (map (bytes_of_row shape) rows)
IsPlane-encoded shape width height rows is = record {
  count = length-map rows (bytes_of_row shape) ∙ is.count;
  widths = λ y within. get_or-encoded shape rows y ∙ ap (λ n. n * sample_bytes shape) (is.widths y within);
}

-- a plane of bytes is a plane of samples
pub IsPlane-decoded : (shape : Shape) (width height : ℕ) (rows : List (List ℕ)) → IsPlane (width * sample_bytes shape) height rows → IsPlane width height (decoded_rows shape rows)
IsPlane-decoded shape width height rows is = record {
  count = length-map rows (row_of_bytes shape) ∙ is.count;
  widths = λ y within. ap length (get_or-decoded shape rows y) ∙ length-row_of_bytes shape width (get_or rows y []) (is.widths y within);
}

-- and back
pub IsPlane-stored : (shape : Shape) (width height : ℕ) (rows : List (List ℕ)) → AreWhole shape rows → IsPlane width height (decoded_rows shape rows) → IsPlane (width * sample_bytes shape) height rows
IsPlane-stored shape width height rows are is = record {
  count = sym (length-map rows (row_of_bytes shape)) ∙ is.count;
  widths = λ y within. length-stored shape width (get_or rows y []) (are.whole y) (sym (ap length (get_or-decoded shape rows y)) ∙ is.widths y within);
}

-- FITTING

-- the bytes of a sample
abbrev size_by : Bool → ℕ
size_by b = if b then 1 else 2

-- of bytes that fit the samples do
fits_by : (bits : ℕ) (b : Bool) (bytes : List ℕ) → (bits == 8) ≡ b → ((k : ℕ) → get_or bytes k 0 ≤ 255) → (size_by b ≡ 2 → (x : ℕ) → get_or (if b then bytes else wide_samples bytes) x 0 ≤ 2 ^ bits - 1)
    → (x : ℕ) → get_or (if b then bytes else wide_samples bytes) x 0 ≤ 2 ^ bits - 1
fits_by bits true bytes is few wide x = rw (eqb-true bits 8 is) (few x)
fits_by bits false bytes is few wide x = wide refl x

pub fits-bytes : (shape : Shape) (bytes : List ℕ) → ((k : ℕ) → get_or bytes k 0 ≤ 255) → FitBytes shape bytes → FitsRow shape (row_of_bytes shape bytes)
unfolding row_of_bytes
fits-bytes shape bytes few fit = fits_by shape.bits (shape.bits == 8) bytes refl few fit

-- rows that are cut from bytes are rows of the samples of the bytes
pub decoded-rows_of : (shape : Shape) (bytes : List ℕ) (w n : ℕ) → decoded_rows shape (rows_of bytes (w * sample_bytes shape) (w * sample_bytes shape) n) ≡ rows_of (row_of_bytes shape bytes) w w n
decoded-rows_of shape bytes w zero = refl
decoded-rows_of shape bytes w (suc n) =
    let size : ℕ = w * sample_bytes shape in
    ap (λ r. r ∷ decoded_rows shape (rows_of (drop size bytes) size size n)) (row_of_bytes-take shape w bytes)
    ∙ ap (λ l. take w (row_of_bytes shape bytes) ∷ l) (decoded-rows_of shape (drop size bytes) w n ∙ ap (λ (l : List ℕ). rows_of l w w n) (row_of_bytes-drop shape w bytes))

pub bounded-decoded : (shape : Shape) (bytes : List ℕ) (w n : ℕ) → FitsRow shape (row_of_bytes shape bytes) → Bounded (largest_sample shape) (decoded_rows shape (rows_of bytes (w * sample_bytes shape) (w * sample_bytes shape) n))
bounded-decoded shape bytes w n fits = rw (decoded-rows_of shape bytes w n) (bounded-rows_of (largest_sample shape) (row_of_bytes shape bytes) w w n fits)

-- WHOLE ROWS

times_three : (n w s : ℕ) → n * (w * s) ≡ (n * w) * s
times_three n w s = grind arith

-- no rows are whole
pub whole_none : (shape : Shape) → AreWhole shape []
whole_none shape = record { whole = λ y. ap (bytes_of_row shape) (row_of_bytes-nil shape) ∙ bytes_of_row-nil shape }

-- two whole planes
pub two_whole : (shape : Shape) (u v : List (List ℕ)) → AreWhole shape u → AreWhole shape v → (p : ℕ) → AreWhole shape (get_or (u ∷ v ∷ []) p [])
two_whole shape u v one two zero = one
two_whole shape u v one two (suc zero) = two
two_whole shape u v one two (suc (suc p)) = whole_none shape

-- a whole plane before others
pub whole_first : (shape : Shape) (luma : List (List ℕ)) (uv : List (List (List ℕ))) → AreWhole shape luma → ((p : ℕ) → AreWhole shape (get_or uv p [])) → (p : ℕ) → AreWhole shape (get_or (luma ∷ uv) p [])
whole_first shape luma uv first rest zero = first
whole_first shape luma uv first rest (suc p) = rest p

-- rows that are cut from whole bytes are whole
whole_cut : (shape : Shape) (bytes : List ℕ) (w n : ℕ) → bytes_of_row shape (row_of_bytes shape bytes) ≡ bytes → (y : ℕ)
    → bytes_of_row shape (row_of_bytes shape (get_or (rows_of bytes (w * sample_bytes shape) (w * sample_bytes shape) n) y [])) ≡ get_or (rows_of bytes (w * sample_bytes shape) (w * sample_bytes shape) n) y []
whole_cut shape bytes w zero whole y = (whole_none shape).whole y
whole_cut shape bytes w (suc n) whole zero =
    let none : 0 * sample_bytes shape ≡ 0 = omega arith in
    let part = whole-part shape bytes 0 w whole in
    subst (λ k. bytes_of_row shape (row_of_bytes shape (take (w * sample_bytes shape) (drop k bytes))) ≡ take (w * sample_bytes shape) (drop k bytes)) none part
whole_cut shape bytes w (suc n) whole (suc y) =
    whole_cut shape (drop (w * sample_bytes shape) bytes) w n
    (ap (bytes_of_row shape) (row_of_bytes-drop shape w bytes) ∙ bytes_of_row-drop shape w (row_of_bytes shape bytes) ∙ ap (λ (l : List ℕ). drop (w * sample_bytes shape) l) whole) y

pub whole-rows_of : (shape : Shape) (bytes : List ℕ) (w n : ℕ) → bytes_of_row shape (row_of_bytes shape bytes) ≡ bytes → AreWhole shape (rows_of bytes (w * sample_bytes shape) (w * sample_bytes shape) n)
whole-rows_of shape bytes w n whole = record { whole = whole_cut shape bytes w n whole }

-- rows that are cut from bytes are whole
pub whole_rows : (shape : Shape) (bytes : List ℕ) (w n : ℕ) → n * (w * sample_bytes shape) ≤ length bytes → ((k : ℕ) → get_or bytes k 0 ≤ 255) → AreWhole shape (rows_of bytes (w * sample_bytes shape) (w * sample_bytes shape) n)
whole_rows shape bytes w n long few =
    let size : ℕ = w * sample_bytes shape in
    let front : List ℕ = take (n * size) bytes in
    let samples : length front ≡ (n * w) * sample_bytes shape = length-take-le (n * size) bytes long ∙ times_three n w (sample_bytes shape) in
    let whole : bytes_of_row shape (row_of_bytes shape front) ≡ front = bytes-row_of_bytes shape (n * w) front samples (bounded_take 255 (n * size) bytes few) in
    subst (λ rows. AreWhole shape rows) (rows_of-take bytes size n) (whole-rows_of shape front w n whole)

-- rows that are whole are so in shapes of equal bits
pub whole-same : (a b : Shape) (rows : List (List ℕ)) → a.bits ≡ b.bits → AreWhole a rows → AreWhole b rows
whole-same a b rows same are = record {
  whole = λ y.
      let row : List ℕ = get_or rows y [] in
      ap (bytes_of_row b) (sym (row_of_bytes-same a b row same)) ∙ sym (bytes_of_row-same a b (row_of_bytes a row) same) ∙ are.whole y;
}

each_whole : (shape : Shape) (rows : List (List ℕ)) → Each (λ row. bytes_of_row shape (row_of_bytes shape row) ≡ row) rows → AreWhole shape rows
each_whole shape rows each = record {
  whole = λ y. elim (cases_lt y (length rows)) [
    | inl there ↦ each y there
    | inr past ↦ rw (get_or_past rows y [] past) ((whole_none shape).whole 0)
  ];
}

-- whole rows in the place of others
pub whole-put : (shape : Shape) (plane rows : List (List ℕ)) (y : ℕ) → AreWhole shape plane → AreWhole shape rows → AreWhole shape (rows_put plane y rows)
whole-put shape plane rows y are new =
    each_whole shape (rows_put plane y rows) (each-put (λ row. bytes_of_row shape (row_of_bytes shape row) ≡ row) plane rows y (λ k there. are.whole k) (λ k there. new.whole k))

-- the same row again and again
whole_again : (shape : Shape) (n : ℕ) (row : List ℕ) → bytes_of_row shape (row_of_bytes shape row) ≡ row → (y : ℕ) → bytes_of_row shape (row_of_bytes shape (get_or (replicate n row) y [])) ≡ get_or (replicate n row) y []
whole_again shape zero row whole y = (whole_none shape).whole y
whole_again shape (suc n) row whole zero = whole
whole_again shape (suc n) row whole (suc y) = whole_again shape n row whole y

pub whole-replicate : (shape : Shape) (n : ℕ) (row : List ℕ) → bytes_of_row shape (row_of_bytes shape row) ≡ row → AreWhole shape (replicate n row)
whole-replicate shape n row whole = record { whole = whole_again shape n row whole }

-- rows that are put are decoded in their places
pub decoded-rows_put : (shape : Shape) (plane : List (List ℕ)) (y : ℕ) (rows : List (List ℕ)) → decoded_rows shape (rows_put plane y rows) ≡ rows_put (decoded_rows shape plane) y (decoded_rows shape rows)
decoded-rows_put shape plane y rows =
    let f = row_of_bytes shape in
    map-append f (take y plane) (rows ++ drop (y + length rows) plane)
    ∙ ap (λ l. map f (take y plane) ++ l) (map-append f rows (drop (y + length rows) plane))
    ∙ ap (λ l. l ++ (map f rows ++ map f (drop (y + length rows) plane))) (sym (take-map f y plane))
    ∙ ap (λ l. take y (map f plane) ++ (map f rows ++ l)) (sym (drop-map f (y + length rows) plane))
    ∙ ap (λ n. take y (map f plane) ++ (map f rows ++ drop (y + n) (map f plane))) (sym (length-map rows f))

-- IN RANGE

in_range_whole_by : (b : Bool) (f : ℕ → ℕ) (bytes : List ℕ)
    → (if b then (if b then (if b then bytes else wide_bytes (map f (wide_samples bytes))) else wide_samples (if b then bytes else wide_bytes (map f (wide_samples bytes)))) else wide_bytes (if b then (if b then bytes else wide_bytes (map f (wide_samples bytes))) else wide_samples (if b then bytes else wide_bytes (map f (wide_samples bytes)))))
    ≡ (if b then bytes else wide_bytes (map f (wide_samples bytes)))
in_range_whole_by true f bytes = refl
in_range_whole_by false f bytes = ap wide_bytes (samples-bytes (map f (wide_samples bytes)))

-- bytes in range are those of their samples
pub in_range-whole : (shape : Shape) (bytes : List ℕ) → bytes_of_row shape (row_of_bytes shape (in_range shape bytes)) ≡ in_range shape bytes
unfolding in_range bytes_of_row row_of_bytes
in_range-whole shape bytes = in_range_whole_by (shape.bits == 8) (λ s. min s (largest_sample shape)) bytes

min_map : (most : ℕ) (row : List ℕ) (x : ℕ) → get_or (map (λ s. min s most) row) x 0 ≤ most
min_map most [] x = omega arith
min_map most (s ∷ row) zero = omega arith
min_map most (s ∷ row) (suc x) = min_map most row x

-- and these fit
fits_range_by : (bits : ℕ) (b : Bool) (bytes : List ℕ) → (bits == 8) ≡ b → ((k : ℕ) → get_or bytes k 0 ≤ 255)
    → (x : ℕ) → get_or (if b then (if b then bytes else wide_bytes (map (λ s. min s (2 ^ bits - 1)) (wide_samples bytes))) else wide_samples (if b then bytes else wide_bytes (map (λ s. min s (2 ^ bits - 1)) (wide_samples bytes)))) x 0 ≤ 2 ^ bits - 1
fits_range_by bits true bytes is few x = rw (eqb-true bits 8 is) (few x)
fits_range_by bits false bytes is few x = rw (samples-bytes (map (λ s. min s (2 ^ bits - 1)) (wide_samples bytes))) (min_map (2 ^ bits - 1) (wide_samples bytes) x)

pub in_range-fits : (shape : Shape) (bytes : List ℕ) → ((k : ℕ) → get_or bytes k 0 ≤ 255) → FitsRow shape (row_of_bytes shape (in_range shape bytes))
unfolding in_range row_of_bytes
in_range-fits shape bytes few = fits_range_by shape.bits (shape.bits == 8) bytes refl few

-- the first samples in range
range_take_by : (b : Bool) (f : ℕ → ℕ) (n : ℕ) (bytes : List ℕ)
    → take (n * (if b then 1 else 2)) (if b then bytes else wide_bytes (map f (wide_samples bytes))) ≡ (if b then take (n * (if b then 1 else 2)) bytes else wide_bytes (map f (wide_samples (take (n * (if b then 1 else 2)) bytes))))
range_take_by true f n bytes = refl
range_take_by false f n bytes =
    sym (wide_bytes-take n (map f (wide_samples bytes))) ∙ ap wide_bytes (take-map f n (wide_samples bytes) ∙ ap (map f) (sym (wide_samples-take n bytes)))

pub in_range-take : (shape : Shape) (n : ℕ) (bytes : List ℕ) → take (n * sample_bytes shape) (in_range shape bytes) ≡ in_range shape (take (n * sample_bytes shape) bytes)
unfolding in_range
in_range-take shape n bytes = range_take_by (shape.bits == 8) (λ s. min s (largest_sample shape)) n bytes

long_range_by : (b : Bool) (f : ℕ → ℕ) (n : ℕ) (bytes : List ℕ) → length bytes ≡ n * (if b then 1 else 2) → length (if b then bytes else wide_bytes (map f (wide_samples bytes))) ≡ length bytes
long_range_by true f n bytes long = refl
long_range_by false f n bytes long = length-wide_bytes (map f (wide_samples bytes)) ∙ ap (λ k. k * 2) (length-map (wide_samples bytes) f ∙ length-wide_samples n bytes long) ∙ sym long

pub length-in_range : (shape : Shape) (n : ℕ) (bytes : List ℕ) → length bytes ≡ n * sample_bytes shape → length (in_range shape bytes) ≡ length bytes
unfolding in_range
length-in_range shape n bytes long = long_range_by (shape.bits == 8) (λ s. min s (largest_sample shape)) n bytes long

-- whole samples in range and others after them
range_append_by : (b : Bool) (f : ℕ → ℕ) (n : ℕ) (front rest : List ℕ) → length front ≡ n * (if b then 1 else 2)
    → (if b then front ++ rest else wide_bytes (map f (wide_samples (front ++ rest)))) ≡ (if b then front else wide_bytes (map f (wide_samples front))) ++ (if b then rest else wide_bytes (map f (wide_samples rest)))
range_append_by true f n front rest long = refl
range_append_by false f n front rest long =
    ap (λ (l : List ℕ). wide_bytes (map f l)) (wide_samples-append n front rest long) ∙ ap wide_bytes (map-append f (wide_samples front) (wide_samples rest))
    ∙ wide_bytes-append (map f (wide_samples front)) (map f (wide_samples rest))

pub in_range-append : (shape : Shape) (n : ℕ) (front rest : List ℕ) → length front ≡ n * sample_bytes shape → in_range shape (front ++ rest) ≡ in_range shape front ++ in_range shape rest
unfolding in_range
in_range-append shape n front rest long = range_append_by (shape.bits == 8) (λ s. min s (largest_sample shape)) n front rest long

-- no item is changed where each is small
min_all : (most : ℕ) (row : List ℕ) → ((x : ℕ) → get_or row x 0 ≤ most) → map (λ s. min s most) row ≡ row
min_all most [] fits = refl
min_all most (s ∷ row) fits =
    let first : s ≤ most = fits 0 in
    let same : min s most ≡ s = omega arith in
    ap (λ n. n ∷ map (λ s. min s most) row) same ∙ ap (λ l. s ∷ l) (min_all most row (λ x. fits (suc x)))

-- bytes of samples that are all small stay as they are
pub small_same : (most : ℕ) (bytes : List ℕ) → length bytes % 2 ≡ 0 → ((k : ℕ) → get_or bytes k 0 ≤ 255) → ((x : ℕ) → get_or (wide_samples bytes) x 0 ≤ most)
    → bytes ≡ wide_bytes (map (λ s. min s most) (wide_samples bytes))
small_same most bytes even few fits = sym (ap wide_bytes (min_all most (wide_samples bytes) fits) ∙ bytes-samples (length bytes / 2) bytes (omega arith) few)

range_again_by : (b : Bool) (most : ℕ) (row : List ℕ) → ((x : ℕ) → get_or row x 0 ≤ most)
    → (if b then (if b then row else wide_bytes row) else wide_bytes (map (λ s. min s most) (wide_samples (if b then row else wide_bytes row)))) ≡ (if b then row else wide_bytes row)
range_again_by true most row fits = refl
range_again_by false most row fits = ap (λ (l : List ℕ). wide_bytes (map (λ s. min s most) l)) (samples-bytes row) ∙ ap wide_bytes (min_all most row fits)

-- the bytes of samples that fit are in range
pub in_range-row : (shape : Shape) (row : List ℕ) → FitsRow shape row → in_range shape (bytes_of_row shape row) ≡ bytes_of_row shape row
unfolding in_range bytes_of_row
in_range-row shape row fits = range_again_by (shape.bits == 8) (largest_sample shape) row fits

-- samples of sixteen bits are all in range
sixteen_by : (bits : ℕ) (b : Bool) (n : ℕ) (bytes : List ℕ) → (bits == 8) ≡ b → bits ≡ 16 → length bytes ≡ n * (if b then 1 else 2) → ((k : ℕ) → get_or bytes k 0 ≤ 255)
    → (if b then bytes else wide_bytes (map (λ s. min s (2 ^ bits - 1)) (wide_samples bytes))) ≡ bytes
sixteen_by bits true n bytes is sixteen long few = refl
sixteen_by bits false n bytes is sixteen long few =
    rw sixteen (ap wide_bytes (min_all 65535 (wide_samples bytes) (wide_small bytes few)) ∙ bytes-samples n bytes long few)

pub in_range-sixteen : (shape : Shape) (n : ℕ) (bytes : List ℕ) → shape.bits ≡ 16 → length bytes ≡ n * sample_bytes shape → ((k : ℕ) → get_or bytes k 0 ≤ 255) → in_range shape bytes ≡ bytes
unfolding in_range
in_range-sixteen shape n bytes sixteen long few = sixteen_by shape.bits (shape.bits == 8) n bytes refl sixteen long few

parts_by : (b : Bool) (n : ℕ) → n % (if b then 1 else 2) ≡ 0 → n ≡ n / (if b then 1 else 2) * (if b then 1 else 2)
parts_by true n whole = omega arith
parts_by false n whole = omega arith

-- the bytes of whole samples are so many times a sample's
pub whole_samples : (shape : Shape) (bytes : List ℕ) → length bytes % sample_bytes shape ≡ 0 → length bytes ≡ length bytes / sample_bytes shape * sample_bytes shape
whole_samples shape bytes whole = parts_by (shape.bits == 8) (length bytes) whole

wide_range_by : (bits : ℕ) (b : Bool) (bytes : List ℕ) → b ≡ false → (if b then bytes else wide_bytes (map (λ s. min s (2 ^ bits - 1)) (wide_samples bytes))) ≡ wide_bytes (map (λ s. min s (2 ^ bits - 1)) (wide_samples bytes))
wide_range_by bits true bytes wide = cc
wide_range_by bits false bytes wide = refl

pub in_range-wide : (shape : Shape) (bytes : List ℕ) → (shape.bits == 8) ≡ false → in_range shape bytes ≡ wide_bytes (map (λ s. min s (largest_sample shape)) (wide_samples bytes))
unfolding in_range
in_range-wide shape bytes wide = wide_range_by shape.bits (shape.bits == 8) bytes wide

-- BLANK

-- bytes of one value are samples of it, where a sample is a byte or the value is 0
plain_by : (bits : ℕ) (b : Bool) (width value : ℕ) → (bits == 8) ≡ b → (b ≡ false → value ≡ 0)
    → (if b then replicate (width * (if b then 1 else 2)) value else wide_samples (replicate (width * (if b then 1 else 2)) value)) ≡ replicate width (value * 2 ^ (bits - 8))
plain_by bits true width value is none =
    let long : width * 1 ≡ width = omega arith in
    let eight : bits ≡ 8 = eqb-true bits 8 is in
    let same : value ≡ value * 1 = omega arith in
    rw (eight, long) (ap (λ v. replicate width v) same)
plain_by bits false width value is none =
    let zero_is : value ≡ 0 = none refl in
    let product : 0 ≡ 0 * 2 ^ (bits - 8) = omega arith in
    rw zero_is (wide_samples-zero width ∙ ap (λ v. replicate width v) product)

pub plain_row-bytes : (shape : Shape) (width value : ℕ) → ((shape.bits == 8) ≡ false → value ≡ 0) → row_of_bytes shape (replicate (width * sample_bytes shape) value) ≡ replicate width (value * scale shape)
unfolding row_of_bytes
plain_row-bytes shape width value none = plain_by shape.bits (shape.bits == 8) width value refl none

pub decoded-replicate : (shape : Shape) (n : ℕ) (bytes row : List ℕ) → row_of_bytes shape bytes ≡ row → decoded_rows shape (replicate n bytes) ≡ replicate n row
decoded-replicate shape zero bytes row is = refl
decoded-replicate shape (suc n) bytes row is = ap (λ r. r ∷ decoded_rows shape (replicate n bytes)) is ∙ ap (λ l. row ∷ l) (decoded-replicate shape n bytes row is)
