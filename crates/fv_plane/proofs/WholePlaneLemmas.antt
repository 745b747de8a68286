-- A picture that is written from the top down, in planes and in rows that lie side by side.
use Rattle.std.proofs.Common.{◌≡◌, ℕ, ◌+◌, ◌-◌, ◌*◌, ◌<◌, ◌≤◌, List, [], ◌++◌, length, get_or, set, take, drop, map, ap, ◌∙◌, sym, arith, inl, inr, ne_of_lt, if◌then◌else◌, ◌==◌, length-take-le, get_or-take}
use Rattle.std.proofs.lemmas.List.{get_or-set_same, get_or-set_other, get_or_append_left, get_or-append_right}
use Rattle.std.proofs.lemmas.Bool.{cases_eq, cases_lt}
use Rattle.fv_plane.specs.declared.format.Shape.{Shape}
use Rattle.fv_plane.specs.Format.{planes, plane_width, plane_height, row_bytes, sample_bytes}
use Rattle.fv_plane.specs.Picture.{Picture, IsPicture, row_of, with_rows, Look, look_in, row_from, bytes_of_row, bytes_of_rows, rows_of_bytes, decoded_rows}
use Rattle.fv_rows.specs.Rows.{IsPlane, rows_of, rows_put, flat_rows}
use Rattle.fv_plane.proofs.FillLemmas.{Filled, row_listed}
use Rattle.fv_plane.proofs.CallerLemmas.{length-row}
use Rattle.fv_rows.proofs.RowLemmas.{IsPlane-part, length-flat_rows, rows_of-flat_all}
use Rattle.fv_plane.proofs.BytesLemmas.{IsPlane-encoded, flat-encoded, decoded-same, decoded-encoded}

-- a whole plane is put, and the next one begins
pub filled_whole : (want : ℕ → ℕ → List ℕ) (shape : Shape) (made new : Picture) (plane : ℕ) (rows : List (List ℕ)) → Filled want shape made plane 0 → IsPicture new → new.shape ≡ made.shape
    → new.planes ≡ set made.planes plane rows → ((z : ℕ) → z < plane_height shape plane → get_or rows z [] ≡ want plane z) → plane < planes shape.kind → Filled want shape new (plane + 1) 0
filled_whole want shape made new plane rows filled sizes same put wanted there =
    let many : plane < length made.planes = omega (arith, filled.sizes.count, ap (λ (s : Shape). planes s.kind) filled.same) in
    record {
      same = same ∙ filled.same;
      sizes = sizes;
      below = λ p z before within. rw put (elim (cases_eq p plane) [
        | inl is ↦ rw is (ap (λ (l : List (List ℕ)). get_or l z []) (get_or-set_same made.planes plane rows [] many) ∙ wanted z (rw is at within))
        | inr other ↦ ap (λ (l : List (List ℕ)). get_or l z []) (get_or-set_other made.planes plane p rows [] other) ∙ filled.below p z (omega (arith, other)) within
      ]);
      here = λ z before. absurd (omega arith);
    }

-- a row of a plane of a picture is listed by what stands in it
pub row_seen : (picture : Picture) (q : ℕ) (at : Look) (p width z : ℕ) → IsPicture picture → q < planes picture.shape.kind → z < plane_height picture.shape q → plane_width picture.shape q ≡ width
    → ((x : ℕ) → look_in picture q x z ≡ at p x z) → row_of picture.planes q z ≡ row_from at p width z
row_seen picture q at p width z is there inside same each = row_listed (row_of picture.planes q z) at p width z (length-row picture q z is there inside ∙ same) (λ x within. each x)

-- rows that are put are there
rows_there : (plane rows : List (List ℕ)) (y z : ℕ) → y ≤ length plane → y ≤ z → z < y + length rows → get_or (rows_put plane y rows) z [] ≡ get_or rows (z - y) []
rows_there plane rows y z fits past within =
    get_or-append_right (take y plane) (rows ++ drop (y + length rows) plane) y z [] (length-take-le y plane fits) past
    ∙ get_or_append_left rows (drop (y + length rows) plane) [] (z - y) (omega arith)

-- and the rows above them stay
rows_above : (plane rows : List (List ℕ)) (y z : ℕ) → y ≤ length plane → z < y → get_or (rows_put plane y rows) z [] ≡ get_or plane z []
rows_above plane rows y z fits above =
    get_or_append_left (take y plane) (rows ++ drop (y + length rows) plane) [] z (let long = length-take-le y plane fits in omega arith) ∙ get_or-take y plane z [] above

-- rows that lie side by side are put
pub filled_rows : (want : ℕ → ℕ → List ℕ) (shape : Shape) (made new : Picture) (plane y n : ℕ) (rows : List (List ℕ)) → Filled want shape made plane y → IsPicture new → new.shape ≡ made.shape
    → new.planes ≡ with_rows made.planes plane y rows → length rows ≡ n → ((z : ℕ) → z < n → get_or rows z [] ≡ want plane (y + z)) → plane < planes shape.kind → y + n ≤ plane_height shape plane
    → Filled want shape new plane (y + n)
filled_rows want shape made new plane y n rows filled sizes same put long wanted there inside =
    let old : List (List ℕ) = get_or made.planes plane [] in
    let many : plane < length made.planes = omega (arith, filled.sizes.count, ap (λ (s : Shape). planes s.kind) filled.same) in
    let high : y ≤ length old = omega (arith, (filled.sizes.sizes plane many).count, ap (λ (s : Shape). plane_height s plane) filled.same) in
    record {
      same = same ∙ filled.same;
      sizes = sizes;
      below = λ p z before within.
          rw put (ap (λ (l : List (List ℕ)). get_or l z []) (get_or-set_other made.planes plane p (rows_put old y rows) [] (ne_of_lt before)) ∙ filled.below p z before within);
      here = λ z before.
          rw put (ap (λ (l : List (List ℕ)). get_or l z []) (get_or-set_same made.planes plane (rows_put old y rows) [] many)
          ∙ elim (cases_lt z y) [
            | inl above ↦ rows_above old rows y z high above ∙ filled.here z above
            | inr past ↦ rows_there old rows y z high past (omega arith) ∙ wanted (z - y) (omega arith) ∙ ap (want plane) (let whole : y + (z - y) ≡ z = omega arith in whole)
          ]);
    }

-- rows of a picture that lie side by side, as the bytes of a plane of this width
pub record RowBytes (shape : Shape) (plane n : ℕ) (rows : List (List ℕ)) (bytes : List ℕ) : Type 0 where
  pub long : length bytes ≡ n * row_bytes shape plane
  pub count : length rows ≡ n
  pub same : rows_of_bytes shape plane n bytes ≡ rows

pub row_bytes_are : (picture : Picture) (shape : Shape) (plane y n : ℕ) (bytes : List ℕ) → IsPicture picture → plane < planes picture.shape.kind → y + n ≤ plane_height picture.shape plane
    → plane_width picture.shape plane ≡ plane_width shape plane → picture.shape.bits ≡ shape.bits → bytes ≡ bytes_of_rows picture.shape (take n (drop y (get_or picture.planes plane [])))
    → RowBytes shape plane n (take n (drop y (get_or picture.planes plane []))) bytes
row_bytes_are picture shape plane y n bytes is there inside width bits told =
    let s = picture.shape in
    let rows : List (List ℕ) = take n (drop y (get_or picture.planes plane [])) in
    let part : IsPlane (plane_width s plane) n rows
    = IsPlane-part (plane_width s plane) (plane_height s plane) y n (get_or picture.planes plane []) (is.sizes plane (let count = is.count in omega arith)) inside in
    let stored : List (List ℕ) = map (bytes_of_row s) rows in
    let encoded : IsPlane (row_bytes s plane) n stored = IsPlane-encoded s (plane_width s plane) n rows part in
    let flat : bytes ≡ flat_rows stored = told ∙ sym (flat-encoded s rows) in
    let wide : row_bytes shape plane ≡ row_bytes s plane = sym (ap (λ w. w * sample_bytes s) width ∙ ap (λ k. plane_width shape plane * (if k == 8 then 1 else 2)) bits) in
    record {
      long = ap length flat ∙ length-flat_rows (row_bytes s plane) n stored encoded ∙ ap (λ w. n * w) (sym wide);
      count = part.count;
      same =
          ap (λ w. decoded_rows shape (rows_of bytes w w n)) wide ∙ ap (λ l. decoded_rows shape (rows_of l (row_bytes s plane) (row_bytes s plane) n)) flat
          ∙ ap (decoded_rows shape) (rows_of-flat_all (row_bytes s plane) n stored encoded) ∙ decoded-same shape s stored (sym bits) ∙ decoded-encoded s rows;
    }

-- the rows that are listed
abbrev pub rows_listed : Shape → Look → ℕ → ℕ → List ℕ
rows_listed shape at p z = row_from at p (plane_width shape p) z
