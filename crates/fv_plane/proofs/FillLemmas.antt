-- A picture that is written from the top down, plane by plane: what its rows are at last.
use Rattle.std.proofs.Common.{◌≡◌, ℕ, ◌+◌, ◌<◌, ◌≤◌, List, [], length, get_or, set, refl, ap, ◌∙◌, arith, inl, inr}
use Rattle.std.proofs.lemmas.List.{get_or-set_same, get_or-set_other}
use Rattle.std.proofs.lemmas.List.FromFn.{fill_by_all}
use Rattle.std.proofs.lemmas.Bool.{cases_eq}
use Rattle.std.specs.Prelude.{◌≢◌}
use Rattle.fv_plane.specs.declared.format.Shape.{Shape}
use Rattle.fv_plane.specs.Format.{planes, plane_width, plane_height}
use Rattle.fv_plane.specs.Picture.{Picture, IsPicture, row_of, with_row, Look, row_from, plane_from, picture_from}

-- the planes before this one, and the rows above row y, are those that are wanted
pub record Filled (want : ℕ → ℕ → List ℕ) (shape : Shape) (made : Picture) (plane y : ℕ) : Type 0 where
  pub same : made.shape ≡ shape
  pub sizes : IsPicture made
  pub below : (p z : ℕ) → p < plane → z < plane_height shape p → row_of made.planes p z ≡ want p z
  pub here : (z : ℕ) → z < y → row_of made.planes plane z ≡ want plane z

-- nothing is written yet
pub filled_start : (want : ℕ → ℕ → List ℕ) (made : Picture) → IsPicture made → Filled want made.shape made 0 0
filled_start want made sizes = record { same = refl; sizes = sizes; below = λ p z before there. absurd (omega arith); here = λ z before. absurd (omega arith) }

-- the whole plane is written, and the next one begins
pub filled_plane : (want : ℕ → ℕ → List ℕ) (shape : Shape) (made : Picture) (plane y : ℕ) → plane_height shape plane ≤ y → Filled want shape made plane y → Filled want shape made (plane + 1) 0
filled_plane want shape made plane y whole filled = record {
  same = filled.same;
  sizes = filled.sizes;
  below = λ p z before there. elim (cases_eq p plane) [
    | inl is ↦ rw is (filled.here z (let within = rw is at there in omega arith))
    | inr other ↦ filled.below p z (omega (arith, other)) there
  ];
  here = λ z before. absurd (omega arith);
}

module _ (all : List (List (List ℕ))) (p y : ℕ) (row : List ℕ) where
  -- a row that is put is there
  row_put : p < length all → y < length (get_or all p []) → row_of (with_row all p y row) p y ≡ row
  row_put plane inside = rw (get_or-set_same all p (set (get_or all p []) y row) [] plane) (get_or-set_same (get_or all p []) y row [] inside)

  -- the other rows of the plane stay
  row_beside : (z : ℕ) → p < length all → z ≢ y → row_of (with_row all p y row) p z ≡ row_of all p z
  row_beside z plane other = rw (get_or-set_same all p (set (get_or all p []) y row) [] plane) (get_or-set_other (get_or all p []) y z row [] other)

  -- and so do the other planes
  row_elsewhere : (q z : ℕ) → q ≢ p → row_of (with_row all p y row) q z ≡ row_of all q z
  row_elsewhere q z other = rw (get_or-set_other all p q (set (get_or all p []) y row) [] other) refl

-- the next row is put
pub filled_put : (want : ℕ → ℕ → List ℕ) (shape : Shape) (made new : Picture) (plane y : ℕ) (row : List ℕ) → Filled want shape made plane y → IsPicture new → new.shape ≡ made.shape
    → new.planes ≡ with_row made.planes plane y row → row ≡ want plane y → plane < planes shape.kind → y < plane_height shape plane → Filled want shape new plane (y + 1)
filled_put want shape made new plane y row filled sizes same put wanted there inside =
    let many : plane < length made.planes = omega (arith, filled.sizes.count, ap (λ (s : Shape). planes s.kind) filled.same) in
    let high : y < length (get_or made.planes plane []) = omega (arith, (filled.sizes.sizes plane many).count, ap (λ (s : Shape). plane_height s plane) filled.same) in
    record {
      same = same ∙ filled.same;
      sizes = sizes;
      below = λ p z before within. rw put (row_elsewhere made.planes plane y row p z (omega arith) ∙ filled.below p z before within);
      here = λ z before. elim (cases_eq z y) [
        | inl is ↦ rw (is, put) (row_put made.planes plane y row many high ∙ wanted)
        | inr other ↦ rw put (row_beside made.planes plane y row z many other ∙ filled.here z (omega (arith, other)))
      ];
    }

-- a row whose samples are these is the row that is listed
pub row_listed : (row : List ℕ) (at : Look) (p width z : ℕ) → length row ≡ width → ((x : ℕ) → x < width → get_or row x 0 ≡ at p x z) → row ≡ row_from at p width z
row_listed row at p width z long each = fill_by_all (λ x. at p x z) row width 0 long each

-- the rows that are wanted are those that are listed
abbrev pub Lists : (ℕ → ℕ → List ℕ) → Shape → Look → Type 0
Lists want shape at = (p z : ℕ) → p < planes shape.kind → z < plane_height shape p → want p z ≡ row_from at p (plane_width shape p) z

-- a picture all of whose rows are listed is the picture that is listed
filled_all : (want : ℕ → ℕ → List ℕ) (made : Picture) (at : Look) (y : ℕ) → Filled want made.shape made (planes made.shape.kind) y → Lists want made.shape at → made ≡ picture_from made.shape at
unfolding picture_from
filled_all want made at y filled wanted =
    ap (λ ps. record { shape = made.shape; planes = ps })
    (fill_by_all (λ p. plane_from at p (plane_width made.shape p) (plane_height made.shape p)) made.planes (planes made.shape.kind) [] filled.sizes.count
    (λ p there. fill_by_all (λ z. row_from at p (plane_width made.shape p) z) (get_or made.planes p []) (plane_height made.shape p) [] (filled.sizes.sizes p (omega (arith, filled.sizes.count))).count
    (λ z within. filled.below p z there within ∙ wanted p z there within)))

-- the end: the picture of this shape that is listed
pub filled_done : (want : ℕ → ℕ → List ℕ) (shape : Shape) (made : Picture) (at : Look) (plane y : ℕ) → Filled want shape made plane y → planes shape.kind ≤ plane → plane ≤ planes shape.kind → Lists want shape at
    → made ≡ picture_from shape at
filled_done want shape made at plane y filled least most wanted =
    let end : plane ≡ planes shape.kind = omega arith in
    let here = rw (end, ← filled.same) at filled in
    let rows = rw (← filled.same) at wanted in
    rw (← filled.same) (filled_all want made at y here rows)
