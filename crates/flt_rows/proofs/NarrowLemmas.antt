-- Squares of nine weights.
use Rattle.std.proofs.Common.{◌≡◌, ◌∙◌, ℕ, ◌+◌, ◌*◌, ◌<◌, ◌≤◌, List, [], ◌∷◌, length, get_or, drop, Bool, true, false, ap, arith, refl}
use Rattle.std.specs.Prelude.{ℤ, pos, unsigned_abs, ◌+ℤ◌, ◌*ℤ◌, int_lt, ◌||◌, if◌then◌else◌}
use Rattle.std.proofs.lemmas.Int.{ints}
use Rattle.std.proofs.lemmas.List.{drop_more}
use Rattle.std.proofs.lemmas.List.Sums.{sum_by-cons}
use Rattle.fv_plane.specs.declared.format.Shape.{Shape}
use Rattle.fv_plane.specs.Format.{plane_width, plane_height}
use Rattle.fv_plane.specs.Picture.{Look}
use Rattle.clip_term.specs.Soft.{place, total, divisor_of, weighed}
use Rattle.flt_rows.specs.declared.narrow.Square.{Square}
use Rattle.flt_rows.specs.declared.narrow.Weights.{Weights}
use Rattle.flt_rows.specs.Squares.{size_of, size_of_all, size_of_square, entries_of, weighed_at, weighed_square, weighed_around}

-- the places beside x, as they are brought into the row
pub around_at : (square : Square) (show : ℤ → ℕ) (above row below : List ℕ) (x left middle right v : ℕ)
    → left ≡ place x 0 1 (length row) → middle ≡ place x 1 1 (length row) → right ≡ place x 2 1 (length row)
    → v ≡ show (weighed_square square above row below left middle right) → v ≡ show (weighed_around square above row below x)
around_at square show above row below x left middle right v first second third is =
    is ∙ ap (λ k. show (weighed_square square above row below k middle right)) first
    ∙ ap (λ k. show (weighed_square square above row below (place x 0 1 (length row)) k right)) second
    ∙ ap (λ k. show (weighed_square square above row below (place x 0 1 (length row)) (place x 1 1 (length row)) k)) third

-- SIZES

-- the sizes of weights times a sample
pub size_times : (weights : Weights) (most : ℕ) → size_of weights * most ≡ unsigned_abs weights.left * most + unsigned_abs weights.middle * most + unsigned_abs weights.right * most
size_times weights most = omega arith

-- one more weight
pub size_more : (weights : List ℤ) (i : ℕ) (d : ℤ) → i < length weights → size_of_all (drop i weights) ≡ unsigned_abs (get_or weights i d) + size_of_all (drop (i + 1) weights)
size_more weights i d h = ap size_of_all (drop_more weights i d h) ∙ sum_by-cons unsigned_abs (get_or weights i d) (drop (i + 1) weights)

-- a square is as large as its weights together
pub square_size : (square : Square) (weights : List ℤ) → entries_of square ≡ weights → size_of_square square ≡ size_of_all weights
square_size square weights is = omega (arith, ap size_of_all is)

size_of_sum : (a b : ℤ) → unsigned_abs (a +ℤ b) ≤ unsigned_abs a + unsigned_abs b
size_of_sum a b = omega (arith, ints)

total_size : (weights : List ℤ) → unsigned_abs (total weights) ≤ size_of_all weights
total_size [] = omega arith
total_size (weight ∷ weights) =
    omega (arith, size_of_sum weight (total weights), total_size weights, sum_by-cons unsigned_abs weight weights)

least_one : (test : Bool) (z : ℤ) (most : ℕ) → unsigned_abs z ≤ most → 1 ≤ most → unsigned_abs (if test then z else pos 1) ≤ most
least_one true z most few some = few
least_one false z most few some = some

-- the divisor of weights is no larger than these together
pub divisor_size : (weights : List ℤ) (most : ℕ) → size_of_all weights ≤ most → 1 ≤ most → unsigned_abs (divisor_of weights) ≤ most
divisor_size weights most light some =
    let sum = total weights in
    least_one (int_lt sum (pos 0) || int_lt (pos 0) sum) sum most (omega (arith, total_size weights, light)) some

-- SUMS

pub nine_are : (weights : List ℤ) → length weights ≡ 9
    → get_or weights 0 (pos 0) ∷ get_or weights 1 (pos 0) ∷ get_or weights 2 (pos 0) ∷ get_or weights 3 (pos 0) ∷ get_or weights 4 (pos 0)
    ∷ get_or weights 5 (pos 0) ∷ get_or weights 6 (pos 0) ∷ get_or weights 7 (pos 0) ∷ get_or weights 8 (pos 0) ∷ [] ≡ weights
nine_are (a ∷ b ∷ c ∷ d ∷ e ∷ f ∷ g ∷ h ∷ i ∷ []) nine = refl
nine_are [] nine = absurd (omega arith)
nine_are (a ∷ []) nine = absurd (omega arith)
nine_are (a ∷ b ∷ []) nine = absurd (omega arith)
nine_are (a ∷ b ∷ c ∷ []) nine = absurd (omega arith)
nine_are (a ∷ b ∷ c ∷ d ∷ []) nine = absurd (omega arith)
nine_are (a ∷ b ∷ c ∷ d ∷ e ∷ []) nine = absurd (omega arith)
nine_are (a ∷ b ∷ c ∷ d ∷ e ∷ f ∷ []) nine = absurd (omega arith)
nine_are (a ∷ b ∷ c ∷ d ∷ e ∷ f ∷ g ∷ []) nine = absurd (omega arith)
nine_are (a ∷ b ∷ c ∷ d ∷ e ∷ f ∷ g ∷ h ∷ []) nine = absurd (omega arith)
nine_are (a ∷ b ∷ c ∷ d ∷ e ∷ f ∷ g ∷ h ∷ i ∷ j ∷ more) nine = absurd (omega arith)

module _ (shape : Shape) (from : Look) (p x y : ℕ) where
  -- three samples of a row of the picture
  row_is : (weights : Weights) (row : List ℕ) (width i : ℕ) → width ≡ plane_width shape p → ((z : ℕ) → get_or row z 0 ≡ from p z (place y i 1 (plane_height shape p)))
      → weighed_at weights row (place x 0 1 width) (place x 1 1 width) (place x 2 1 width)
      ≡ weights.left *ℤ pos (from p (place x 0 1 (plane_width shape p)) (place y i 1 (plane_height shape p)))
      +ℤ weights.middle *ℤ pos (from p (place x 1 1 (plane_width shape p)) (place y i 1 (plane_height shape p)))
      +ℤ weights.right *ℤ pos (from p (place x 2 1 (plane_width shape p)) (place y i 1 (plane_height shape p)))
  row_is weights row width i wide seen = rw (seen (place x 0 1 width), seen (place x 1 1 width), seen (place x 2 1 width), wide) refl

  -- the weights of a square lie on the samples around the place
  pub square_is : (square : Square) (above row below : List ℕ) → length row ≡ plane_width shape p
      → ((z : ℕ) → get_or above z 0 ≡ from p z (place y 0 1 (plane_height shape p))) → ((z : ℕ) → get_or row z 0 ≡ from p z (place y 1 1 (plane_height shape p)))
      → ((z : ℕ) → get_or below z 0 ≡ from p z (place y 2 1 (plane_height shape p)))
      → weighed_around square above row below x ≡ weighed 3 0 (entries_of square) shape from p x y
  square_is square above row below wide first second third =
      omega (arith, ints, row_is square.above above (length row) 0 wide first, row_is square.middle row (length row) 1 wide second, row_is square.below below (length row) 2 wide third)
