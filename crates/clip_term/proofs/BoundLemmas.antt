-- Samples that are no greater than the largest one of a shape.
use Rattle.std.proofs.Common.{ℕ, zero, suc, ◌*◌, ◌≤◌, List, [], ◌∷◌, arith, Bool}
use Rattle.std.specs.Prelude.{if◌then◌else◌}
use Rattle.std.proofs.lemmas.Grind.{common_steps}
use Rattle.fv_plane.specs.declared.format.Shape.{Shape}
use Rattle.fv_plane.specs.Format.{IsLegal, largest_sample, scale}
use Rattle.fv_plane.specs.Picture.{Look, look_at}
use Rattle.fv_plane.proofs.CallerLemmas as plane

pub record IsBounded (shape : Shape) (from : Look) : Type 0 where
  pub at : (p x y : ℕ) → from p x y ≤ largest_sample shape

pub data AllBounded (shape : Shape) : List Look → Type 0 where
  none : AllBounded shape []
  more : {from : Look} {looks : List Look} → IsBounded shape from → AllBounded shape looks → AllBounded shape (from ∷ looks)

pub bounded_at : {shape : Shape} {looks : List Look} → AllBounded shape looks → (i : ℕ) → IsBounded shape (look_at looks i)
bounded_at none i = record { at = λ p x y. omega arith }
bounded_at (more first rest) zero = first
bounded_at (more first rest) (suc i) = bounded_at rest i

-- a part of eight bits, scaled
pub scaled : (shape : Shape) (n : ℕ) → IsLegal shape → n ≤ 255 → n * scale shape ≤ largest_sample shape
scaled shape n legal h = plane.scaled shape n legal.depth h

pub if_few : (t : Bool) (a b m : ℕ) → a ≤ m → b ≤ m → (if t then a else b) ≤ m
if_few t a b m h g = grind (arith, common_steps)
