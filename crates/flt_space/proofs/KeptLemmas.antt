-- Planes that a filter keeps.
use Rattle.std.proofs.Common.{◌≡◌, ℕ, Bool, true, false, arith}
use Rattle.std.specs.Prelude.{if◌then◌else◌, not}
use Rattle.std.proofs.lemmas.Grind.{common_steps}
use Rattle.fv_plane.specs.declared.format.Shape.{Shape}
use Rattle.fv_plane.specs.Picture.{Look}
use Rattle.clip_term.specs.declared.op.SpaceOp.{SpaceOp}
use Rattle.clip_term.specs.Space.{space_at, space_shape}
use Rattle.clip_term.proofs.SpaceFacts.{space_facts}
use Rattle.flt_space.specs.Kept.{keeps_plane}

pub first_of : {A : Type 0} (test : Bool) (a b : A) → test ≡ true → (if test then a else b) ≡ a
first_of test a b e = grind (arith, common_steps)

pub second_of : {A : Type 0} (test : Bool) (a b : A) → test ≡ false → (if test then a else b) ≡ b
second_of test a b e = grind (arith, common_steps)

pub negated : (test other : Bool) → not test ≡ not other → test ≡ other
negated test other e = grind (arith, common_steps)

-- the size stays
pub kept_shape : (filter : SpaceOp) (shape : Shape) (p : ℕ) → keeps_plane filter p ≡ true → space_shape filter shape ≡ shape
kept_shape filter shape p e = ((space_facts filter).kept shape p e).size

-- and so do the samples
pub kept_samples : (filter : SpaceOp) (shape : Shape) (p : ℕ) → keeps_plane filter p ≡ true → (from : Look) (x y : ℕ) → space_at filter shape from p x y ≡ from p x y
kept_samples filter shape p e from x y = ((space_facts filter).kept shape p e).samples from x y
