-- The rows that are made.
use Rattle.std.proofs.Common.{◌≡◌, ℕ, ◌<◌, ◌==◌, ◌∙◌, List, None, true, false, length, get_or, ap, arith, ne_eqb}
use Rattle.std.proofs.lemmas.Grind.{common_steps}
use Rattle.fv_plane.specs.declared.format.Shape.{Shape}
use Rattle.fv_plane.specs.Format.{planes, plane_width}
use Rattle.fv_plane.specs.Picture.{look_in, Picture, IsPicture}
use Rattle.fv_plane.specs.Made.{FitsLook, IsPlaneOf}
use Rattle.fv_plane.specs.Refusals.{first_fault}
use Rattle.fv_plane.proofs.FillLemmas.{row_listed}
use Rattle.clip_term.specs.declared.op.SpaceOp.{SpaceOp}
use Rattle.clip_term.specs.Space.{space_at, space_refusals, space_shape}
use Rattle.flt_space.specs.Kept.{keeps_plane}
use Rattle.clip_term.proofs.BoundedLemmas.{IsBounded, space_bounded}
use Rattle.flt_space.specs.Rows.{row_made}
use Rattle.flt_space.proofs.CutLemmas.{accepted}

-- a row whose samples are those of the filter is the row that it makes
pub made_row : (op : SpaceOp) (input : Picture) (p y : ℕ) (out : List ℕ) → length out ≡ plane_width (space_shape op input.shape) p
    → ((x : ℕ) → x < length out → get_or out x 0 ≡ space_at op input.shape (look_in input) p x y) → out ≡ row_made op input p y
made_row op input p y out long each = search (arith, row_listed)

-- a shape that was asked has more than eight bits
pub more_bits : (shape same : Shape) → same ≡ shape → (same.bits ≡ 8 → ⊥) → (shape.bits == 8) ≡ false
more_bits shape same is more = ne_eqb shape.bits 8 (λ eight. more (ap (λ (s : Shape). s.bits) is ∙ eight))

-- where a filter keeps the bits, what has two bytes a sample still has
pub wide_kept : (made shape : Shape) → made.bits ≡ shape.bits → (shape.bits == 8) ≡ false → (made.bits == 8) ≡ false
wide_kept made shape kept wide = rw kept wide

-- no sample of the picture is over the largest
pub looks_fit : (op : SpaceOp) (input : Picture) → first_fault (space_refusals op input.shape) ≡ None → IsPicture input → FitsLook (space_shape op input.shape) (space_at op input.shape (look_in input))
looks_fit op input none sizes =
    let bounded : IsBounded (space_shape op input.shape) (space_at op input.shape (look_in input))
    = space_bounded op input.shape (look_in input) sizes.legal (accepted (space_refusals op input.shape) none) (record { at = sizes.bounded }) in
    bounded.at

-- a plane that is kept is that plane of the input
pub kept_plane : (op : SpaceOp) (input : Picture) (p : ℕ) → keeps_plane op p ≡ true → p < planes (space_shape op input.shape).kind
    → IsPlaneOf (space_shape op input.shape) (space_at op input.shape (look_in input)) p input p
kept_plane op input p keeps there = grind (arith, common_steps)
