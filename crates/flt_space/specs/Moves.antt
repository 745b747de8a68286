-- Rows that are parts of rows of the input.
use Rattle.std.specs.Prelude.{◌≡◌, ℕ, ◌+◌, ◌<◌, ◌≤◌, false, List, take, drop}
use Rattle.fv_plane.specs.declared.format.Shape.{Shape}
use Rattle.fv_plane.specs.Format.{planes, plane_width, plane_height}
use Rattle.fv_plane.specs.Picture.{Picture, row_of}
use Rattle.clip_term.specs.declared.op.SpaceOp.{SpaceOp}
use Rattle.flt_space.specs.Kept.{keeps_plane}
use Rattle.flt_space.specs.Rows.{CanMake, padded}
use Rattle.flt_space.specs.declared.borders.RowPlan.{RowPlan}

-- a row of this width: a part of a row of the input, between samples of one value
abbrev pub planned : RowPlan → ℕ → Picture → ℕ → ℕ → List ℕ
planned plan value input p width = padded plan.before value (take plan.count (drop plan.from (row_of input.planes p plan.row))) width

-- the part is there, and has room
pub record IsPlan (plan : RowPlan) (shape : Shape) (p width : ℕ) : Type 0 where
  pub there : p < planes shape.kind
  pub inside : plan.row < plane_height shape p
  pub part : plan.from + plan.count ≤ plane_width shape p
  pub room : plan.before + plan.count ≤ width

-- a filter that keeps no plane, and its input
pub record CanMove (op : SpaceOp) (input : Picture) (shape : Shape) : Type 0 where
  pub make : CanMake op input shape
  pub none : (p : ℕ) → keeps_plane op p ≡ false
