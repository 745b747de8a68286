use Rattle.std.proofs.Common.{◌≡◌, ◌≤◌, ◌-◌, take, get_or, []}
use Rattle.std.specs.Prelude.{max}
use Rattle.std.specs.List.{fold}
use Rattle.fv_rows.specs.Rows.{flat_rows}
use Rattle.fv_plane.specs.Format.{plane_height}
use Rattle.flt_choice.proofs.stats.greatest.Given as goal

abbrev pub invariant-loop-y : goal.invariant-loop-y
invariant-loop-y l = record {
  so_far : l.greatest ≡ fold max 0 (flat_rows (take l.y (get_or l.frame.planes l.plane [])));
  few : l.frame.shape.bits ≡ 8 → l.greatest ≤ 255;
  inside : l.y ≤ plane_height l.frame.shape l.plane;
  shape : l.shape ≡ l.frame.shape;
}

abbrev pub decreases-loop-y : goal.decreases-loop-y
decreases-loop-y l = plane_height l.frame.shape l.plane - l.y
