use Rattle.std.proofs.Common.{◌≡◌, ◌≤◌, ◌-◌, take, get_or, []}
use Rattle.std.specs.Prelude.{min}
use Rattle.std.specs.List.{fold}
use Rattle.fv_rows.specs.Rows.{flat_rows}
use Rattle.fv_plane.specs.Format.{largest_sample, plane_height}
use Rattle.flt_choice.proofs.stats.least.Given as goal

abbrev pub invariant-loop-y : goal.invariant-loop-y
invariant-loop-y l = record {
  so_far : l.least ≡ fold min (largest_sample l.frame.shape) (flat_rows (take l.y (get_or l.frame.planes l.plane [])));
  few : l.frame.shape.bits ≡ 8 → l.least ≤ 255;
  inside : l.y ≤ plane_height l.frame.shape l.plane;
  shape : l.shape ≡ l.frame.shape;
}

abbrev pub decreases-loop-y : goal.decreases-loop-y
decreases-loop-y l = plane_height l.frame.shape l.plane - l.y
