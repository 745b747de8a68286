use Rattle.std.proofs.Common.{◌≡◌, ◌+◌, ◌-◌, ◌≤◌, length, take}
use Rattle.fv_plane.proofs.FillLemmas.{Filled}
use Rattle.clip_term.specs.declared.op.JoinOp.TheVariants.{StackVertical}
use Rattle.flt_merge.specs.Joined.{shape_joined}
use Rattle.flt_merge.specs.Rows.{plane_of_all, rows_beneath}
use Rattle.flt_merge.proofs.stack.stack_vertical.Given as goal

abbrev pub invariant-loop-y : goal.invariant-loop-y
invariant-loop-y l = record {
  inside : l.y ≤ l.height;
  filled : Filled (rows_beneath l.inputs) (shape_joined StackVertical l.inputs) l.made l.plane (l.top + l.y);
}

abbrev pub decreases-loop-y : goal.decreases-loop-y
decreases-loop-y l = l.height - l.y

abbrev pub invariant-loop-i : goal.invariant-loop-i
invariant-loop-i l = record {
  top : l.top ≡ length (plane_of_all (take l.i l.inputs) l.plane);
  filled : Filled (rows_beneath l.inputs) (shape_joined StackVertical l.inputs) l.made l.plane l.top;
}

abbrev pub invariant-loop-plane : goal.invariant-loop-plane
invariant-loop-plane l = Filled (rows_beneath l.inputs) (shape_joined StackVertical l.inputs) l.made l.plane 0
