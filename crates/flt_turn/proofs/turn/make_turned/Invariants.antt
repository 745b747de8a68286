use Rattle.std.proofs.Common.{◌-◌, ◌≤◌}
use Rattle.fv_plane.specs.Picture.{look_in}
use Rattle.fv_plane.proofs.FillLemmas.{Filled}
use Rattle.fv_plane.proofs.WholePlaneLemmas.{rows_listed}
use Rattle.clip_term.specs.Space.{space_at}
use Rattle.flt_turn.proofs.turn.make_turned.Given as goal

abbrev pub invariant-loop-plane : goal.invariant-loop-plane
invariant-loop-plane g l = Filled (rows_listed l.shape (space_at g.T.Turn.op l.input.shape (look_in l.input))) l.shape l.made l.plane 0

abbrev pub invariant-loop-y : goal.invariant-loop-y
invariant-loop-y g l =
    (l.y ≤ l.height) × Filled (rows_listed l.shape (space_at g.T.Turn.op l.input.shape (look_in l.input))) l.shape l.made l.plane l.y

abbrev pub decreases-loop-y : goal.decreases-loop-y
decreases-loop-y g l = l.height - l.y
