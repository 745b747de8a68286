use Rattle.fv_plane.proofs.FillLemmas.{Filled}
use Rattle.flt_field.specs.Made.{shape_made}
use Rattle.flt_field.proofs.RowLemmas.{wanted}
use Rattle.flt_field.proofs.rows.by_rows.Given as goal

abbrev pub invariant-loop-y : goal.invariant-loop-y
invariant-loop-y l = Filled (wanted l.op l.field l.inputs) (shape_made l.op l.inputs) l.made l.plane l.y

abbrev pub invariant-loop-plane : goal.invariant-loop-plane
invariant-loop-plane l = Filled (wanted l.op l.field l.inputs) (shape_made l.op l.inputs) l.made l.plane 0
