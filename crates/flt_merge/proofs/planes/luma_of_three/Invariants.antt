use Rattle.fv_plane.proofs.FillLemmas.{Filled}
use Rattle.flt_merge.specs.Rows.{rows_of_luma}
use Rattle.flt_merge.proofs.planes.luma_of_three.Given as goal

abbrev pub invariant-loop-plane : goal.invariant-loop-plane
invariant-loop-plane l = Filled (rows_of_luma l.y l.u l.v) l.fn.shape l.made l.plane 0
