use Rattle.fv_plane.proofs.FillLemmas.{Filled}
use Rattle.flt_merge.specs.Rows.{rows_of_two}
use Rattle.flt_merge.proofs.planes.luma_and_chroma.Given as goal

abbrev pub invariant-loop-plane : goal.invariant-loop-plane
invariant-loop-plane l = Filled (rows_of_two l.luma l.chroma) l.luma.shape l.made l.plane 0
