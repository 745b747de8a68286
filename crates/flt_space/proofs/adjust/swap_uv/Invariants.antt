use Rattle.fv_plane.specs.Picture.{look_in}
use Rattle.fv_plane.proofs.FillLemmas.{Filled}
use Rattle.clip_term.specs.declared.op.SpaceOp.TheVariants.{SwapUV}
use Rattle.clip_term.specs.Space.{space_at}
use Rattle.fv_plane.proofs.WholePlaneLemmas.{rows_listed}
use Rattle.flt_space.proofs.adjust.swap_uv.Given as goal

abbrev pub invariant-loop-plane : goal.invariant-loop-plane
invariant-loop-plane l = Filled (rows_listed l.input.shape (space_at SwapUV l.input.shape (look_in l.input))) l.input.shape l.made l.plane 0
