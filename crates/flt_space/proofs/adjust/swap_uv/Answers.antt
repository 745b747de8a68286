use Rattle.std.proofs.Common.{rules, ◌<◌, refl, sym, arith}
use Rattle.fv_plane.specs.Format.{planes, plane_width, HasSamePlane}
use Rattle.fv_plane.specs.Picture.{look_in}
use Rattle.fv_plane.proofs.FillLemmas.{filled_start, filled_done}
use Rattle.clip_term.specs.declared.op.SpaceOp.TheVariants.{SwapUV}
use Rattle.clip_term.specs.Space.{space_at, swapped}
use Rattle.fv_plane.proofs.WholePlaneLemmas.{rows_listed, filled_whole, row_seen}
use Rattle.flt_space.proofs.SwapLemmas.{swapped_there, swapped_same}
use Rattle.flt_space.proofs.adjust.swap_uv.Goals as goal

pub loop-plane-init : goal.loop-plane-init
loop-plane-init c = search (rules, filled_start)

pub put_plane-requires-clause-of : goal.put_plane-requires-clause-of
put_plane-requires-clause-of c = search (arith, swapped_there)

pub put_plane-requires-clause-same : goal.put_plane-requires-clause-same
put_plane-requires-clause-same c = search (arith, swapped_same)

pub loop-plane-preserved : goal.loop-plane-preserved
loop-plane-preserved c =
    let input = c.args.input.now in
    let p = c.loop-plane.plane in
    let there : p < planes input.shape.kind = search rules in
    let same : HasSamePlane input.shape p input.shape (swapped p) = swapped_same input.shape p there in
    let at = space_at SwapUV input.shape (look_in input) in
    filled_whole (rows_listed input.shape at) input.shape c.loop-plane.made c.put_plane.new.self p _ c.loop-plane.invariant
    c.in_ok-put_plane.ensures.sizes c.in_ok-put_plane.ensures.shape c.in_ok-put_plane.ensures.put
    (λ z inside. rw c.swapped.ensures (row_seen input (swapped p) at p (plane_width input.shape p) z c.shape-shape.ensures.sizes
    (swapped_there input.shape.kind p there) (omega (arith, inside, same.height)) (sym same.width) (λ x. refl))) there

pub returns : goal.returns
returns c =
    let input = c.args.input.now in
    let at = space_at SwapUV input.shape (look_in input) in
    rw (← filled_done (rows_listed input.shape at) input.shape c.loop-plane.made at c.loop-plane.plane 0 (search rules) (search rules) (search rules) (λ p z there inside. refl)) c.finish.ensures
