use Rattle.std.proofs.Common.{rules, ap, arith}
use Rattle.fv_plane.specs.Picture.{Picture, row_of}
use Rattle.fv_plane.proofs.FillLemmas.{filled_done}
use Rattle.flt_merge.specs.Rows.{rows_of_two, look_of_two}
use Rattle.fv_plane.proofs.WholePlaneLemmas.{filled_whole}
use Rattle.flt_merge.proofs.RowLemmas.{two_listed, chosen, same_plane}
use Rattle.flt_merge.proofs.planes.luma_and_chroma.Goals as goal

pub put_plane-requires-clause-same : goal.put_plane-requires-clause-same
put_plane-requires-clause-same c = search (arith, chosen, same_plane)

pub loop-plane-preserved : goal.loop-plane-preserved
loop-plane-preserved c =
    let p = c.loop-plane.plane in
    filled_whole (rows_of_two c.args.luma.now c.args.chroma.now) c.args.luma.now.shape c.loop-plane.made c.put_plane.new.self p _ c.loop-plane.invariant
    c.put_plane.ensures.sizes c.put_plane.ensures.shape c.in_ok-put_plane.ensures.put (λ z within. ap (λ (one : Picture). row_of one.planes p z) c.one_of_two.ensures) (search rules)

pub returns : goal.returns
returns c =
    let luma = c.args.luma.now in
    let chroma = c.args.chroma.now in
    rw (← filled_done (rows_of_two luma chroma) luma.shape c.loop-plane.made (look_of_two luma chroma) c.loop-plane.plane 0 c.loop-plane.invariant (search rules) (search rules)
    (two_listed luma chroma c.shape-shape.ensures.sizes c.shape.ensures.sizes c.requires)) c.finish.ensures
