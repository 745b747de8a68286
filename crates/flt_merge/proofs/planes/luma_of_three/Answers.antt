use Rattle.std.proofs.Common.{rules, ap, arith}
use Rattle.fv_plane.specs.Picture.{Picture, row_of}
use Rattle.fv_plane.proofs.FillLemmas.{filled_done}
use Rattle.flt_merge.specs.Rows.{rows_of_luma, look_of_luma}
use Rattle.fv_plane.proofs.WholePlaneLemmas.{filled_whole}
use Rattle.flt_merge.proofs.RowLemmas.{three_same, three_listed}
use Rattle.flt_merge.proofs.planes.luma_of_three.Goals as goal

pub put_plane-requires-clause-same : goal.put_plane-requires-clause-same
put_plane-requires-clause-same c = search (arith, three_same)

pub loop-plane-preserved : goal.loop-plane-preserved
loop-plane-preserved c =
    let p = c.loop-plane.plane in
    filled_whole (rows_of_luma c.args.y.now c.args.u.now c.args.v.now) c.args.shape c.loop-plane.made c.put_plane.new.self p _ c.loop-plane.invariant
    c.put_plane.ensures.sizes c.put_plane.ensures.shape c.in_ok-put_plane.ensures.put (λ z within. ap (λ (one : Picture). row_of one.planes 0 z) c.one_of_three.ensures) (search rules)

pub returns : goal.returns
returns c =
    let y = c.args.y.now in
    let u = c.args.u.now in
    let v = c.args.v.now in
    rw (← filled_done (rows_of_luma y u v) c.args.shape c.loop-plane.made (look_of_luma y u v) c.loop-plane.plane 0 c.loop-plane.invariant (search rules) (search rules)
    (three_listed c.args.shape y u v c.shape.ensures.sizes c.shape-2.ensures.sizes c.shape-3.ensures.sizes c.requires.y c.requires.u c.requires.v)) c.finish.ensures
