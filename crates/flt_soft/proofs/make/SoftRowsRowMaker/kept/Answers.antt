use Rattle.std.proofs.Common.{rules, ◌≡◌, true, map, subst}
use Rattle.fv_plane.specs.Picture.{Look, look_in, Picture}
use Rattle.fv_plane.specs.Made.{IsPlaneOf}
use Rattle.clip_term.specs.Soft.{soft_at}
use Rattle.flt_soft.specs.Pictures.{keeps_plane, shape_of}
use Rattle.flt_soft.proofs.PictureLemmas.{kept_plane}
use Rattle.flt_soft.proofs.make.SoftRowsRowMaker.kept.Goals as goal

pub returns-then-keeps_plane : goal.returns-then-keeps_plane
returns-then-keeps_plane c =
    let rows = c.args.self.now in
    let keeps : keeps_plane rows.op.now c.args.plane ≡ true = search rules in
    let at : Look = soft_at rows.op.now (shape_of rows.inputs.now) (map look_in rows.inputs.now) in
    subst (λ (q : Picture). IsPlaneOf (shape_of rows.inputs.now) at c.args.plane q c.args.plane) c.index-self-self.is
    (kept_plane rows.op.now rows.inputs.now c.index-self-self.result c.args.plane c.requires.able.able keeps c.index-self-self.is c.requires.plane)
