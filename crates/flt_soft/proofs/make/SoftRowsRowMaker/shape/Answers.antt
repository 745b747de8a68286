use Rattle.std.proofs.Common.{◌≡◌, ◌<◌, ◌∙◌, List, length, map, ap, sym, subst}
use Rattle.fv_plane.specs.declared.format.Shape.{Shape}
use Rattle.fv_plane.specs.Picture.{look_in, Picture}
use Rattle.fv_plane.specs.Made.{FitsLook}
use Rattle.clip_term.specs.Soft.{soft_at}
use Rattle.flt_soft.specs.Pictures.{shape_of}
use Rattle.flt_soft.proofs.PictureLemmas.{first_shape, soft_bounded, some_pictures}
use Rattle.flt_soft.proofs.make.SoftRowsRowMaker.shape.Goals as goal

pub returns-clause-fits : goal.returns-clause-fits
returns-clause-fits c =
    let inputs : List Picture = c.args.self.now.inputs.now in
    let op = c.args.self.now.op.now in
    let some : 0 < length inputs = some_pictures op inputs c.requires.able in
    let same : c.shape.result ≡ shape_of inputs = c.shape.ensures.shape ∙ ap (λ (q : Picture). q.shape) (sym c.index-self-0.is) ∙ first_shape inputs c.index-self-0.result some c.index-self-0.is in
    let bounded = soft_bounded op inputs c.requires.able c.see_pictures.ensures in
    subst (λ (s : Shape). FitsLook s (soft_at op (shape_of inputs) (map look_in inputs))) (sym same) bounded.at
