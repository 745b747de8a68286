use Rattle.std.proofs.Common.{◌∙◌, subst}
use Rattle.fv_plane.specs.Picture.{Picture, IsPicture, IsStored}
use Rattle.fv_plane.proofs.FrameLemmas.{one_row}
use Rattle.fv_plane.proofs.builder.FrameBuilder.put_row.Goals as goal

pub returns-clause-rows : goal.returns-clause-rows
returns-clause-rows c =
    let is : IsStored c.self.inside.shape c.self.inside.luma c.self.inside.chroma = c.self.invariant in
    c.put_rows.ensures.rows
    ∙ one_row c.args.self.now c.args.plane c.args.y c.args.row.now (subst (λ (p : Picture). IsPicture p) c.self.view_is is.picture) c.requires.plane c.requires.inside c.requires.whole
