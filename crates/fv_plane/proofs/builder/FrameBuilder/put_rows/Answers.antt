use Rattle.std.proofs.Common.{◌≡◌, ◌∷◌, map, ◌∙◌, ap, arith}
use Rattle.fv_plane.specs.Picture.{with_rows, decoded_rows, chroma_list, rows_of_bytes, IsStored}
use Rattle.fv_plane.proofs.FrameLemmas.{whole_rows, whole_put, frame_put, IsPicture-put, IsStored-new}
use Rattle.fv_plane.proofs.builder.FrameBuilder.put_rows.Goals as goal
use Rattle.fv_plane.proofs.builder.FrameBuilder.put_rows.Goals.{After-put_rows_in}

pub put_rows_in-requires-clause-whole : goal.put_rows_in-requires-clause-whole
put_rows_in-requires-clause-whole c =
    let p = c.self.inside in
    whole_rows p.shape p.luma p.chroma c.args.self.now c.self.view_is c.self.invariant c.args.plane c.requires.plane c.args.y c.args.count c.args.rows.now c.requires.inside c.requires.whole

-- the planes with the new rows
planes_are : (c : After-put_rows_in) → map (decoded_rows c.self.inside.shape) (c.put_rows_in.new.luma ∷ chroma_list c.put_rows_in.new.chroma)
    ≡ with_rows c.args.self.now.planes c.args.plane c.args.y (rows_of_bytes c.args.self.now.shape c.args.plane c.args.count c.args.rows.now)
planes_are c =
    let p = c.self.inside in
    ap (map (decoded_rows p.shape)) c.put_rows_in.ensures
    ∙ frame_put p.shape p.luma p.chroma c.args.self.now c.self.view_is c.self.invariant c.args.plane c.requires.plane c.args.y c.args.count c.args.rows.now c.requires.inside

-- they are stored
written : (c : After-put_rows_in) → IsStored c.self.inside.shape c.put_rows_in.new.luma c.put_rows_in.new.chroma
written c =
    let p = c.self.inside in
    IsStored-new p.shape p.luma p.chroma c.args.self.now c.self.view_is c.self.invariant c.args.plane c.requires.plane c.put_rows_in.new.luma c.put_rows_in.new.chroma _ _ c.put_rows_in.ensures
    (whole_put p.shape p.luma p.chroma c.args.self.now c.self.view_is c.self.invariant c.args.plane c.requires.plane c.args.y c.args.count c.args.rows.now c.requires.inside c.requires.whole (λ k. omega (arith, c.type_inv.rows k)))
    (planes_are c)
    (IsPicture-put p.shape p.luma p.chroma c.args.self.now c.self.view_is c.self.invariant c.args.plane c.requires.plane c.args.y c.args.count c.args.rows.now c.requires.inside c.requires.whole (λ k. omega (arith, c.type_inv.rows k)) c.requires.fits)

pub invariant_of-self : goal.invariant_of-self
invariant_of-self c = written c

pub returns-clause-rows : goal.returns-clause-rows
returns-clause-rows c = planes_are c

pub returns-clause-sizes : goal.returns-clause-sizes
returns-clause-sizes c = (let is : IsStored c.self.inside.shape c.put_rows_in.new.luma c.put_rows_in.new.chroma = written c in is.picture)
