use Rattle.std.proofs.Common.{rules, ◌≡◌, ◌∙◌, [], get_or, ap}
use Rattle.std.specs.Prelude.{◌≢◌}
use Rattle.fv_plane.specs.Format.{planes}
use Rattle.fv_plane.specs.Picture.{picture_from}
use Rattle.fv_plane.proofs.BytesLemmas.{whole_none, two_whole}
use Rattle.fv_plane.proofs.WindowLemmas.{no_chroma, two_chroma}
use Rattle.fv_plane.proofs.make.make_chroma.Goals as goal

pub returns-then-planes-eq1-clause-shown : goal.returns-then-planes-eq1-clause-shown
returns-then-planes-eq1-clause-shown g c =
    let one : planes c.args.shape.kind ≡ 1 = search rules in
    no_chroma c.args.shape (g.M.RowMaker.look_made c.args.maker.now) one

pub returns-then-planes-eq1-clause-whole : goal.returns-then-planes-eq1-clause-whole
returns-then-planes-eq1-clause-whole g c = λ p. whole_none c.args.shape

pub returns-clause-shown : goal.returns-clause-shown
returns-clause-shown g c =
    let more : planes c.args.shape.kind ≢ 1 = search rules in
    let v = c.in_ok-v.ensures.shown ∙ ap (λ m. get_or (picture_from c.args.shape (g.M.RowMaker.look_made m)).planes 2 []) c.in_ok-u.ensures.same in
    two_chroma c.args.shape (g.M.RowMaker.look_made c.args.maker.now) _ _ more c.in_ok-u.ensures.shown v

pub returns-clause-whole : goal.returns-clause-whole
returns-clause-whole g c = two_whole c.args.shape _ _ c.in_ok-u.ensures.whole c.in_ok-v.ensures.whole
