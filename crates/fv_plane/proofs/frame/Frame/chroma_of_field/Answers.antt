use Rattle.std.proofs.Common.{rules, ◌≡◌}
use Rattle.std.specs.Prelude.{◌≢◌}
use Rattle.fv_plane.specs.Format.{planes, half_shape}
use Rattle.fv_plane.proofs.WindowLemmas.{no_chroma, two_chroma}
use Rattle.fv_plane.proofs.BytesLemmas.{whole_none, two_whole}
use Rattle.fv_plane.proofs.frame.Frame.chroma_of_field.Goals as goal

pub returns-then-planes-eq1-clause-shown : goal.returns-then-planes-eq1-clause-shown
returns-then-planes-eq1-clause-shown c =
    let one : planes c.args.self.now.shape.kind ≡ 1 = search rules in
    no_chroma (half_shape c.args.self.now.shape) _ one

pub returns-clause-shown : goal.returns-clause-shown
returns-clause-shown c =
    let more : planes c.args.self.now.shape.kind ≢ 1 = search rules in
    two_chroma (half_shape c.args.self.now.shape) _ _ _ more c.in_ok-u.ensures.shown c.in_ok-v.ensures.shown

pub returns-then-planes-eq1-clause-whole : goal.returns-then-planes-eq1-clause-whole
returns-then-planes-eq1-clause-whole c = λ p. whole_none c.args.self.now.shape

pub returns-clause-whole : goal.returns-clause-whole
returns-clause-whole c = two_whole c.args.self.now.shape _ _ c.in_ok-u.ensures.whole c.in_ok-v.ensures.whole
