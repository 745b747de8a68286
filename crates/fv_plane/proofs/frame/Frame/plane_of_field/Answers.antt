use Rattle.std.proofs.Common.{◌≡◌, ◌%◌, ◌∙◌, ap, arith, get_or, []}
use Rattle.std.proofs.lemmas.Result.{IfOk-weaker}
use Rattle.fv_plane.specs.Format.{half_shape, row_bytes, plane_height}
use Rattle.fv_rows.specs.Rows.{IsPlane, every_second}
use Rattle.fv_plane.specs.Picture.{decoded_rows, AreWhole, field_in}
use Rattle.fv_plane.proofs.CallerLemmas.{some_rows}
use Rattle.fv_plane.proofs.FrameLemmas.{stored_plane}
use Rattle.fv_plane.proofs.FieldLemmas.{even_height, second_shown, whole-second}
use Rattle.fv_plane.proofs.frame.Frame.plane_of_field.Goals as goal
use Rattle.fv_plane.proofs.frame.Frame.plane_of_field.Goals.{After-plane}

sized : (c : After-plane) → IsPlane (row_bytes c.args.self.now.shape c.args.plane) (plane_height c.args.self.now.shape c.args.plane) c.plane.result.now
sized c = stored_plane c.args.self.now.shape c.args.self.now.planes c.args.plane c.plane.result.now c.plane.ensures.sizes c.requires.plane c.plane.ensures.rows c.plane.ensures.whole

pub every_second-requires-clause-some : goal.every_second-requires-clause-some
every_second-requires-clause-some c =
    let sizes = sized (goal.at.every_second-requires-clause-some c).After-plane in
    omega (arith, sizes.count, some_rows c.args.self.now.shape c.args.plane c.plane.ensures.sizes.legal)

pub every_second-requires-clause-even : goal.every_second-requires-clause-even
every_second-requires-clause-even c =
    let sizes = sized (goal.at.every_second-requires-clause-even c).After-plane in
    ap (λ n. n % 2) sizes.count ∙ even_height c.args.self.now.shape c.args.plane c.requires.even

pub returns-clause-shown : goal.returns-clause-shown
returns-clause-shown c =
    let picture = c.args.self.now in
    IfOk-weaker c.every_second.result
    (λ made. made ≡ every_second c.args.from c.plane.result.now)
    (λ made. decoded_rows (half_shape picture.shape) made ≡ get_or (field_in picture c.args.from).planes c.args.plane [])
    (λ made is. second_shown picture c.args.from c.args.plane c.plane.result.now made c.requires.first c.requires.even c.plane.ensures.sizes c.requires.plane c.plane.ensures.rows is)
    c.every_second.ensures

pub returns-clause-whole : goal.returns-clause-whole
returns-clause-whole c =
    IfOk-weaker c.every_second.result
    (λ made. made ≡ every_second c.args.from c.plane.result.now)
    (λ made. AreWhole c.args.self.now.shape made)
    (λ made is. rw is (whole-second c.args.self.now.shape c.plane.result.now c.args.from c.plane.ensures.whole))
    c.every_second.ensures
