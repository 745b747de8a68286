use Rattle.std.proofs.Common.{◌∙◌, get_or, [], arith}
use Rattle.fv_plane.specs.Format.{row_bytes, plane_height}
use Rattle.fv_rows.specs.Rows.{IsPlane}
use Rattle.fv_plane.proofs.FrameLemmas.{stored_plane, stored_rows, plane_height_le}
use Rattle.fv_plane.proofs.frame.Frame.rows_from.Goals as goal
use Rattle.fv_plane.proofs.frame.Frame.rows_from.Goals.{After-plane}

sized : (c : After-plane) → IsPlane (row_bytes c.args.self.now.shape c.args.plane) (plane_height c.args.self.now.shape c.args.plane) c.plane.result.now
sized c = stored_plane c.args.self.now.shape c.args.self.now.planes c.args.plane c.plane.result.now c.plane.ensures.sizes c.requires.plane c.plane.ensures.rows c.plane.ensures.whole

pub rows_from-count-requires : goal.rows_from-count-requires
rows_from-count-requires c = (let sizes = sized c in omega (arith, sizes.count, c.requires.inside))

pub overflow_cast-result : goal.overflow_cast-result
overflow_cast-result c =
    let sizes = sized (goal.at.overflow_cast-result c).After-plane in
    omega (arith, sizes.count, plane_height_le c.args.self.now.shape c.args.plane, c.plane.ensures.sizes.legal.most_height, c.rows_from-count.ensures.inside)

pub returns-clause-inside : goal.returns-clause-inside
returns-clause-inside c =
    let sizes = sized (goal.at.returns-clause-inside c).After-plane in
    omega (arith, sizes.count, c.rows_from-count.ensures.inside)

pub returns-clause-rows : goal.returns-clause-rows
returns-clause-rows c =
    c.rows_from-count.ensures.rows
    ∙ stored_rows c.args.self.now.shape c.plane.result.now (get_or c.args.self.now.planes c.args.plane []) c.args.y c.rows_from-count.result.1 c.plane.ensures.rows c.plane.ensures.whole
