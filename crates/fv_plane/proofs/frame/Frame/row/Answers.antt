use Rattle.std.proofs.Common.{◌∙◌, ap, length, get_or, [], arith}
use Rattle.fv_plane.specs.Format.{row_bytes, plane_height}
use Rattle.fv_rows.specs.Rows.{IsPlane}
use Rattle.fv_plane.proofs.FrameLemmas.{stored_plane, stored_row}
use Rattle.fv_plane.proofs.frame.Frame.row.Goals as goal
use Rattle.fv_plane.proofs.frame.Frame.row.Goals.{After-plane}

sized : (c : After-plane) → IsPlane (row_bytes c.args.self.now.shape c.args.plane) (plane_height c.args.self.now.shape c.args.plane) c.plane.result.now
sized c = stored_plane c.args.self.now.shape c.args.self.now.planes c.args.plane c.plane.result.now c.plane.ensures.sizes c.requires.plane c.plane.ensures.rows c.plane.ensures.whole

pub row-requires : goal.row-requires
row-requires c = (let sizes = sized c in omega (arith, sizes.count, c.requires.inside))

pub returns-clause-row : goal.returns-clause-row
returns-clause-row c = c.row.ensures ∙ stored_row c.args.self.now.shape c.plane.result.now (get_or c.args.self.now.planes c.args.plane []) c.args.y c.plane.ensures.rows c.plane.ensures.whole

pub returns-clause-whole : goal.returns-clause-whole
returns-clause-whole c = ap length c.row.ensures ∙ (sized (goal.at.returns-clause-whole c).After-plane).widths c.args.y c.requires.inside
