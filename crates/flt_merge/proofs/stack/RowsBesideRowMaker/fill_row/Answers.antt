use Rattle.std.proofs.Common.{◌∙◌, ◌*◌, ℕ, List, ap, length, arith}
use Rattle.fv_plane.specs.declared.format.Shape.{Shape}
use Rattle.fv_plane.specs.Format.{sample_bytes}
use Rattle.fv_plane.specs.Picture.{bytes_of_row}
use Rattle.fv_plane.proofs.BytesLemmas.{length-bytes_of_row}
use Rattle.flt_merge.specs.Rows.{rows_beside}
use Rattle.flt_merge.proofs.StackLemmas.{beside_by, beside_listed, bytes_beside_are, row_of_all}
use Rattle.flt_merge.proofs.stack.RowsBesideRowMaker.fill_row.Goals as goal

pub fill_row-requires-clause-whole : goal.fill_row-requires-clause-whole
fill_row-requires-clause-whole c =
    let rows = c.args.self.now in
    let able = c.requires.able in
    let shape : Shape = rows.shape in
    let make = beside_by shape rows.inputs.now able.is able.sizes able.alike in
    let samples : List ℕ = rows_beside rows.inputs.now c.args.plane c.args.y in
    let row = row_of_all shape rows.inputs.now make c.args.plane c.args.y c.requires.plane c.requires.inside in
    let bytes = ap length (bytes_beside_are shape rows.inputs.now c.args.plane c.args.y (λ k d h. (make.alike k d h).2)) in
    let size = length-bytes_of_row shape samples ∙ ap (λ n. n * sample_bytes shape) row in
    omega (arith, c.requires.whole, bytes, size)

pub returns-clause-row : goal.returns-clause-row
returns-clause-row c =
    let rows = c.args.self.now in
    let able = c.requires.able in
    let make = beside_by rows.shape rows.inputs.now able.is able.sizes able.alike in
    c.fill_row.ensures ∙ bytes_beside_are rows.shape rows.inputs.now c.args.plane c.args.y (λ k d h. (make.alike k d h).2)
    ∙ ap (bytes_of_row rows.shape) (beside_listed rows.shape rows.inputs.now make c.args.plane c.args.y c.requires.plane c.requires.inside)
