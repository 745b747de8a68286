use Rattle.std.proofs.Common.{◌∙◌, ap}
use Rattle.fv_plane.specs.declared.format.Shape.{Shape}
use Rattle.flt_field.proofs.RowLemmas.{copied_fits, copied_again, put_as}
use Rattle.flt_field.proofs.rows.copy_row.Goals as goal

pub put_row-requires-clause-fits : goal.put_row-requires-clause-fits
put_row-requires-clause-fits c = copied_fits c.args.input.now c.args.made.now.shape c.args.plane c.args.row c.row.result.now c.shape.ensures.sizes (ap (λ (s : Shape). s.bits) c.requires.like) c.row.ensures.row

pub returns-clause-rows : goal.returns-clause-rows
returns-clause-rows c =
    c.put_row.ensures.rows
    ∙ put_as c.args.made.now.planes c.args.plane c.args.y (copied_again c.args.input.now c.args.made.now.shape c.args.plane c.args.row c.row.result.now (ap (λ (s : Shape). s.bits) c.requires.like) c.row.ensures.row)
