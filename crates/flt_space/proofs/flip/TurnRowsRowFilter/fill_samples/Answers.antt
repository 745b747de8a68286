use Rattle.std.proofs.Common.{rules, ◌≡◌, ◌∙◌, length, refl}
use Rattle.fv_plane.specs.Format.{plane_width, plane_height}
use Rattle.clip_term.specs.declared.op.SpaceOp.TheVariants.{Turn180}
use Rattle.flt_space.proofs.RowLemmas.{made_row}
use Rattle.flt_space.proofs.flip.TurnRowsRowFilter.fill_samples.Goals as goal

pub returns : goal.returns
returns c =
    let input = c.args.input.now in
    let wide : length c.reverse_row.new.out ≡ plane_width input.shape c.args.plane = c.reverse_row.auto.out ∙ c.requires.whole in
    let high : c.plane_height-height.result ≡ plane_height input.shape c.args.plane = search rules in
    made_row Turn180 input c.args.plane c.args.y c.reverse_row.new.out (search rules)
    (λ x within. c.reverse_row.ensures x (search rules) ∙ rw (wide, c.wide_row.ensures.row, high) refl)
