use Rattle.std.proofs.Common.{rules, ◌≡◌, ◌∙◌, ◌-◌, length, refl, arith}
use Rattle.fv_plane.specs.Format.{plane_width, plane_height}
use Rattle.fv_plane.specs.Picture.{row_of}
use Rattle.fv_plane.proofs.CallerLemmas.{bytes_of_narrow}
use Rattle.clip_term.specs.declared.op.SpaceOp.TheVariants.{Turn180}
use Rattle.flt_space.proofs.RowLemmas.{made_row}
use Rattle.flt_turn.proofs.PartLemmas.{narrow_bytes}
use Rattle.flt_space.proofs.flip.TurnRowsRowFilter.fill_row.Goals as goal

pub reverse_row-requires : goal.reverse_row-requires
reverse_row-requires c = omega (arith, c.row.ensures.whole, narrow_bytes c.args.input.now.shape c.args.plane c.requires.narrow, c.requires.whole)

pub returns : goal.returns
returns c =
    let input = c.args.input.now in
    let wide : length c.row.result.now ≡ plane_width input.shape c.args.plane = c.row.ensures.whole ∙ narrow_bytes input.shape c.args.plane c.requires.narrow in
    let high : c.plane_height-height.result ≡ plane_height input.shape c.args.plane = search rules in
    let row = c.row.ensures.row ∙ bytes_of_narrow input.shape (row_of input.planes c.args.plane (c.plane_height-height.result - 1 - c.args.y)) c.requires.narrow in
    made_row Turn180 input c.args.plane c.args.y c.reverse_row.new.out (search rules)
    (λ x within. c.reverse_row.ensures x (search rules) ∙ rw (wide, row, high) refl)
