use Rattle.std.proofs.Common.{rules, ◌≡◌, ◌∙◌, true, refl, arith}
use Rattle.fv_plane.specs.Picture.{row_of}
use Rattle.fv_plane.proofs.CallerLemmas.{bytes_of_narrow}
use Rattle.clip_term.specs.declared.op.SpaceOp.TheVariants as op
use Rattle.clip_term.specs.Space.{is_among}
use Rattle.flt_space.proofs.KeptLemmas.{negated}
use Rattle.flt_space.proofs.RowLemmas.{made_row}
use Rattle.flt_turn.proofs.PartLemmas.{narrow_bytes}
use Rattle.flt_space.proofs.adjust.InvertRowsRowFilter.fill_row.Goals as goal

pub copy_inverted-requires : goal.copy_inverted-requires
copy_inverted-requires c = omega (arith, c.row.ensures.whole, narrow_bytes c.args.input.now.shape c.args.plane c.requires.narrow, c.requires.whole)

pub returns : goal.returns
returns c =
    let channels = c.args.self.now.channels in
    let input = c.args.input.now in
    let row : c.row.result.now ≡ row_of input.planes c.args.plane c.args.y = c.row.ensures.row ∙ bytes_of_narrow input.shape (row_of input.planes c.args.plane c.args.y) c.requires.narrow in
    let named : is_among channels c.args.plane ≡ true = negated (is_among channels c.args.plane) true c.requires.row.changed in
    made_row (op.Invert channels) input c.args.plane c.args.y c.copy_inverted.new.out (search rules)
    (λ x within. c.copy_inverted.ensures x (search rules) ∙ rw (row, named, c.requires.narrow) refl)
