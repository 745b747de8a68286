use Rattle.std.proofs.Common.{rules, ◌≡◌, ◌∙◌, true, refl, ap}
use Rattle.fv_plane.specs.declared.format.Shape.{Shape}
use Rattle.fv_plane.specs.Format.{largest_sample}
use Rattle.clip_term.specs.declared.op.SpaceOp.TheVariants as op
use Rattle.clip_term.specs.Space.{is_among}
use Rattle.flt_space.proofs.KeptLemmas.{negated}
use Rattle.flt_space.proofs.RowLemmas.{made_row}
use Rattle.flt_space.proofs.adjust.InvertRowsRowFilter.fill_samples.Goals as goal

pub returns : goal.returns
returns c =
    let channels = c.args.self.now.channels in
    let input = c.args.input.now in
    let most : c.largest_sample.result ≡ largest_sample input.shape = c.largest_sample.ensures ∙ ap (λ (s : Shape). largest_sample s) c.shape.ensures.shape in
    let named : is_among channels c.args.plane ≡ true = negated (is_among channels c.args.plane) true c.requires.row.changed in
    made_row (op.Invert channels) input c.args.plane c.args.y c.copy_inverted.new.out (search rules)
    (λ x within. c.copy_inverted.ensures x (search rules) ∙ rw (c.wide_row-row.ensures.row, named, most) refl)
