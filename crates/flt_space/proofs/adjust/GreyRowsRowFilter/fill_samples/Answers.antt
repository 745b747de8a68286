use Rattle.std.proofs.Common.{rules, ◌≡◌, ◌∙◌, ◌==◌, ◌*◌, sym, ap, length, replicate}
use Rattle.std.proofs.lemmas.List.{get_or-replicate}
use Rattle.fv_plane.specs.declared.format.Shape.{Shape}
use Rattle.fv_plane.specs.Format.{scale}
use Rattle.fv_plane.specs.Picture.{look_in}
use Rattle.clip_term.specs.declared.op.SpaceOp.TheVariants.{Greyscale}
use Rattle.flt_space.proofs.KeptLemmas.{second_of}
use Rattle.flt_space.proofs.RowLemmas.{made_row}
use Rattle.flt_space.proofs.adjust.GreyRowsRowFilter.fill_samples.Goals as goal

pub returns : goal.returns
returns c =
    let input = c.args.input.now in
    let factor : c.scale.result ≡ scale input.shape = c.scale.ensures ∙ ap (λ (s : Shape). scale s) c.shape.ensures.shape in
    let value : 128 * c.scale.result ≡ 128 * scale input.shape = ap (λ n. 128 * n) factor in
    let grey : c.fill.new.self ≡ replicate (length c.args.out.now) (128 * c.scale.result) = search rules in
    made_row Greyscale input c.args.plane c.args.y c.fill.new.self (search rules)
    (λ x within. rw grey (get_or-replicate (length c.args.out.now) x (128 * c.scale.result) 0 (search rules)) ∙ value
    ∙ sym (second_of (c.args.plane == 0) (look_in input c.args.plane x c.args.y) (128 * scale input.shape) c.requires.row.changed))
