use Rattle.std.proofs.Common.{sym, ap, ◌∙◌}
use Rattle.std.specs.Prelude.{max}
use Rattle.flt_choice.proofs.SampleLemmas.{wide_step, wide_whole}
use Rattle.flt_choice.proofs.samples.greatest_wide.Goals as goal

pub loop-x-preserved : goal.loop-x-preserved
loop-x-preserved c =
    let bytes = c.args.bytes.now in
    c.max-greatest.ensures ∙ ap (λ a. max a c.wide_sample.result) c.loop-x.invariant ∙ ap (max _) c.wide_sample.ensures
    ∙ sym (wide_step max c.args.start bytes c.loop-x.x c.requires c.loop-x-test.true)

pub returns : goal.returns
returns c = c.loop-x.invariant ∙ wide_whole max c.args.start c.args.bytes.now c.loop-x.x c.requires c.loop-x-test.false
