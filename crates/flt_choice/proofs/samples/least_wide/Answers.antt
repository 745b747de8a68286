use Rattle.std.proofs.Common.{sym, ap, ◌∙◌}
use Rattle.std.specs.Prelude.{min}
use Rattle.flt_choice.proofs.SampleLemmas.{wide_step, wide_whole}
use Rattle.flt_choice.proofs.samples.least_wide.Goals as goal

pub loop-x-preserved : goal.loop-x-preserved
loop-x-preserved c =
    let bytes = c.args.bytes.now in
    c.min-least.ensures ∙ ap (λ a. min a c.wide_sample.result) c.loop-x.invariant ∙ ap (min _) c.wide_sample.ensures
    ∙ sym (wide_step min c.args.start bytes c.loop-x.x c.requires c.loop-x-test.true)

pub returns : goal.returns
returns c = c.loop-x.invariant ∙ wide_whole min c.args.start c.args.bytes.now c.loop-x.x c.requires c.loop-x-test.false
