use Rattle.std.proofs.Common.{sym, subst, ◌∙◌}
use Rattle.std.proofs.lemmas.List.{take_more}
use Rattle.clip_check.specs.Summaries.{Tells}
use Rattle.clip_check.proofs.summary.Summary.of.Goals as goal

pub loop-info-preserved : goal.loop-info-preserved
loop-info-preserved c =
    let told = c.with-summary.ensures.told _ c.loop-info.invariant.0 in
    let next = take_more c.args.infos.now c.loop-info.info-index _ c.loop-info-test.true in
    (subst (λ seen. Tells c.with-summary.result seen) (sym next) told, c.with-summary.ensures.total ∙ c.loop-info.invariant.1)
