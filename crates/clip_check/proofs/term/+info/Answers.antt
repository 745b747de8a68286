use Rattle.std.proofs.Common.{◌∙◌, sym, ap, subst, map, take}
use Rattle.clip_term.specs.Terms.{term_of, info_of}
use Rattle.clip_check.specs.Summaries.{Tells}
use Rattle.clip_check.proofs.TermLemmas.{told_by, told, not_told, told_more, one_more, all_there}
use Rattle.clip_check.proofs.LawfulLemmas.{term_lawful}
use Rattle.clip_check.proofs.term.+info.Goals as goal

pub returns-in-Err : goal.returns-in-Err
returns-in-Err t c = record {
  exact = not_told c.args.term.now c.deref-input-items.result.now c.loop-input.input-index c.input-item.result c.in-Err.fault c.deref-input-items.ensures.value c.loop-input-test.true
      (ap (λ x. info_of (term_of x)) (sym c.input-item.is) ∙ sym c.info.ensures.exact ∙ c.in-Err.is) c.loop-input.invariant.2;
  lawful = λ sound. tt;
}

pub loop-input-preserved : goal.loop-input-preserved
loop-input-preserved t c =
    let inputs = c.deref-input-items.result.now in
    let i = c.loop-input.input-index in
    let here = ap (λ x. info_of (term_of x)) (sym c.input-item.is) ∙ sym c.info.ensures.exact ∙ c.in-Ok.is in
    let more = told_more inputs i c.input-item.result c.in-Ok.told c.loop-input-test.true here in (
      subst (λ infos. Tells c.with-summary.result infos) (sym more) (c.with-summary.ensures.told _ c.loop-input.invariant.0),
      c.with-summary.ensures.total ∙ c.loop-input.invariant.1,
      one_more inputs i c.input-item.result c.in-Ok.told c.loop-input-test.true here c.loop-input.invariant.2,
    )

pub returns : goal.returns
returns t c =
    let inputs = c.deref-input-items.result.now in
    let i = c.loop-input.input-index in
    let whole = all_there inputs i c.loop-input.summary.total c.loop-input-test.false c.loop-input.auto.input-index-end c.loop-input.invariant.1 in
    let checked = c.check_summary.ensures (map told_by (take i inputs)) (record { told = c.loop-input.invariant.0; whole = whole }) in
    let exact = checked ∙ told c.args.term.now inputs i c.deref-input-items.ensures.value c.loop-input-test.false c.loop-input.invariant.2 in
    record { exact = exact; lawful = term_lawful c.check_summary.result (term_of c.args.term.now) exact }
