use Rattle.std.proofs.Common.{true, false, sym, ◌∙◌, subst, arith}
use Rattle.run_text.specs.Progress.{next}
use Rattle.run_check.specs.Stages.{Goes, StandsFor}
use Rattle.run_check.proofs.StepLemmas.{cut_at, no_end, no_line, one_line}
use Rattle.run_check.proofs.judging.step.Goals as goal

pub returns-in_default-clause-steps : goal.returns-in_default-clause-steps
returns-in_default-clause-steps c = λ capacity p h.
    no_end c.args.graph.now c.args.root capacity (StandsFor c.args.graph.now c.args.root capacity c.args.tracker.now) p c.args.rest.now (sym c.in_default.ensures)

pub returns-in_default-read_line-clause-steps : goal.returns-in_default-read_line-clause-steps
returns-in_default-read_line-clause-steps c = λ capacity p h.
    no_line c.args.graph.now c.args.root capacity (StandsFor c.args.graph.now c.args.root capacity c.args.tracker.now) p c.args.rest.now c.in-Some.end (sym c.in-Some.ensures)
    (λ l fits is. c.in_default-read_line.ensures.none l fits (c.split_at.ensures.front ∙ is))

pub returns-in-Ok-true-clause-inside : goal.returns-in-Ok-true-clause-inside
returns-in-Ok-true-clause-inside c = let cut = cut_at c.args.rest.now c.in-Some.end (sym c.in-Some.ensures) in let inside = cut.inside in (omega arith, omega arith)

pub returns-in-Ok-true-clause-steps : goal.returns-in-Ok-true-clause-steps
returns-in-Ok-true-clause-steps c = λ capacity p h.
    let Stands = StandsFor c.args.graph.now c.args.root capacity c.read.new.self in
    one_line c.args.graph.now c.args.root capacity Stands p c.args.rest.now c.in-Some.end c.in-Some-read_line.line true (sym c.in-Some.ensures)
    (sym c.split_at.ensures.front ∙ c.in-Some-read_line.ensures.found.0) c.in-Some-read_line.ensures.found.1
    (subst (Goes Stands (next c.args.graph.now c.args.root capacity p c.in-Some-read_line.line)) c.in-Ok-true.field-0-test (c.in-Ok-true.ensures capacity p h))

pub returns-in-Ok-false-clause-steps : goal.returns-in-Ok-false-clause-steps
returns-in-Ok-false-clause-steps c = λ capacity p h.
    let Stands = StandsFor c.args.graph.now c.args.root capacity c.read.new.self in
    one_line c.args.graph.now c.args.root capacity Stands p c.args.rest.now c.in-Some.end c.in-Some-read_line.line false (sym c.in-Some.ensures)
    (sym c.split_at.ensures.front ∙ c.in-Some-read_line.ensures.found.0) c.in-Some-read_line.ensures.found.1
    (subst (Goes Stands (next c.args.graph.now c.args.root capacity p c.in-Some-read_line.line)) c.in-Ok-false.field-0-test (c.in-Ok-false.ensures capacity p h))
