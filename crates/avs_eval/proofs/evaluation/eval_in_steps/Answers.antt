-- The stop of the run is the script's fault.
use Rattle.std.proofs.Common.{◌≡◌, ◌∙◌, Ok, sym, ap, subst}
use Rattle.avs_meaning.specs.Meaning.{executed, imports_by}
use Rattle.avs_meaning.specs.State.{State}
use Rattle.avs_state.specs.States.{state_of}
use Rattle.avs_state.proofs.Kept.{all_fetched}
use Rattle.avs_state.proofs.StepLemmas.{all_paid}
use Rattle.avs_state.specs.Answers.{Fails}
use Rattle.avs_eval.specs.Evaluates.{units_by}
use Rattle.avs_eval.specs.OutsideBy.{outside_by}
use Rattle.avs_eval.proofs.RunLemmas.{stop_shows}
use Rattle.avs_eval.proofs.evaluation.eval_in_steps.Goals as goal

pub returns-in-Err-clause-told : goal.returns-in-Err-clause-told
returns-in-Err-clause-told g c = λ told.
    let outside = outside_by g.H.Host.clips g.H.Host.scripts in
    let stop = c.in-Err.stop in
    stop_shows _ stop
    (subst (λ s. Fails (Unit {0}) (executed outside c.args.name.now c.args.text.now s) stop) c.new-state.ensures.start (c.in-Err.ensures.told told))

pub returns-in-Err-clause-steps : goal.returns-in-Err-clause-steps
returns-in-Err-clause-steps g c = rw (c.steps-steps.ensures, c.paid-units.ensures) (all_paid _ c.root_of-root.new.state c.new-state.ensures.work c.in-Err.ensures.work)

pub returns-in-Ok-clause-steps : goal.returns-in-Ok-clause-steps
returns-in-Ok-clause-steps g c = rw (c.steps-steps.ensures, c.paid-units.ensures) (all_paid _ c.root_of-root.new.state c.new-state.ensures.work c.in-Ok.ensures.work)

pub returns-in-Ok-clause-fetched : goal.returns-in-Ok-clause-fetched
returns-in-Ok-clause-fetched g c = λ told.
    let outside = outside_by g.H.Host.clips g.H.Host.scripts in
    let kept = c.in-Ok.ensures.kept in
    let first = state_of c.new-state.result in
    let last = state_of c.root_of-root.new.state in
    let run : executed outside c.args.name.now c.args.text.now first ≡ Ok (c.in-Ok.root, last) = c.in-Ok.ensures.told told in
    let counted = ap imports_by (sym (ap (executed outside c.args.name.now c.args.text.now) c.new-state.ensures.start) ∙ run) in
    all_fetched (g.H.Host.fetched c.args.host.now) (g.H.Host.fetched c.root_of-root.new.host) _ first last (g.H.Host.opened c.root_of-root.new.host) c.new-state.ensures.start
    (kept.given (ap (λ (s : State). s.opened) c.new-state.ensures.start ∙ sym c.requires.none)) counted kept.fetched

pub returns-in-Ok-clause-paid : goal.returns-in-Ok-clause-paid
returns-in-Ok-clause-paid g c = λ told.
    let outside = outside_by g.H.Host.clips g.H.Host.scripts in
    let run : executed outside c.args.name.now c.args.text.now (state_of c.new-state.result) ≡ Ok (c.in-Ok.root, state_of c.root_of-root.new.state) = c.in-Ok.ensures.told told in
    c.paid-units.ensures ∙ sym (ap units_by (sym (ap (executed outside c.args.name.now c.args.text.now) c.new-state.ensures.start) ∙ run))
