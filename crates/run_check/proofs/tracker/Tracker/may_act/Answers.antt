use Rattle.std.proofs.Common.{ℕ, ap, ◌∙◌}
use Rattle.std.specs.Prelude.{nat_lt}
use Rattle.run_check.proofs.StageLemmas.{act_test}
use Rattle.run_check.proofs.tracker.Tracker.may_act.Goals as goal

pub returns : goal.returns
returns c = λ plan root capacity p h.
    act_test plan root capacity c.args.self.now p c.args.event.now c.in_turn.result c.is_worker.result h c.in_turn.ensures (λ m s is. c.is_worker.ensures m s is ∙ ap (λ (w : ℕ). nat_lt w m.fixed.workers) c.worker.ensures)
