use Rattle.std.proofs.Common.{ℕ, false, refl, ap, ◌∙◌}
use Rattle.std.specs.Prelude.{replicate}
use Rattle.run_text.specs.Journal.{places}
use Rattle.run_check.proofs.StageLemmas.{window_opens}
use Rattle.run_check.proofs.tracker.Tracker.begin.Goals as goal

pub returns : goal.returns
returns c = λ plan root capacity workers cache is_plan keeps.
    window_opens plan root capacity c.args.self.now _ workers cache c.args.first c.args.count is_plan keeps refl refl refl refl c.new.ensures (c.new-2.ensures (places plan root capacity workers))
    c.new-3.ensures.empty c.new-4.ensures.items c.in_ok-delivered.ensures (c.in_ok-failed.ensures ∙ ap (λ (n : ℕ). replicate n false) keeps.workers_are) c.new-5.ensures.empty refl refl
