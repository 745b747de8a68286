use Rattle.std.proofs.Common.{ℕ, ◌-◌, refl, ap, ◌∙◌}
use Rattle.run_check.proofs.tracker.Tracker.may_deliver.Goals as goal

pub returns : goal.returns
returns c = λ m s is h. rw (h.first, c.took.ensures m s h, c.is_undelivered.ensures m s h, c.has_got.ensures m s h, is, c.saturating_sub-at.ensures ∙ ap (λ (f : ℕ). c.args.n - f) h.first) refl
