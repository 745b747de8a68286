use Rattle.std.proofs.Common.{refl}
use Rattle.run_check.proofs.tracker.Tracker.may_claim.Goals as goal

pub returns : goal.returns
returns c = λ m s w is h. rw (c.is_key.ensures, is, c.is_cached.ensures m s h, c.is_claimed.ensures m s h, c.is_running.ensures m s h) refl
