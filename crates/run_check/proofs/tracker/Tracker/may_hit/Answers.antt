use Rattle.std.proofs.Common.{refl}
use Rattle.run_check.proofs.tracker.Tracker.may_hit.Goals as goal

pub returns : goal.returns
returns c = λ m s h. rw (c.is_cached.ensures m s h, c.claims.ensures m s h, c.is_running.ensures m s h) refl
