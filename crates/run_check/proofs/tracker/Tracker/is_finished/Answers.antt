use Rattle.std.proofs.Common.{refl}
use Rattle.run_check.proofs.tracker.Tracker.is_finished.Goals as goal

pub returns : goal.returns
returns c = λ m s h. rw (c.has_no_claim.ensures m s h, c.has_no_lease.ensures m s h, c.is_free.ensures m s h, c.is_running.ensures m s h, c.is_whole.ensures m s h) refl
