use Rattle.std.proofs.Common.{refl}
use Rattle.run_check.proofs.tracker.Tracker.may_take.Goals as goal

pub returns : goal.returns
returns c = λ m s w h. rw (c.taken_so_far-taken.ensures m s h, h.first, h.count, c.is_running.ensures m s h) refl
