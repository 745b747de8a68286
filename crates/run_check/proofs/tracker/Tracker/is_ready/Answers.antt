use Rattle.std.proofs.Common.{refl}
use Rattle.run_check.proofs.tracker.Tracker.is_ready.Goals as goal

pub returns : goal.returns
returns c = λ m s h. rw (c.claims.ensures m s h, c.holds_nothing.ensures m s h, c.has_room.ensures m s h) refl
