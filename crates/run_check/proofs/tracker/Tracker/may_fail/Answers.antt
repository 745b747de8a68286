use Rattle.std.proofs.Common.{refl}
use Rattle.run_check.proofs.tracker.Tracker.may_fail.Goals as goal

pub returns : goal.returns
returns c = λ m s untold is h. rw (c.is_well.ensures m s h, c.names_source.ensures, is, c.may_stop.ensures m s untold h) refl
