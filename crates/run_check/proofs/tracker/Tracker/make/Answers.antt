use Rattle.std.proofs.Common.{sym, subst}
use Rattle.run_check.specs.Mirrors.{Steps}
use Rattle.run_check.proofs.tracker.Tracker.make.Goals as goal

pub returns-in-Fail : goal.returns-in-Fail
returns-in-Fail c = λ m s of less h. subst (λ e. Steps m s e c.fail.result c.fail.new.self) (sym c.in-Fail.is) (c.fail.ensures m s of.untold of.plan_is h)
