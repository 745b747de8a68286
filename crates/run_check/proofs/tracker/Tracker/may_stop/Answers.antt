use Rattle.std.proofs.Common.{◌&&◌, sym, ap, ◌∙◌}
use Rattle.std.specs.Prelude.{nat_lt}
use Rattle.serve_machine.specs.Machine.{may_stop, is_entered}
use Rattle.run_check.proofs.EnterLemmas.{and_true}
use Rattle.run_check.proofs.tracker.Tracker.may_stop.Goals as goal

pub returns-in-Read : goal.returns-in-Read
returns-in-Read c = λ m s untold h. c.has_entered.ensures m s h ∙ ap (may_stop m s c.args.worker) (sym c.in-Read.is)

pub returns-in-Changed : goal.returns-in-Changed
returns-in-Changed c = λ m s untold h. rw (c.has_entered-in-Changed.ensures m s h, c.in-Changed.is, untold)
    (sym (and_true (is_entered c.args.worker c.in-Changed.node s.entered && nat_lt c.in-Changed.got c.in-Changed.want)))
