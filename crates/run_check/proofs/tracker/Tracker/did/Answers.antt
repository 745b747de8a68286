use Rattle.std.proofs.Common.{sym}
use Rattle.run_check.proofs.StageLemmas.{act_refused, act_goes}
use Rattle.run_check.proofs.tracker.Tracker.did.Goals as goal

pub returns-then-not-may_act : goal.returns-then-not-may_act
returns-then-not-may_act c = λ capacity p h. act_refused c.args.graph.now c.args.root capacity p c.args.event.now (sym (c.if-not-may_act.ensures c.args.graph.now c.args.root capacity p h))

pub returns : goal.returns
returns c = λ capacity p h.
    act_goes c.args.graph.now c.args.root capacity c.args.self.now c.make.new.self p c.args.event.now c.make.result h (sym (c.if-not-may_act.ensures c.args.graph.now c.args.root capacity p h)) c.make.ensures
