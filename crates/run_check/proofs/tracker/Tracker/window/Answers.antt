use Rattle.std.proofs.Common.{sym}
use Rattle.frame_cache.proofs.CallerLemmas.{absent}
use Rattle.run_check.proofs.StageLemmas.{window_goes}
use Rattle.run_check.proofs.tracker.Tracker.window.Goals as goal

pub returns-then-not-may_begin : goal.returns-then-not-may_begin
returns-then-not-may_begin c = λ capacity p h. absent _ (sym (c.if-not-may_begin.ensures capacity p h))

pub returns-in-Ok : goal.returns-in-Ok
returns-in-Ok c = λ capacity p h.
    window_goes c.args.graph.now c.args.root capacity c.args.self.now c.begin.new.self p c.args.first c.args.count h (sym (c.if-not-may_begin.ensures capacity p h))
    (λ workers cache keeps. c.in-Ok.ensures c.args.graph.now c.args.root capacity workers cache c.requires.plan keeps)
