use Rattle.std.proofs.Common.{[], refl, sym}
use Rattle.frame_cache.proofs.CallerLemmas.{absent}
use Rattle.run_check.proofs.StageLemmas.{name_goes}
use Rattle.run_check.proofs.tracker.Tracker.name.Goals as goal

pub returns-then-not-may_name : goal.returns-then-not-may_name
returns-then-not-may_name c = λ root capacity p h. absent _ (sym (c.if-not-may_name.ensures c.args.graph.now root capacity p h))

pub returns-in-Ok : goal.returns-in-Ok
returns-in-Ok c = λ root capacity p h.
    name_goes c.args.graph.now root capacity c.args.self.now c.begin.new.self p c.args.count h (sym (c.if-not-may_name.ensures c.args.graph.now root capacity p h))
    (λ cap entries. c.in-Ok.ensures c.args.graph.now root capacity c.args.count [] c.requires.plan (record { workers_are = refl; capacity_is = cap; cache_is = entries }))
