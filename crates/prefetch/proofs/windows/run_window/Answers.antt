-- Begun, run and ended.
use Rattle.std.proofs.Common.{◌≡◌, ℕ, List, OnOk, IfErr, ap, subst, sym}
use Rattle.clip_graph.specs.Plan.{Application}
use Rattle.serve_core.specs.CoreValue.{CoreValue}
use Rattle.serve_alone.specs.Alone.{Alone}
use Rattle.serve_alone.specs.Windows.{Fresh, Served, WindowCut}
use Rattle.prefetch.proofs.SerialLemmas.{begun_alone, begun_fresh, ends_idle, window_ends}
use Rattle.prefetch.proofs.windows.run_window.Goals as goal

pub run_alone-requires-clause-alone : goal.run_alone-requires-clause-alone
run_alone-requires-clause-alone g c = subst (λ pl. Alone pl c.begin_window.new.self) (sym c.requires.worker) (begun_alone c.args.core.now c.begin_window.new.self c.args.first c.args.count c.requires.may.is_plan c.requires.may.workers c.requires.may.size.some c.in-Ok.ensures.between.unlent c.in-Ok.ensures.ok)

pub run_alone-requires-clause-fresh : goal.run_alone-requires-clause-fresh
run_alone-requires-clause-fresh g c = subst (λ pl. Fresh pl c.begin_window.new.self) (sym c.requires.worker) (begun_fresh c.args.core.now c.begin_window.new.self c.args.first c.args.count c.requires.may.root c.requires.may.workers c.requires.may.numbers c.in-Ok.ensures.between.unclaimed c.in-Ok.ensures.ok)

pub end_window-requires-clause-claims : goal.end_window-requires-clause-claims
end_window-requires-clause-claims g c = (ends_idle g.I.Held c.args.worker.now.plan c.begin_window.new.self c.run_alone.new.core c.begin_window.new.self.fixed.count c.run_alone.result c.run_alone.ensures.ok c.run_alone.ensures.err).0

pub end_window-requires-clause-leases : goal.end_window-requires-clause-leases
end_window-requires-clause-leases g c = (ends_idle g.I.Held c.args.worker.now.plan c.begin_window.new.self c.run_alone.new.core c.begin_window.new.self.fixed.count c.run_alone.result c.run_alone.ensures.ok c.run_alone.ensures.err).1

pub returns-clause-ends : goal.returns-clause-ends
returns-clause-ends g c =
    let count : c.begin_window.new.self.fixed.count ≡ c.args.count = ap (λ (z : CoreValue g.row.I.Denot). z.fixed.count) c.in-Ok.ensures.ok in
    let ok = subst (λ (z : List Application × ℕ). OnOk c.run_alone.result (Served g.I.Held z.0 c.begin_window.new.self z.1 c.run_alone.new.core)) (λ i. (c.requires.worker i, count i)) c.run_alone.ensures.ok in
    let err = subst (λ pl. IfErr c.run_alone.result (λ why. WindowCut g.I.Held pl c.begin_window.new.self why c.run_alone.new.core)) c.requires.worker c.run_alone.ensures.err in
    let e = c.end_window.ensures in
    window_ends g.I.Held c.args.core.now c.begin_window.new.self c.run_alone.new.core c.end_window.new.self c.args.first c.args.count c.requires.may.is_plan c.requires.may.root c.requires.may.size.some c.in-Ok.ensures.ok e.core c.account.ensures c.run_alone.result c.end_window.result ok err e.frames e.events e.stop e.size e.shapes
