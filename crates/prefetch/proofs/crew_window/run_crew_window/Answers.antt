-- Begun, run and ended.
use Rattle.std.proofs.Common.{◌≡◌, ◌∙◌, ap, arith}
use Rattle.serve_core.specs.CoreValue.{CoreValue}
use Rattle.serve_core.specs.Runs.{IsRun}
use Rattle.prefetch.proofs.CrewLemmas.{begun_new, none_open, crew_ends}
use Rattle.prefetch.proofs.crew_window.run_crew_window.Given.{Over}
use Rattle.prefetch.proofs.crew_window.run_crew_window.Goals as goal
use Rattle.prefetch.proofs.crew_window.run_crew_window.Goals.{After-account}

pub run_crew-core-requires-clause-fresh : goal.run_crew-core-requires-clause-fresh
run_crew-core-requires-clause-fresh g c κs within =
    begun_new c.args.core c.begin_window.new.self c.args.first c.args.count c.requires.may.root c.requires.may.workers c.requires.may.size.some c.requires.may.numbers c.in-Ok.ensures.ok

run : (g : Over) (c : After-account g) → IsRun c.run_crew-core.result.0
run g c =
    let count : c.run_crew-core.result.0.fixed.count ≡ c.args.count = ap (λ z. z.count) c.run_crew-core.ensures.worked.stands.fixed ∙ ap (λ (z : CoreValue g.row.I.Denot). z.fixed.count) c.in-Ok.ensures.ok in
    c.account.ensures (omega (arith, count, c.requires.may.size.some))

pub end_window-finished-requires-clause-claims : goal.end_window-finished-requires-clause-claims
end_window-finished-requires-clause-claims g c =
    (none_open g.I.Held c.args.core c.begin_window.new.self c.run_crew-core.result.0 c.args.first c.args.count c.requires.may.is_plan c.requires.may.root c.in-Ok.ensures.ok c.run_crew-core.ensures.worked (run g (goal.at.end_window-finished-requires-clause-claims g c).After-account)).0

pub end_window-finished-requires-clause-leases : goal.end_window-finished-requires-clause-leases
end_window-finished-requires-clause-leases g c =
    (none_open g.I.Held c.args.core c.begin_window.new.self c.run_crew-core.result.0 c.args.first c.args.count c.requires.may.is_plan c.requires.may.root c.in-Ok.ensures.ok c.run_crew-core.ensures.worked (run g (goal.at.end_window-finished-requires-clause-leases g c).After-account)).1

pub returns-clause-ends : goal.returns-clause-ends
returns-clause-ends g c =
    let e = c.end_window-finished.ensures in
    rw c.keep_memory.ensures (crew_ends g.I.Held c.args.core c.begin_window.new.self c.run_crew-core.result.0 c.args.first c.args.count c.requires.may.is_plan c.requires.may.root c.in-Ok.ensures.ok c.run_crew-core.ensures.worked (run g (goal.at.returns-clause-ends g c).After-account)
    c.end_window-finished.new.self e.core c.end_window-finished.result e.frames e.events e.stop e.stopped e.size e.shapes c.requires.may.workers c.in-Ok.ensures.between.unlent c.instances.ensures.differ c.instances.ensures.sources c.instances-2.ensures.differ c.instances-2.ensures.sources)
