-- The crew, and the core that it leaves.
use Rattle.std.proofs.Common.{◌∙◌, ◌+◌, subst, sym, arith}
use Rattle.std.specs.Arc.{arc_value}
use Rattle.std.specs.Vec.{vec_len}
use Rattle.turn_lock.specs.SeatView.{first_seat}
use Rattle.prefetch.specs.Crew.{MayGather, IsGathered}
use Rattle.prefetch.proofs.CrewLemmas.{first_may, all_numbers, closed_done}
use Rattle.prefetch.proofs.crew_window.run_crew.Given.{Over}
use Rattle.prefetch.proofs.crew_window.run_crew.Goals as goal
use Rattle.prefetch.proofs.crew_window.run_crew.Goals.{After-crew-seat}

pub crew-seat-requires-clause-seat : goal.crew-seat-requires-clause-seat
crew-seat-requires-clause-seat g c κs within =
    let plan = c.in-Ok.ensures ∙ c.graph.ensures.graph in
    let many = c.in-Ok-shares_of.ensures.count in
    subst (MayGather (arc_value c.in-Ok.graph) c.in-Ok-new.lock (vec_len c.in-Ok-shares_of.shares)) (sym c.in-Ok-new.ensures.seat)
    (first_may (arc_value c.in-Ok.graph) c.in-Ok-new.lock (c.args.workers + 1) c.args.core (vec_len c.in-Ok-shares_of.shares) (sym plan) c.requires.fresh (omega arith) (omega arith))

gathered : (g : Over) (c : After-crew-seat g) → IsGathered c.args.core.fixed.plan (vec_len c.in-Ok-shares_of.shares) (first_seat c.in-Ok-new.lock (c.args.workers + 1) c.args.core) c.crew-seat.result.0
gathered g c =
    let plan = c.in-Ok.ensures ∙ c.graph.ensures.graph in
    let first = subst (λ seat. IsGathered (arc_value c.in-Ok.graph) (vec_len c.in-Ok-shares_of.shares) seat c.crew-seat.result.0) c.in-Ok-new.ensures.seat c.crew-seat.ensures.gathered in
    subst (λ pl. IsGathered pl (vec_len c.in-Ok-shares_of.shares) (first_seat c.in-Ok-new.lock (c.args.workers + 1) c.args.core) c.crew-seat.result.0) plan first

pub close-requires-clause-all : goal.close-requires-clause-all
close-requires-clause-all g c = all_numbers c.args.core.fixed.plan c.in-Ok-new.lock (c.args.workers + 1) c.args.core (vec_len c.in-Ok-shares_of.shares) c.crew-seat.result.0 (gathered g (goal.at.close-requires-clause-all g c).After-crew-seat) (omega arith)

pub returns-in-Ok-new-clause-worked : goal.returns-in-Ok-new-clause-worked
returns-in-Ok-new-clause-worked g c =
    let e = c.close.ensures in
    closed_done g.I.Held c.in-Ok-new.lock (c.args.workers + 1) c.args.core c.close.result (vec_len c.in-Ok-shares_of.shares) c.crew-seat.result.0 (gathered g (goal.at.returns-in-Ok-new-clause-worked g c).After-crew-seat) e.ended_seen e.ended e.own e.others e.stands
