-- The seats, joined one after the other.
use denote.Exit as exit
use denote.Param.{param}
use denote.Param.Send.{param_send, param_sync, arg_send}
use denote.Ref.{NamedLft}
use denote.Struct.Field.{shr_ref_field}
use denote.Struct.Tuple.{TupleAt}
use mir.Syntax as mir
use Rattle.std.specs.contracts.alloc.Global as global
use Rattle.std.specs.contracts.sync.Arc as arc
use Rattle.std.specs.contracts.impls.GlobalAllocator.TheImpl as global_impl
use Rattle.clip_graph.specs.contracts.graph.Graph as graph
use Rattle.serve_core.specs.contracts.state.Core as core
use Rattle.serve_core.specs.contracts.booked.CoreBooked.TheImpl as booked
use Rattle.serve_machine.specs.contracts.event.Event as event
use Rattle.turn_lock.specs.contracts.seat.LockSeat as seat_row
use Rattle.turn_lock.specs.contracts.turn_lock.TurnLock as lock_row
use Rattle.turn_lock.proofs.seat.LockSeat.TheSendSync as seat
use Rattle.turn_lock.proofs.turn_lock.TurnLock.TheSendSync as lock
use Rattle.prefetch.proofs.CrossingLemmas.{core_send, tuple_send, lent_send, shared_graph_send, global_send}
use Rattle.prefetch.proofs.crew_window.+crew+fn-crew-join+arg3.Lts-crew as lts
use Rattle.std.proofs.Common.{◌≡◌, ◌∷◌, [], ◌+◌, Some, arith, rules, subst, sym}
use Rattle.std.specs.Prelude.{All}
use Rattle.std.specs.Arc.{arc_value}
use Rattle.std.specs.Vec.{vec_len}
use Rattle.std.proofs.lemmas.List.Elements.{All-pop}
use Rattle.prefetch.specs.Crew.{MayWork, MayGather, WorkedAt, IsGathered}
use Rattle.prefetch.proofs.GatherLemmas.{last_gathered, more_gathered, may_work, may_gather}
use Rattle.prefetch.proofs.crew_window.+crew+fn-crew-join+arg3.Goals as goal

pub returns-in_default-clause-gathered : goal.returns-in_default-clause-gathered
returns-in_default-clause-gathered g t c =
    let none : 0 ≡ vec_len c.args.shares = sym c.in_default.ensures.cases.0 in
    let s = c.split-seat.ensures in
    subst (λ n. IsGathered (arc_value c.args.graph) n c.args.seat c.join.result) none (last_gathered (arc_value c.args.graph) c.args.seat c.work_at-seat.result c.split-seat.result.0 c.split-seat.result.1 c.join.result c.work_at-seat.ensures s.first s.second c.join.ensures.joined)

pub join-other-requires-after_bounds : goal.join-other-requires-after_bounds
join-other-requires-after_bounds g t c κs within =
    let plan = arc_value c.args.graph in
    let s = c.split-seat-2.ensures in
    let share : arc_value c.in-Some.share ≡ plan = (All-pop (λ share. arc_value share ≡ plan) c.args.shares.items c.pop.new.self.items (Some c.in-Some.share) c.in-Some.ensures.items c.requires.same).1 in
    let same : All (λ share. arc_value share ≡ plan) c.pop.new.self.items = (All-pop (λ share. arc_value share ≡ plan) c.args.shares.items c.pop.new.self.items (Some c.in-Some.share) c.in-Some.ensures.items c.requires.same).0 in
    let count : vec_len c.args.shares ≡ vec_len c.pop.new.self + 1 = omega (arith, c.in-Some.ensures.len) in
    let mine : MayWork (arc_value c.in-Some.share) c.args.lock.now c.split-seat-2.result.1
    = subst (λ pl. MayWork pl c.args.lock.now c.split-seat-2.result.1) (sym share) (may_work plan c.args.seat c.split-seat-2.result.0 c.split-seat-2.result.1 s.first s.second c.args.lock.now (vec_len c.args.shares) (omega (arith, count)) c.requires.seat) in
    let rest : MayGather plan c.args.lock.now (vec_len c.pop.new.self) c.split-seat-2.result.0
    = may_gather plan c.args.seat c.split-seat-2.result.0 c.split-seat-2.result.1 s.first s.second c.args.lock.now (vec_len c.args.shares) (vec_len c.pop.new.self) count c.requires.seat in
    search rules

pub returns-clause-gathered : goal.returns-clause-gathered
returns-clause-gathered g t c =
    let plan = arc_value c.args.graph in
    let s = c.split-seat-2.ensures in
    let share : arc_value c.in-Some.share ≡ plan = (All-pop (λ share. arc_value share ≡ plan) c.args.shares.items c.pop.new.self.items (Some c.in-Some.share) c.in-Some.ensures.items c.requires.same).1 in
    let count : vec_len c.args.shares ≡ vec_len c.pop.new.self + 1 = omega (arith, c.in-Some.ensures.len) in
    let worked : WorkedAt plan c.split-seat-2.result.1 c.join-other.result.0 = subst (λ pl. WorkedAt pl c.split-seat-2.result.1 c.join-other.result.0) share c.join-other.ensures.first in
    let more : IsGathered plan (vec_len c.pop.new.self) c.split-seat-2.result.0 c.join-other.result.1.0 = c.join-other.ensures.second.0 in
    more_gathered plan c.args.seat c.split-seat-2.result.0 c.split-seat-2.result.1 s.first s.second (vec_len c.args.shares) (vec_len c.pop.new.self) c.join-other.result.1.0 c.join-other.result.0 c.join-2.result count worked more c.join-2.ensures.joined

pub join-other-requires-send-A : goal.join-other-requires-send-A
join-other-requires-send-A g t c κs within =
    let of_core = core.the_row (param 1 g.row.I) g.I.Held in
    let ghosts = booked.ghosts (param 1 g.row.I) g.I.Held booked.no_dict in
    let k = core_send (param 1 g.row.I) g.I.Held (search (param_send, rules)) in
    param_send 3 (lts.arg-6-3 g.row.R g.row.I g.row.G g.row.T g.row.T-Output g.R.laws g.I.laws g.G.laws g.T.laws g.T.Output.laws g.R.Threads g.R.Threads-dict g.R.Wait g.R.Wait-dict g.I.Works g.I.Works-dict g.I.Held g.I.Held-dict g.G.Gate g.G.Gate-dict g.T.Chore g.T.Chore-dict g.T.Destruct-dict κs)
    (arg_send _ exit.no _ (seat.the_send of_core of_core event.the_row ghosts k))

pub join-other-requires-send-F : goal.join-other-requires-send-F
join-other-requires-send-F g t c κs within =
    let of_core = core.the_row (param 1 g.row.I) g.I.Held in
    let ghosts = booked.ghosts (param 1 g.row.I) g.I.Held booked.no_dict in
    let k = core_send (param 1 g.row.I) g.I.Held (search (param_send, rules)) in
    let a : NamedLft = record { mir = mir.named 6; lft = κs.1.1.1.1.1.1.0 } in
    let b : NamedLft = record { mir = mir.named 7; lft = κs.1.1.1.1.1.1.1.0 } in
    let d : NamedLft = record { mir = mir.named 8; lft = κs.1.1.1.1.1.1.1.1.0 } in
    let ν = lts.name-35 g.row.R g.row.I g.row.G g.row.T g.row.T-Output g.R.laws g.I.laws g.G.laws g.T.laws g.T.Output.laws g.R.Threads g.R.Threads-dict g.R.Wait g.R.Wait-dict g.I.Works g.I.Works-dict g.I.Held g.I.Held-dict g.G.Gate g.G.Gate-dict g.T.Chore g.T.Chore-dict g.T.Destruct-dict in
    let A = (shr_ref_field a (param 0 g.row.R) tt).row in
    let C = (shr_ref_field b (lock_row.the_row of_core of_core event.the_row ghosts) tt).row in
    let D = seat_row.the_row of_core of_core event.the_row ghosts in
    let E = arc.the_row graph.the_row global.the_row global_impl.ghosts in
    let F = (shr_ref_field d (param 2 g.row.G) tt).row in
    param_send 1 (lts.arg-6-1 g.row.R g.row.I g.row.G g.row.T g.row.T-Output g.R.laws g.I.laws g.G.laws g.T.laws g.T.Output.laws g.R.Threads g.R.Threads-dict g.R.Wait g.R.Wait-dict g.I.Works g.I.Works-dict g.I.Held g.I.Held-dict g.G.Gate g.G.Gate-dict g.T.Chore g.T.Chore-dict g.T.Destruct-dict κs)
    (arg_send _ exit.no (TupleAt ν (A ∷ global.the_row ∷ C ∷ D ∷ E ∷ F ∷ []))
    (tuple_send ν A global.the_row C D E F (lent_send a (param 0 g.row.R) tt (search (param_sync, rules))) global_send (lent_send b (lock_row.the_row of_core of_core event.the_row ghosts) tt (lock.the_sync of_core of_core event.the_row ghosts k)) (seat.the_send of_core of_core event.the_row ghosts k) shared_graph_send (lent_send d (param 2 g.row.G) tt (search (param_sync, rules)))))
