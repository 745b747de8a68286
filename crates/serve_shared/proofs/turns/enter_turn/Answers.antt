use Rattle.serve_shared.proofs.TurnLemmas.{in_turn, stands_left, adds_left, left_turn}
use Rattle.serve_shared.proofs.TurnCases.{runs, on_node, no_lease, enter_some, enter_ends}
use Rattle.serve_shared.proofs.turns.enter_turn.Goals as goal

pub enter-entry-requires-clause-worker : goal.enter-entry-requires-clause-worker
enter-entry-requires-clause-worker g c =
    let core = c.enter-core.result.0 in
    let t = in_turn g.I.Held c.args.worker.now c.args.seat core c.requires.work.sits c.enter-core.ensures.stands c.account.ensures c.enter-core.ensures.own c.enter-core.ensures.seen in
    runs g.I.Held c.args.worker.now c.args.seat core t c.number.result c.number.ensures

pub enter-entry-requires-clause-claim : goal.enter-entry-requires-clause-claim
enter-entry-requires-clause-claim g c =
    let core = c.enter-core.result.0 in
    let t = in_turn g.I.Held c.args.worker.now c.args.seat core c.requires.work.sits c.enter-core.ensures.stands c.account.ensures c.enter-core.ensures.own c.enter-core.ensures.seen in
    on_node g.I.Held c.args.worker.now c.args.seat core t c.number.result c.number.ensures c.args.key c.requires.claim

pub enter-entry-requires-clause-hands : goal.enter-entry-requires-clause-hands
enter-entry-requires-clause-hands g c =
    let core = c.enter-core.result.0 in
    let t = in_turn g.I.Held c.args.worker.now c.args.seat core c.requires.work.sits c.enter-core.ensures.stands c.account.ensures c.enter-core.ensures.own c.enter-core.ensures.seen in
    no_lease g.I.Held c.args.worker.now c.args.seat core t c.number.result c.number.ensures c.requires.work.unlent

pub leave-seat-requires-clause-stands : goal.leave-seat-requires-clause-stands
leave-seat-requires-clause-stands g c =
    let core = c.enter-core.result.0 in
    let t = in_turn g.I.Held c.args.worker.now c.args.seat core c.requires.work.sits c.enter-core.ensures.stands c.account.ensures c.enter-core.ensures.own c.enter-core.ensures.seen in
    stands_left g.I.Held c.args.worker.now c.args.seat core t c.enter-core.result.1 c.enter-core.ensures.turn c.enter-entry.new.core (enter_some g.I.Held c.args.worker.now c.args.seat core t c.enter-entry.new.core c.args.key.node c.number.result c.number.ensures c.enter-entry.result.0 c.enter-entry.ensures.ok c.enter-entry.ensures.err)

pub leave-seat-requires-clause-added : goal.leave-seat-requires-clause-added
leave-seat-requires-clause-added g c =
    let core = c.enter-core.result.0 in
    let t = in_turn g.I.Held c.args.worker.now c.args.seat core c.requires.work.sits c.enter-core.ensures.stands c.account.ensures c.enter-core.ensures.own c.enter-core.ensures.seen in
    adds_left g.I.Held c.args.worker.now c.args.seat core t c.enter-core.result.1 c.enter-core.ensures.turn c.enter-entry.new.core (enter_some g.I.Held c.args.worker.now c.args.seat core t c.enter-entry.new.core c.args.key.node c.number.result c.number.ensures c.enter-entry.result.0 c.enter-entry.ensures.ok c.enter-entry.ensures.err)

pub returns : goal.returns
returns g c =
    let core = c.enter-core.result.0 in
    let t = in_turn g.I.Held c.args.worker.now c.args.seat core c.requires.work.sits c.enter-core.ensures.stands c.account.ensures c.enter-core.ensures.own c.enter-core.ensures.seen in
    enter_ends g.I.Held c.args.worker.now c.args.seat core t c.enter-entry.new.core c.args.key.node c.number.result c.number.ensures c.enter-entry.result.0 c.enter-entry.ensures.ok c.enter-entry.ensures.err c.leave-seat.result (left_turn g.I.Held c.args.worker.now c.args.seat core t c.enter-entry.new.core c.enter-core.result.1 c.leave-seat.result c.enter-core.ensures.turn c.leave-seat.ensures.seat c.leave-seat.ensures.own)
