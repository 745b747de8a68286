use Rattle.serve_shared.proofs.TurnLemmas.{in_turn, stands_left, adds_left, left_turn}
use Rattle.serve_shared.proofs.TurnCases.{is_out, leave_some, leave_ends}
use Rattle.serve_shared.proofs.turns.leave_turn.Goals as goal

pub leave-stroke-requires-clause-lease : goal.leave-stroke-requires-clause-lease
leave-stroke-requires-clause-lease g c =
    let core = c.enter-core.result.0 in
    let t = in_turn g.I.Held c.args.worker.now c.args.seat core c.requires.sits c.enter-core.ensures.stands c.account.ensures c.enter-core.ensures.own c.enter-core.ensures.seen in
    is_out g.I.Held c.args.worker.now c.args.seat core t c.number.result c.number.ensures c.args.lease c.requires.out

pub leave-seat-requires-clause-stands : goal.leave-seat-requires-clause-stands
leave-seat-requires-clause-stands g c =
    let core = c.enter-core.result.0 in
    let t = in_turn g.I.Held c.args.worker.now c.args.seat core c.requires.sits c.enter-core.ensures.stands c.account.ensures c.enter-core.ensures.own c.enter-core.ensures.seen in
    stands_left g.I.Held c.args.worker.now c.args.seat core t c.enter-core.result.1 c.enter-core.ensures.turn c.leave-stroke.new.core (leave_some g.I.Held c.args.worker.now c.args.seat core t c.number.result c.number.ensures c.args.lease c.requires.out c.leave-stroke.new.core c.requires.lent c.leave-stroke.ensures)

pub leave-seat-requires-clause-added : goal.leave-seat-requires-clause-added
leave-seat-requires-clause-added g c =
    let core = c.enter-core.result.0 in
    let t = in_turn g.I.Held c.args.worker.now c.args.seat core c.requires.sits c.enter-core.ensures.stands c.account.ensures c.enter-core.ensures.own c.enter-core.ensures.seen in
    adds_left g.I.Held c.args.worker.now c.args.seat core t c.enter-core.result.1 c.enter-core.ensures.turn c.leave-stroke.new.core (leave_some g.I.Held c.args.worker.now c.args.seat core t c.number.result c.number.ensures c.args.lease c.requires.out c.leave-stroke.new.core c.requires.lent c.leave-stroke.ensures)

pub returns : goal.returns
returns g c =
    let core = c.enter-core.result.0 in
    let t = in_turn g.I.Held c.args.worker.now c.args.seat core c.requires.sits c.enter-core.ensures.stands c.account.ensures c.enter-core.ensures.own c.enter-core.ensures.seen in
    leave_ends g.I.Held c.args.worker.now c.args.seat core t c.number.result c.number.ensures c.args.lease c.requires.out c.leave-stroke.new.core c.requires.lent c.leave-stroke.ensures c.leave-seat.result (left_turn g.I.Held c.args.worker.now c.args.seat core t c.leave-stroke.new.core c.enter-core.result.1 c.leave-seat.result c.enter-core.ensures.turn c.leave-seat.ensures.seat c.leave-seat.ensures.own)
