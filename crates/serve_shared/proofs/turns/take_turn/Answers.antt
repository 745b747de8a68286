use Rattle.serve_shared.proofs.TurnLemmas.{in_turn, stands_left, adds_left, left_turn}
use Rattle.serve_shared.proofs.TurnCases.{runs, take_some, take_ends}
use Rattle.serve_shared.proofs.turns.take_turn.Goals as goal

pub take-taken-requires : goal.take-taken-requires
take-taken-requires g c =
    let core = c.enter-core.result.0 in
    let t = in_turn g.I.Held c.args.worker.now c.args.seat core c.requires.work.sits c.enter-core.ensures.stands c.account.ensures c.enter-core.ensures.own c.enter-core.ensures.seen in
    runs g.I.Held c.args.worker.now c.args.seat core t c.number.result c.number.ensures

pub leave-seat-requires-clause-stands : goal.leave-seat-requires-clause-stands
leave-seat-requires-clause-stands g c =
    let core = c.enter-core.result.0 in
    let t = in_turn g.I.Held c.args.worker.now c.args.seat core c.requires.work.sits c.enter-core.ensures.stands c.account.ensures c.enter-core.ensures.own c.enter-core.ensures.seen in
    stands_left g.I.Held c.args.worker.now c.args.seat core t c.enter-core.result.1 c.enter-core.ensures.turn c.take-taken.new.core (take_some g.I.Held c.args.worker.now c.args.seat core t c.take-taken.new.core c.number.result c.number.ensures c.take-taken.result.0 c.take-taken.ensures.ok c.take-taken.ensures.err)

pub leave-seat-requires-clause-added : goal.leave-seat-requires-clause-added
leave-seat-requires-clause-added g c =
    let core = c.enter-core.result.0 in
    let t = in_turn g.I.Held c.args.worker.now c.args.seat core c.requires.work.sits c.enter-core.ensures.stands c.account.ensures c.enter-core.ensures.own c.enter-core.ensures.seen in
    adds_left g.I.Held c.args.worker.now c.args.seat core t c.enter-core.result.1 c.enter-core.ensures.turn c.take-taken.new.core (take_some g.I.Held c.args.worker.now c.args.seat core t c.take-taken.new.core c.number.result c.number.ensures c.take-taken.result.0 c.take-taken.ensures.ok c.take-taken.ensures.err)

pub returns : goal.returns
returns g c =
    let core = c.enter-core.result.0 in
    let t = in_turn g.I.Held c.args.worker.now c.args.seat core c.requires.work.sits c.enter-core.ensures.stands c.account.ensures c.enter-core.ensures.own c.enter-core.ensures.seen in
    take_ends g.I.Held c.args.worker.now c.args.seat core t c.take-taken.new.core c.number.result c.number.ensures c.take-taken.result.0 c.take-taken.ensures.ok c.take-taken.ensures.err c.leave-seat.result (left_turn g.I.Held c.args.worker.now c.args.seat core t c.take-taken.new.core c.enter-core.result.1 c.leave-seat.result c.enter-core.ensures.turn c.leave-seat.ensures.seat c.leave-seat.ensures.own)
