use Rattle.serve_shared.proofs.TurnLemmas.{in_turn, stands_left, adds_left, left_turn}
use Rattle.serve_shared.proofs.TurnCases.{runs, fail_some, fail_ends}
use Rattle.serve_shared.proofs.turns.fail_turn.Goals as goal

pub fail-stroke-requires-clause-worker : goal.fail-stroke-requires-clause-worker
fail-stroke-requires-clause-worker g c =
    let core = c.enter-core.result.0 in
    let t = in_turn g.I.Held c.args.worker.now c.args.seat core c.requires.work.sits c.enter-core.ensures.stands c.account.ensures c.enter-core.ensures.own c.enter-core.ensures.seen in
    runs g.I.Held c.args.worker.now c.args.seat core t c.number.result c.number.ensures

pub leave-seat-requires-clause-stands : goal.leave-seat-requires-clause-stands
leave-seat-requires-clause-stands g c =
    let core = c.enter-core.result.0 in
    let t = in_turn g.I.Held c.args.worker.now c.args.seat core c.requires.work.sits c.enter-core.ensures.stands c.account.ensures c.enter-core.ensures.own c.enter-core.ensures.seen in
    stands_left g.I.Held c.args.worker.now c.args.seat core t c.enter-core.result.1 c.enter-core.ensures.turn c.fail-stroke.new.core (fail_some g.I.Held c.args.worker.now c.args.seat core t c.number.result c.number.ensures c.fail-stroke.new.core c.fail-stroke.ensures)

pub leave-seat-requires-clause-added : goal.leave-seat-requires-clause-added
leave-seat-requires-clause-added g c =
    let core = c.enter-core.result.0 in
    let t = in_turn g.I.Held c.args.worker.now c.args.seat core c.requires.work.sits c.enter-core.ensures.stands c.account.ensures c.enter-core.ensures.own c.enter-core.ensures.seen in
    adds_left g.I.Held c.args.worker.now c.args.seat core t c.enter-core.result.1 c.enter-core.ensures.turn c.fail-stroke.new.core (fail_some g.I.Held c.args.worker.now c.args.seat core t c.number.result c.number.ensures c.fail-stroke.new.core c.fail-stroke.ensures)

pub returns : goal.returns
returns g c =
    let core = c.enter-core.result.0 in
    let t = in_turn g.I.Held c.args.worker.now c.args.seat core c.requires.work.sits c.enter-core.ensures.stands c.account.ensures c.enter-core.ensures.own c.enter-core.ensures.seen in
    fail_ends g.I.Held c.args.worker.now c.args.seat core t c.number.result c.number.ensures c.fail-stroke.new.core c.fail-stroke.ensures c.leave-seat.result (left_turn g.I.Held c.args.worker.now c.args.seat core t c.fail-stroke.new.core c.enter-core.result.1 c.leave-seat.result c.enter-core.ensures.turn c.leave-seat.ensures.seat c.leave-seat.ensures.own)
