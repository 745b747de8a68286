use Rattle.serve_shared.proofs.TurnLemmas.{in_turn, stands_left, adds_left, left_turn}
use Rattle.serve_shared.proofs.TurnCases.{is_out}
use Rattle.serve_shared.proofs.StopCases.{still_runs, cause_now, named_now, there_now, give_back_some, give_back_ends}
use Rattle.serve_shared.proofs.turns.give_back_turn.Goals as goal

pub leave-requires-clause-lease : goal.leave-requires-clause-lease
leave-requires-clause-lease g c =
    let core = c.enter-core.result.0 in
    let t = in_turn g.I.Held c.args.worker.now c.args.seat core c.requires.sits c.enter-core.ensures.stands c.account.ensures c.enter-core.ensures.own c.enter-core.ensures.seen in
    is_out g.I.Held c.args.worker.now c.args.seat core t c.number-number.result c.number-number.ensures c.args.lease c.requires.out

pub fail-stroke-requires-clause-worker : goal.fail-stroke-requires-clause-worker
fail-stroke-requires-clause-worker g c =
    let core = c.enter-core.result.0 in
    let t = in_turn g.I.Held c.args.worker.now c.args.seat core c.requires.sits c.enter-core.ensures.stands c.account.ensures c.enter-core.ensures.own c.enter-core.ensures.seen in
    still_runs g.I.Held c.args.worker.now c.args.seat core t c.number-number.result c.number-number.ensures c.args.lease c.args.stop c.requires.stopped c.requires.out c.leave.new.self c.leave.ensures

pub fail-stroke-requires-clause-cause : goal.fail-stroke-requires-clause-cause
fail-stroke-requires-clause-cause g c =
    let core = c.enter-core.result.0 in
    let t = in_turn g.I.Held c.args.worker.now c.args.seat core c.requires.sits c.enter-core.ensures.stands c.account.ensures c.enter-core.ensures.own c.enter-core.ensures.seen in
    cause_now g.I.Held c.args.worker.now c.args.seat core t c.number-number.result c.number-number.ensures c.args.lease c.args.stop c.requires.stopped c.requires.out c.leave.new.self c.leave.ensures

pub fail-stroke-requires-clause-source : goal.fail-stroke-requires-clause-source
fail-stroke-requires-clause-source g c =
    let core = c.enter-core.result.0 in
    let t = in_turn g.I.Held c.args.worker.now c.args.seat core c.requires.sits c.enter-core.ensures.stands c.account.ensures c.enter-core.ensures.own c.enter-core.ensures.seen in
    named_now g.I.Held c.args.worker.now c.args.seat core t c.number-number.result c.number-number.ensures c.args.lease c.args.stop c.requires.stopped c.requires.out c.leave.new.self c.leave.ensures

pub fail-stroke-requires-clause-there : goal.fail-stroke-requires-clause-there
fail-stroke-requires-clause-there g c =
    let core = c.enter-core.result.0 in
    let t = in_turn g.I.Held c.args.worker.now c.args.seat core c.requires.sits c.enter-core.ensures.stands c.account.ensures c.enter-core.ensures.own c.enter-core.ensures.seen in
    there_now g.I.Held c.args.worker.now c.args.seat core t c.number-number.result c.number-number.ensures c.args.lease c.args.stop c.requires.stopped c.requires.out c.leave.new.self c.leave.ensures

pub leave-seat-requires-clause-stands : goal.leave-seat-requires-clause-stands
leave-seat-requires-clause-stands g c =
    let core = c.enter-core.result.0 in
    let t = in_turn g.I.Held c.args.worker.now c.args.seat core c.requires.sits c.enter-core.ensures.stands c.account.ensures c.enter-core.ensures.own c.enter-core.ensures.seen in
    stands_left g.I.Held c.args.worker.now c.args.seat core t c.enter-core.result.1 c.enter-core.ensures.turn c.fail-stroke.new.core (give_back_some g.I.Held c.args.worker.now c.args.seat core t c.number-number.result c.number-number.ensures c.args.lease c.args.stop c.requires.stopped c.requires.out c.leave.new.self c.leave.ensures c.fail-stroke.new.core c.fail-stroke.ensures)

pub leave-seat-requires-clause-added : goal.leave-seat-requires-clause-added
leave-seat-requires-clause-added g c =
    let core = c.enter-core.result.0 in
    let t = in_turn g.I.Held c.args.worker.now c.args.seat core c.requires.sits c.enter-core.ensures.stands c.account.ensures c.enter-core.ensures.own c.enter-core.ensures.seen in
    adds_left g.I.Held c.args.worker.now c.args.seat core t c.enter-core.result.1 c.enter-core.ensures.turn c.fail-stroke.new.core (give_back_some g.I.Held c.args.worker.now c.args.seat core t c.number-number.result c.number-number.ensures c.args.lease c.args.stop c.requires.stopped c.requires.out c.leave.new.self c.leave.ensures c.fail-stroke.new.core c.fail-stroke.ensures)

pub returns : goal.returns
returns g c =
    let core = c.enter-core.result.0 in
    let t = in_turn g.I.Held c.args.worker.now c.args.seat core c.requires.sits c.enter-core.ensures.stands c.account.ensures c.enter-core.ensures.own c.enter-core.ensures.seen in
    give_back_ends g.I.Held c.args.worker.now c.args.seat core t c.number-number.result c.number-number.ensures c.args.lease c.args.stop c.requires.stopped c.requires.out c.leave.new.self c.leave.ensures c.fail-stroke.new.core c.fail-stroke.ensures c.leave-seat.result (left_turn g.I.Held c.args.worker.now c.args.seat core t c.fail-stroke.new.core c.enter-core.result.1 c.leave-seat.result c.enter-core.ensures.turn c.leave-seat.ensures.seat c.leave-seat.ensures.own)
