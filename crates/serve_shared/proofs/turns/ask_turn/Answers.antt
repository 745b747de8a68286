use Rattle.serve_shared.proofs.TurnLemmas.{in_turn, stands_left, adds_left, left_turn}
use Rattle.serve_shared.proofs.TurnCases.{runs, not_claimed, ask_some, ask_ends}
use Rattle.serve_shared.proofs.turns.ask_turn.Goals as goal

pub ask-found-requires-clause-worker : goal.ask-found-requires-clause-worker
ask-found-requires-clause-worker g c =
    let core = c.enter-core.result.0 in
    let t = in_turn g.I.Held c.args.worker.now c.args.seat core c.requires.work.sits c.enter-core.ensures.stands c.account.ensures c.enter-core.ensures.own c.enter-core.ensures.seen in
    runs g.I.Held c.args.worker.now c.args.seat core t c.number.result c.number.ensures

pub ask-found-requires-clause-open : goal.ask-found-requires-clause-open
ask-found-requires-clause-open g c =
    let core = c.enter-core.result.0 in
    let t = in_turn g.I.Held c.args.worker.now c.args.seat core c.requires.work.sits c.enter-core.ensures.stands c.account.ensures c.enter-core.ensures.own c.enter-core.ensures.seen in
    not_claimed g.I.Held c.args.worker.now c.args.seat core t c.number.result c.number.ensures c.args.key c.requires.open

pub leave-seat-requires-clause-stands : goal.leave-seat-requires-clause-stands
leave-seat-requires-clause-stands g c =
    let core = c.enter-core.result.0 in
    let t = in_turn g.I.Held c.args.worker.now c.args.seat core c.requires.work.sits c.enter-core.ensures.stands c.account.ensures c.enter-core.ensures.own c.enter-core.ensures.seen in
    stands_left g.I.Held c.args.worker.now c.args.seat core t c.enter-core.result.1 c.enter-core.ensures.turn c.ask-found.new.core
    (ask_some g.I.Held c.args.worker.now c.args.seat core t c.ask-found.new.core c.args.key c.number.result c.number.ensures c.ask-found.result.0 c.ask-found.ensures.ok c.ask-found.ensures.err)

pub leave-seat-requires-clause-added : goal.leave-seat-requires-clause-added
leave-seat-requires-clause-added g c =
    let core = c.enter-core.result.0 in
    let t = in_turn g.I.Held c.args.worker.now c.args.seat core c.requires.work.sits c.enter-core.ensures.stands c.account.ensures c.enter-core.ensures.own c.enter-core.ensures.seen in
    adds_left g.I.Held c.args.worker.now c.args.seat core t c.enter-core.result.1 c.enter-core.ensures.turn c.ask-found.new.core
    (ask_some g.I.Held c.args.worker.now c.args.seat core t c.ask-found.new.core c.args.key c.number.result c.number.ensures c.ask-found.result.0 c.ask-found.ensures.ok c.ask-found.ensures.err)

pub returns : goal.returns
returns g c =
    let core = c.enter-core.result.0 in
    let t = in_turn g.I.Held c.args.worker.now c.args.seat core c.requires.work.sits c.enter-core.ensures.stands c.account.ensures c.enter-core.ensures.own c.enter-core.ensures.seen in
    ask_ends g.I.Held c.args.worker.now c.args.seat core t c.ask-found.new.core c.args.key c.number.result c.number.ensures c.ask-found.result.0 c.ask-found.ensures.ok c.ask-found.ensures.err c.leave-seat.result
    (left_turn g.I.Held c.args.worker.now c.args.seat core t c.ask-found.new.core c.enter-core.result.1 c.leave-seat.result c.enter-core.ensures.turn c.leave-seat.ensures.seat c.leave-seat.ensures.own)
