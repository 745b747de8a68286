use Rattle.serve_shared.proofs.TurnLemmas.{in_turn, stands_left, adds_left, left_turn}
use Rattle.serve_shared.proofs.TurnCases.{has_output, output_got, deliver_some, deliver_ends}
use Rattle.serve_shared.proofs.turns.deliver_turn.Goals as goal

pub deliver-requires-clause-low : goal.deliver-requires-clause-low
deliver-requires-clause-low g c =
    let core = c.enter-core.result.0 in
    let t = in_turn g.I.Held c.args.worker.now c.args.seat core c.requires.work.sits c.enter-core.ensures.stands c.account.ensures c.enter-core.ensures.own c.enter-core.ensures.seen in
    (has_output g.I.Held c.args.worker.now c.args.seat core t c.number.result c.number.ensures c.args.key c.requires.taken c.requires.root).low

pub deliver-requires-clause-taken : goal.deliver-requires-clause-taken
deliver-requires-clause-taken g c =
    let core = c.enter-core.result.0 in
    let t = in_turn g.I.Held c.args.worker.now c.args.seat core c.requires.work.sits c.enter-core.ensures.stands c.account.ensures c.enter-core.ensures.own c.enter-core.ensures.seen in
    (has_output g.I.Held c.args.worker.now c.args.seat core t c.number.result c.number.ensures c.args.key c.requires.taken c.requires.root).taken

pub deliver-requires-clause-open : goal.deliver-requires-clause-open
deliver-requires-clause-open g c =
    let core = c.enter-core.result.0 in
    let t = in_turn g.I.Held c.args.worker.now c.args.seat core c.requires.work.sits c.enter-core.ensures.stands c.account.ensures c.enter-core.ensures.own c.enter-core.ensures.seen in
    (has_output g.I.Held c.args.worker.now c.args.seat core t c.number.result c.number.ensures c.args.key c.requires.taken c.requires.root).undelivered

pub deliver-requires-clause-got : goal.deliver-requires-clause-got
deliver-requires-clause-got g c =
    let core = c.enter-core.result.0 in
    let t = in_turn g.I.Held c.args.worker.now c.args.seat core c.requires.work.sits c.enter-core.ensures.stands c.account.ensures c.enter-core.ensures.own c.enter-core.ensures.seen in
    output_got g.I.Held c.args.worker.now c.args.seat core t c.number.result c.number.ensures c.args.key c.requires.taken c.requires.root c.requires.got

pub leave-requires-clause-stands : goal.leave-requires-clause-stands
leave-requires-clause-stands g c =
    let core = c.enter-core.result.0 in
    let t = in_turn g.I.Held c.args.worker.now c.args.seat core c.requires.work.sits c.enter-core.ensures.stands c.account.ensures c.enter-core.ensures.own c.enter-core.ensures.seen in
    stands_left g.I.Held c.args.worker.now c.args.seat core t c.enter-core.result.1 c.enter-core.ensures.turn c.deliver.new.self (deliver_some g.I.Held c.args.worker.now c.args.seat core t c.number.result c.number.ensures c.args.key c.requires.taken c.requires.root c.deliver.new.self c.args.frame c.requires.right c.deliver.ensures)

pub leave-requires-clause-added : goal.leave-requires-clause-added
leave-requires-clause-added g c =
    let core = c.enter-core.result.0 in
    let t = in_turn g.I.Held c.args.worker.now c.args.seat core c.requires.work.sits c.enter-core.ensures.stands c.account.ensures c.enter-core.ensures.own c.enter-core.ensures.seen in
    adds_left g.I.Held c.args.worker.now c.args.seat core t c.enter-core.result.1 c.enter-core.ensures.turn c.deliver.new.self (deliver_some g.I.Held c.args.worker.now c.args.seat core t c.number.result c.number.ensures c.args.key c.requires.taken c.requires.root c.deliver.new.self c.args.frame c.requires.right c.deliver.ensures)

pub returns : goal.returns
returns g c =
    let core = c.enter-core.result.0 in
    let t = in_turn g.I.Held c.args.worker.now c.args.seat core c.requires.work.sits c.enter-core.ensures.stands c.account.ensures c.enter-core.ensures.own c.enter-core.ensures.seen in
    deliver_ends g.I.Held c.args.worker.now c.args.seat core t c.number.result c.number.ensures c.args.key c.requires.taken c.requires.root c.deliver.new.self c.args.frame c.requires.right c.deliver.ensures c.leave.result (left_turn g.I.Held c.args.worker.now c.args.seat core t c.deliver.new.self c.enter-core.result.1 c.leave.result c.enter-core.ensures.turn c.leave.ensures.seat c.leave.ensures.own)
