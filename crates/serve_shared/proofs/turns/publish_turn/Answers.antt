use Rattle.serve_shared.proofs.TurnLemmas.{in_turn, stands_left, adds_left, left_turn}
use Rattle.serve_shared.proofs.TurnCases.{runs, is_claimed, no_lease, got_inputs, publish_some, publish_ends}
use Rattle.serve_shared.proofs.turns.publish_turn.Goals as goal

pub publish-done-requires-clause-worker : goal.publish-done-requires-clause-worker
publish-done-requires-clause-worker g c =
    let core = c.enter-core.result.0 in
    let t = in_turn g.I.Held c.args.worker.now c.args.seat core c.requires.work.sits c.enter-core.ensures.stands c.account.ensures c.enter-core.ensures.own c.enter-core.ensures.seen in
    runs g.I.Held c.args.worker.now c.args.seat core t c.number.result c.number.ensures

pub publish-done-requires-clause-claim : goal.publish-done-requires-clause-claim
publish-done-requires-clause-claim g c =
    let core = c.enter-core.result.0 in
    let t = in_turn g.I.Held c.args.worker.now c.args.seat core c.requires.work.sits c.enter-core.ensures.stands c.account.ensures c.enter-core.ensures.own c.enter-core.ensures.seen in
    is_claimed g.I.Held c.args.worker.now c.args.seat core t c.number.result c.number.ensures c.args.key c.requires.claim

pub publish-done-requires-clause-hands : goal.publish-done-requires-clause-hands
publish-done-requires-clause-hands g c =
    let core = c.enter-core.result.0 in
    let t = in_turn g.I.Held c.args.worker.now c.args.seat core c.requires.work.sits c.enter-core.ensures.stands c.account.ensures c.enter-core.ensures.own c.enter-core.ensures.seen in
    no_lease g.I.Held c.args.worker.now c.args.seat core t c.number.result c.number.ensures c.requires.work.unlent

pub publish-done-requires-clause-got : goal.publish-done-requires-clause-got
publish-done-requires-clause-got g c =
    let core = c.enter-core.result.0 in
    let t = in_turn g.I.Held c.args.worker.now c.args.seat core c.requires.work.sits c.enter-core.ensures.stands c.account.ensures c.enter-core.ensures.own c.enter-core.ensures.seen in
    got_inputs g.I.Held c.args.worker.now c.args.seat core t c.number.result c.number.ensures c.args.key c.requires.got

pub leave-seat-requires-clause-stands : goal.leave-seat-requires-clause-stands
leave-seat-requires-clause-stands g c =
    let core = c.enter-core.result.0 in
    let t = in_turn g.I.Held c.args.worker.now c.args.seat core c.requires.work.sits c.enter-core.ensures.stands c.account.ensures c.enter-core.ensures.own c.enter-core.ensures.seen in
    stands_left g.I.Held c.args.worker.now c.args.seat core t c.enter-core.result.1 c.enter-core.ensures.turn c.publish-done.new.core (publish_some g.I.Held c.args.worker.now c.args.seat core t c.number.result c.number.ensures c.publish-done.new.core c.args.key c.args.frame c.requires.right c.publish-done.result.0 c.publish-done.ensures.ok c.publish-done.ensures.err)

pub leave-seat-requires-clause-added : goal.leave-seat-requires-clause-added
leave-seat-requires-clause-added g c =
    let core = c.enter-core.result.0 in
    let t = in_turn g.I.Held c.args.worker.now c.args.seat core c.requires.work.sits c.enter-core.ensures.stands c.account.ensures c.enter-core.ensures.own c.enter-core.ensures.seen in
    adds_left g.I.Held c.args.worker.now c.args.seat core t c.enter-core.result.1 c.enter-core.ensures.turn c.publish-done.new.core (publish_some g.I.Held c.args.worker.now c.args.seat core t c.number.result c.number.ensures c.publish-done.new.core c.args.key c.args.frame c.requires.right c.publish-done.result.0 c.publish-done.ensures.ok c.publish-done.ensures.err)

pub returns : goal.returns
returns g c =
    let core = c.enter-core.result.0 in
    let t = in_turn g.I.Held c.args.worker.now c.args.seat core c.requires.work.sits c.enter-core.ensures.stands c.account.ensures c.enter-core.ensures.own c.enter-core.ensures.seen in
    publish_ends g.I.Held c.args.worker.now c.args.seat core t c.number.result c.number.ensures c.publish-done.new.core c.args.key c.args.frame c.requires.right c.publish-done.result.0 c.publish-done.ensures.ok c.publish-done.ensures.err c.leave-seat.result (left_turn g.I.Held c.args.worker.now c.args.seat core t c.publish-done.new.core c.enter-core.result.1 c.leave-seat.result c.enter-core.ensures.turn c.leave-seat.ensures.seat c.leave-seat.ensures.own)
