use Rattle.std.proofs.Common.{◌≡◌, sym, ap, ◌∙◌}
use Rattle.serve_machine.specs.Events.{mode_at}
use Rattle.serve_shared.proofs.MakeLemmas.{sits_now, out_now, entered_it, lent_later, right_later, made_between, unmade_between, not_got}
use Rattle.serve_shared.proofs.produce.make.Goals as goal

pub make_plain-requires-clause-mode : goal.make_plain-requires-clause-mode
make_plain-requires-clause-mode g c = ap (λ plan. mode_at plan c.args.key.node) (sym c.graph.ensures) ∙ (ap (λ a. a.mode) (sym c.node.ensures) ∙ c.if-node-eq1.true)

pub acquire-seat-requires-clause-mode : goal.acquire-seat-requires-clause-mode
acquire-seat-requires-clause-mode g c = λ one. c.if-node-eq1.false (ap (λ a. a.mode) c.node.ensures ∙ (ap (λ plan. mode_at plan c.args.key.node) c.graph.ensures ∙ one))

pub lend-requires-clause-sits : goal.lend-requires-clause-sits
lend-requires-clause-sits g c = sits_now g.I.Held c.args.worker.now c.args.seat c.acquire-seat.result.0 c.args.key c.in-Ok.lease c.acquire-seat.result.1 c.in-Ok.is c.acquire-seat.ensures c.requires.work.sits

pub lend-requires-clause-right : goal.lend-requires-clause-right
lend-requires-clause-right g c = right_later g.I.Held c.args.worker.now c.args.seat c.acquire-seat.result.0 c.args.key c.in-Ok.lease c.acquire-seat.result.1 c.in-Ok.is c.acquire-seat.ensures c.args.frames.now c.requires.right

pub lend-requires-clause-out : goal.lend-requires-clause-out
lend-requires-clause-out g c = out_now g.I.Held c.args.worker.now c.args.seat c.acquire-seat.result.0 c.args.key c.in-Ok.lease c.acquire-seat.result.1 c.in-Ok.is c.acquire-seat.ensures

pub lend-requires-clause-entered : goal.lend-requires-clause-entered
lend-requires-clause-entered g c = entered_it g.I.Held c.args.worker.now c.args.seat c.acquire-seat.result.0 c.args.key c.in-Ok.lease c.acquire-seat.result.1 c.in-Ok.is c.acquire-seat.ensures

pub lend-requires-clause-lent : goal.lend-requires-clause-lent
lend-requires-clause-lent g c = lent_later g.I.Held c.args.worker.now c.args.seat c.acquire-seat.result.0 c.args.key c.in-Ok.lease c.acquire-seat.result.1 c.in-Ok.is c.acquire-seat.ensures

pub returns-in-Ok-clause-ok : goal.returns-in-Ok-clause-ok
returns-in-Ok-clause-ok g c =
    let many : mode_at c.args.worker.now.plan c.args.key.node ≡ 1 → ⊥ = λ one. c.if-node-eq1.false (ap (λ a. a.mode) c.node.ensures ∙ (ap (λ plan. mode_at plan c.args.key.node) c.graph.ensures ∙ one)) in
    made_between g.I.Held c.args.worker.now c.args.seat c.acquire-seat.result.0 c.args.key c.in-Ok.lease c.acquire-seat.result.1 c.in-Ok.is c.acquire-seat.ensures c.lend.result.0 many c.lend.result.1 c.lend.ensures

pub returns-in-Ok-clause-err : goal.returns-in-Ok-clause-err
returns-in-Ok-clause-err g c =
    let many : mode_at c.args.worker.now.plan c.args.key.node ≡ 1 → ⊥ = λ one. c.if-node-eq1.false (ap (λ a. a.mode) c.node.ensures ∙ (ap (λ plan. mode_at plan c.args.key.node) c.graph.ensures ∙ one)) in
    unmade_between g.I.Held c.args.worker.now c.args.seat c.acquire-seat.result.0 c.args.key c.in-Ok.lease c.acquire-seat.result.1 c.in-Ok.is c.acquire-seat.ensures c.lend.result.0 many c.lend.result.1 c.lend.ensures

pub returns-in-Err-clause-err : goal.returns-in-Err-clause-err
returns-in-Err-clause-err g c = not_got g.I.Held c.args.worker.now c.args.seat c.acquire-seat.result.0 c.args.key c.in-Err.stop c.acquire-seat.result.1 c.in-Err.is c.acquire-seat.ensures
