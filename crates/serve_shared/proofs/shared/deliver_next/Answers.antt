use Rattle.std.proofs.Common.{IfOk, IfErr, Ok, ap, ◌∙◌, subst}
use Rattle.serve_machine.specs.Work.{CutShort}
use Rattle.serve_shared.specs.Shares.{StopsWithin, Produced}
use Rattle.serve_shared.proofs.SeatLemmas.{same_lock}
use Rattle.serve_shared.proofs.ShareLemmas.{none_left, not_taken, took_key, took_work, took_past, took_seat, cut_short, made_work, made_taken, made_seat, made_root, made_got, made_right, delivered_too}
use Rattle.serve_shared.proofs.shared.deliver_next.Goals as goal

pub returns-in_default : goal.returns-in_default
returns-in_default g c =
    none_left g.I.Held c.args.worker.now c.args.seat c.requires.work c.requires.delivered c.take_turn-seat.result.0 c.take_turn-seat.result.1 (c.in-Ok.is ∙ ap Ok c.in_default.is) c.take_turn-seat.ensures

pub returns-in-Err : goal.returns-in-Err
returns-in-Err g c =
    not_taken g.I.Held c.args.worker.now c.args.seat c.requires.work c.requires.delivered c.take_turn-seat.result.0 c.in-Err.stop c.take_turn-seat.result.1 c.in-Err.is c.take_turn-seat.ensures

pub produce-seat-requires-clause-lock : goal.produce-seat-requires-clause-lock
produce-seat-requires-clause-lock g c κs within =
    same_lock c.args.seat c.take_turn-seat.result.0 (took_seat g.I.Held c.args.worker.now c.args.seat c.requires.work c.requires.delivered c.in-Some.key c.take_turn-seat.result.0 c.take_turn-seat.result.1 (c.in-Ok.is ∙ ap Ok c.in-Some.is) c.take_turn-seat.ensures) ∙ c.requires.lock

pub produce-seat-requires-clause-work : goal.produce-seat-requires-clause-work
produce-seat-requires-clause-work g c κs within =
    took_work g.I.Held c.args.worker.now c.args.seat c.requires.work c.requires.delivered c.in-Some.key c.take_turn-seat.result.0 c.take_turn-seat.result.1 (c.in-Ok.is ∙ ap Ok c.in-Some.is) c.take_turn-seat.ensures

pub produce-seat-requires-clause-key : goal.produce-seat-requires-clause-key
produce-seat-requires-clause-key g c κs within =
    took_key g.I.Held c.args.worker.now c.args.seat c.requires.work c.requires.delivered c.in-Some.key c.take_turn-seat.result.0 c.take_turn-seat.result.1 (c.in-Ok.is ∙ ap Ok c.in-Some.is) c.take_turn-seat.ensures

pub produce-seat-requires-clause-past : goal.produce-seat-requires-clause-past
produce-seat-requires-clause-past g c κs within =
    took_past g.I.Held c.args.worker.now c.args.seat c.requires.work c.requires.delivered c.in-Some.key c.take_turn-seat.result.0 c.take_turn-seat.result.1 (c.in-Ok.is ∙ ap Ok c.in-Some.is) c.take_turn-seat.ensures

pub deliver_turn-requires-clause-lock : goal.deliver_turn-requires-clause-lock
deliver_turn-requires-clause-lock g c =
    let me = c.args.worker.now in
    let produced = subst (λ r. IfOk r (λ x. Produced g.I.Held me c.take_turn-seat.result.0 c.in-Some.key x c.produce-seat.result.0)) c.in-Ok-made.is c.produce-seat.ensures.ok in
    same_lock c.args.seat c.produce-seat.result.0 (made_seat g.I.Held c.args.worker.now c.args.seat c.requires.work c.requires.delivered c.in-Some.key c.take_turn-seat.result.0 c.take_turn-seat.result.1 (c.in-Ok.is ∙ ap Ok c.in-Some.is) c.take_turn-seat.ensures c.in-Ok-made.frame c.produce-seat.result.0 produced) ∙ c.requires.lock

pub deliver_turn-requires-clause-work : goal.deliver_turn-requires-clause-work
deliver_turn-requires-clause-work g c =
    let me = c.args.worker.now in
    let produced = subst (λ r. IfOk r (λ x. Produced g.I.Held me c.take_turn-seat.result.0 c.in-Some.key x c.produce-seat.result.0)) c.in-Ok-made.is c.produce-seat.ensures.ok in
    made_work g.I.Held c.args.worker.now c.args.seat c.requires.work c.requires.delivered c.in-Some.key c.take_turn-seat.result.0 c.take_turn-seat.result.1 (c.in-Ok.is ∙ ap Ok c.in-Some.is) c.take_turn-seat.ensures c.in-Ok-made.frame c.produce-seat.result.0 produced

pub deliver_turn-requires-clause-taken : goal.deliver_turn-requires-clause-taken
deliver_turn-requires-clause-taken g c =
    let me = c.args.worker.now in
    let produced = subst (λ r. IfOk r (λ x. Produced g.I.Held me c.take_turn-seat.result.0 c.in-Some.key x c.produce-seat.result.0)) c.in-Ok-made.is c.produce-seat.ensures.ok in
    made_taken g.I.Held c.args.worker.now c.args.seat c.requires.work c.requires.delivered c.in-Some.key c.take_turn-seat.result.0 c.take_turn-seat.result.1 (c.in-Ok.is ∙ ap Ok c.in-Some.is) c.take_turn-seat.ensures c.in-Ok-made.frame c.produce-seat.result.0 produced

pub deliver_turn-requires-clause-root : goal.deliver_turn-requires-clause-root
deliver_turn-requires-clause-root g c =
    let me = c.args.worker.now in
    let produced = subst (λ r. IfOk r (λ x. Produced g.I.Held me c.take_turn-seat.result.0 c.in-Some.key x c.produce-seat.result.0)) c.in-Ok-made.is c.produce-seat.ensures.ok in
    made_root g.I.Held c.args.worker.now c.args.seat c.requires.work c.requires.delivered c.in-Some.key c.take_turn-seat.result.0 c.take_turn-seat.result.1 (c.in-Ok.is ∙ ap Ok c.in-Some.is) c.take_turn-seat.ensures c.in-Ok-made.frame c.produce-seat.result.0 produced

pub deliver_turn-requires-clause-got : goal.deliver_turn-requires-clause-got
deliver_turn-requires-clause-got g c =
    let me = c.args.worker.now in
    let produced = subst (λ r. IfOk r (λ x. Produced g.I.Held me c.take_turn-seat.result.0 c.in-Some.key x c.produce-seat.result.0)) c.in-Ok-made.is c.produce-seat.ensures.ok in
    made_got g.I.Held c.args.worker.now c.args.seat c.requires.work c.requires.delivered c.in-Some.key c.take_turn-seat.result.0 c.take_turn-seat.result.1 (c.in-Ok.is ∙ ap Ok c.in-Some.is) c.take_turn-seat.ensures c.in-Ok-made.frame c.produce-seat.result.0 produced

pub deliver_turn-requires-clause-shape : goal.deliver_turn-requires-clause-shape
deliver_turn-requires-clause-shape g c =
    let me = c.args.worker.now in
    let produced = subst (λ r. IfOk r (λ x. Produced g.I.Held me c.take_turn-seat.result.0 c.in-Some.key x c.produce-seat.result.0)) c.in-Ok-made.is c.produce-seat.ensures.ok in
    produced.shape

pub deliver_turn-requires-clause-right : goal.deliver_turn-requires-clause-right
deliver_turn-requires-clause-right g c =
    let me = c.args.worker.now in
    let produced = subst (λ r. IfOk r (λ x. Produced g.I.Held me c.take_turn-seat.result.0 c.in-Some.key x c.produce-seat.result.0)) c.in-Ok-made.is c.produce-seat.ensures.ok in
    made_right g.I.Held c.args.worker.now c.args.seat c.requires.work c.requires.delivered c.in-Some.key c.take_turn-seat.result.0 c.take_turn-seat.result.1 (c.in-Ok.is ∙ ap Ok c.in-Some.is) c.take_turn-seat.ensures c.in-Ok-made.frame c.produce-seat.result.0 produced

pub returns-in-Ok-made : goal.returns-in-Ok-made
returns-in-Ok-made g c =
    let me = c.args.worker.now in
    let produced = subst (λ r. IfOk r (λ x. Produced g.I.Held me c.take_turn-seat.result.0 c.in-Some.key x c.produce-seat.result.0)) c.in-Ok-made.is c.produce-seat.ensures.ok in
    delivered_too g.I.Held c.args.worker.now c.args.seat c.requires.work c.requires.delivered c.in-Some.key c.take_turn-seat.result.0 c.take_turn-seat.result.1 (c.in-Ok.is ∙ ap Ok c.in-Some.is) c.take_turn-seat.ensures c.in-Ok-made.frame c.produce-seat.result.0 produced c.deliver_turn.result c.deliver_turn.ensures

pub returns-in-Err-made : goal.returns-in-Err-made
returns-in-Err-made g c =
    cut_short g.I.Held c.args.worker.now c.args.seat c.requires.work c.requires.delivered c.in-Some.key c.take_turn-seat.result.0 c.take_turn-seat.result.1 (c.in-Ok.is ∙ ap Ok c.in-Some.is) c.take_turn-seat.ensures c.produce-seat.result.0 c.in-Err-made.stop (subst (λ r. IfErr r (λ why. StopsWithin c.args.worker.now (CutShort c.args.worker.now.plan c.args.worker.now.number c.in-Some.key) why c.take_turn-seat.result.0 c.produce-seat.result.0)) c.in-Err-made.is c.produce-seat.ensures.err)
