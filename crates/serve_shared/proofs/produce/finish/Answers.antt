use Rattle.std.proofs.Common.{IfOk, subst}
use Rattle.serve_shared.specs.Shares.{Made}
use Rattle.serve_shared.proofs.MakeLemmas.{made_work, made_claim, made_got, made_again, finished_ok, finished_err}
use Rattle.serve_shared.proofs.produce.finish.Goals as goal

pub publish-seat-requires-clause-work : goal.publish-seat-requires-clause-work
publish-seat-requires-clause-work g c =
    let me = c.args.worker.now in
    let mid = c.make-seat.result.0 in
    let made = subst (λ r. IfOk r (λ x. Made g.I.Held me c.args.seat c.args.key x mid)) c.in-Ok.is c.make-seat.ensures.ok in
    made_work g.I.Held me c.args.seat mid c.args.key c.in-Ok.frame c.requires.work made

pub publish-seat-requires-clause-claim : goal.publish-seat-requires-clause-claim
publish-seat-requires-clause-claim g c =
    let me = c.args.worker.now in
    let mid = c.make-seat.result.0 in
    let made = subst (λ r. IfOk r (λ x. Made g.I.Held me c.args.seat c.args.key x mid)) c.in-Ok.is c.make-seat.ensures.ok in
    made_claim g.I.Held me c.args.seat mid c.args.key c.in-Ok.frame c.requires.work made c.requires.claim

pub publish-seat-requires-clause-got : goal.publish-seat-requires-clause-got
publish-seat-requires-clause-got g c =
    let me = c.args.worker.now in
    let mid = c.make-seat.result.0 in
    let made = subst (λ r. IfOk r (λ x. Made g.I.Held me c.args.seat c.args.key x mid)) c.in-Ok.is c.make-seat.ensures.ok in
    made_got g.I.Held me c.args.seat mid c.args.key c.in-Ok.frame c.requires.work made c.requires.got

pub publish-seat-requires-clause-shape : goal.publish-seat-requires-clause-shape
publish-seat-requires-clause-shape g c =
    let me = c.args.worker.now in
    let mid = c.make-seat.result.0 in
    let made = subst (λ r. IfOk r (λ x. Made g.I.Held me c.args.seat c.args.key x mid)) c.in-Ok.is c.make-seat.ensures.ok in
    made.shape

pub publish-seat-requires-clause-right : goal.publish-seat-requires-clause-right
publish-seat-requires-clause-right g c =
    let me = c.args.worker.now in
    let mid = c.make-seat.result.0 in
    let made = subst (λ r. IfOk r (λ x. Made g.I.Held me c.args.seat c.args.key x mid)) c.in-Ok.is c.make-seat.ensures.ok in
    made_again g.I.Held me c.args.seat mid c.args.key c.in-Ok.frame c.requires.work made

pub returns-in-Ok-published-clause-ok : goal.returns-in-Ok-published-clause-ok
returns-in-Ok-published-clause-ok g c =
    let me = c.args.worker.now in
    let mid = c.make-seat.result.0 in
    let made = subst (λ r. IfOk r (λ x. Made g.I.Held me c.args.seat c.args.key x mid)) c.in-Ok.is c.make-seat.ensures.ok in
    finished_ok g.I.Held me c.args.seat mid c.args.key c.in-Ok.frame c.requires.work made c.publish-seat.result.0 c.publish-seat.result.1 c.publish-seat.ensures c.in-Ok-published.field-0 c.in-Ok-published.is

pub returns-in-Err-published-clause-err : goal.returns-in-Err-published-clause-err
returns-in-Err-published-clause-err g c =
    let me = c.args.worker.now in
    let mid = c.make-seat.result.0 in
    let made = subst (λ r. IfOk r (λ x. Made g.I.Held me c.args.seat c.args.key x mid)) c.in-Ok.is c.make-seat.ensures.ok in
    finished_err g.I.Held me c.args.seat mid c.args.key c.in-Ok.frame c.requires.work made c.publish-seat.result.0 c.publish-seat.result.1 c.publish-seat.ensures c.in-Err-published.stop c.in-Err-published.is
