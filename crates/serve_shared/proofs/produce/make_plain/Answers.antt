-- A turn may come before the frame is made, which adds nothing.
use Rattle.std.proofs.Common.{◌∙◌, [], sym, subst}
use Rattle.serve_shared.specs.Shares.{StopsNow, CutMake, unmade}
use Rattle.serve_shared.proofs.MakeLemmas.{plain_made, stops_at_once}
use Rattle.serve_shared.proofs.SeatLemmas.{same_lock, work_waits, stops_since}
use Rattle.serve_shared.proofs.produce.make_plain.Goals as goal

pub fail_turn-requires-clause-lock : goal.fail_turn-requires-clause-lock
fail_turn-requires-clause-lock g c = same_lock c.args.seat c.spare_memory-seat.result.0 c.spare_memory-seat.ensures.seat_is ∙ c.requires.lock

pub fail_turn-requires-clause-work : goal.fail_turn-requires-clause-work
fail_turn-requires-clause-work g c = work_waits c.args.worker.now c.args.seat c.spare_memory-seat.result.0 c.spare_memory-seat.ensures c.requires.work

pub returns-in-Ok-clause-ok : goal.returns-in-Ok-clause-ok
returns-in-Ok-clause-ok g c =
    let me = c.args.worker.now in
    plain_made g.I.Held me c.args.seat c.args.key c.args.frames.now c.in-Ok.frame c.graph.result.now c.graph.ensures c.requires.work.sits c.requires.key c.requires.mode c.requires.right c.in-Ok.ensures.made c.spare_memory-seat.result.0 c.spare_memory-seat.ensures

pub returns-in-Err-clause-err : goal.returns-in-Err-clause-err
returns-in-Err-clause-err g c =
    let me = c.args.worker.now in
    stops_at_once me c.args.seat c.in-Err.stop c.fail_turn.result (CutMake me.plan me.number c.args.key.node) [] unmade
    (stops_since me c.args.seat c.spare_memory-seat.result.0 c.spare_memory-seat.ensures c.in-Err.stop c.fail_turn.result
    (subst (λ why. StopsNow me why [] c.spare_memory-seat.result.0 c.fail_turn.result) (sym c.in-Err.ensures.stop) c.fail_turn.ensures))
