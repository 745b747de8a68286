use Rattle.std.proofs.Common.{rules, Ok, Err, ap, ◌∙◌, subst}
use Rattle.clip_graph.specs.Plan.{IsPlan}
use Rattle.serve_shared.proofs.SeatLemmas.{same_lock}
use Rattle.serve_shared.proofs.ShareLemmas.{begins, continues, ends_well, ends_cut, own_at, worked_at}
use Rattle.serve_shared.proofs.shared.run_shared.Goals as goal

pub loop-init : goal.loop-init
loop-init g c = record {
  can = search rules;
  ends = search rules;
  so_far = begins c.args.worker.now c.args.seat (subst IsPlan c.graph.ensures c.len.ensures.plan) c.number.ensures.tagged c.requires.number c.requires.window c.requires.fresh;
}

pub deliver_next-later-requires-clause-lock : goal.deliver_next-later-requires-clause-lock
deliver_next-later-requires-clause-lock g c κs within = same_lock c.args.seat c.loop.seat c.loop.invariant.so_far.seat_is ∙ c.requires.lock

pub deliver_next-later-requires-clause-work : goal.deliver_next-later-requires-clause-work
deliver_next-later-requires-clause-work g c κs within = c.loop.invariant.so_far.work

pub deliver_next-later-requires-clause-delivered : goal.deliver_next-later-requires-clause-delivered
deliver_next-later-requires-clause-delivered g c κs within = c.loop.invariant.so_far.delivered

pub loop-preserved : goal.loop-preserved
loop-preserved g c = record {
  can = search rules;
  ends = search rules;
  so_far = continues c.args.worker.now c.args.seat c.loop.seat c.loop.invariant.so_far c.deliver_next-later.result.0 c.deliver_next-later.result.1 (c.in-Ok-true.is ∙ ap Ok c.in-Ok-true.field-0-test) c.deliver_next-later.ensures;
}

pub returns-in-Ok-false-clause-seat : goal.returns-in-Ok-false-clause-seat
returns-in-Ok-false-clause-seat g c = (ends_well c.args.worker.now c.args.seat c.loop.seat c.loop.invariant.so_far c.deliver_next-later.result.0 c.deliver_next-later.result.1 (c.in-Ok-false.is ∙ ap Ok c.in-Ok-false.field-0-test) c.deliver_next-later.ensures).seat_is

pub returns-in-Ok-false-clause-own : goal.returns-in-Ok-false-clause-own
returns-in-Ok-false-clause-own g c = own_at c.args.worker.now c.args.seat c.deliver_next-later.result.0 (Ok tt) c.requires.number (ends_well c.args.worker.now c.args.seat c.loop.seat c.loop.invariant.so_far c.deliver_next-later.result.0 c.deliver_next-later.result.1 (c.in-Ok-false.is ∙ ap Ok c.in-Ok-false.field-0-test) c.deliver_next-later.ensures)

pub returns-in-Ok-false-clause-worked : goal.returns-in-Ok-false-clause-worked
returns-in-Ok-false-clause-worked g c = worked_at c.args.worker.now c.args.seat c.deliver_next-later.result.0 (Ok tt) c.requires.number (ends_well c.args.worker.now c.args.seat c.loop.seat c.loop.invariant.so_far c.deliver_next-later.result.0 c.deliver_next-later.result.1 (c.in-Ok-false.is ∙ ap Ok c.in-Ok-false.field-0-test) c.deliver_next-later.ensures)

pub returns-in-Err-clause-seat : goal.returns-in-Err-clause-seat
returns-in-Err-clause-seat g c = (ends_cut c.args.worker.now c.args.seat c.loop.seat c.loop.invariant.so_far c.deliver_next-later.result.0 c.deliver_next-later.result.1 c.in-Err.stop c.in-Err.is c.deliver_next-later.ensures).seat_is

pub returns-in-Err-clause-own : goal.returns-in-Err-clause-own
returns-in-Err-clause-own g c = own_at c.args.worker.now c.args.seat c.deliver_next-later.result.0 (Err c.in-Err.stop) c.requires.number (ends_cut c.args.worker.now c.args.seat c.loop.seat c.loop.invariant.so_far c.deliver_next-later.result.0 c.deliver_next-later.result.1 c.in-Err.stop c.in-Err.is c.deliver_next-later.ensures)

pub returns-in-Err-clause-worked : goal.returns-in-Err-clause-worked
returns-in-Err-clause-worked g c = worked_at c.args.worker.now c.args.seat c.deliver_next-later.result.0 (Err c.in-Err.stop) c.requires.number (ends_cut c.args.worker.now c.args.seat c.loop.seat c.loop.invariant.so_far c.deliver_next-later.result.0 c.deliver_next-later.result.1 c.in-Err.stop c.in-Err.is c.deliver_next-later.ensures)
