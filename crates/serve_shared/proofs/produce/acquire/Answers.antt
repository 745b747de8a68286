use Rattle.std.proofs.Common.{rules, Ok, ap, ◌∙◌}
use Rattle.serve_machine.specs.Events.{has}
use Rattle.serve_machine.specs.Holdings.{Holdings}
use Rattle.serve_shared.proofs.SeatLemmas.{adds_nothing, same_lock, work_waits, holdings_wait, gets_lent, gets_stopped, gets_again}
use Rattle.serve_shared.proofs.produce.acquire.Goals as goal

pub loop-init : goal.loop-init
loop-init g c = record { can = search rules; ends = search rules; waits = adds_nothing c.args.seat }

pub enter_turn-later-requires-clause-lock : goal.enter_turn-later-requires-clause-lock
enter_turn-later-requires-clause-lock g c = same_lock c.args.seat c.loop.seat c.loop.invariant.waits.seat_is ∙ c.requires.lock

pub enter_turn-later-requires-clause-work : goal.enter_turn-later-requires-clause-work
enter_turn-later-requires-clause-work g c = work_waits c.args.worker.now c.args.seat c.loop.seat c.loop.invariant.waits c.requires.work

pub enter_turn-later-requires-clause-claim : goal.enter_turn-later-requires-clause-claim
enter_turn-later-requires-clause-claim g c = ap (λ (h : Holdings). has c.args.key h.claims) (holdings_wait c.args.worker.now c.args.seat c.loop.seat c.loop.invariant.waits) ∙ c.requires.claim

pub returns-in-Ok-Leased : goal.returns-in-Ok-Leased
returns-in-Ok-Leased g c = gets_lent c.args.worker.now c.args.seat c.loop.seat c.loop.invariant.waits g.I.Held c.enter_turn-later.result.0 c.args.key.node c.in-Ok-Leased.lease c.enter_turn-later.result.1 (c.in-Ok-Leased.is ∙ ap Ok c.in-Ok-Leased.field-0-is) c.enter_turn-later.ensures

pub returns-in-Err : goal.returns-in-Err
returns-in-Err g c = gets_stopped c.args.worker.now c.args.seat c.loop.seat c.loop.invariant.waits g.I.Held c.enter_turn-later.result.0 c.args.key.node c.in-Err.stop c.enter_turn-later.result.1 c.in-Err.is c.enter_turn-later.ensures

pub loop-preserved : goal.loop-preserved
loop-preserved g c = record {
  can = search rules;
  ends = search rules;
  waits = gets_again c.args.worker.now c.args.seat c.loop.seat c.loop.invariant.waits g.I.Held c.enter_turn-later.result.0 c.args.key.node c.in-Ok-Busy.heard c.enter_turn-later.result.1 (c.in-Ok-Busy.is ∙ ap Ok c.in-Ok-Busy.field-0-is) c.enter_turn-later.ensures;
}
