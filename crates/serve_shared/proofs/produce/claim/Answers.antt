use Rattle.std.proofs.Common.{rules, Ok, ap, ◌∙◌}
use Rattle.serve_machine.specs.Events.{has}
use Rattle.serve_machine.specs.Holdings.{Holdings}
use Rattle.serve_shared.proofs.SeatLemmas.{adds_nothing, same_lock, work_waits, holdings_wait, asks_hit, asks_claimed, asks_stopped, asks_again}
use Rattle.serve_shared.proofs.produce.claim.Goals as goal

pub loop-init : goal.loop-init
loop-init g c = record { can = search rules; ends = search rules; waits = adds_nothing c.args.seat }

pub ask_turn-later-requires-clause-lock : goal.ask_turn-later-requires-clause-lock
ask_turn-later-requires-clause-lock g c = same_lock c.args.seat c.loop.seat c.loop.invariant.waits.seat_is ∙ c.requires.lock

pub ask_turn-later-requires-clause-work : goal.ask_turn-later-requires-clause-work
ask_turn-later-requires-clause-work g c = work_waits c.args.worker.now c.args.seat c.loop.seat c.loop.invariant.waits c.requires.work

pub ask_turn-later-requires-clause-open : goal.ask_turn-later-requires-clause-open
ask_turn-later-requires-clause-open g c = ap (λ (h : Holdings). has c.args.key h.claims) (holdings_wait c.args.worker.now c.args.seat c.loop.seat c.loop.invariant.waits) ∙ c.requires.open

pub returns-in-Ok-Hit : goal.returns-in-Ok-Hit
returns-in-Ok-Hit g c = asks_hit c.args.worker.now c.args.seat c.loop.seat c.loop.invariant.waits g.I.Held c.ask_turn-later.result.0 c.args.key c.in-Ok-Hit.frame c.ask_turn-later.result.1 (c.in-Ok-Hit.is ∙ ap Ok c.in-Ok-Hit.field-0-is) c.ask_turn-later.ensures

pub returns-in-Ok-Claimed : goal.returns-in-Ok-Claimed
returns-in-Ok-Claimed g c = asks_claimed c.args.worker.now c.args.seat c.loop.seat c.loop.invariant.waits g.I.Held c.ask_turn-later.result.0 c.args.key c.ask_turn-later.result.1 (c.in-Ok-Claimed.is ∙ ap Ok c.in-Ok-Claimed.field-0-is) c.ask_turn-later.ensures

pub returns-in-Err : goal.returns-in-Err
returns-in-Err g c = asks_stopped c.args.worker.now c.args.seat c.loop.seat c.loop.invariant.waits g.I.Held c.ask_turn-later.result.0 c.args.key c.in-Err.stop c.ask_turn-later.result.1 c.in-Err.is c.ask_turn-later.ensures

pub loop-preserved : goal.loop-preserved
loop-preserved g c = record {
  can = search rules;
  ends = search rules;
  waits = asks_again c.args.worker.now c.args.seat c.loop.seat c.loop.invariant.waits g.I.Held c.ask_turn-later.result.0 c.args.key c.in-Ok-Taken.heard c.ask_turn-later.result.1 (c.in-Ok-Taken.is ∙ ap Ok c.in-Ok-Taken.field-0-is) c.ask_turn-later.ensures;
}
