use Rattle.std.proofs.Common.{◌≡◌}
use Rattle.core_tests.proofs.turns.take_turns.Given as goal

-- the seat is as it was, but for what it has seen and its own entries
abbrev pub invariant-loop-turn : goal.invariant-loop-turn
invariant-loop-turn g l = l.seat ≡ record l.initial.seat { seen = l.seat.seen; own = l.seat.own }
