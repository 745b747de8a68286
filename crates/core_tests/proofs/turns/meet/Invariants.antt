-- While the seat waits it adds nothing.
use Rattle.std.proofs.Common.{◌≡◌}
use Rattle.core_tests.proofs.turns.meet.Given as goal

abbrev pub invariant-loop : goal.invariant-loop
invariant-loop g l = record {
  can : (goal.iterator-loop g).can_next l.iterator';
  ends : (goal.iterator-loop g).is_finite l.iterator';
  waits : l.seat ≡ record l.initial.seat { seen = l.seat.seen; own = l.seat.own };
}
