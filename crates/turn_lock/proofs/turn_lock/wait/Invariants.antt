use Rattle.std.proofs.Common.{◌≡◌}
use Rattle.turn_lock.proofs.turn_lock.wait.Given as goal

abbrev pub invariant-loop : goal.invariant-loop
invariant-loop g l = record {
  can : (goal.iterator-loop g).can_next l.iterator';
  ends : (goal.iterator-loop g).is_finite l.iterator';
  table : l.place.table_id ≡ l.initial.place.table_id;
  same : l.place.me ≡ l.initial.place.me;
}
