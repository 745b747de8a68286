-- While the worker waits it adds nothing.
use Rattle.std.proofs.Common.{[]}
use Rattle.serve_shared.specs.Seats.{Adds}
use Rattle.serve_shared.proofs.produce.acquire.Given as goal

abbrev pub invariant-loop : goal.invariant-loop
invariant-loop g l = record {
  can : (goal.iterator-loop g).can_next l.iterator';
  ends : (goal.iterator-loop g).is_finite l.iterator';
  waits : Adds [] l.fn.seat l.seat;
}
