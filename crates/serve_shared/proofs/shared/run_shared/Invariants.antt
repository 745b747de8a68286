-- Outputs were delivered so far, and nothing is open.
use Rattle.serve_shared.specs.Shares.{Continues}
use Rattle.serve_shared.proofs.shared.run_shared.Given as goal

abbrev pub invariant-loop : goal.invariant-loop
invariant-loop g l = record {
  can : (goal.iterator-loop g).can_next l.iterator';
  ends : (goal.iterator-loop g).is_finite l.iterator';
  so_far : Continues l.worker l.fn.seat l.seat;
}
