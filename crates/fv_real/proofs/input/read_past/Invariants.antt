-- No more was passed than is to be.
use Rattle.std.proofs.Common.{◌-◌, ◌≤◌}
use Rattle.fv_real.proofs.input.read_past.Given as goal

abbrev pub invariant-loop-passed : goal.invariant-loop-passed
invariant-loop-passed l = l.passed ≤ l.size

abbrev pub decreases-loop-passed : goal.decreases-loop-passed
decreases-loop-passed l = l.size - l.passed
