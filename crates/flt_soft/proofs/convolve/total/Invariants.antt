use Rattle.std.proofs.Common.{◌≡◌, ◌*◌, drop, pos, ◌+ℤ◌, neg_ℤ, ◌≤ℤ◌}
use Rattle.clip_term.specs.Soft.{total}
use Rattle.flt_soft.proofs.convolve.total.Given as goal

abbrev pub invariant-loop-weight : goal.invariant-loop-weight
invariant-loop-weight l = record {
  made : l.sum +ℤ total (drop l.weight-index l.weights) ≡ total l.weights;
  low : neg_ℤ (pos (1024 * l.weight-index)) ≤ℤ l.sum;
  high : l.sum ≤ℤ pos (1024 * l.weight-index);
}
