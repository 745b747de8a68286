use Rattle.std.proofs.Common.{◌≡◌, ◌*◌, ◌^◌, drop, pos, ◌+ℤ◌, neg_ℤ, ◌≤ℤ◌}
use Rattle.clip_term.specs.Soft.{total}
use Rattle.clip_reference.proofs.soft.total.Given as goal

abbrev pub invariant-loop-entry : goal.invariant-loop-entry
invariant-loop-entry l = record {
  made : l.sum +ℤ total (drop l.entry-index l.matrix) ≡ total l.matrix;
  low : neg_ℤ (pos (2 ^ 31 * l.entry-index)) ≤ℤ l.sum;
  high : l.sum ≤ℤ pos (2 ^ 31 * l.entry-index);
}
