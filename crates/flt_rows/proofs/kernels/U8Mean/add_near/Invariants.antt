use Rattle.std.proofs.Common.{◌≡◌, ◌+◌, ℕ, ◌<◌, ◌≤◌, get_or}
use Rattle.clip_term.specs.Soft.{near}
use Rattle.flt_rows.proofs.kernels.U8Mean.add_near.Given as goal

abbrev pub invariant-loop-x : goal.invariant-loop-x
invariant-loop-x l = record {
  done : (k : ℕ) → k < l.x → get_or l.sums k 0 ≡ get_or l.fn.sums k 0 + near l.threshold (get_or l.row k 0) (get_or l.other k 0);
  left : (k : ℕ) → l.x ≤ k → get_or l.sums k 0 ≡ get_or l.fn.sums k 0;
  few : (k : ℕ) → get_or l.sums k 0 ≤ get_or l.fn.sums k 0 + 255;
}
