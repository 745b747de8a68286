use Rattle.std.proofs.Common.{◌≡◌, ◌-◌, ◌*◌, ℕ, ◌<◌, ◌≤◌, get_or}
use Rattle.flt_space.proofs.kernels.invert_row.Given as goal

abbrev pub invariant-loop-k : goal.invariant-loop-k
invariant-loop-k l = record {
  done : (x : ℕ) → x < 32 * l.k → get_or l.row x 0 ≡ 255 - get_or l.fn.row x 0;
  left : (x : ℕ) → 32 * l.k ≤ x → get_or l.row x 0 ≡ get_or l.fn.row x 0;
}

abbrev pub invariant-loop-x : goal.invariant-loop-x
invariant-loop-x l = record {
  done : (k : ℕ) → k < l.x → get_or l.row k 0 ≡ 255 - get_or l.fn.row k 0;
  left : (k : ℕ) → l.x ≤ k → get_or l.row k 0 ≡ get_or l.fn.row k 0;
}
