use Rattle.std.proofs.Common.{◌≡◌, ℕ, ◌+◌, ◌*◌, ◌<◌, length, get_or}
use Rattle.flt_turn.proofs.kernels.interleave.Given as goal

abbrev pub invariant-loop-k : goal.invariant-loop-k
invariant-loop-k l = record {
  long : length l.out ≡ 256;
  even : (j : ℕ) → j < 16 * l.k → get_or l.out (2 * j) 0 ≡ get_or l.block j 0;
  odd : (j : ℕ) → j < 16 * l.k → get_or l.out (2 * j + 1) 0 ≡ get_or l.block (j + 128) 0;
}
