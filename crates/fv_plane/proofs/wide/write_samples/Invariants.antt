use Rattle.std.proofs.Common.{◌≡◌, ℕ, ◌+◌, ◌*◌, ◌/◌, ◌%◌, ◌<◌, get_or}
use Rattle.fv_plane.proofs.wide.write_samples.Given as goal

abbrev pub invariant-loop-x : goal.invariant-loop-x
invariant-loop-x l = record {
  even : (k : ℕ) → k < l.x → get_or l.bytes (2 * k) 0 ≡ get_or l.samples k 0 % 256;
  odd : (k : ℕ) → k < l.x → get_or l.bytes (2 * k + 1) 0 ≡ get_or l.samples k 0 / 256;
}
