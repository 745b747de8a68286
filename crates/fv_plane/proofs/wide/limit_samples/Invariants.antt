use Rattle.std.proofs.Common.{◌≡◌, ℕ, ◌+◌, ◌*◌, ◌/◌, ◌%◌, ◌<◌, ◌≤◌, get_or}
use Rattle.std.specs.Prelude.{min}
use Rattle.fv_plane.proofs.WideLemmas.{pair}
use Rattle.fv_plane.proofs.wide.limit_samples.Given as goal

abbrev pub invariant-loop-x : goal.invariant-loop-x
invariant-loop-x l = record {
  even : (k : ℕ) → k < l.x → get_or l.bytes (2 * k) 0 ≡ min (pair l.fn.bytes k) l.largest % 256;
  odd : (k : ℕ) → k < l.x → get_or l.bytes (2 * k + 1) 0 ≡ min (pair l.fn.bytes k) l.largest / 256;
  left : (k : ℕ) → 2 * l.x ≤ k → get_or l.bytes k 0 ≡ get_or l.fn.bytes k 0;
}
