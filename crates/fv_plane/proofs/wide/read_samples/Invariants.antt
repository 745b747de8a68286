use Rattle.std.proofs.Common.{◌≡◌, ℕ, ◌<◌, get_or}
use Rattle.fv_plane.proofs.WideLemmas.{pair}
use Rattle.fv_plane.proofs.wide.read_samples.Given as goal

abbrev pub invariant-loop-x : goal.invariant-loop-x
invariant-loop-x l = (k : ℕ) → k < l.x → get_or l.samples k 0 ≡ pair l.bytes k
