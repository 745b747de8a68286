use Rattle.std.proofs.Common.{ℕ, ◌<◌, ◌≤◌}
use Rattle.fv_plane.proofs.WideLemmas.{pair}
use Rattle.fv_plane.proofs.wide.are_in_range.Given as goal

abbrev pub invariant-loop-x : goal.invariant-loop-x
invariant-loop-x l = (k : ℕ) → k < l.x → pair l.bytes k ≤ l.highest
