use Rattle.std.proofs.Common.{◌≡◌, ℕ, ◌<◌, get_or}
use Rattle.fv_plane.proofs.WideLemmas.{pair}
use Rattle.flt_merge.specs.Rows.{mean}
use Rattle.flt_merge.proofs.kernels.merge_wide_row.Given as goal

abbrev pub invariant-loop-x : goal.invariant-loop-x
invariant-loop-x l = (k : ℕ) → k < l.x → get_or l.out k 0 ≡ mean (pair l.a k) (pair l.b k)
