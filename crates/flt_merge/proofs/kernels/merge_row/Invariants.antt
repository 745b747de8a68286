use Rattle.std.proofs.Common.{◌≡◌, ◌*◌, ℕ, ◌<◌, get_or}
use Rattle.flt_merge.specs.Rows.{mean}
use Rattle.flt_merge.proofs.kernels.merge_row.Given as goal

abbrev pub invariant-loop-k : goal.invariant-loop-k
invariant-loop-k l = (x : ℕ) → x < 32 * l.k → get_or l.out x 0 ≡ mean (get_or l.a x 0) (get_or l.b x 0)

abbrev pub invariant-loop-x : goal.invariant-loop-x
invariant-loop-x l = (k : ℕ) → k < l.x → get_or l.out k 0 ≡ mean (get_or l.a k 0) (get_or l.b k 0)
