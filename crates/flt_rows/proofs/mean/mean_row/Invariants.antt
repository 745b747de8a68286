use Rattle.std.proofs.Common.{◌≡◌, ◌+◌, ◌/◌, ℕ, ◌<◌, get_or}
use Rattle.flt_rows.proofs.mean.mean_row.Given as goal

abbrev pub invariant-loop-x : goal.invariant-loop-x
invariant-loop-x g l = (k : ℕ) → k < l.x → get_or (g.T.Sample.numbers l.out) k 0 ≡ (get_or (g.T.Mean.totals l.sums) k 0 + g.row.COUNT / 2) / g.row.COUNT
