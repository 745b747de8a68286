use Rattle.std.proofs.Common.{◌≡◌, ℕ, ◌<◌, get_or, pos, ◌+ℤ◌}
use Rattle.std.specs.Prelude.{int_div}
use Rattle.clip_term.specs.Soft.{sample_from}
use Rattle.flt_rows.proofs.sums.show_row.Given as goal

abbrev pub invariant-loop-x : goal.invariant-loop-x
invariant-loop-x g l = (k : ℕ) → k < l.x → get_or (g.T.Sample.numbers l.out) k 0 ≡ sample_from l.largest (int_div (get_or l.sums k (pos 0)) l.fn.divisor +ℤ l.fn.bias)
