use Rattle.std.proofs.Common.{◌≡◌, ℕ, ◌<◌, ◌≤◌, get_or, pos, ◌+ℤ◌}
use Rattle.flt_rows.specs.Rows.{weighed_five}
use Rattle.flt_rows.proofs.sums.add_five.Given as goal

abbrev pub invariant-loop-x : goal.invariant-loop-x
invariant-loop-x g l = record {
  done : (k : ℕ) → k < l.x → get_or l.sums k (pos 0) ≡ get_or l.fn.sums k (pos 0) +ℤ weighed_five l.fn.a l.fn.b l.fn.c l.fn.d l.fn.e (g.T.Sample.numbers l.row) k;
  left : (k : ℕ) → l.x ≤ k → get_or l.sums k (pos 0) ≡ get_or l.fn.sums k (pos 0);
}
