use Rattle.std.proofs.Common.{◌≡◌, ℕ, ◌<◌, get_or, length}
use Rattle.flt_rows.specs.Squares.{shown, weighed_around}
use Rattle.flt_rows.proofs.narrow.convolve_row.Given as goal

abbrev pub invariant-loop-x : goal.invariant-loop-x
invariant-loop-x g l =
    let row_of = g.T.Sample.of_bytes in
    record {
      long : length l.out ≡ length l.fn.out;
      done : (k : ℕ) → k < l.x → get_or (g.T.Sample.numbers l.out) k 0 ≡ shown l.ending (weighed_around l.square (row_of l.above) (row_of l.row) (row_of l.below) k);
    }
