use Rattle.std.proofs.Common.{◌≡◌, ◌+◌, ◌*◌, ◌≤◌, drop}
use Rattle.flt_rows.specs.Squares.{size_of_all}
use Rattle.flt_soft.proofs.convolve.size_of_all.Given as goal

abbrev pub invariant-loop-weight : goal.invariant-loop-weight
invariant-loop-weight l = record {
  made : l.size + size_of_all (drop l.weight-index l.weights) ≡ size_of_all l.weights;
  few : l.size ≤ 1024 * l.weight-index;
}
