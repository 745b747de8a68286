use Rattle.std.proofs.Common.{◌≡◌, ℕ, ◌+◌, ◌*◌, ◌^◌, ◌<◌, ◌≤◌, take}
use Rattle.std.specs.List.{sum}
use Rattle.flt_choice.proofs.CountLemmas.{totals}
use Rattle.flt_choice.proofs.counts.middle.Given as goal

abbrev pub invariant-loop-v : goal.invariant-loop-v
invariant-loop-v l = record {
  so_far : l.up_to ≡ sum (take l.v (totals l.size l.values l.counts));
  few : l.up_to ≤ l.v * 2 ^ 34;
  before : (k : ℕ) → k < l.v → 2 * sum (take (k + 1) (totals l.size l.values l.counts)) < l.total;
}
