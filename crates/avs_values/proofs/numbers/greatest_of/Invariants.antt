use Rattle.std.proofs.Common.{◌≡◌, drop}
use Rattle.std.specs.Int.{int_max}
use Rattle.avs_values.specs.Functions as s
use Rattle.avs_values.proofs.numbers.greatest_of.Given as goal

abbrev pub invariant-loop-value : goal.invariant-loop-value
invariant-loop-value l = s.folded int_max l.found (drop l.value-index l.rest) ≡ s.folded int_max l.fn.first l.rest
