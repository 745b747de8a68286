use Rattle.std.proofs.Common.{◌≡◌, drop}
use Rattle.std.specs.Int.{int_min}
use Rattle.avs_values.specs.Functions as s
use Rattle.avs_values.proofs.numbers.least_of.Given as goal

abbrev pub invariant-loop-value : goal.invariant-loop-value
invariant-loop-value l = s.folded int_min l.found (drop l.value-index l.rest) ≡ s.folded int_min l.fn.first l.rest
