use Rattle.std.proofs.Common.{◌≡◌, drop}
use Rattle.avs_values.specs.Binding as b
use Rattle.avs_values.proofs.binding.place_of.Given as goal

abbrev pub invariant-loop-k : goal.invariant-loop-k
invariant-loop-k l = b.place_of l.name l.k (drop l.k l.params) ≡ b.place_of l.name 0 l.params
