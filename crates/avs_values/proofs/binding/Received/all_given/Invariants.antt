use Rattle.std.proofs.Common.{◌≡◌, drop}
use Rattle.avs_values.specs.Binding as b
use Rattle.avs_values.proofs.binding.Received.all_given.Given as goal

abbrev pub invariant-loop-k : goal.invariant-loop-k
invariant-loop-k l = b.all_given (drop l.k l.params) (drop l.k l.self.slots) ≡ b.all_given l.params l.self.slots
