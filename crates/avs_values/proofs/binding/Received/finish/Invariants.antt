use Rattle.std.proofs.Common.{◌≡◌, map}
use Rattle.avs_values.specs.Binding as b
use Rattle.avs_values.proofs.binding.Received.finish.Given as goal

abbrev pub invariant-loop-slot : goal.invariant-loop-slot
invariant-loop-slot l = l.values.items ≡ map b.or_undefined l.yielded
