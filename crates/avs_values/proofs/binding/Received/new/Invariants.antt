use Rattle.std.proofs.Common.{◌≡◌, replicate, None}
use Rattle.avs_values.proofs.binding.Received.new.Given as goal

abbrev pub invariant-loop-param : goal.invariant-loop-param
invariant-loop-param l = l.slots.items ≡ replicate l._param None
