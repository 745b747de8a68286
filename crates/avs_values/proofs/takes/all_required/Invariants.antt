use Rattle.std.proofs.Common.{◌≡◌, ◌++◌, drop, map}
use Rattle.avs_values.specs.Functions as s
use Rattle.avs_values.proofs.takes.all_required.Given as goal

abbrev pub invariant-loop-kind : goal.invariant-loop-kind
invariant-loop-kind l = l.params.items ++ map s.required (drop l.kind-index l.kinds) ≡ map s.required l.kinds
