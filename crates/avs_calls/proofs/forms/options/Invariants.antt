use Rattle.std.proofs.Common.{◌≡◌, map, take}
use Rattle.avs_values.specs.Functions.{optional}
use Rattle.avs_calls.proofs.forms.options.Given as goal

abbrev pub invariant-loop-kind : goal.invariant-loop-kind
invariant-loop-kind l = l.params.items ≡ map (λ o. optional o.0 o.1.now) (take l.kind-index l.table)
