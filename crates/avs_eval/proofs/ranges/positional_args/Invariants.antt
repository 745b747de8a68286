use Rattle.std.proofs.Common.{◌≡◌, ◌∷◌, map, take}
use Rattle.avs_values.specs.declared.value.Value.TheVariants as v
use Rattle.avs_meaning.specs.Expressions.{unnamed}
use Rattle.avs_eval.proofs.ranges.positional_args.Given as goal

abbrev pub invariant-loop-value : goal.invariant-loop-value
invariant-loop-value l = l.args.items ≡ unnamed (v.Clip l.clip) ∷ map unnamed (take l.value-index l.values)
