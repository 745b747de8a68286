use Rattle.std.proofs.Common.{◌≡◌, ◌++◌, map, take}
use Rattle.avs_values.specs.Functions.{optional}
use Rattle.avs_values.specs.declared.value.Kind.TheVariants as k
use Rattle.avs_meaning.specs.Table as d
use Rattle.avs_calls.proofs.forms.numbered.Given as goal

abbrev pub invariant-loop-name : goal.invariant-loop-name
invariant-loop-name l = l.params.items ≡ d.clip_and_numbers l.count ++ map (optional k.Int) (map (λ n. n.now) (take l.name-index l.names))
