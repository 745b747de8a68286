use Rattle.std.proofs.Common.{◌≡◌, map, take}
use Rattle.avs_meaning.specs.Expressions as m
use Rattle.avs_expressions.proofs.callee.signature_of.Given as goal

abbrev pub invariant-loop-param : goal.invariant-loop-param
invariant-loop-param l = l.taken.items ≡ map m.param_of (take l.param-index l.params)
