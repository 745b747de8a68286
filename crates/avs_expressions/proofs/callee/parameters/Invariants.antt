use Rattle.std.proofs.Common.{◌≡◌, drop, []}
use Rattle.avs_meaning.specs.Expressions as m
use Rattle.avs_expressions.proofs.callee.parameters.Given as goal

abbrev pub invariant-loop-k : goal.invariant-loop-k
invariant-loop-k l = m.parameters (drop l.k l.params) (drop l.k l.values) l.env ≡ m.parameters l.params l.values []
