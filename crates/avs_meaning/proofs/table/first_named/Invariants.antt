use Rattle.std.proofs.Common.{◌≡◌, drop}
use Rattle.avs_meaning.specs.Table as d
use Rattle.avs_meaning.proofs.table.first_named.Given as goal

abbrev pub invariant-loop-builtin : goal.invariant-loop-builtin
invariant-loop-builtin l = d.builtin_in l.name (drop l.builtin-index l.builtins) ≡ d.builtin_in l.name l.builtins
