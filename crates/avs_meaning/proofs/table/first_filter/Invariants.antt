use Rattle.std.proofs.Common.{◌≡◌, drop, map}
use Rattle.avs_meaning.specs.Table as d
use Rattle.avs_meaning.proofs.table.first_filter.Given as goal

abbrev pub invariant-loop-filter : goal.invariant-loop-filter
invariant-loop-filter l =
    d.builtin_in l.name (map d.maker_of (drop l.filter-index l.filters)) ≡ d.builtin_in l.name (map d.maker_of l.filters)
