-- Each filter's name, computed.
use Rattle.std.proofs.Common.{refl, Some}
use Rattle.clip_term.specs.declared.filter.Filter.{Filter}
use Rattle.clip_term.specs.Filters as filters
use Rattle.clip_term.proofs.FilterLemmas.{same_for_each}
use Rattle.avs_meaning.specs.Laws.{FiltersAreKnown}
use Rattle.avs_meaning.specs.Table.{builtins, builtin_of, maker_of}

pub filters_are_known : FiltersAreKnown
unfolding builtins builtin_of
filters_are_known = same_for_each (λ (filter : Filter). builtin_of (filters.name_of filter)) (λ (filter : Filter). Some (maker_of filter)) refl
