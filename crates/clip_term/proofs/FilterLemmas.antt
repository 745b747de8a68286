-- The filters by their numbers and names.
use Rattle.std.proofs.Common.{◌≡◌, ◌∙◌, Some, map, sym, ap, arith}
use Rattle.std.specs.Prelude.{slice_get}
use Rattle.std.proofs.lemmas.Grind.{common_steps}
use Rattle.clip_term.specs.declared.filter.Filter.{Filter}
use Rattle.clip_term.specs.Filters.{all_filters, number_of, FiltersAreListed}

by_number : (one : Filter) → slice_get all_filters (number_of one) ≡ Some one
by_number one = grind (arith, common_steps)

some_same : {A : Type 0} (a b : A) → Some a ≡ Some b → a ≡ b
some_same a b e = cc

-- what is the same for the filters of the list is the same for each filter
pub same_for_each : {A : Type 0} (f g : Filter → A) → map f all_filters ≡ map g all_filters → (one : Filter) → f one ≡ g one
same_for_each f g same one = grind (arith, common_steps)

pub filters_are_listed : FiltersAreListed
filters_are_listed = grind (arith, common_steps)

-- a number is that of one filter
pub same_number : (a b : Filter) → number_of a ≡ number_of b → a ≡ b
same_number a b e = some_same a b (sym (by_number a) ∙ ap (slice_get all_filters) e ∙ by_number b)
