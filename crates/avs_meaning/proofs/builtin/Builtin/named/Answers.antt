-- A name is found in the first of three lists that has it.
use Rattle.std.proofs.Common.{rules, ◌≡◌, ◌∙◌, map, List, ◌++◌, None}
use Rattle.clip_term.specs.Filters.{all_filters}
use Rattle.avs_meaning.specs.Table.{builtins, builtin_of, builtin_in, calling_functions, maker_of}
use Rattle.avs_meaning.specs.declared.builtin.Builtin.{Builtin}
use Rattle.avs_meaning.proofs.TableLemmas.{plain_builtins, found_first, missed_first}
use Rattle.avs_meaning.proofs.builtin.Builtin.named.Goals as goal

abbrev filters : List Builtin
filters = map maker_of all_filters

pub returns-in-Some : goal.returns-in-Some
unfolding builtins builtin_of
returns-in-Some c =
    found_first c.args.name.now calling_functions (filters ++ plain_builtins) c.in-Some.builtin (search rules)

pub returns-in-Some-first_filter : goal.returns-in-Some-first_filter
unfolding builtins builtin_of
returns-in-Some-first_filter c =
    let name = c.args.name.now in
    let none : None ≡ builtin_in name calling_functions = search rules in
    found_first name filters plain_builtins c.in-Some-first_filter.builtin (search rules)
    ∙ missed_first name calling_functions (filters ++ plain_builtins) none

pub returns : goal.returns
unfolding builtins builtin_of
returns c =
    let name = c.args.name.now in
    let none : None ≡ builtin_in name calling_functions = search rules in
    let neither : None ≡ builtin_in name filters = search rules in
    let last : c.first_named-2.result ≡ builtin_in name plain_builtins = search rules in
    last ∙ missed_first name filters plain_builtins neither ∙ missed_first name calling_functions (filters ++ plain_builtins) none
