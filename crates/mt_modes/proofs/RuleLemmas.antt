-- A table gives what the rule gives.
use Rattle.std.proofs.Common.{◌≡◌, ℕ, ◌∙◌, List, [], ◌∷◌, Bool, true, false, cond, Option, Some, None, refl, sym, ap, eqb-true, eq-eqb, arith}
use Rattle.std.specs.Prelude.{codes, nat_eq, ◌==◌, ◌&&◌, if◌then◌else◌, ℤ, pos, negsuc}
use Rattle.std.specs.List.{find, list_any}
use Rattle.std.specs.Str.{bytes_eq, str_to_ascii_lowercase}
use Rattle.std.proofs.lemmas.Slice.Eq.{bytes_eq-Decides}
use Rattle.std.specs.Map.{lookup}
use Rattle.std.specs.Option.{option_map, unwrap_or}
use Rattle.std.proofs.lemmas.Bool.Decides.{nat_tests}
use Rattle.indexmap.specs.IndexMap.{insert_entry}
use Rattle.clip_term.specs.declared.filter.Filter.{Filter}
use Rattle.clip_term.specs.declared.filter.Filter.TheVariants as filter
use Rattle.clip_term.specs.Filters.{IsMode, declared_mode, filter_named, names_of, number_of, all_filters}
use Rattle.clip_term.specs.Refusals.{nat_of}
use Rattle.mt_modes.specs.Modes.{KeepsRule, Setting, Modes, applies, chosen_mode, is_default, is_filter, is_mode, latest, may_set, modes_after, sets_default, with_mode}
use Rattle.clip_term.proofs.FilterLemmas.{same_number}

-- NAMES

-- the name of the default is that of no filter
default_unnamed : (name : List ℕ) → is_default name ≡ true → filter_named name ≡ None
default_unnamed name e =
    let same : str_to_ascii_lowercase name ≡ codes "default_mt_mode" = (bytes_eq-Decides (str_to_ascii_lowercase name) (codes "default_mt_mode")).0 e in
    ap (λ (low : List ℕ). find (λ (one : Filter). list_any (λ other. bytes_eq low (str_to_ascii_lowercase other)) (names_of one)) all_filters) same

-- ENTRIES

twice : {A : Type 0} (test : Bool) (a b c : A) → cond test a c ≡ cond test a (cond test b c)
twice true a b c = refl
twice false a b c = refl

swapped : {A : Type 0} (s t : Bool) (a b c : A) → (s ≡ true → t ≡ true → a ≡ b) → cond s a (cond t b c) ≡ cond t b (cond s a c)
swapped true true a b c same = same refl refl
swapped true false a b c same = refl
swapped false true a b c same = refl
swapped false false a b c same = refl

-- an entry that is put is found by its key, and the others stay
pub lookup-insert : (key value q : ℕ) (entries : List (ℕ × ℕ)) → lookup (nat_eq q) (insert_entry nat_eq entries key value) ≡ cond (nat_eq q key) (Some value) (lookup (nat_eq q) entries)
lookup-insert key value q [] = refl
lookup-insert key value q (e ∷ es) = by (nat_eq key e.0) refl (lookup-insert key value q es)
  where
    by : (b : Bool) → nat_eq key e.0 ≡ b → lookup (nat_eq q) (insert_entry nat_eq es key value) ≡ cond (nat_eq q key) (Some value) (lookup (nat_eq q) es)
        → lookup (nat_eq q) (if b then (e.0, value) ∷ es else e ∷ insert_entry nat_eq es key value) ≡ cond (nat_eq q key) (Some value) (cond (nat_eq q e.0) (Some e.1) (lookup (nat_eq q) es))
    by true h more =
        ap (λ k. cond (nat_eq q k) (Some value) (lookup (nat_eq q) es)) (sym (eqb-true key e.0 h))
        ∙ twice (nat_eq q key) (Some value) (Some e.1) (lookup (nat_eq q) es)
        ∙ ap (λ k. cond (nat_eq q key) (Some value) (cond (nat_eq q k) (Some e.1) (lookup (nat_eq q) es))) (eqb-true key e.0 h)
    by false h more =
        ap (λ (o : Option ℕ). cond (nat_eq q e.0) (Some e.1) o) more
        ∙ swapped (nat_eq q e.0) (nat_eq q key) (Some e.1) (Some value) (lookup (nat_eq q) es)
        (λ s t. let both : key ≡ e.0 = sym (eqb-true q key t) ∙ eqb-true q e.0 s in let wrong : true ≡ false = sym (eq-eqb key e.0 both) ∙ h in cc)

-- SETTINGS

default_kept : (modes : Modes) (one : Option Filter) (force : Bool) (mode : ℕ) → (with_mode modes one force mode).default ≡ modes.default
default_kept modes None force mode = refl
default_kept modes (Some one) force mode = by (may_set force one)
  where
    by : (b : Bool) → (if b then record modes { chosen = insert_entry nat_eq modes.chosen (number_of one) mode } else modes).default ≡ modes.default
    by true = refl
    by false = refl

default_is : (settings : List Setting) → (modes_after settings).default ≡ unwrap_or (latest sets_default settings) 2
default_is [] = refl
default_is (setting ∷ earlier) = by (is_default setting.name) (default_is earlier)
  where
    by : (b : Bool) → (modes_after earlier).default ≡ unwrap_or (latest sets_default earlier) 2
        → (if b then record (modes_after earlier) { default = setting.mode } else with_mode (modes_after earlier) (filter_named setting.name) setting.force setting.mode).default
        ≡ unwrap_or (option_map (λ (s : Setting). s.mode) (cond b (Some setting) (find sets_default earlier))) 2
    by true before = refl
    by false before = default_kept (modes_after earlier) (filter_named setting.name) setting.force setting.mode ∙ before

-- a table in which a mode was set, or not
chosen_by : (one other : Filter) (modes : Modes) (setting : Setting) (o : Option Setting) → chosen_mode modes one ≡ option_map (λ (s : Setting). s.mode) o
    → chosen_mode (with_mode modes (Some other) setting.force setting.mode) one
    ≡ option_map (λ (s : Setting). s.mode) (cond ((number_of one == number_of other) && may_set setting.force one) (Some setting) o)
chosen_by one other modes setting o before = by (may_set setting.force other) (nat_eq (number_of one) (number_of other)) refl refl
  where
    by : (may named : Bool) → may_set setting.force other ≡ may → nat_eq (number_of one) (number_of other) ≡ named
        → chosen_mode (if may then record modes { chosen = insert_entry nat_eq modes.chosen (number_of other) setting.mode } else modes) one
        ≡ option_map (λ (s : Setting). s.mode) (cond (named && may_set setting.force one) (Some setting) o)
    by true true may named =
        let same : may_set setting.force one ≡ true = ap (may_set setting.force) (same_number one other (eqb-true (number_of one) (number_of other) named)) ∙ may in
        lookup-insert (number_of other) setting.mode (number_of one) modes.chosen ∙ ap (λ b. cond b (Some setting.mode) (chosen_mode modes one)) named
        ∙ ap (λ b. option_map (λ (s : Setting). s.mode) (cond b (Some setting) o)) (sym same)
    by true false may named =
        lookup-insert (number_of other) setting.mode (number_of one) modes.chosen ∙ ap (λ b. cond b (Some setting.mode) (chosen_mode modes one)) named ∙ before
    by false true may named =
        let same : may_set setting.force one ≡ false = ap (may_set setting.force) (same_number one other (eqb-true (number_of one) (number_of other) named)) ∙ may in
        before ∙ ap (λ b. option_map (λ (s : Setting). s.mode) (cond b (Some setting) o)) (sym same)
    by false false may named = before

chosen_with : (one : Filter) (named : Option Filter) (modes : Modes) (setting : Setting) (o : Option Setting) → chosen_mode modes one ≡ option_map (λ (s : Setting). s.mode) o
    → chosen_mode (with_mode modes named setting.force setting.mode) one ≡ option_map (λ (s : Setting). s.mode) (cond (is_filter one named && may_set setting.force one) (Some setting) o)
chosen_with one None modes setting o before = before
chosen_with one (Some other) modes setting o before = chosen_by one other modes setting o before

chosen_is : (settings : List Setting) (one : Filter) → chosen_mode (modes_after settings) one ≡ latest (applies one) settings
chosen_is [] one = refl
chosen_is (setting ∷ earlier) one = by (is_default setting.name) refl (chosen_is earlier one)
  where
    by : (b : Bool) → is_default setting.name ≡ b → chosen_mode (modes_after earlier) one ≡ latest (applies one) earlier
        → chosen_mode (if b then record (modes_after earlier) { default = setting.mode } else with_mode (modes_after earlier) (filter_named setting.name) setting.force setting.mode) one
        ≡ option_map (λ (s : Setting). s.mode) (cond (is_filter one (filter_named setting.name) && may_set setting.force one) (Some setting) (find (applies one) earlier))
    by true e before =
        before
        ∙ ap (λ (o : Option Filter). option_map (λ (s : Setting). s.mode) (cond (is_filter one o && may_set setting.force one) (Some setting) (find (applies one) earlier))) (sym (default_unnamed setting.name e))
    by false e before = chosen_with one (filter_named setting.name) (modes_after earlier) setting (find (applies one) earlier) before

same_rule : (settings : List Setting) (one : Filter)
    → unwrap_or (chosen_mode (modes_after settings) one) (unwrap_or (declared_mode one) (modes_after settings).default)
    ≡ unwrap_or (latest (applies one) settings) (unwrap_or (declared_mode one) (unwrap_or (latest sets_default settings) 2))
same_rule settings one =
    ap (λ (o : Option ℕ). unwrap_or o (unwrap_or (declared_mode one) (modes_after settings).default)) (chosen_is settings one)
    ∙ ap (λ d. unwrap_or (latest (applies one) settings) (unwrap_or (declared_mode one) d)) (default_is settings)

-- a table gives what the rule gives
pub keeps_rule : KeepsRule
keeps_rule settings filter.Y4MSource = refl
keeps_rule settings one = same_rule settings one

-- MODES

pub mode_is : (mode : ℤ) → is_mode mode ≡ true → IsMode (nat_of mode)
mode_is (pos n) e = record { least = grind (arith, nat_tests); most = grind (arith, nat_tests) }
mode_is (negsuc n) e = cc

pub modes_kept : (test : Bool) (value mode : ℕ) (old : Option ℕ) → cond test (Some value) old ≡ Some mode → IsMode value → (old ≡ Some mode → IsMode mode) → IsMode mode
modes_kept true value mode old e is before = let same : value ≡ mode = cc in rw (← same) is
modes_kept false value mode old e is before = before e
