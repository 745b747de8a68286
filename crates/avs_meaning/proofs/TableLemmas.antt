-- The table by name.
use Rattle.std.proofs.Common.{◌≡◌, refl, map, Bool, true, false, List, [], ◌∷◌, ◌++◌, Option, Some, None, if◌then◌else◌}
use Rattle.avs_values.specs.Values.{Text}
use Rattle.avs_meaning.specs.Laws.{NamesDiffer}
use Rattle.avs_meaning.specs.Table.{builtins, builtin_in, builtin_of, is_called, clip_functions, numeric_functions, text_functions, other_functions}
use Rattle.avs_meaning.specs.declared.builtin.Builtin.{Builtin}
use Rattle.avs_meaning.specs.declared.builtin.Builtin.TheVariants as b

pub names_differ : NamesDiffer
unfolding builtins builtin_of
names_differ = refl

-- the functions after the filters
abbrev pub plain_builtins : List Builtin
plain_builtins =
    map b.Clip clip_functions ++ map b.Plain numeric_functions ++ map b.Plain text_functions ++ map b.Plain other_functions

-- ---- a list and what comes after it

found_by : (x found : Builtin) (here : Bool) (first whole : Option Builtin) → (Some found ≡ first → Some found ≡ whole)
    → Some found ≡ (if here then Some x else first) → Some found ≡ (if here then Some x else whole)
found_by x found true first whole later is = is
found_by x found false first whole later is = later is

pub found_first : (name : Text) (bs cs : List Builtin) (found : Builtin) → Some found ≡ builtin_in name bs → Some found ≡ builtin_in name (bs ++ cs)
found_first name [] cs found is = absurd (cc is)
found_first name (x ∷ bs) cs found is =
    found_by x found (is_called name x) (builtin_in name bs) (builtin_in name (bs ++ cs)) (λ later. found_first name bs cs found later) is

missed_by : (x : Builtin) (here : Bool) (first whole rest : Option Builtin) → (None ≡ first → rest ≡ whole)
    → None ≡ (if here then Some x else first) → rest ≡ (if here then Some x else whole)
missed_by x true first whole rest later is = absurd (cc is)
missed_by x false first whole rest later is = later is

pub missed_first : (name : Text) (bs cs : List Builtin) → None ≡ builtin_in name bs → builtin_in name cs ≡ builtin_in name (bs ++ cs)
missed_first name [] cs is = refl
missed_first name (x ∷ bs) cs is =
    missed_by x (is_called name x) (builtin_in name bs) (builtin_in name (bs ++ cs)) (builtin_in name cs) (λ later. missed_first name bs cs later) is
