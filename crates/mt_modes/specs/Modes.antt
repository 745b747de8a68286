-- How filters may run side by side, as SetFilterMTMode sets it (AviSynth+ wiki, "SetFilterMTMode"): 1 is
-- MT_NICE_FILTER, 2 is MT_MULTI_INSTANCE, 3 is MT_SERIALIZED.
use Rattle.std.specs.Prelude.{◌≡◌, ℕ, Bool, ◌&&◌, ◌||◌, ◌==◌, nat_eq, if◌then◌else◌, List, [], ◌∷◌, codes, Option, Some, None, is_none, false, ℤ, pos, negsuc}
use Rattle.std.specs.List.{find}
use Rattle.std.specs.Map.{lookup}
use Rattle.std.specs.Option.{option_map, unwrap_or}
use Rattle.std.specs.Str.{str_eq_ignore_ascii_case}
use Rattle.indexmap.specs.IndexMap.{insert_entry}
use Rattle.clip_term.specs.declared.filter.Filter.{Filter}
use Rattle.clip_term.specs.declared.filter.Filter.TheVariants as filter
use Rattle.clip_term.specs.Filters.{IsMode, declared_mode, filter_named, number_of}

-- a call of SetFilterMTMode
pub record Setting : Type 0 where
  pub name : List ℕ
  pub mode : ℕ
  pub force : Bool

-- The rule, over the settings of a script, the newest first.

abbrev pub is_default : List ℕ → Bool
is_default name = str_eq_ignore_ascii_case name (codes "DEFAULT_MT_MODE")

-- a setting changes a mode that its filter declares only by force
abbrev pub may_set : Bool → Filter → Bool
may_set force one = force || is_none (declared_mode one)

abbrev pub is_filter : Filter → Option Filter → Bool
is_filter one None = false
is_filter one (Some other) = number_of one == number_of other

abbrev pub applies : Filter → Setting → Bool
applies one setting = is_filter one (filter_named setting.name) && may_set setting.force one

abbrev pub sets_default : Setting → Bool
sets_default setting = is_default setting.name

-- the mode of the newest setting of a kind
abbrev pub latest : (Setting → Bool) → List Setting → Option ℕ
latest test settings = option_map (λ (setting : Setting). setting.mode) (find test settings)

-- the mode of a filter that is made after these settings
abbrev pub mode_after : List Setting → Filter → ℕ
mode_after settings filter.Y4MSource = 3
mode_after settings one =
    unwrap_or (latest (applies one) settings) (unwrap_or (declared_mode one) (unwrap_or (latest sets_default settings) 2))

-- The same as a table: the modes that were set, by the numbers of the filters, and the default.

pub record Modes : Type 0 where
  pub chosen : List (ℕ × ℕ)
  pub default : ℕ

abbrev pub no_modes : Modes
no_modes = record { chosen = []; default = 2 }

abbrev pub with_mode : Modes → Option Filter → Bool → ℕ → Modes
with_mode modes None force mode = modes
with_mode modes (Some one) force mode =
    if may_set force one then record modes { chosen = insert_entry nat_eq modes.chosen (number_of one) mode } else modes

abbrev pub with_setting : Modes → Setting → Modes
with_setting modes setting =
    if is_default setting.name then record modes { default = setting.mode }
    else with_mode modes (filter_named setting.name) setting.force setting.mode

abbrev pub chosen_mode : Modes → Filter → Option ℕ
chosen_mode modes one = lookup (nat_eq (number_of one)) modes.chosen

abbrev pub mode_in : Modes → Filter → ℕ
mode_in modes filter.Y4MSource = 3
mode_in modes one = unwrap_or (chosen_mode modes one) (unwrap_or (declared_mode one) modes.default)

abbrev pub modes_after : List Setting → Modes
modes_after [] = no_modes
modes_after (setting ∷ earlier) = with_setting (modes_after earlier) setting

-- the table keeps the rule
abbrev pub KeepsRule : Type 0
KeepsRule = (settings : List Setting) (one : Filter) → mode_in (modes_after settings) one ≡ mode_after settings one

-- 1, 2 or 3
abbrev pub is_mode : ℤ → Bool
is_mode (pos n) = n == 1 || n == 2 || n == 3
is_mode (negsuc n) = false

pub record AreModes (modes : Modes) : Type 0 where
  pub chosen : (number mode : ℕ) → lookup (nat_eq number) modes.chosen ≡ Some mode → IsMode mode
  pub default : IsMode modes.default
