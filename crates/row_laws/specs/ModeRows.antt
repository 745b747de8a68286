-- The mode of a filter after some calls of SetFilterMTMode, of which the newest is the first here.
use Rattle.std.specs.Prelude.{◌≡◌, ℕ, pos, negsuc, [], ◌∷◌, codes, true, false}
use Rattle.avs_values.specs.Values.{Text}
use Rattle.clip_term.specs.declared.filter.Filter.TheVariants as filter
use Rattle.mt_modes.specs.Modes.{Setting, mode_after, mode_in, modes_after, is_mode}

-- SetFilterMTMode(name, mode), and with true as its third argument
abbrev pub set : Text → ℕ → Setting
set name mode = record { name = name; mode = mode; force = false }

abbrev pub force : Text → ℕ → Setting
force name mode = record { name = name; mode = mode; force = true }

pub record ModeRows : Type 0 where
  -- the modes that filters declare, and MT_MULTI_INSTANCE for one that declares none
  pub of_a_source : mode_after [] filter.Y4MSource ≡ 3
  pub of_crop : mode_after [] filter.Crop ≡ 1
  pub of_temporal_soften : mode_after [] filter.TemporalSoften ≡ 2
  pub of_invert : mode_after [] filter.Invert ≡ 2
  -- the default is for filters that declare no mode
  pub default : mode_after (set (codes "DEFAULT_MT_MODE") 3 ∷ []) filter.Invert ≡ 3
  pub default_in_any_case : mode_after (set (codes "Default_mt_Mode") 1 ∷ []) filter.Invert ≡ 1
  pub default_of_declared : mode_after (set (codes "DEFAULT_MT_MODE") 3 ∷ []) filter.Crop ≡ 1
  pub default_by_force : mode_after (force (codes "DEFAULT_MT_MODE") 3 ∷ []) filter.Crop ≡ 1
  -- a name counts before the default, whichever comes first
  pub named : mode_after (set (codes "GeneralConvolution") 1 ∷ []) filter.GeneralConvolution ≡ 1
  pub named_in_any_case : mode_after (set (codes "gENERALcONVOLUTION") 1 ∷ []) filter.GeneralConvolution ≡ 1
  pub named_then_default : mode_after (set (codes "DEFAULT_MT_MODE") 3 ∷ set (codes "Invert") 1 ∷ []) filter.Invert ≡ 1
  pub default_then_named : mode_after (set (codes "Invert") 1 ∷ set (codes "DEFAULT_MT_MODE") 3 ∷ []) filter.Invert ≡ 1
  pub other_name : mode_after (set (codes "Limiter") 1 ∷ []) filter.Invert ≡ 2
  pub unknown_name : mode_after (force (codes "Inverted") 1 ∷ []) filter.Invert ≡ 2
  pub other_spelling : mode_after (set (codes "grayscale") 3 ∷ []) filter.Greyscale ≡ 3
  -- a declared mode changes by force alone, and that of a source never
  pub declared : mode_after (set (codes "Crop") 2 ∷ []) filter.Crop ≡ 1
  pub declared_by_force : mode_after (force (codes "Crop") 2 ∷ []) filter.Crop ≡ 2
  pub source_by_force : mode_after (force (codes "Y4MSource") 1 ∷ []) filter.Y4MSource ≡ 3
  -- the last call counts, of those that may change the mode
  pub last_of_two : mode_after (set (codes "Invert") 3 ∷ set (codes "Invert") 1 ∷ []) filter.Invert ≡ 3
  pub last_by_force : mode_after (set (codes "Crop") 3 ∷ force (codes "Crop") 2 ∷ []) filter.Crop ≡ 2
  -- and the table that a script keeps gives the same
  pub in_the_table : mode_in (modes_after (set (codes "Crop") 3 ∷ force (codes "crop") 2 ∷ set (codes "DEFAULT_MT_MODE") 3 ∷ [])) filter.Crop ≡ 2
  pub default_in_the_table : mode_in (modes_after (set (codes "Crop") 3 ∷ set (codes "DEFAULT_MT_MODE") 3 ∷ [])) filter.Invert ≡ 3
  -- 1, 2 and 3 are modes
  pub nice : is_mode (pos 1) ≡ true
  pub serialized : is_mode (pos 3) ≡ true
  pub zero_is_none : is_mode (pos 0) ≡ false
  pub four_is_none : is_mode (pos 4) ≡ false
  pub minus_one_is_none : is_mode (negsuc 0) ≡ false
