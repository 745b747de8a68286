-- Each is computed.
use Rattle.std.proofs.Common.{refl}
use Rattle.row_laws.specs.ModeRows.{ModeRows}

pub mode_rows : ModeRows
mode_rows = record {
  of_a_source = refl;
  of_crop = refl;
  of_temporal_soften = refl;
  of_invert = refl;
  default = refl;
  default_in_any_case = refl;
  default_of_declared = refl;
  default_by_force = refl;
  named = refl;
  named_in_any_case = refl;
  named_then_default = refl;
  default_then_named = refl;
  other_name = refl;
  unknown_name = refl;
  other_spelling = refl;
  declared = refl;
  declared_by_force = refl;
  source_by_force = refl;
  last_of_two = refl;
  last_by_force = refl;
  in_the_table = refl;
  default_in_the_table = refl;
  nice = refl;
  serialized = refl;
  zero_is_none = refl;
  four_is_none = refl;
  minus_one_is_none = refl;
}
