-- Each is computed.
use Rattle.std.proofs.Common.{refl}
use Rattle.fv_plane.specs.Picture.{picture_from}
use Rattle.fv_plane.specs.Info.{gcd}
use Rattle.clip_term.specs.Terms.{term_sample, term_samples, info_of, infos_of}
use Rattle.row_laws.specs.FieldRows.{FieldRows}

pub field_rows : FieldRows
unfolding term_sample term_samples infos_of info_of picture_from gcd
field_rows = record {
  separate = refl;
  separate_bottom = refl;
  swap = refl;
  separate_half = refl;
  swap_half = refl;
  weave = refl;
  weave_bottom = refl;
  weave_one = refl;
  top = refl;
  complement = refl;
  complement_of_none = refl;
}
