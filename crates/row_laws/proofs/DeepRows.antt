-- Each is computed.
use Rattle.std.proofs.Common.{refl}
use Rattle.fv_plane.specs.Picture.{picture_from}
use Rattle.fv_plane.specs.Info.{gcd}
use Rattle.clip_term.specs.Terms.{term_sample, term_samples, info_of, infos_of}
use Rattle.row_laws.specs.DeepRows.{DeepSpaceRows, DeepJoinRows, DeepSoftRows, DeepFieldRows, DeepChoiceRows}

pub deep_space_rows : DeepSpaceRows
unfolding term_sample term_samples infos_of info_of picture_from gcd
deep_space_rows = record {
  crop = refl;
  flip_horizontal = refl;
  flip_vertical = refl;
  turn_left = refl;
  borders = refl;
  invert = refl;
  limiter = refl;
  greyscale = refl;
  swap = refl;
  to_eight_bits = refl;
  to_sixteen_bits = refl;
  to_luma = refl;
  chroma_as_luma = refl;
}

pub deep_join_rows : DeepJoinRows
unfolding term_sample term_samples infos_of info_of picture_from gcd
deep_join_rows = record {
  side_by_side = refl;
  one_below_the_other = refl;
  merge = refl;
  merge_luma = refl;
  merge_chroma = refl;
  planes = refl;
  other_bits = refl;
}

pub deep_soft_rows : DeepSoftRows
unfolding term_sample term_samples infos_of info_of picture_from gcd
deep_soft_rows = record {
  soften = refl;
  convolve = refl;
  brightest = refl;
  darkest = refl;
}

pub deep_field_rows : DeepFieldRows
unfolding term_sample term_samples infos_of info_of picture_from gcd
deep_field_rows = record {
  separate = refl;
  separate_bottom = refl;
  weave = refl;
  woven_again = refl;
  swap = refl;
}

pub deep_choice_rows : DeepChoiceRows
unfolding term_sample term_samples infos_of info_of picture_from gcd
deep_choice_rows = record {
  by_the_least = refl;
  by_the_median = refl;
  by_the_frame = refl;
}
