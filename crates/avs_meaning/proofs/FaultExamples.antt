-- Each is computed.
use Rattle.std.proofs.Common.{refl}
use Rattle.avs_values.specs.Binding.{bind}
use Rattle.fv_plane.specs.Info.{gcd}
use Rattle.avs_meaning.specs.Expressions.{call_within}
use Rattle.avs_meaning.specs.Meaning.{to_clip, below}
use Rattle.avs_meaning.specs.Table.{builtins, builtin_of}
use Rattle.avs_meaning.specs.FaultExamples.{FaultsOfScripts}

pub faults_of_scripts : FaultsOfScripts
unfolding to_clip builtin_of builtins bind gcd call_within below
faults_of_scripts = record {
  division_by_zero = refl;
  last_is_unset = refl;
  else_if = refl;
  for_step = refl;
  not_a_clip = refl;
  mode_of_four = refl;
  prefetch_of_seventeen = refl;
  range_of_a_number = refl;
  matrix_of_three = refl;
  no_source = refl;
  no_import = refl;
  no_frames = refl;
  no_script = refl;
  no_eval = refl;
  no_end = refl;
  same_name = refl;
  no_end_of_trim = refl;
  imported = refl;
}
