-- Each is computed.
use Rattle.std.proofs.Common.{refl}
use Rattle.avs_values.specs.Binding.{bind}
use Rattle.fv_plane.specs.Info.{gcd}
use Rattle.avs_meaning.specs.Statements.{is_past, turn}
use Rattle.avs_meaning.specs.Expressions.{call_within}
use Rattle.avs_meaning.specs.Meaning.{to_clip, below}
use Rattle.avs_meaning.specs.Table.{builtins, builtin_of}
use Rattle.avs_meaning.specs.ClipExamples.{ClipsOfScripts}

pub clips_of_scripts : ClipsOfScripts
unfolding to_clip builtin_of builtins bind gcd is_past turn below call_within
clips_of_scripts = record {
  a_blank_clip = refl;
  tried_with_last = refl;
  as_written = refl;
  a_splice = refl;
  a_while = refl;
  a_for = refl;
  a_function = refl;
  a_mode = refl;
  a_range = refl;
  a_crew = refl;
  files_counted = refl;
}
