-- Each is computed.
use Rattle.std.proofs.Common.{refl}
use lib.Utf8.{encode}
use Rattle.std.specs.Str.{is_utf8, chars}
use Rattle.y4m_stream.specs.Head.{parameter_fault, info_of}
use Rattle.avs_meaning.specs.State.{frames_from}
use Rattle.avs_meaning.specs.WorldExamples.{ScriptsInWorlds}

pub scripts_in_worlds : ScriptsInWorlds
unfolding is_utf8 chars encode frames_from parameter_fault info_of
scripts_in_worlds = record {
  no_file = refl;
  a_script = refl;
  no_text = refl;
  no_clip = refl;
  no_frames = refl;
  cut_frame = refl;
}
