-- What is answered of a file.
use Rattle.std.specs.Prelude.{Option, Result, Ok, Err}
use Rattle.std.specs.FinMap.{get}
use Rattle.fv_io.specs.World.{World, InWorld}
use Rattle.fv_plane.specs.declared.format.Info.{Info}
use Rattle.y4m_stream.specs.Stream.{Indexed}
use Rattle.avs_values.specs.Values.{Text}
use Rattle.avs_meaning.specs.State.{clip_in, script_in}
use Rattle.avs_state.specs.Hosts.{TellsClip, TellsScript}
use Rattle.avs_state.specs.declared.host.HostFault.{HostFault}

-- the info of what was opened
abbrev pub info_in : {S : Type 0} → Result (S × Indexed) HostFault → Result Info HostFault
info_in (Ok opened) = Ok opened.1.info
info_in (Err fault) = Err fault

-- where a world is told, the answer is that of the clip of a file of it
abbrev pub AnswersClip : {S : Type 0} → Option World → Text → Result (S × Indexed) HostFault → Type 0
AnswersClip told name result = InWorld told (λ world. TellsClip (clip_in (get world name)) (info_in result))

-- where a world is told, the answer is that of the script of a file of it
abbrev pub AnswersScript : Option World → Text → Result Text HostFault → Type 0
AnswersScript told name result = InWorld told (λ world. TellsScript (script_in (get world name)) result)
