-- What a stop shows of files and sinks, and what was put before it.
use Rattle.std.specs.Prelude.{◌≡◌, ℕ, List, Option, Some}
use Rattle.fv_io.specs.declared.sink.Sink.{Ghosts}
use Rattle.fv_io.specs.Sink.{SinkFailed}
use Rattle.fv_io.specs.World.{World, InWorld}
use Rattle.fv_plane.specs.Picture.{Clip}
use Rattle.fv_plane.specs.declared.format.Info.{Info}
use Rattle.prefetch.specs.Rendered.{PutsNothing, PutsWholeFrames, PutsFront, EndsInFrame}
use Rattle.avs_meaning.specs.Faults.{Fault, input}
use Rattle.avs_meaning.specs.Faults as of_fault
use Rattle.avs_meaning.specs.declared.fault.ScriptKind.{ScriptKind}
use Rattle.serve_text.specs.declared.stop.Stop.{Stop}
use Rattle.serve_text.specs.declared.stop.Stop.TheVariants as of_stop
use Rattle.serve_app.specs.Meaning.{MeansClip, Means, a_fault}

-- a world is told, and the script means this clip in it
pub record IsOfScript (told : Option World) (script : List ℕ) (clip : Clip) : Type 0 where
  pub world : World
  pub told_is : told ≡ Some world
  pub means : MeansClip world script clip

abbrev pub ScriptHasClip : Option World → List ℕ → Type 0
ScriptHasClip told script = InWorld told (λ world. (clip : Clip) × MeansClip world script clip)

-- where a world is told, this is the info of the script's clip
abbrev pub HasInfo : Option World → List ℕ → Info → Type 0
HasInfo told script info = InWorld told (λ world. (clip : Clip) × MeansClip world script clip × (info ≡ clip.info))

-- where a world is told, this is the first fault of the script
abbrev pub HasFault : Option World → List ℕ → Fault → Type 0
HasFault told script fault = InWorld told (λ world. Means world script (a_fault fault))

-- where a world is told, the first fault of the script is of this kind, in the text of this name, at this line
abbrev pub IsScriptFault : Option World → List ℕ → ScriptKind → List ℕ → ℕ → Type 0
IsScriptFault told script kind name line = HasFault told script (of_fault.script kind name line)

-- a file changed, which no file of a told world does
abbrev pub HasChanged : Option World → Type 0
HasChanged told = InWorld told (λ world. ⊥)

-- the script has no clip: it is at fault, or an input that it names
abbrev pub IsByScript : Stop → Type 0
IsByScript (of_stop.Script kind name line) = Unit {0}
IsByScript (of_stop.Input name fault) = Unit {0}
IsByScript _ = ⊥

-- what a stop of the render of this script shows, where a read failed only if this holds
abbrev pub RenderShows : {K : Type 0} → Type 0 → Ghosts K → Option World → List ℕ → K → K → Stop → Type 0
RenderShows failed sink told script old new (of_stop.Script kind name line) =
    IsScriptFault told script kind name line × PutsNothing sink old new
RenderShows failed sink told script old new (of_stop.Input name fault) =
    HasFault told script (input name fault) × PutsNothing sink old new
RenderShows failed sink told script old new (of_stop.Changed name frame want got) =
    HasChanged told × EndsInFrame sink old new frame want got
RenderShows failed sink told script old new (of_stop.File name fault) = ⊥
RenderShows failed sink told script old new of_stop.Read =
    failed × PutsWholeFrames sink old new (IsOfScript told script) (ScriptHasClip told script)
RenderShows failed sink told script old new of_stop.Write =
    SinkFailed sink old new × PutsFront sink old new (IsOfScript told script) (ScriptHasClip told script)
RenderShows failed sink told script old new of_stop.Memory =
    PutsWholeFrames sink old new (IsOfScript told script) (ScriptHasClip told script)
