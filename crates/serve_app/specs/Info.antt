-- What is known of the clip of a script, as a text.
use Rattle.std.specs.Prelude.{◌≡◌, ℕ, List, Option, Some}
use Rattle.fv_io.specs.declared.sink.Sink.{Ghosts}
use Rattle.fv_io.specs.Sink.{Puts, PutsPrefix, SinkFailed}
use Rattle.fv_io.specs.World.{World}
use Rattle.clip_graph.specs.Plan.{Application}
use Rattle.prefetch.specs.Rendered.{PutsNothing}
use Rattle.serve_text.specs.InfoText.{info_text}
use Rattle.avs_meaning.specs.State.{Numbers, workers, window}
use Rattle.avs_meaning.specs.Faults.{input}
use Rattle.avs_meaning.specs.Meaning as m
use Rattle.serve_text.specs.declared.stop.Stop.{Stop}
use Rattle.serve_text.specs.declared.stop.Stop.TheVariants as of_stop
use Rattle.serve_app.specs.Meaning.{meaning_in}
use Rattle.serve_app.specs.Stop.{HasFault, IsScriptFault, ScriptHasClip}

-- the text of the plan, the root and the workers that the script means
pub record IsInfoOf (world : World) (script text : List ℕ) : Type 0 where
  pub plan : List Application
  pub root : ℕ
  pub crew : Option Numbers
  pub means : meaning_in world script ≡ m.clip plan root crew
  pub text_is : text ≡ info_text plan root (workers crew) (window crew)

-- a world is told, and this is the text of the script's clip in it
pub record IsToldInfo (told : Option World) (script text : List ℕ) : Type 0 where
  pub world : World
  pub told_is : told ≡ Some world
  pub info : IsInfoOf world script text

-- what a stop shows where the text of a script's clip was to be put, and a read failed only if this holds
abbrev pub InfoShows : {K : Type 0} → Type 0 → Ghosts K → Option World → List ℕ → K → K → Stop → Type 0
InfoShows failed sink told script old new (of_stop.Script kind name line) =
    IsScriptFault told script kind name line × PutsNothing sink old new
InfoShows failed sink told script old new (of_stop.Input name fault) =
    HasFault told script (input name fault) × PutsNothing sink old new
InfoShows failed sink told script old new (of_stop.Changed name frame want got) = ⊥
InfoShows failed sink told script old new (of_stop.File name fault) = ⊥
InfoShows failed sink told script old new of_stop.Read = failed × PutsNothing sink old new
InfoShows failed sink told script old new of_stop.Write = SinkFailed sink old new × ScriptHasClip told script
    × ((text : List ℕ) → IsToldInfo told script text → PutsPrefix sink old new text)
InfoShows failed sink told script old new of_stop.Memory = PutsNothing sink old new

-- what is known of the clip that the script means in this world was put
pub record PutsInfo {K : Type 0} (sink : Ghosts K) (world : World) (script : List ℕ) (old new : K) : Type 0 where
  pub text : List ℕ
  pub info : IsInfoOf world script text
  pub put : Puts sink old new text
