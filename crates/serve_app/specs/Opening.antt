-- A script that is evaluated over files: its clip, with the sources that were opened for it, or what stopped it.
use Rattle.std.specs.Prelude.{◌≡◌, ℕ, Bool, IsTrue, List, Option, Result, Ok, Err}
use Rattle.fv_io.specs.Faults.{HasRisen}
use Rattle.fv_io.specs.World.{World, InWorld}
use Rattle.fv_io.specs.declared.source.Source.{Ghosts}
use Rattle.seq_source.specs.FrameSource.{FrameSource}
use Rattle.avs_meaning.specs.Faults.{input}
use Rattle.avs_meaning.specs.Faults as of_fault
use Rattle.avs_meaning.specs.Meaning as m
use Rattle.avs_meaning.specs.declared.state.SourceClip.{SourceClip}
use Rattle.avs_eval.specs.Evaluates.{Opens}
use Rattle.avs_eval.specs.declared.evaluation.Opened.{Opened}
use Rattle.avs_files.specs.Opened.{told_of, AreOpened}
use Rattle.serve_text.specs.declared.stop.Stop.{Stop}
use Rattle.serve_text.specs.declared.stop.Stop.TheVariants as of_stop
use Rattle.serve_app.specs.Meaning.{meaning_in}
use Rattle.serve_app.specs.Stop.{HasFault, IsScriptFault}

-- the answer is the script's meaning
abbrev pub Tells : m.Meaning → Result Opened Stop → Type 0
Tells meaning (Ok opened) = meaning ≡ m.clip opened.graph opened.root opened.prefetch
Tells meaning (Err (of_stop.Script kind name line)) = meaning ≡ m.wrong (of_fault.script kind name line)
Tells meaning (Err (of_stop.Input name fault)) = meaning ≡ m.wrong (input name fault)
Tells meaning (Err (of_stop.Changed name frame want got)) = ⊥
Tells meaning (Err (of_stop.File name fault)) = ⊥
Tells meaning (Err of_stop.Read) = Unit {0}
Tells meaning (Err of_stop.Write) = ⊥
Tells meaning (Err of_stop.Memory) = Unit {0}

-- A failed read counts a fault, and nothing else does. Nothing was written, no file has changed, and no list was read.
abbrev pub EndsBefore : {X : Type 0} → ℕ → ℕ → Result X Stop → Type 0
EndsBefore before now (Err of_stop.Read) = HasRisen before now
EndsBefore before now (Err of_stop.Write) = ⊥
EndsBefore before now (Err (of_stop.Changed name frame want got)) = ⊥
EndsBefore before now (Err (of_stop.File name fault)) = ⊥
EndsBefore before now _ = now ≡ before

-- a plan, and the sources of its files, none of which has failed; it is what the script means where a world is told
pub record IsOpenScript {S : Type 0} (source : Ghosts S) (told : Option World) (script : List ℕ) (opened : Opened)
    (sources : List (FrameSource S)) : Type 0 where
  pub known : Bool
  pub world : World
  pub told_is : told ≡ told_of known world
  pub listed : List SourceClip
  pub opens : Opens opened listed
  pub are : AreOpened source known world listed sources
  pub means : IsTrue known → meaning_in world script ≡ m.clip opened.graph opened.root opened.prefetch

-- what a stop before anything is put shows, where a read failed only if this holds
abbrev pub OpeningShows : Option World → List ℕ → Type 0 → Stop → Type 0
OpeningShows told script failed (of_stop.Script kind name line) = IsScriptFault told script kind name line
OpeningShows told script failed (of_stop.Input name fault) = HasFault told script (input name fault)
OpeningShows told script failed (of_stop.Changed name frame want got) = ⊥
OpeningShows told script failed (of_stop.File name fault) = ⊥
OpeningShows told script failed of_stop.Read = failed
OpeningShows told script failed of_stop.Write = ⊥
OpeningShows told script failed of_stop.Memory = Unit {0}

-- where a world is told, the script means the clip of this plan
abbrev pub MeansPlan : Option World → List ℕ → Opened → Type 0
MeansPlan told script opened = InWorld told (λ world. meaning_in world script ≡ m.clip opened.graph opened.root opened.prefetch)
