-- A script that was opened over files, and what a stop before shows.
use Rattle.std.proofs.Common.{◌≡◌, ◌∙◌, ℕ, Bool, IsTrue, List, Option, None, Result, Err, refl, inl, sym, subst}
use Rattle.fv_io.specs.Faults.{HasRisen}
use Rattle.fv_io.specs.World.{World, InWorld}
use Rattle.fv_io.specs.Sink.{PutsPrefix}
use Rattle.fv_io.specs.declared.sink.Sink.{Ghosts}
use Rattle.fv_io.specs.declared.source.Source as of_source
use Rattle.seq_source.specs.FrameSource.{FrameSource}
use Rattle.inst_table.specs.declared.place.Place.{Place}
use Rattle.inst_table.specs.declared.place.Slot.{Slot}
use Rattle.serve_machine.specs.declared.windows.Record.{Record}
use Rattle.serve_worker.specs.Sources.{AreSources}
use Rattle.avs_eval.specs.declared.evaluation.Opened.{Opened}
use Rattle.avs_files.specs.Closed.{faults_among}
use Rattle.avs_files.specs.Opened.{told_of}
use Rattle.avs_meaning.specs.Faults as f
use Rattle.avs_meaning.specs.Faults.{input}
use Rattle.avs_meaning.specs.Meaning as m
use Rattle.serve_text.specs.declared.stop.Stop.{Stop}
use Rattle.serve_text.specs.declared.stop.Stop.TheVariants as of_stop
use Rattle.prefetch.specs.StreamClips.{book_told, SomeFailed}
use Rattle.prefetch.specs.declared.pool_size.PoolSize.{PoolSize}
use Rattle.prefetch.specs.declared.stream.RenderedClip.{RenderedClip}
use Rattle.prefetch.specs.Windows.{pool}
use Rattle.prefetch.specs.Streamed.{IsStreamed}
use Rattle.avs_meaning.specs.State.{workers, window}
use Rattle.serve_text.specs.InfoText.{info_text}
use Rattle.serve_app.specs.Info.{InfoShows, IsToldInfo}
use Rattle.serve_app.specs.Journals.{IsPool}
use Rattle.serve_app.specs.Meaning.{meaning_in}
use Rattle.serve_app.specs.Opening.{Tells, EndsBefore, IsOpenScript, MeansPlan, OpeningShows}
use Rattle.serve_app.specs.Renders.{IsScriptRender}
use Rattle.serve_app.specs.Stop.{IsByScript, RenderShows, ScriptHasClip}
use Rattle.serve_app.proofs.ClosingLemmas.{none_failed}
use Rattle.serve_app.proofs.MeaningLemmas.{same_plan, same_root, same_crew}
use Rattle.serve_app.proofs.PlayLemmas.{fit, has_one, in_told, script_render}

-- ---- a script without a clip

-- what stopped the evaluation shows it
pub opening_stops : (told : Bool) (world : World) (script : List ℕ) (failed : Type 0) (before now : ℕ) (stop : Stop) → (IsTrue told → Tells (meaning_in world script) (Err stop))
    → EndsBefore {X = Opened} before now (Err stop) → (HasRisen before now → failed) → OpeningShows (told_of told world) script failed stop
opening_stops told world script failed before now (of_stop.Script kind name line) tells ends fails = in_told told world (λ w. meaning_in w script ≡ m.wrong (f.script kind name line)) tells
opening_stops told world script failed before now (of_stop.Input name fault) tells ends fails = in_told told world (λ w. meaning_in w script ≡ m.wrong (input name fault)) tells
opening_stops told world script failed before now (of_stop.Changed name frame want got) tells ends fails = absurd ends
opening_stops told world script failed before now (of_stop.File name fault) tells ends fails = absurd ends
opening_stops told world script failed before now of_stop.Read tells ends fails = fails ends
opening_stops told world script failed before now of_stop.Write tells ends fails = absurd ends
opening_stops told world script failed before now of_stop.Memory tells ends fails = tt

-- and counts no fault, but for a failed read
pub opening_counts : (before now : ℕ) (stop : Stop) → EndsBefore {X = Opened} before now (Err stop) → (stop ≡ of_stop.Read → ⊥) → now ≡ before
opening_counts before now (of_stop.Script kind name line) ends other = ends
opening_counts before now (of_stop.Input name fault) ends other = ends
opening_counts before now (of_stop.Changed name frame want got) ends other = absurd ends
opening_counts before now (of_stop.File name fault) ends other = absurd ends
opening_counts before now of_stop.Read ends other = absurd (other refl)
opening_counts before now of_stop.Write ends other = absurd ends
opening_counts before now of_stop.Memory ends other = ends

-- a stop for the script is no failed read
pub not_read : (stop : Stop) → IsByScript stop → stop ≡ of_stop.Read → ⊥
not_read stop by is = subst IsByScript is by

module _ {K : Type 0} (told : Option World) (script : List ℕ) (sink : Ghosts K) (out : K) (failed : Type 0) where
  before_stops : (stop : Stop) → OpeningShows told script failed stop → RenderShows failed sink told script out out stop
  before_stops (of_stop.Script kind name line) shown = (shown, refl)
  before_stops (of_stop.Input name fault) shown = (shown, refl)
  before_stops (of_stop.Changed name frame want got) shown = absurd shown
  before_stops (of_stop.File name fault) shown = shown
  before_stops of_stop.Read shown = (shown, inl refl)
  before_stops of_stop.Write shown = absurd shown
  before_stops of_stop.Memory shown = inl refl

  -- it leaves no journal
  pub before_render : (capacity : ℕ) (pool_size : PoolSize) (stop : Stop) → OpeningShows told script failed stop → IsScriptRender told script capacity pool_size failed sink out out None (Err stop)
  before_render capacity pool_size stop shown = record { whole = tt; stop = before_stops stop shown; untorn = tt; rendered = tt; cut = tt; head = inl refl }

  -- and no text
  pub before_tells : (stop : Stop) → OpeningShows told script failed stop → InfoShows failed sink told script out out stop
  before_tells (of_stop.Script kind name line) shown = (shown, refl)
  before_tells (of_stop.Input name fault) shown = (shown, refl)
  before_tells (of_stop.Changed name frame want got) shown = shown
  before_tells (of_stop.File name fault) shown = shown
  before_tells of_stop.Read shown = (shown, refl)
  before_tells of_stop.Write shown = absurd shown
  before_tells of_stop.Memory shown = refl

-- ---- a script that has one

module _ {S : Type 0} (of : of_source.Ghosts S) (told : Option World) (script : List ℕ) (opened : Opened) (sources : List (FrameSource S)) (is : IsOpenScript of told script opened sources) where
  pub clip_found : ScriptHasClip told script
  clip_found = let opens = is.opens in rw is.told_is (has_one of is.known is.world script opened.graph opened.root opened.prefetch is.listed sources opens.sources is.are is.means)

  pub means_plan : MeansPlan told script opened
  means_plan = rw is.told_is (in_told is.known is.world (λ w. meaning_in w script ≡ m.clip opened.graph opened.root opened.prefetch) is.means)

  pub are_sources : AreSources opened.graph sources
  are_sources = let opens = is.opens in fit of is.known is.world opened.graph is.listed sources opens.sources is.are

  pub unfailed : faults_among of sources ≡ 0
  unfailed = none_failed of is.known is.world is.listed sources is.are

  -- what is put is the clip that it means
  pub opened_render : {K : Type 0} (sink : Ghosts K) (out put : K) {I : Type 0} (faults : I → ℕ) (table : List (Place × Slot I)) (failed : Type 0) → (SomeFailed faults table → failed)
      → (capacity : ℕ) (pool_size : PoolSize) (journal : Option Record) (done : Result RenderedClip Stop) → IsPool (pool pool_size opened.prefetch)
      → IsStreamed faults opened.graph opened.root capacity (pool pool_size opened.prefetch) (book_told of sources) sink out put journal table done
      → IsScriptRender told script capacity pool_size failed sink out put journal done
  opened_render sink out put faults table failed fails capacity pool_size journal done are streamed =
      let opens = is.opens in
      rw is.told_is
      (script_render of is.known is.world script opened.graph opened.root opened.prefetch is.listed sources opens.sources is.are is.means sink out put faults table failed fails capacity pool_size journal done opens.plan opens.root are
      streamed)

-- a prefix of what is known of the plan is one of what is known of the script's clip
pub info_cut : {K : Type 0} (sink : Ghosts K) (out put : K) (told : Option World) (script : List ℕ) (opened : Opened) → MeansPlan told script opened → (text : List ℕ)
    → text ≡ info_text opened.graph opened.root (workers opened.prefetch) (window opened.prefetch) → PutsPrefix sink out put text
    → (other : List ℕ) → IsToldInfo told script other → PutsPrefix sink out put other
info_cut sink out put told script opened means text is cut other too =
    let info = too.info in
    let same = sym info.means ∙ means too.world too.told_is in
    let plans = same_plan info.plan opened.graph info.root opened.root info.crew opened.prefetch same in
    let roots = same_root info.plan opened.graph info.root opened.root info.crew opened.prefetch same in
    let crews = same_crew info.plan opened.graph info.root opened.root info.crew opened.prefetch same in
    let there : other ≡ info_text opened.graph opened.root (workers opened.prefetch) (window opened.prefetch) = rw (plans, roots, crews) at info.text_is in
    let texts : text ≡ other = is ∙ sym there in
    rw texts at cut
