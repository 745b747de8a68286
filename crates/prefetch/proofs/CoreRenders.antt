-- What a render leaves, whether one worker made it or several.
use Rattle.std.proofs.Common.{◌≡◌, ℕ, ◌<◌, List, Result, Ok, Err, OnOk, IfErr, IsErrOf, ap, arith}
use Rattle.std.proofs.lemmas.Result.{IfErr-weaker}
use Rattle.std.specs.Map.{keys_of}
use Rattle.fv_io.specs.declared.source.Source as of_source
use Rattle.fv_io.specs.declared.sink.Sink.{Ghosts}
use Rattle.serve_machine.specs.declared.event.WindowStop.{WindowStop}
use Rattle.serve_machine.specs.Events.{WindowEvents}
use Rattle.serve_core.specs.CoreValue.{CoreValue}
use Rattle.serve_worker.specs.declared.instance.Instance.{Instance}
use Rattle.serve_core.specs.Tables.{counts_in}
use Rattle.serve_worker.specs.Instances.{Ends, feed_of, faults_of, holds_of, held_of}
use Rattle.prefetch.specs.declared.stops.RenderStop.{RenderStop}
use Rattle.prefetch.specs.declared.stops.RenderStop.TheVariants.{Stopped, Write, Memory}
use Rattle.serve_machine.specs.Journals.{AreCrewFirst, AreCrewCut, AreAloneFirst, AreAloneCut}
use Rattle.prefetch.specs.Windows.{frames_at, Stays, RenderEnds, RendersAll, RenderStops, CrewRendersAll, CrewStops}
use Rattle.prefetch.specs.Journals.{IsFirstBy, IsCutBy}
use Rattle.prefetch.specs.Renders.{pool_at, RendersBy, StopsBy}
use Rattle.prefetch.specs.Cores.{IsTold}
use Rattle.prefetch.specs.Rendered.{NamesSource}
use Rattle.prefetch.specs.declared.stream.RenderedClip.{RenderedClip}
use Rattle.serve_text.specs.declared.stop.Stop.{Stop}
use Rattle.serve_text.specs.declared.stop.Stop.TheVariants as of_stop
use Rattle.clip_graph.specs.Plan.{Application}

module _ {S K : Type 0} (of : of_source.Ghosts S) (c : CoreValue (Instance S)) (sink : Ghosts K) (old new : K) (window : ℕ)
    (windows : List WindowEvents) (d : CoreValue (Instance S)) where
  -- a journal of these kinds is one by the number of workers
  ends_by : (IsFirst : List WindowEvents → ℕ → Type 0) (IsCut : WindowStop → List WindowEvents → ℕ → Type 0)
      → ((n : ℕ) → IsFirst windows n → IsFirstBy c.fixed.plan c.fixed.root c.fixed.capacity (pool_at c window) (frames_at c.fixed.plan c.fixed.root) windows n)
      → ((why : WindowStop) (n : ℕ) → IsCut why windows n → IsCutBy c.fixed.plan c.fixed.root c.fixed.capacity (pool_at c window) (frames_at c.fixed.plan c.fixed.root) why windows n)
      → (stop : RenderStop) → RenderEnds (held_of of) c sink old new IsFirst IsCut windows d stop → StopsBy of c sink old new window windows d stop
  ends_by IsFirst IsCut first cut (Stopped why) shown = record {
    stays = shown.stays;
    count = shown.count;
    few = shown.few;
    put = shown.put;
    journal = cut why shown.count shown.journal;
    ended = shown.ended;
    stands = shown.stands;
  }
  ends_by IsFirst IsCut first cut Write shown = record {
    stays = shown.stays;
    count = shown.count;
    few = shown.few;
    failed = shown.failed;
    begun = shown.begun;
    cut = shown.cut;
    journal = first shown.count shown.journal;
  }
  ends_by IsFirst IsCut first cut Memory shown = record {
    stays = shown.stays;
    count = shown.count;
    few = shown.few;
    put = shown.put;
    journal = first shown.count shown.journal;
  }

  -- a whole render by one worker
  pub alone_renders : c.fixed.workers ≡ 1 → (done : Result (Unit {0}) RenderStop)
      → OnOk done (RendersAll (held_of of) c sink old new window windows d) → OnOk done (RendersBy of c sink old new window windows d)
  alone_renders one (Ok u) all = record {
    stays = all.stays;
    put = all.put;
    journal = record { alone = λ is. all.journal.serial; crew = λ some. (keys_of c.table, all.journal.crew) };
    steady = all.steady;
  }
  alone_renders one (Err stop) all = tt

  -- and by several
  pub together_renders : 1 < c.fixed.workers → (done : Result (Unit {0}) RenderStop)
      → OnOk done (CrewRendersAll (held_of of) c sink old new window windows d) → OnOk done (RendersBy of c sink old new window windows d)
  together_renders several (Ok u) all = record {
    stays = all.stays;
    put = all.put;
    journal = record { alone = λ one. absurd (omega (arith, one, several)); crew = λ some. (keys_of c.table, all.journal) };
    steady = all.steady;
  }
  together_renders several (Err stop) all = tt

  -- the stop of a render by one worker
  pub alone_stops : c.fixed.workers ≡ 1 → (done : Result (Unit {0}) RenderStop)
      → IfErr done (RenderStops (held_of of) c sink old new window windows d) → IfErr done (StopsBy of c sink old new window windows d)
  alone_stops one done = IfErr-weaker done (RenderStops (held_of of) c sink old new window windows d) (StopsBy of c sink old new window windows d)
      (ends_by (AreAloneFirst c.fixed.plan c.fixed.root c.fixed.capacity c.fixed.workers (keys_of c.table) window (frames_at c.fixed.plan c.fixed.root)) (AreAloneCut c.fixed.plan c.fixed.root c.fixed.capacity c.fixed.workers (keys_of c.table) window (frames_at c.fixed.plan c.fixed.root))
      (λ n first. record { alone = λ is. first.serial; crew = λ some. (keys_of c.table, first.crew) })
      (λ why n cut. record { named = (let serial = cut.serial in let last = serial.cut in last.named); alone = λ is. cut.serial; crew = λ some. (keys_of c.table, cut.crew) }))

  -- the stop of a render by several
  pub together_stops : 1 < c.fixed.workers → (done : Result (Unit {0}) RenderStop)
      → IfErr done (CrewStops (held_of of) c sink old new window windows d) → IfErr done (StopsBy of c sink old new window windows d)
  together_stops several done = IfErr-weaker done (CrewStops (held_of of) c sink old new window windows d) (StopsBy of c sink old new window windows d)
      (ends_by (AreCrewFirst c.fixed.plan c.fixed.root c.fixed.capacity c.fixed.workers (keys_of c.table) window (frames_at c.fixed.plan c.fixed.root)) (AreCrewCut c.fixed.plan c.fixed.root c.fixed.capacity c.fixed.workers (keys_of c.table) window (frames_at c.fixed.plan c.fixed.root))
      (λ n first. record { alone = λ one. absurd (omega (arith, one, several)); crew = λ is. (keys_of c.table, first) })
      (λ why n cut. record { named = cut.cut.named; alone = λ one. absurd (omega (arith, one, several)); crew = λ is. (keys_of c.table, cut) }))

  -- the core is between windows again
  pub stays_by : (done : Result (Unit {0}) RenderStop) → OnOk done (RendersBy of c sink old new window windows d) → IfErr done (StopsBy of c sink old new window windows d) → Stays holds_of c d
  stays_by (Ok u) whole stopped = whole.stays
  stays_by (Err (Stopped why)) whole stopped = stopped.stays
  stays_by (Err Write) whole stopped = stopped.stays
  stays_by (Err Memory) whole stopped = stopped.stays

  -- where all was put no instance has failed
  pub steady_by : (done : Result (Unit {0}) RenderStop) (plan : List Application) (workers frames : ℕ) (graph : List Application) (answer : Result RenderedClip Stop) → OnOk done (RendersBy of c sink old new window windows d) → IsTold plan workers done frames graph answer
      → OnOk answer (counts_in (faults_of of) d.table ≡ counts_in (faults_of of) c.table)
  steady_by (Ok u) plan workers frames graph (Ok all) whole told = whole.steady
  steady_by (Ok u) plan workers frames graph (Err stop) whole told = absurd told
  steady_by (Err why) plan workers frames graph (Ok all) whole told = absurd told
  steady_by (Err why) plan workers frames graph (Err stop) whole told = tt

  -- where no write is told to have failed none did
  pub unfailed_by : (done : Result (Unit {0}) RenderStop) (plan : List Application) (workers frames : ℕ) (graph : List Application) (answer : Result RenderedClip Stop) → OnOk done (RendersBy of c sink old new window windows d)
      → IfErr done (StopsBy of c sink old new window windows d) → IsTold plan workers done frames graph answer → (IsErrOf answer of_stop.Write → ⊥) → sink.faults new ≡ sink.faults old
  unfailed_by (Ok u) plan workers frames graph answer whole stopped told other = let put = whole.put.put in put.steady
  unfailed_by (Err (Stopped why)) plan workers frames graph answer whole stopped told other = let put = stopped.put.put in put.steady
  unfailed_by (Err Write) plan workers frames graph (Ok all) whole stopped told other = absurd told
  unfailed_by (Err Write) plan workers frames graph (Err stop) whole stopped told other = absurd (other (ap Err told))
  unfailed_by (Err Memory) plan workers frames graph answer whole stopped told other = let put = stopped.put.put in put.steady

  -- the stop names a source of its plan
  pub named_by : (done : Result (Unit {0}) RenderStop) → IfErr done (StopsBy of c sink old new window windows d) → IfErr done (NamesSource d.fixed.plan)
  named_by (Ok u) stopped = tt
  named_by (Err (Stopped why)) stopped = let stays = stopped.stays in let journal = stopped.journal in rw stays.plan journal.named
  named_by (Err Write) stopped = tt
  named_by (Err Memory) stopped = tt
