-- A core over the sources of a graph, and what its stream leaves.
use Rattle.std.proofs.Common.{◌≡◌, ◌∙◌, ℕ, List, [], ◌++◌, length, Option, Result, Ok, Err, OnOk, refl, sym, ap, subst}
use Rattle.std.proofs.lemmas.List.{map-append}
use Rattle.fv_io.specs.declared.source.Source as of_source
use Rattle.fv_io.specs.declared.sink.Sink.{Ghosts}
use Rattle.seq_source.specs.FrameSource.{FrameSource}
use Rattle.clip_graph.specs.Plan.{Application, IsPlan}
use Rattle.serve_worker.specs.Sources.{AreSources}
use Rattle.frame_cache.specs.Cached.{Cached}
use Rattle.inst_table.specs.declared.place.Place.{Place}
use Rattle.inst_table.specs.declared.place.Slot.{Slot}
use Rattle.serve_machine.specs.declared.windows.Record.{Record}
use Rattle.serve_core.specs.Calls.{made}
use Rattle.serve_core.specs.CoreValue.{CoreValue}
use Rattle.serve_core.specs.Kept.{leases_out}
use Rattle.serve_core.proofs.Standing.{calls_stand}
use Rattle.serve_worker.specs.declared.instance.Instance.{Instance}
use Rattle.serve_core.specs.Tables.{AllFree, held_in, counts_in}
use Rattle.serve_worker.specs.Furnishing.{sources_in, fault_counts, some_in, Furnishes}
use Rattle.serve_worker.specs.Instances.{feed_of, faults_of, holds_of}
use Rattle.serve_worker.proofs.CallerLemmas.{told_book, count_held, same_counts}
use Rattle.serve_core.proofs.Tables.{all_free}
use Rattle.serve_text.specs.declared.stop.Stop.{Stop}
use Rattle.prefetch.specs.declared.pool_size.Pool.{Pool}
use Rattle.prefetch.specs.declared.stream.RenderedClip.{RenderedClip}
use Rattle.prefetch.specs.StreamClips.{book_told}
use Rattle.prefetch.specs.Cores.{book_at, IsCoreOf}
use Rattle.prefetch.specs.Renders.{pool_at}
use Rattle.prefetch.specs.Streamed.{IsStreamed}

module _ {S : Type 0} (of : of_source.Ghosts S) (plan : List Application) (root capacity : ℕ) (by : Pool) (sources : List (FrameSource S)) where
  -- a new core over a table that was furnished for the graph
  pub core_of_new : (cache : Cached) (table : List (Place × Slot (Instance S))) (c : CoreValue (Instance S)) → c ≡ made plan root cache by.workers table
      → cache.pairs ≡ [] → cache.capacity ≡ capacity → Furnishes plan by.workers sources table → leases_out table ≡ 0 → IsPlan plan → AreSources plan sources
      → IsCoreOf of c plan root capacity by sources
  core_of_new cache table c new empty capacity_is furnishes unlent is_plan are =
      let book = told_book of plan by.workers sources table furnishes is_plan are in
      let stand = calls_stand (feed_of of) (faults_of of) in
      subst (λ d. IsCoreOf of d plan root capacity by sources) (sym new)
      (record {
        plan_is = refl;
        root_is = refl;
        capacity_is = capacity_is;
        workers_are = refl;
        between = refl;
        unclaimed = refl;
        unlent = unlent;
        empty = empty;
        book_is = book;
        stands = stand.new plan root by.workers cache table is_plan empty;
      })

  module _ (c : CoreValue (Instance S)) (is : IsCoreOf of c plan root capacity by sources) where
    pool_is : pool_at c by.window ≡ by
    pool_is = ap (λ n. record { workers = n; window = by.window }) is.workers_are

    -- what is left of the stream of the core is left of that of the graph
    pub streamed_of_graph : {K : Type 0} (sink : Ghosts K) (old new : K) (journal : Option Record) (table : List (Place × Slot (Instance S))) (done : Result RenderedClip Stop)
        → IsStreamed (faults_of of) c.fixed.plan c.fixed.root c.fixed.capacity (pool_at c by.window) (book_at of c) sink old new journal table done
        → IsStreamed (faults_of of) plan root capacity by (book_told of sources) sink old new journal table done
    streamed_of_graph {K = K} sink old new journal table done streamed =
        subst (λ p. IsStreamed (faults_of of) p root capacity by (book_told of sources) sink old new journal table done) is.plan_is
        (subst (λ r. IsStreamed (faults_of of) c.fixed.plan r capacity by (book_told of sources) sink old new journal table done) is.root_is
        (subst (λ n. IsStreamed (faults_of of) c.fixed.plan c.fixed.root n by (book_told of sources) sink old new journal table done) is.capacity_is
        (subst (λ h. IsStreamed (faults_of of) c.fixed.plan c.fixed.root c.fixed.capacity h (book_told of sources) sink old new journal table done) pool_is
        (subst (λ b. IsStreamed (faults_of of) c.fixed.plan c.fixed.root c.fixed.capacity (pool_at c by.window) b sink old new journal table done) is.book_is streamed))))

    -- a table that holds the sources of the core has as many
    pub sources_stay : (table : List (Place × Slot (Instance S))) → AllFree table → held_in holds_of table ≡ held_in holds_of c.table
        → length (sources_in table) ≡ length (sources_in c.table)
    sources_stay table free held = count_held table free ∙ ap some_in held ∙ sym (count_held c.table (all_free c.table is.unlent))

    -- and where its instances have failed as often, so have all sources
    pub counts_stay : {X E : Type 0} (table after : List (Place × Slot (Instance S))) (left : List (FrameSource S)) (done : Result X E) → AllFree table → held_in holds_of table ≡ held_in holds_of c.table → sources ≡ left ++ sources_in c.table → after ≡ table
        → OnOk done (counts_in (faults_of of) table ≡ counts_in (faults_of of) c.table) → OnOk done (fault_counts of (left ++ sources_in after) ≡ fault_counts of sources)
    counts_stay table after left (Err e) free held all same steady = tt
    counts_stay table after left (Ok x) free held all same steady =
        let counts = λ (it : FrameSource S). of.faults it.source in
        ap (λ t. fault_counts of (left ++ sources_in t)) same ∙ (map-append counts left (sources_in table) ∙ (ap (λ ns. fault_counts of left ++ ns) (same_counts of c.table table (all_free c.table is.unlent) free held steady)
        ∙ (sym (map-append counts left (sources_in c.table)) ∙ ap (fault_counts of) (sym all))))
