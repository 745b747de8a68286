-- A core over the sources of a graph.
use Rattle.std.specs.Prelude.{◌≡◌, ℕ, [], List, Result, Ok, Err}
use Rattle.fv_io.specs.declared.source.Source.{Ghosts}
use Rattle.seq_source.specs.FrameSource.{FrameSource}
use Rattle.clip_graph.specs.Plan.{Application}
use Rattle.serve_core.specs.CoreValue.{CoreValue}
use Rattle.serve_core.specs.Kept.{leases_out}
use Rattle.serve_core.specs.Sources.{book_of, faults_of as faults_in}
use Rattle.serve_core.specs.Stands.{Book, Stands}
use Rattle.serve_worker.specs.declared.instance.Instance.{Instance}
use Rattle.serve_worker.specs.Instances.{feed_of, faults_of}
use Rattle.prefetch.specs.declared.stops.RenderStop.{RenderStop}
use Rattle.serve_text.specs.declared.stop.Stop.{Stop}
use Rattle.prefetch.specs.declared.pool_size.Pool.{Pool}
use Rattle.prefetch.specs.declared.stream.RenderedClip.{RenderedClip}
use Rattle.prefetch.specs.StreamClips.{book_told}
use Rattle.prefetch.specs.Rendered.{ToldAs}

module _ {S : Type 0} (of : Ghosts S) (c : CoreValue (Instance S)) where
  -- the frames of its sources, where all are told
  abbrev pub book_at : Book
  book_at = book_of (feed_of of) c.fixed.plan c.table

  -- it stands for them
  abbrev pub StandsForSources : Type 0
  StandsForSources = Stands (feed_of of) (faults_of of) book_at (faults_in (faults_of of) c.fixed.plan c.table) c

  -- a core of this graph and these sources, between windows, that has cached nothing
  pub record IsCoreOf (plan : List Application) (root capacity : ℕ) (by : Pool) (sources : List (FrameSource S)) : Type 0 where
    pub plan_is : c.fixed.plan ≡ plan
    pub root_is : c.fixed.root ≡ root
    pub capacity_is : c.fixed.capacity ≡ capacity
    pub workers_are : c.fixed.workers ≡ by.workers
    pub between : c.fixed.count ≡ 0
    pub unclaimed : c.claims ≡ []
    pub unlent : leases_out c.table ≡ 0
    pub empty : c.cache ≡ []
    pub book_is : book_at ≡ book_told of sources
    pub stands : StandsForSources

-- how a render by so many workers that is over is told
abbrev pub IsTold : List Application → ℕ → Result (Unit {0}) RenderStop → ℕ → List Application → Result RenderedClip Stop → Type 0
IsTold plan workers (Ok u) frames graph (Ok all) =
    all ≡ record { frames = frames; workers = workers; graph = graph }
IsTold plan workers (Ok u) frames graph (Err stop) = ⊥
IsTold plan workers (Err why) frames graph (Ok all) = ⊥
IsTold plan workers (Err why) frames graph (Err stop) = ToldAs plan why stop
