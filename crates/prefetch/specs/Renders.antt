-- What a render by the workers of a core leaves of it.
use Rattle.std.specs.Prelude.{ℕ, List}
use Rattle.fv_io.specs.declared.source.Source as of_source
use Rattle.fv_io.specs.declared.sink.Sink.{Ghosts}
use Rattle.serve_machine.specs.Events.{WindowEvents}
use Rattle.serve_core.specs.CoreValue.{CoreValue}
use Rattle.serve_worker.specs.declared.instance.Instance.{Instance}
use Rattle.serve_worker.specs.Instances.{Ends, feed_of, faults_of, holds_of, held_of}
use Rattle.prefetch.specs.declared.stops.RenderStop.{RenderStop}
use Rattle.prefetch.specs.Windows.{frames_at, AllRendered, RenderEnds}
use Rattle.prefetch.specs.Journals.{IsWholeBy, IsFirstBy, IsCutBy}
use Rattle.prefetch.specs.declared.pool_size.Pool.{Pool}

-- the workers of a core, and windows of so many outputs
abbrev pub pool_at : {I : Type 0} → CoreValue I → ℕ → Pool
pool_at c window = record { workers = c.fixed.workers; window = window }

module _ {S K : Type 0} (of : of_source.Ghosts S) (c : CoreValue (Instance S)) (sink : Ghosts K) (old new : K)
    (window : ℕ) (windows : List WindowEvents) (d : CoreValue (Instance S)) where
  -- all frames were put, no instance has failed, and the journal is that of a whole render
  abbrev pub RendersBy : Type 0
  RendersBy = AllRendered (held_of of) c sink old new
      (IsWholeBy c.fixed.plan c.fixed.root c.fixed.capacity (pool_at c window) (frames_at c.fixed.plan c.fixed.root))
      windows d

  -- or why not
  abbrev pub StopsBy : RenderStop → Type 0
  StopsBy stop = RenderEnds (held_of of) c sink old new
      (IsFirstBy c.fixed.plan c.fixed.root c.fixed.capacity (pool_at c window) (frames_at c.fixed.plan c.fixed.root))
      (IsCutBy c.fixed.plan c.fixed.root c.fixed.capacity (pool_at c window) (frames_at c.fixed.plan c.fixed.root))
      windows d stop
