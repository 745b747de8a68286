-- What is left where the stream of a clip was to be put.
use Rattle.std.specs.Prelude.{◌≡◌, ℕ, List, Option, Result, IfOk, IfErr, OnOk}
use Rattle.fv_io.specs.declared.sink.Sink.{Ghosts}
use Rattle.clip_graph.specs.Plan.{Application, application_at}
use Rattle.inst_table.specs.declared.place.Place.{Place}
use Rattle.inst_table.specs.declared.place.Slot.{Slot}
use Rattle.serve_core.specs.Stands.{Book}
use Rattle.serve_machine.specs.declared.windows.Record.{Record}
use Rattle.prefetch.specs.Windows.{frames_at}
use Rattle.serve_text.specs.declared.stop.Stop.{Stop}
use Rattle.prefetch.specs.declared.pool_size.Pool.{Pool}
use Rattle.prefetch.specs.declared.stream.RenderedClip.{RenderedClip}
use Rattle.prefetch.specs.StreamClips.{IsClipOf, PutsFrames, StreamShows}
use Rattle.prefetch.specs.Journals.{IsRendered, CutsShort}
use Rattle.prefetch.specs.Rendered.{stop_in, TellsStop, HeadShows}

-- the stream of the clip at the root of a plan, over the frames that its sources tell, with this pool of workers
module _ {I K : Type 0} (faults : I → ℕ) (plan : List Application) (root capacity : ℕ) (by : Pool) (book : Book)
    (sink : Ghosts K) (old new : K) where
  pub record IsStreamed (journal : Option Record) (table : List (Place × Slot I)) (done : Result RenderedClip Stop) : Type 0 where
    -- the head and all frames were put, or what stopped it
    pub put : IfOk done (λ all. PutsFrames sink plan root book old new all.frames)
    pub frames : IfOk done (λ all. all.frames ≡ frames_at plan root)
    pub graph : IfOk done (λ all. all.graph ≡ plan)
    pub workers : IfOk done (λ all. all.workers ≡ by.workers)
    pub stop : IfErr done (StreamShows sink plan root book old new faults table)
    -- the journal is that of the whole render, or the beginning of it; there is one where the head was put
    pub rendered : OnOk done (IsRendered plan root capacity by journal)
    pub cut : CutsShort plan root capacity by sink old new (IsClipOf plan root book) (TellsStop (stop_in done) plan) journal
    pub head : HeadShows sink old new (λ info. info ≡ (application_at plan root).info) (stop_in done) journal
