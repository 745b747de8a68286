-- What the render of a script leaves.
use Rattle.std.specs.Prelude.{◌≡◌, ℕ, List, Option, Result, OnOk, IfOk, IfErr}
use Rattle.fv_io.specs.declared.sink.Sink.{Ghosts}
use Rattle.fv_io.specs.Sink.{Puts}
use Rattle.fv_io.specs.World.{World, InWorld}
use Rattle.fv_plane.specs.Picture.{Clip}
use Rattle.y4m_stream.specs.Stream.{stream}
use Rattle.serve_machine.specs.declared.windows.Record.{Record}
use Rattle.serve_text.specs.declared.stop.Stop.{Stop}
use Rattle.prefetch.specs.declared.pool_size.PoolSize.{PoolSize}
use Rattle.prefetch.specs.declared.stream.RenderedClip.{RenderedClip}
use Rattle.prefetch.specs.Rendered.{PutsFramesOnly, stop_in, TellsStop, HeadShows}
use Rattle.serve_app.specs.Journals.{IsRunOf, ScriptCuts}
use Rattle.serve_app.specs.Meaning.{MeansClip}
use Rattle.serve_app.specs.Stop.{RenderShows, HasInfo}

-- the stream of the clip that the script means in this world, of so many frames, was put
pub record PutsClip {K : Type 0} (sink : Ghosts K) (world : World) (script : List ℕ) (old new : K) (frames : ℕ) : Type 0 where
  pub clip : Clip
  pub means : MeansClip world script clip
  pub put : Puts sink old new (stream clip)
  pub frames_are : frames ≡ clip.info.frames

-- the render of this script, with a cache of so many frames and a pool of this size, where a read failed only if this holds
module _ {K : Type 0} (told : Option World) (script : List ℕ) (capacity : ℕ) (pool_size : PoolSize) (failed : Type 0)
    (sink : Ghosts K) (old new : K) where
  pub record IsScriptRender (journal : Option Record) (done : Result RenderedClip Stop) : Type 0 where
    -- its clip was put, or what stopped it
    pub whole : IfOk done (λ all. InWorld told (λ world. PutsClip sink world script old new all.frames))
    pub stop : IfErr done (RenderShows failed sink told script old new)
    pub untorn : OnOk done (PutsFramesOnly sink old new)
    -- the journal is that of the whole render, or the beginning of it; there is one where the head was put
    pub rendered : IfOk done (λ all. IsRunOf told script capacity pool_size journal all.graph all.workers)
    pub cut : ScriptCuts told script capacity pool_size sink old new (TellsStop (stop_in done)) journal
    pub head : HeadShows sink old new (HasInfo told script) (stop_in done) journal
