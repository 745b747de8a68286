-- The self test: a render in memory, whose stream is digested.
use Rattle.std.specs.Prelude.{◌≡◌, ◌⊎◌, ℕ, List, codes}
use Rattle.fv_io.specs.declared.sink.Sink.{Ghosts}
use Rattle.fv_io.specs.Sink.{Puts, PutsPrefix, SinkFailed}
use Rattle.fv_io.specs.World.{World}
use Rattle.fv_plane.specs.Picture.{Clip}
use Rattle.y4m_stream.specs.Stream.{stream}
use Rattle.self_test.specs.Workload.{self_world, digest_line}
use Rattle.prefetch.specs.Rendered.{PutsNothing}
use Rattle.serve_text.specs.declared.stop.Stop.{Stop}
use Rattle.serve_text.specs.declared.stop.Stop.TheVariants as of_stop
use Rattle.serve_text.specs.Lines.{Says, write_line, memory_line}
use Rattle.serve_app.specs.Meaning.{MeansClip}

-- the line that tells the stream of the clip that a script means in a world
pub record IsLineOf (world : World) (script line : List ℕ) : Type 0 where
  pub clip : Clip
  pub means : MeansClip world script clip
  pub line_is : line ≡ digest_line clip.info.frames (stream clip)

-- that of the self test's script, in its world
abbrev pub IsSelfLine : ℕ → List ℕ → Type 0
IsSelfLine number line = IsLineOf (self_world number) (codes "self.avs") line

module _ {K : Type 0} (sink : Ghosts K) (out new : K) (number : ℕ) where
  -- the line was put
  pub record PutsSelfLine : Type 0 where
    pub line : List ℕ
    pub is : IsSelfLine number line
    pub put : Puts sink out new line

  -- what a stop shows: a prefix of the line was put, or nothing
  abbrev pub SelfTestShows : Stop → Type 0
  SelfTestShows of_stop.Write = SinkFailed sink out new × ((line : List ℕ) → IsSelfLine number line → PutsPrefix sink out new line)
  SelfTestShows of_stop.Memory = PutsNothing sink out new
  SelfTestShows _ = ⊥

module _ {K E : Type 0} (sink : Ghosts K) (lines : Ghosts E) (out new : K) (err said : E) where
  -- the line is put, whole or cut short, or memory ran out before
  pub record SelfTestEnds (number status : ℕ) : Type 0 where
    pub whole : status ≡ 0 → PutsSelfLine sink out new number
    pub prefix : (line : List ℕ) → IsSelfLine number line → PutsPrefix sink out new line
    pub known : (status ≡ 0) ⊎ ((status ≡ 5) ⊎ (status ≡ 6))
    pub quiet : status ≡ 0 → said ≡ err
    pub write : status ≡ 5 → SinkFailed sink out new × Says lines err said write_line
    pub memory : status ≡ 6 → Says lines err said memory_line
