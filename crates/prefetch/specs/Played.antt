-- A clip whose frames are asked for by number: a core, its windows of one frame each, and why the last was cut short.
use Rattle.std.specs.Prelude.{◌≡◌, ℕ, ◌<◌, List, [], ◌∷◌, ◌++◌, Option, Some}
use Rattle.std.specs.Map.{keys_of}
use Rattle.fv_io.specs.declared.source.Source as of_source
use Rattle.fv_plane.specs.Picture.{bytes_of, Picture}
use Rattle.clip_graph.specs.Plan.{Application, application_at, key_picture}
use Rattle.serve_machine.specs.declared.event.WindowStop.{WindowStop}
use Rattle.serve_machine.specs.Events.{frame_key, WindowEvents}
use Rattle.serve_core.specs.CoreValue.{CoreValue}
use Rattle.serve_core.specs.Stands.{Stands}
use Rattle.serve_worker.specs.declared.instance.Instance.{Instance}
use Rattle.serve_worker.specs.Instances.{Ends, feed_of, faults_of, holds_of, held_of}
use Rattle.serve_text.specs.InfoText.{clip_line}
use Rattle.prefetch.specs.Windows.{window_asked, keys_left, Keeps, CutsWindow, frames_at}
use Rattle.prefetch.specs.SerialWindows.{IsSerialWindow, IsCutSerial}

-- what contracts see of one that is played
pub record PlayedValue (I : Type 0) : Type 0 where
  pub core : CoreValue I
  pub windows : List WindowEvents
  pub stop : Option WindowStop

-- the bytes of the frames of a plan's root, over the frames of its sources
abbrev pub frame_bytes_at : List (List Picture) → List Application → ℕ → ℕ → List ℕ
frame_bytes_at book plan root n = bytes_of (key_picture book plan (frame_key root n))

-- the line of a plan's root
abbrev pub line_at : List Application → ℕ → List ℕ
line_at plan root = clip_line (application_at plan root).info

module _ {S : Type 0} (of : of_source.Ghosts S) where
  -- the core stands for frames of these bytes
  pub record StandsForFrames (c : CoreValue (Instance S)) (at : ℕ → List ℕ) : Type 0 where
    pub book : List (List Picture)
    pub numbers : List ℕ
    pub stands : Stands (feed_of of) (faults_of of) (Some book) numbers c
    pub at_is : (n : ℕ) → n < frames_at c.fixed.plan c.fixed.root → at n ≡ frame_bytes_at book c.fixed.plan c.fixed.root n

  module _ (p : PlayedValue (Instance S)) (n : ℕ) (q : PlayedValue (Instance S)) where
    -- the frame was made, in a window of its own, which is that of the serial run
    pub record MakesFrame : Type 0 where
      pub keeps : Keeps (held_of of) p.core q.core
      pub windows : q.windows ≡ p.windows ++ window_asked p.core.fixed.plan p.core.fixed.root p.core.fixed.capacity
          (keys_of p.core.cache) n ∷ []
      pub keys : keys_of q.core.cache ≡ keys_left p.core.fixed.plan p.core.fixed.root p.core.fixed.capacity
          (keys_of p.core.cache) n
      pub stop : q.stop ≡ p.stop

    -- its window was cut short
    pub record StopsInFrame : Type 0 where
      pub why : WindowStop
      pub stop : q.stop ≡ Some why
      pub cuts : CutsWindow (held_of of) p.core (IsSerialWindow p.core n 1)
          (IsCutSerial p.core) n 1 p.windows q.windows q.core why

  -- there is one picture, and it is the frame of each book for which the core stands
  pub record IsFrameOf (p : PlayedValue (Instance S)) (n : ℕ) (pictures : List Picture) : Type 0 where
    pub one : Picture
    pub only : pictures ≡ one ∷ []
    pub right : (at : ℕ → List ℕ) → StandsForFrames p.core at → bytes_of one ≡ at n
