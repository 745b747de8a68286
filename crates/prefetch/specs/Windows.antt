-- Windows of outputs: the clip and the pool that they are of, one after the other, and one at a time in any order.
use Rattle.std.specs.List.{range_with_len}
use Rattle.std.specs.Map.{keys_of}
use Rattle.std.specs.Prelude.{ℕ, List, map, ◌*◌, ◌≤◌, Option, Some, None, [], ◌∷◌, ◌≡◌, length, All, ◌++◌, Result, OnOk, OnErr}
use Rattle.fv_io.specs.Sink.{Puts, PutsPrefix, SinkFailed, IsLater}
use Rattle.fv_io.specs.declared.sink.Sink.{Ghosts}
use Rattle.fv_io.specs.declared.source.Failed.{Failed}
use Rattle.fv_plane.specs.Picture.{Clip, Picture, bytes_of, IsPicture}
use Rattle.fv_plane.specs.declared.format.Info.{Info}
use Rattle.fv_plane.specs.declared.key.Key.{Key}
use Rattle.y4m_stream.specs.Stream.{frames_text}
use Rattle.clip_graph.specs.Plan.{Application, application_at, key_picture}
use Rattle.avs_meaning.specs.State.{Numbers, frames_or, workers as workers_asked, window as outputs_asked}
use Rattle.inst_table.specs.declared.held.Held.{Ghosts as HeldGhosts}
use Rattle.serve_machine.specs.Events.{frame_key, WindowEvents}
use Rattle.serve_machine.specs.Journals.{AreCrewFirst, AreCrewCut, IsAloneJournal, AreAloneFirst, AreAloneCut}
use Rattle.serve_machine.specs.SerialRun.{serial_window}
use Rattle.serve_machine.specs.declared.event.Event.{Event}
use Rattle.serve_machine.specs.declared.event.WindowStop.{WindowStop}
use Rattle.serve_core.specs.CoreValue.{CoreValue}
use Rattle.serve_core.specs.Sources.{shape_at}
use Rattle.serve_core.specs.Stands.{Book, Stands, StopFits, EndShows}
use Rattle.serve_core.specs.Tables.{AllFree, held_in, counts_in}
use Rattle.serve_core.specs.declared.answers.Finished.{Finished}
use Rattle.prefetch.specs.declared.pool_size.Pool.{Pool}
use Rattle.prefetch.specs.declared.pool_size.PoolSize.{PoolSize}
use Rattle.prefetch.specs.declared.pool_size.PoolSize.TheVariants.{One, Asked}
use Rattle.prefetch.specs.declared.stops.RenderStop.{RenderStop}
use Rattle.prefetch.specs.declared.stops.RenderStop.TheVariants.{Stopped, Write, Memory}

-- ==== The clip that a node of a plan stands for.

-- so many of the node's pictures from a number on, by the pictures of the sources
abbrev pub pictures_from : List (List Picture) → List Application → ℕ → ℕ → ℕ → List Picture
pictures_from book plan root first count =
    map (λ n. key_picture book plan (frame_key root n)) (range_with_len first count)

abbrev pub clip_at : List (List Picture) → List Application → ℕ → Clip
clip_at book plan root = record {
  info = (application_at plan root).info;
  pictures = pictures_from book plan root 0 (application_at plan root).info.frames;
}

-- ==== How many workers a render has, and how many outputs a window (AviSynth+ wiki, "Prefetch").

-- so many threads that the words ask for, in place of those of the script. A window has the frames that the script gives,
-- or twice as many as there are workers
abbrev pub pool_asked : Option ℕ → Option Numbers → Pool
pool_asked None crew = record { workers = workers_asked crew; window = outputs_asked crew }
pool_asked (Some threads) None = record { workers = threads; window = 2 * threads }
pool_asked (Some threads) (Some crew) = record { workers = threads; window = frames_or threads crew.frames }

-- by what the script asks for
abbrev pub pool : PoolSize → Option Numbers → Pool
pool One crew = record { workers = 1; window = 1 }
pool (Asked threads) crew = pool_asked threads crew

-- the words ask for 1 to 16 threads
abbrev pub AreThreads : Option ℕ → Type 0
AreThreads None = Unit {0}
AreThreads (Some threads) = (1 ≤ threads) × (threads ≤ 16)

abbrev pub IsPoolSize : PoolSize → Type 0
IsPoolSize One = Unit {0}
IsPoolSize (Asked threads) = AreThreads threads

-- ==== Windows of one output each, of numbers in any order, from what is cached.

module _ (plan : List Application) (root capacity : ℕ) where
  -- the window of an output, and the keys that are cached after it
  abbrev pub window_asked : List Key → ℕ → WindowEvents
  window_asked keys n = record { first = n; count = 1; events = (serial_window plan root capacity keys n 1).events }

  abbrev pub keys_left : List Key → ℕ → List Key
  keys_left keys n = (serial_window plan root capacity keys n 1).keys

  -- those of several, one after the other
  abbrev pub windows_asked : List Key → List ℕ → List WindowEvents
  windows_asked keys [] = []
  windows_asked keys (n ∷ ns) = window_asked keys n ∷ windows_asked (keys_left keys n) ns

-- ==== Windows of outputs, one after the other, and the frames that are put of them; what one window leaves.

-- the frames that are there
abbrev pub given : {A : Type 0} → List (Option A) → List A
given [] = []
given (None ∷ xs) = given xs
given (Some x ∷ xs) = x ∷ given xs

-- the texts of pictures, one after the other
abbrev pub pictures_text : List Picture → List ℕ
pictures_text pictures = frames_text (map bytes_of pictures)

-- these pictures were put, each of them whole, and no fault of the sink was counted
pub record PutsPictures {K : Type 0} (sink : Ghosts K) (old new : K) (pictures : List Picture) : Type 0 where
  pub put : Puts sink old new (pictures_text pictures)
  pub whole : All IsPicture pictures
  pub steady : sink.faults new ≡ sink.faults old

-- the number of the root's frames
abbrev pub frames_at : List Application → ℕ → ℕ
frames_at plan root = (application_at plan root).info.frames

module _ {I : Type 0} (holds : I → Option Info) (c : CoreValue I) where
  -- a core that is between windows again, over the same plan
  pub record Stays (d : CoreValue I) : Type 0 where
    pub between : d.fixed.count ≡ 0
    pub plan : d.fixed.plan ≡ c.fixed.plan
    pub root : d.fixed.root ≡ c.fixed.root
    pub workers : d.fixed.workers ≡ c.fixed.workers
    pub capacity : d.fixed.capacity ≡ c.fixed.capacity
    pub unclaimed : d.claims ≡ []
    pub free : AllFree d.table
    pub held : held_in holds d.table ≡ held_in holds c.table

module _ {I : Type 0} (of : HeldGhosts I) where
  -- a core stands for this book, with numbers of which something holds
  pub record StandsStill (P : List ℕ → Type 0) (book : Book) (d : CoreValue I) : Type 0 where
    pub numbers : List ℕ
    pub stands : Stands of.feed of.faults book numbers d
    pub with_it : P numbers

module _ {I : Type 0} (of : HeldGhosts I) (c : CoreValue I) where
  module _ {K : Type 0} (sink : Ghosts K) where
    module _ (old new : K) where
      -- the first n frames of the root were put
      pub record PutsFirst (n : ℕ) : Type 0 where
        pub pictures : List Picture
        pub count : length pictures ≡ n
        pub shapes : All (λ (x : Picture). x.shape ≡ shape_at c.fixed.plan c.fixed.root) pictures
        pub right : (b : List (List Picture)) (numbers : List ℕ) → Stands of.feed of.faults (Some b) numbers c
            → pictures ≡ pictures_from b c.fixed.plan c.fixed.root 0 n
        pub put : PutsPictures sink old new pictures

      -- all frames were put, no instance has failed, and the journal is of a kind
      pub record AllRendered (IsWhole : List WindowEvents → Type 0) (windows : List WindowEvents) (d : CoreValue I)
          : Type 0 where
        pub stays : Stays of.holds c d
        pub put : PutsFirst (frames_at c.fixed.plan c.fixed.root)
        pub journal : IsWhole windows
        pub steady : counts_in of.faults d.table ≡ counts_in of.faults c.table

      -- the window of the next outputs was cut short by this stop, and its frames were not put
      pub record StoppedAfter (IsCut : WindowStop → List WindowEvents → ℕ → Type 0) (windows : List WindowEvents)
          (why : WindowStop) (d : CoreValue I) : Type 0 where
        pub stays : Stays of.holds c d
        pub count : ℕ
        pub few : count ≤ frames_at c.fixed.plan c.fixed.root
        pub put : PutsFirst count
        pub journal : IsCut why windows count
        pub ended : EndShows of.ends d.table why
        pub stands : (book : Book) (numbers : List ℕ) → Stands of.feed of.faults book numbers c
            → StandsStill of (λ now. StopFits of.feed of.faults book now c.fixed.plan d.table why) book d

      -- the sink failed, and no window was cut short
      pub record FailedAfter (IsFirst : List WindowEvents → ℕ → Type 0) (windows : List WindowEvents) (d : CoreValue I)
          : Type 0 where
        pub stays : Stays of.holds c d
        pub count : ℕ
        pub few : count ≤ frames_at c.fixed.plan c.fixed.root
        pub failed : SinkFailed sink old new
        pub begun : (front : List ℕ) × Puts sink old new front
        pub cut : (b : List (List Picture)) (numbers : List ℕ) → Stands of.feed of.faults (Some b) numbers c
            → PutsPrefix sink old new (pictures_text (pictures_from b c.fixed.plan c.fixed.root 0 count))
        pub journal : IsFirst windows count

      -- memory ran out between two windows, and none was cut short
      pub record EndedBetween (IsFirst : List WindowEvents → ℕ → Type 0) (windows : List WindowEvents) (d : CoreValue I)
          : Type 0 where
        pub stays : Stays of.holds c d
        pub count : ℕ
        pub few : count ≤ frames_at c.fixed.plan c.fixed.root
        pub put : PutsFirst count
        pub journal : IsFirst windows count

      -- why not all frames were put
      abbrev pub RenderEnds : (List WindowEvents → ℕ → Type 0) → (WindowStop → List WindowEvents → ℕ → Type 0)
          → List WindowEvents → CoreValue I → RenderStop → Type 0
      RenderEnds IsFirst IsCut windows d (Stopped why) = StoppedAfter IsCut windows why d
      RenderEnds IsFirst IsCut windows d Write = FailedAfter IsFirst windows d
      RenderEnds IsFirst IsCut windows d Memory = EndedBetween IsFirst windows d

      -- by one worker the journal is the serial run, or the beginning of it, and its windows are a crew's too
      abbrev pub RendersAll : ℕ → List WindowEvents → CoreValue I → Type 0
      RendersAll size windows d = AllRendered (IsAloneJournal c.fixed.plan c.fixed.root c.fixed.capacity c.fixed.workers
          (keys_of c.table) size (frames_at c.fixed.plan c.fixed.root)) windows d

      abbrev pub RenderStops : ℕ → List WindowEvents → CoreValue I → RenderStop → Type 0
      RenderStops size windows d stop = RenderEnds
          (AreAloneFirst c.fixed.plan c.fixed.root c.fixed.capacity c.fixed.workers (keys_of c.table) size
          (frames_at c.fixed.plan c.fixed.root))
          (AreAloneCut c.fixed.plan c.fixed.root c.fixed.capacity c.fixed.workers (keys_of c.table) size
          (frames_at c.fixed.plan c.fixed.root)) windows d stop

      -- by several workers it is that of a crew
      abbrev pub CrewRendersAll : ℕ → List WindowEvents → CoreValue I → Type 0
      CrewRendersAll size windows d = AllRendered (λ vs. AreCrewFirst c.fixed.plan c.fixed.root c.fixed.capacity
          c.fixed.workers (keys_of c.table) size (frames_at c.fixed.plan c.fixed.root) vs
          (frames_at c.fixed.plan c.fixed.root)) windows d

      abbrev pub CrewStops : ℕ → List WindowEvents → CoreValue I → RenderStop → Type 0
      CrewStops size windows d stop = RenderEnds
          (AreCrewFirst c.fixed.plan c.fixed.root c.fixed.capacity c.fixed.workers (keys_of c.table) size
          (frames_at c.fixed.plan c.fixed.root))
          (AreCrewCut c.fixed.plan c.fixed.root c.fixed.capacity c.fixed.workers (keys_of c.table) size
          (frames_at c.fixed.plan c.fixed.root)) windows d stop

-- ---- What one window leaves, and what of it is put.

-- the journal with a window more
abbrev pub with_window : List WindowEvents → ℕ → ℕ → List Event → List WindowEvents
with_window log first count events = log ++ record { first = first; count = count; events = events } ∷ []

module _ {K : Type 0} (sink : Ghosts K) (old new : K) where
  -- frames were put, or the sink failed before all were
  pub record PutsFrames (frames : List (Option Picture)) (ended : Result (Unit {0}) Failed) : Type 0 where
    pub put : OnOk ended (PutsPictures sink old new (given frames))
    pub cut : OnErr ended (PutsPrefix sink old new (pictures_text (given frames)))
    pub failed : OnErr ended (SinkFailed sink old new)
    pub later : IsLater sink old new

  -- the frames of a window without a stop were put
  abbrev pub PutsFinished : Finished → Type 0
  PutsFinished finished = (finished.stop ≡ None) × PutsPictures sink old new (given finished.frames.items)

  -- why they were not: nothing is put of a window with a stop, or the sink failed
  abbrev pub PutStops : Finished → RenderStop → Type 0
  PutStops finished (Stopped why) = (finished.stop ≡ Some why) × (new ≡ old)
  PutStops finished Write = (finished.stop ≡ None) × SinkFailed sink old new
      × PutsPrefix sink old new (pictures_text (given finished.frames.items))
  PutStops finished Memory = ⊥

module _ {I : Type 0} (of : HeldGhosts I) (c : CoreValue I) where
  -- a core between windows, which stands for what c stood, and in which each instance has failed as often as in c
  pub record Keeps (d : CoreValue I) : Type 0 where
    pub stays : Stays of.holds c d
    pub stands : (book : Book) (numbers : List ℕ) → Stands of.feed of.faults book numbers c
        → StandsStill of (λ now. Unit {0}) book d
    pub steady : counts_in of.faults d.table ≡ counts_in of.faults c.table

  -- all outputs of a window are delivered
  pub record WindowDelivered (first count : ℕ) (finished : Finished) (d : CoreValue I) : Type 0 where
    pub all : length (given finished.frames.items) ≡ count
    pub shapes : All (λ (x : Picture). x.shape ≡ shape_at c.fixed.plan c.fixed.root) (given finished.frames.items)
    pub right : (b : List (List Picture)) (numbers : List ℕ) → Stands of.feed of.faults (Some b) numbers c
        → given finished.frames.items ≡ pictures_from b c.fixed.plan c.fixed.root first count
    pub keeps : Keeps d

  -- or it was cut short by this stop
  pub record WindowStopped (why : WindowStop) (d : CoreValue I) : Type 0 where
    pub stays : Stays of.holds c d
    pub ended : EndShows of.ends d.table why
    pub stands : (book : Book) (numbers : List ℕ) → Stands of.feed of.faults book numbers c
        → StandsStill of (λ now. StopFits of.feed of.faults book now c.fixed.plan d.table why) book d

  -- events of a window that is whole and left a core, or that was cut short, are of some kind
  module _ (IsWhole : List Event → CoreValue I → Type 0) (IsCut : WindowStop → List Event → Type 0) (first count : ℕ)
    where
      abbrev pub WindowEnds : Finished → Option WindowStop → CoreValue I → Type 0
      WindowEnds finished None d = WindowDelivered first count finished d × IsWhole finished.events.items d
      WindowEnds finished (Some why) d = WindowStopped why d × IsCut why finished.events.items

      module _ (log longer : List WindowEvents) (d : CoreValue I) where
        -- one window more, which is whole: its events are in the journal
        pub record AddsWindow (finished : Finished) : Type 0 where
          pub delivered : WindowDelivered first count finished d
          pub whole : IsWhole finished.events.items d
          pub log_is : longer ≡ with_window log first count finished.events.items

        -- one more, which was cut short
        pub record CutsWindow (why : WindowStop) : Type 0 where
          pub events : List Event
          pub stopped : WindowStopped why d
          pub cut : IsCut why events
          pub log_is : longer ≡ with_window log first count events

        -- the window is whole, and these are its frames
        pub record MakesWindow (frames : List (Option Picture)) : Type 0 where
          pub finished : Finished
          pub adds : AddsWindow finished
          pub frames_are : frames ≡ finished.frames.items

        -- it was cut short, or could not begin
        abbrev pub UnmadeWindow : RenderStop → Type 0
        UnmadeWindow (Stopped why) = CutsWindow why
        UnmadeWindow Write = ⊥
        UnmadeWindow Memory = (longer ≡ log) × (d ≡ c)

        module _ {K : Type 0} (sink : Ghosts K) (old new : K) where
          -- the window is whole, and its frames were put
          pub record PutsWindow : Type 0 where
            pub finished : Finished
            pub adds : AddsWindow finished
            pub put : PutsPictures sink old new (given finished.frames.items)

          -- its frames were not put whole, since the sink failed
          pub record FailsToPut : Type 0 where
            pub finished : Finished
            pub adds : AddsWindow finished
            pub failed : SinkFailed sink old new
            pub cut : PutsPrefix sink old new (pictures_text (given finished.frames.items))

          -- nothing is put of one that was cut short
          abbrev pub WindowShows : RenderStop → Type 0
          WindowShows (Stopped why) = CutsWindow why × (new ≡ old)
          WindowShows Write = FailsToPut
          WindowShows Memory = (longer ≡ log) × (new ≡ old) × (d ≡ c)
