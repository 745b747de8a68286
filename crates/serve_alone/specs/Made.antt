-- What the calls of one worker leave of the core.
use Rattle.std.specs.Prelude.{◌≡◌, ◌⊎◌, ℕ, ◌-◌, ◌<◌, ◌≤◌, true, List, [], ◌∷◌, ◌++◌, map, take, Some, Result, Ok, Err, IsErrOf}
use Rattle.std.specs.Map.{keys_of}
use Rattle.fv_plane.specs.Picture.{Picture}
use Rattle.fv_plane.specs.declared.key.Key.{Key}
use Rattle.clip_graph.specs.Plan.{Application, input_keys, key_picture, AreOfKeys}
use Rattle.frame_cache.specs.Cached.{without_key}
use Rattle.inst_table.specs.declared.held.Held.{Ghosts}
use Rattle.inst_table.specs.Lent.{Lent}
use Rattle.serve_machine.specs.declared.event.Event.{Event}
use Rattle.serve_machine.specs.declared.event.Event.TheVariants.{Publish}
use Rattle.serve_machine.specs.declared.event.WindowStop.{WindowStop}
use Rattle.serve_machine.specs.declared.event.WindowStop.TheVariants.{Read}
use Rattle.serve_machine.specs.Events.{has_got, has_got_all, may_fail, names_source}
use Rattle.serve_machine.specs.SerialRun.{serial_production_within, each_produced, leases, eviction_from}
use Rattle.serve_core.specs.Calls.{after_leave}
use Rattle.serve_core.specs.CoreValue.{CoreValue}
use Rattle.serve_core.specs.Holds.{IsThere}
use Rattle.serve_core.specs.Sources.{shape_at}
use Rattle.serve_core.specs.Stands.{Book, Stands, StopFits, IsRight, EndShows}
use Rattle.serve_core.specs.Tables.{AllFree, held_in, counts_in}
use Rattle.serve_alone.specs.Alone.{Went, Ran}
use Rattle.serve_core.specs.Works.{IsMade, MakeStops}

module _ {I : Type 0} (of : Ghosts I) (plan : List Application) where
  -- what an instance made of a key, or why it stopped
  abbrev pub MadeBy : Key → List Picture → I → I → Result Picture WindowStop → Type 0
  MadeBy k inputs old new (Ok frame) = IsMade plan k (of.feed old) inputs frame
  MadeBy k inputs old new (Err why) = MakeStops of.feed of.faults of.ends plan k.node old new why

  -- an instance was used and given back
  pub record Returned (k : Key) (inputs : List Picture) (l : Lent I) (c : CoreValue I)
      (made : Result Picture WindowStop) (d : CoreValue I) : Type 0 where
    pub value : I
    pub core : d ≡ after_leave c 0 l.place value
    pub feed_same : of.feed value ≡ of.feed l.value
    pub faults_more : of.faults l.value ≤ of.faults value
    pub steady : (IsErrOf made (Read k.node) → ⊥) → of.faults value ≡ of.faults l.value
    pub holds_same : of.holds value ≡ of.holds l.value
    pub made_by : MadeBy k inputs l.value value made

  module _ (c : CoreValue I) where
    -- the core stands for what it stood for, and with it something holds
    abbrev pub Keeps : CoreValue I → (Book → List ℕ → Type 0) → Type 0
    Keeps d P = (book : Book) (numbers : List ℕ) → Stands of.feed of.faults book numbers c
        → Stands of.feed of.faults book numbers d × P book numbers

    -- the frames are those of these keys
    abbrev pub AreRight : List Key → List Picture → Book → Type 0
    AreRight ks frames book = (b : List (List Picture)) → book ≡ Some b → frames ≡ map (key_picture b plan) ks

    -- why worker 0 stops: the stop names a source that it entered, whose fault shows in the table
    pub record StopIs (why : WindowStop) (d : CoreValue I) : Type 0 where
      pub cause : may_fail 0 why d.journal ≡ true
      pub named : names_source plan why ≡ true
      pub there : IsThere d.table why
      pub ended : EndShows of.ends d.table why
      pub right : Keeps d (λ book numbers. StopFits of.feed of.faults book numbers plan d.table why)

    -- the frame of a key was made, with its instance out for a while
    pub record Made (k : Key) (inputs : List Picture) (frame : Picture) (d : CoreValue I) : Type 0 where
      pub went : Went of.holds c d (leases plan 0 k.node)
      pub cache : d.cache ≡ c.cache
      pub steady : counts_in of.faults d.table ≡ counts_in of.faults c.table
      pub shape : frame.shape ≡ shape_at plan k.node
      pub right : Keeps d (λ book numbers. AreRight (input_keys plan k) inputs book → IsRight book plan k frame)

    -- it was not made
    pub record Unmade (k : Key) (why : WindowStop) (d : CoreValue I) : Type 0 where
      pub events : List Event
      pub which : (events ≡ []) ⊎ (events ≡ leases plan 0 k.node)
      pub went : Went of.holds c d events
      pub stops : StopIs why d

    -- a claimed key was published, once its inputs were got
    pub record Published (k : Key) (inputs : List Picture) (frame : Picture) (d : CoreValue I) : Type 0 where
      pub journal : d.journal ≡ c.journal ++ (leases plan 0 k.node
          ++ (eviction_from 0 c.fixed.capacity (keys_of c.cache) ++ Publish 0 k ∷ []))
      pub keys : keys_of d.cache ≡ k ∷ take (c.fixed.capacity - 1) (keys_of c.cache)
      pub claims : d.claims ≡ without_key k c.claims
      pub fixed : d.fixed ≡ c.fixed
      pub outputs : d.outputs ≡ c.outputs
      pub failed : d.failed ≡ c.failed
      pub stop : d.stop ≡ c.stop
      pub free : AllFree d.table
      pub held : held_in of.holds d.table ≡ held_in of.holds c.table
      pub steady : counts_in of.faults d.table ≡ counts_in of.faults c.table
      pub shape : frame.shape ≡ shape_at plan k.node
      pub right : (book : Book) (numbers : List ℕ) → Stands of.feed of.faults book numbers c
          → AreRight (input_keys plan k) inputs book
          → Stands of.feed of.faults book numbers d × IsRight book plan k frame

    -- a key was produced as in the serial run
    pub record Produced (k : Key) (frame : Picture) (d : CoreValue I) : Type 0 where
      pub ran : (most : ℕ) → k.node < most
          → Ran of.holds c d (serial_production_within most plan c.fixed.capacity (keys_of c.cache) k)
      pub got : has_got 0 k d.journal ≡ true
      pub steady : counts_in of.faults d.table ≡ counts_in of.faults c.table
      pub shape : frame.shape ≡ shape_at plan k.node
      pub right : Keeps d (λ book numbers. IsRight book plan k frame)

    -- keys below a node were produced, one after the other
    pub record Gathered (bound : ℕ) (ks : List Key) (frames : List Picture) (d : CoreValue I) : Type 0 where
      pub ran : (most : ℕ) → bound ≤ most
          → Ran of.holds c d (each_produced (serial_production_within most plan c.fixed.capacity) (keys_of c.cache) ks)
      pub got : has_got_all 0 ks d.journal ≡ true
      pub steady : counts_in of.faults d.table ≡ counts_in of.faults c.table
      pub shapes : AreOfKeys plan ks frames
      pub right : Keeps d (λ book numbers. AreRight ks frames book)

    -- the work was cut short: what was done, and what closes it, are of this kind
    pub record Stopped (IsCut : List Event → List Event → Type 0) (why : WindowStop) (d : CoreValue I) : Type 0 where
      pub done : List Event
      pub closing : List Event
      pub cut : IsCut done closing
      pub went : Went of.holds c d (done ++ closing)
      pub stops : StopIs why d
