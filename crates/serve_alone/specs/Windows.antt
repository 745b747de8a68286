-- One worker over the outputs of a window.
use Rattle.std.specs.Prelude.{◌≡◌, ℕ, ◌+◌, ◌<◌, ◌≤◌, Bool, true, false, List, [], ◌∷◌, ◌++◌, length, slice_get, slice_set, Some, None}
use Rattle.std.specs.Map.{keys_of}
use Rattle.fv_plane.specs.Picture.{Picture}
use Rattle.clip_graph.specs.Plan.{Application, application_at}
use Rattle.inst_table.specs.declared.held.Held.{Ghosts}
use Rattle.serve_machine.specs.declared.event.Event.{Event}
use Rattle.serve_machine.specs.declared.event.Event.TheVariants.{Take}
use Rattle.serve_machine.specs.declared.event.WindowStop.{WindowStop}
use Rattle.serve_machine.specs.Events.{frame_key, names_source}
use Rattle.serve_machine.specs.SerialRun.{Serial, serial_production, serial_delivery, serial_window}
use Rattle.serve_machine.specs.Work.{CutShort, FailedWork}
use Rattle.serve_core.specs.Calls.{next_output}
use Rattle.serve_core.specs.CoreValue.{CoreValue}
use Rattle.serve_core.specs.Stands.{StopFits, EndShows}
use Rattle.serve_core.specs.Tables.{AllFree, held_in, counts_in}
use Rattle.serve_alone.specs.Made.{Keeps, StopIs}

-- between two outputs no claim is open, and the outputs are frames of the root
pub record Ready {I : Type 0} (plan : List Application) (c : CoreValue I) : Type 0 where
  pub root : c.fixed.root < length plan
  pub numbers : c.fixed.first + c.fixed.count ≤ (application_at plan c.fixed.root).info.frames
  pub claims : c.claims ≡ []
  pub unfailed : slice_get c.failed 0 ≡ Some false

-- a window that has begun, and has no event yet
pub record Fresh {I : Type 0} (plan : List Application) (c : CoreValue I) : Type 0 where
  pub ready : Ready plan c
  pub untaken : c.outputs.taken ≡ []
  pub undelivered : (j : ℕ) → j < c.fixed.count → slice_get c.outputs.frames j ≡ Some None

module _ {I : Type 0} (of : Ghosts I) (plan : List Application) (c : CoreValue I) where
  -- the next output as the serial run has it
  abbrev pub delivery : Serial
  delivery = serial_delivery (next_output c)
      (serial_production plan c.fixed.capacity (keys_of c.cache) (frame_key c.fixed.root (next_output c)))

  -- the next output was delivered
  pub record Step (x : Picture) (d : CoreValue I) : Type 0 where
    pub some : length c.outputs.taken < c.fixed.count
    pub journal : d.journal ≡ c.journal ++ delivery.events
    pub keys : keys_of d.cache ≡ delivery.keys
    pub claims : d.claims ≡ c.claims
    pub fixed : d.fixed ≡ c.fixed
    pub failed : d.failed ≡ c.failed
    pub stop : d.stop ≡ c.stop
    pub free : AllFree d.table
    pub held : held_in of.holds d.table ≡ held_in of.holds c.table
    pub steady : counts_in of.faults d.table ≡ counts_in of.faults c.table
    pub taken : d.outputs.taken ≡ c.outputs.taken ++ 0 ∷ []
    pub frames : d.outputs.frames ≡ slice_set c.outputs.frames (length c.outputs.taken) (Some x)
    pub right : Keeps of plan c d (λ book numbers. Unit {0})

  -- whether there was a next output
  abbrev pub Stepped : Bool → CoreValue I → Type 0
  Stepped true d = (x : Picture) × Step x d
  Stepped false d = (length c.outputs.taken ≡ c.fixed.count) × (d ≡ c)

  -- the next output was not taken, or it was taken and cut short: what was done, and what closes it
  pub data CutOutput : List Event → List Event → Type 0 where
    untaken : CutOutput [] []
    taken : {es closing : List Event} → CutShort plan 0 (frame_key c.fixed.root (next_output c)) es closing
        → CutOutput (Take 0 (next_output c) ∷ es) closing

  pub record StepCut (why : WindowStop) (d : CoreValue I) : Type 0 where
    pub done : List Event
    pub closing : List Event
    pub cut : CutOutput done closing
    pub journal : d.journal ≡ c.journal ++ (done ++ closing)
    pub claims : d.claims ≡ c.claims
    pub fixed : d.fixed ≡ c.fixed
    pub failed : d.failed ≡ c.failed
    pub stop : d.stop ≡ c.stop
    pub free : AllFree d.table
    pub held : held_in of.holds d.table ≡ held_in of.holds c.table
    pub stops : StopIs of plan c why d

  -- the events that the serial run has for so many outputs of the window, and the keys after them
  abbrev pub served : ℕ → Serial
  served count = serial_window plan c.fixed.root c.fixed.capacity (keys_of c.cache) c.fixed.first count

  -- so many outputs were delivered, by exactly the events of the serial run, and no instance has failed
  pub record Served (count : ℕ) (d : CoreValue I) : Type 0 where
    pub journal : d.journal ≡ c.journal ++ (served count).events
    pub keys : keys_of d.cache ≡ (served count).keys
    pub claims : d.claims ≡ []
    pub fixed : d.fixed ≡ c.fixed
    pub failed : d.failed ≡ c.failed
    pub stop : d.stop ≡ c.stop
    pub free : AllFree d.table
    pub held : held_in of.holds d.table ≡ held_in of.holds c.table
    pub steady : counts_in of.faults d.table ≡ counts_in of.faults c.table
    pub taken : length d.outputs.taken ≡ count
    pub delivered : (j : ℕ) → j < count → (x : Picture) × (slice_get d.outputs.frames j ≡ Some (Some x))
    pub undelivered : (j : ℕ) → count ≤ j → j < c.fixed.count → slice_get d.outputs.frames j ≡ Some None
    pub right : Keeps of plan c d (λ book numbers. Unit {0})

  -- the window was cut short by this stop, with which the worker failed
  pub record WindowCut (why : WindowStop) (d : CoreValue I) : Type 0 where
    pub events : List Event
    pub cut : FailedWork plan c.fixed.root 0 why events
    pub journal : d.journal ≡ c.journal ++ events
    pub claims : d.claims ≡ []
    pub fixed : d.fixed ≡ c.fixed
    pub stop : d.stop ≡ Some why
    pub free : AllFree d.table
    pub held : held_in of.holds d.table ≡ held_in of.holds c.table
    pub named : names_source plan why ≡ true
    pub ended : EndShows of.ends d.table why
    pub right : Keeps of plan c d (λ book numbers.
        StopFits of.feed of.faults book numbers plan d.table why)
