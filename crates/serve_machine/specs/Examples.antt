-- Lists of events of two workers, with room for one frame. Node 0 is a source of three frames, with one instance, and
-- node 1 is Trim(2, 0) of it.
use Rattle.std.specs.Prelude.{false, List, [], ◌∷◌, Option}
use Rattle.inst_table.specs.Places.{shared_place}
use Rattle.serve_machine.specs.declared.event.Event.{Event}
use Rattle.serve_machine.specs.declared.event.Event.TheVariants.{Hit, Claim, Enter, Leave, Evict, Publish}
use Rattle.serve_machine.specs.Events.{frame_key}
use Rattle.serve_machine.specs.SerialExamples.{trimmed}
use Rattle.serve_machine.specs.Machine.{State, Machine, replay}
use Rattle.serve_machine.specs.Law.{start_of}

-- the book is not told
abbrev pub two_workers : Machine (Unit {0})
two_workers = record {
  fixed = record { plan = trimmed; root = 1; workers = 2; capacity = 1; first = 0; count = 1; opening = [] };
  make = λ k frames. tt;
  is_told = false;
}

abbrev pub ran : List Event → Option (State (Unit {0}))
ran events = replay two_workers (start_of two_workers [] (shared_place 0 ∷ [])) events

-- the other worker evicts a frame and publishes its own, which is hit then
abbrev pub hit_after_eviction : List Event
hit_after_eviction =
    Claim 0 (frame_key 0 0) ∷ Enter 0 0 0 ∷ Leave 0 0 0 ∷ Publish 0 (frame_key 0 0) ∷ Claim 1 (frame_key 0 1)
    ∷ Enter 1 0 0 ∷ Leave 1 0 0 ∷ Evict 1 (frame_key 0 0) ∷ Publish 1 (frame_key 0 1) ∷ Hit 0 (frame_key 0 1) ∷ []

-- a frame is published whose input was evicted by the other worker
abbrev pub publish_after_eviction : List Event
publish_after_eviction =
    Claim 0 (frame_key 1 0) ∷ Claim 0 (frame_key 0 2) ∷ Enter 0 0 0 ∷ Leave 0 0 0 ∷ Publish 0 (frame_key 0 2)
    ∷ Claim 1 (frame_key 0 1) ∷ Enter 1 0 0 ∷ Leave 1 0 0 ∷ Evict 1 (frame_key 0 2) ∷ Publish 1 (frame_key 0 1)
    ∷ Evict 0 (frame_key 0 1) ∷ Publish 0 (frame_key 1 0) ∷ []

abbrev pub claimed_twice : List Event
claimed_twice = Claim 0 (frame_key 0 0) ∷ Claim 1 (frame_key 0 0) ∷ []

-- the instance is out with the other worker
abbrev pub entered_twice : List Event
entered_twice = Claim 0 (frame_key 0 0) ∷ Claim 1 (frame_key 0 1) ∷ Enter 0 0 0 ∷ Enter 1 0 0 ∷ []

-- the source's one instance has the number 0
abbrev pub wrong_instance : List Event
wrong_instance = Claim 1 (frame_key 0 0) ∷ Enter 1 0 1 ∷ []
