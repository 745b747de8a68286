-- A source in memory.
use Rattle.std.specs.Prelude.{ℕ, ◌<◌, ◌≤◌, ◌+◌, ◌-◌, ◌==◌, List, length, min, Option, Some, None, is_none, unwrap_or, position, remove, if◌then◌else◌}
use Rattle.fv_io.specs.declared.memory.trip.Trip.{Trip}
use Rattle.fv_io.specs.Faults.{risen}
use Rattle.fv_io.specs.Trips.{trips_read, trips_rewind, reach}

pub record SourceState : Type 0 where
  -- the bytes that it gives up to the first rewind, and those after it, where they are others
  pub first : List ℕ
  pub later : Option (List ℕ)
  -- how many bytes a read gives at most
  pub piece : ℕ
  -- the failures that wait
  pub trips : List Trip
  pub place : ℕ
  pub rewinds : ℕ
  pub faults : ℕ

-- what a source gives after this many rewinds
abbrev pub bytes_after : ℕ → List ℕ → Option (List ℕ) → List ℕ
bytes_after rewinds first later = if rewinds == 0 then first else unwrap_or later first

abbrev pub bytes_now : SourceState → List ℕ
bytes_now state = bytes_after state.rewinds state.first state.later

-- the place is inside the bytes, and a read can give one
pub record IsSound (bytes : List ℕ) (place piece : ℕ) : Type 0 where
  pub inside : place ≤ length bytes
  pub some : 0 < piece

-- bytes that change are not told
abbrev pub told_bytes : SourceState → Option (List ℕ)
told_bytes state = if is_none state.later then Some state.first else None

-- a source at its start
abbrev pub at_start : List ℕ → Option (List ℕ) → ℕ → List Trip → SourceState
at_start first later piece trips = record { first = first; later = later; piece = piece; trips = trips; place = 0; rewinds = 0; faults = 0 }

-- the trip at which a read fails now, and the one at which a rewind does
abbrev pub read_trip : SourceState → Option ℕ
read_trip state = position (trips_read state.rewinds state.place) state.trips

abbrev pub rewind_trip : SourceState → Option ℕ
rewind_trip state = position (trips_rewind state.rewinds) state.trips

-- a call failed at a trip, which is removed
abbrev pub after_trip : SourceState → ℕ → SourceState
after_trip state i = record state { trips = remove state.trips i; faults = risen state.faults }

-- how many bytes come into a buffer of this size
abbrev pub read_amount : SourceState → ℕ → ℕ
read_amount state room = min (min room state.piece) (reach state.rewinds state.trips (length (bytes_now state)) - state.place)

abbrev pub read_on : SourceState → ℕ → SourceState
read_on state count = record state { place = state.place + count }

abbrev pub rewound : SourceState → SourceState
rewound state = record state { place = 0; rewinds = risen state.rewinds }
