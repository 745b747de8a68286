-- What the state of a source in memory determines: where its reads stop and fail.
use Rattle.std.specs.Prelude.{ℕ, ◌+◌, ◌≤◌, Contains, IsTrue, is_some}
use Rattle.fv_io.specs.declared.memory.trip.Trip.TheVariants.{Read}
use Rattle.fv_io.specs.SourceState.{SourceState, read_trip, read_amount}

-- a failure of a read waits at this place, after the present number of rewinds
abbrev pub WaitsAt : SourceState → ℕ → Type 0
WaitsAt state place = Contains state.trips (Read state.rewinds place)

-- no read passes a place at which a failure waits, and a read fails exactly where one waits at its place or before
pub record ReadsStopAtTrips : Type 0 where
  pub none_passed : (state : SourceState) (place room : ℕ) → WaitsAt state place → state.place ≤ place → state.place + read_amount state room ≤ place
  pub fails : (state : SourceState) (place : ℕ) → WaitsAt state place → place ≤ state.place → IsTrue (is_some (read_trip state))
  pub no_other : (state : SourceState) → IsTrue (is_some (read_trip state)) → (place : ℕ) × WaitsAt state place × (place ≤ state.place)
