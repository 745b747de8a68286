-- A failure that waits at a place stops the reads before it.
use Rattle.std.proofs.Common.{◌≡◌, ℕ, zero, suc, ◌+◌, ◌<◌, ◌≤◌, List, [], ◌∷◌, length, Bool, true, false, cond, Contains, IsTrue, is_some, Option, Some, slice_index_or, refl, sym, ◌∙◌, ap, arith, subst}
use Rattle.std.proofs.lemmas.Bool.Decides.{nat_tests}
use Rattle.std.specs.List.{position_from}
use Rattle.std.proofs.lemmas.Iterator.Adapters.{position_from-zero}
use Rattle.fv_io.specs.declared.memory.trip.Trip.{Trip}
use Rattle.fv_io.specs.declared.memory.trip.Trip.TheVariants.{Read, Rewind}
use Rattle.fv_io.specs.Trips.{trips_read, stop_of, reach}
use Rattle.fv_io.specs.SourceState.{SourceState, bytes_now, read_trip}
use Rattle.fv_io.specs.Laws.{ReadsStopAtTrips}
use Rattle.fv_io.proofs.TripLemmas.{reach-le}

stops_at : (rewinds place end : ℕ) → stop_of rewinds end (Read rewinds place) ≤ place
stops_at rewinds place end = grind (arith, nat_tests)

trips_there : (rewinds from place : ℕ) → place ≤ from → trips_read rewinds from (Read rewinds place) ≡ true
trips_there rewinds from place before = grind (arith, nat_tests)

reach-stops : (rewinds place : ℕ) (trips : List Trip) (end k : ℕ) → k < length trips → slice_index_or trips k (Read rewinds place) ≡ Read rewinds place
    → reach rewinds trips end ≤ place
reach-stops rewinds place [] end k inside is = absurd (omega arith)
reach-stops rewinds place (trip ∷ trips) end zero inside is =
    let here : stop_of rewinds end trip ≤ place = subst (λ t. stop_of rewinds end t ≤ place) (sym is) (stops_at rewinds place end) in
    let rest = reach-le rewinds trips (stop_of rewinds end trip) in
    omega arith
reach-stops rewinds place (trip ∷ trips) end (suc k) inside is = reach-stops rewinds place trips (stop_of rewinds end trip) k (omega arith) is

some_by : (test : Bool) (i : ℕ) (rest : Option ℕ) → IsTrue (is_some rest) → IsTrue (is_some (cond test (Some i) rest))
some_by true i rest found = refl
some_by false i rest found = found

found_from : (rewinds from place : ℕ) (trips : List Trip) (i k : ℕ) → k < length trips → slice_index_or trips k (Read rewinds place) ≡ Read rewinds place
    → place ≤ from → IsTrue (is_some (position_from (trips_read rewinds from) i trips))
found_from rewinds from place [] i k inside is before = absurd (omega arith)
found_from rewinds from place (trip ∷ trips) i zero inside is before =
    let test : trips_read rewinds from trip ≡ true = ap (trips_read rewinds from) is ∙ trips_there rewinds from place before in
    subst (λ b. IsTrue (is_some (cond b (Some i) (position_from (trips_read rewinds from) (i + 1) trips)))) (sym test) refl
found_from rewinds from place (trip ∷ trips) i (suc k) inside is before =
    some_by (trips_read rewinds from trip) i _ (found_from rewinds from place trips (i + 1) k (omega arith) is before)

read_of : (rewinds from : ℕ) (trip : Trip) → trips_read rewinds from trip ≡ true → (place : ℕ) × (trip ≡ Read rewinds place) × (place ≤ from)
read_of rewinds from (Read after place) test =
    let same : after ≡ rewinds = grind (arith, nat_tests) in
    (place, ap (λ n. Read n place) same, grind (arith, nat_tests))
read_of rewinds from (Rewind after) test = absurd (let no : ⊥ = cc in no)

abbrev Waits : ℕ → ℕ → List Trip → Type 0
Waits rewinds from trips = (place : ℕ) × Contains trips (Read rewinds place) × (place ≤ from)

chosen : (rewinds from i : ℕ) (trip : Trip) (trips : List Trip) (test : Bool) → trips_read rewinds from trip ≡ test
    → IsTrue (is_some (cond test (Some i) (position_from (trips_read rewinds from) (i + 1) trips)))
    → (IsTrue (is_some (position_from (trips_read rewinds from) (i + 1) trips)) → Waits rewinds from trips) → Waits rewinds from (trip ∷ trips)
chosen rewinds from i trip trips true is found rest = let here = read_of rewinds from trip is in (here.0, (0, omega arith, here.1), here.2)
chosen rewinds from i trip trips false is found rest =
    let later = rest found in
    let waits = later.1 in
    let inside = waits.1 in
    (later.0, (suc waits.0, omega arith, waits.2), later.2)

waits_from : (rewinds from : ℕ) (trips : List Trip) (i : ℕ) → IsTrue (is_some (position_from (trips_read rewinds from) i trips)) → Waits rewinds from trips
waits_from rewinds from [] i found = absurd (let no : ⊥ = cc in no)
waits_from rewinds from (trip ∷ trips) i found = chosen rewinds from i trip trips (trips_read rewinds from trip) refl found (waits_from rewinds from trips (i + 1))

at_start : (state : SourceState) → position_from (trips_read state.rewinds state.place) 0 state.trips ≡ read_trip state
at_start state = sym (position_from-zero (trips_read state.rewinds state.place) state.trips)

pub reads_stop_at_trips : ReadsStopAtTrips
reads_stop_at_trips = record {
  none_passed = λ state place room waits before.
      let stop = reach-stops state.rewinds place state.trips (length (bytes_now state)) waits.0 waits.1 waits.2 in
      omega arith;
  fails = λ state place waits before.
      subst (λ (o : Option ℕ). IsTrue (is_some o)) (at_start state) (found_from state.rewinds state.place place state.trips 0 waits.0 waits.1 waits.2 before);
  no_other = λ state found.
      waits_from state.rewinds state.place state.trips 0 (subst (λ (o : Option ℕ). IsTrue (is_some o)) (sym (at_start state)) found);
}
