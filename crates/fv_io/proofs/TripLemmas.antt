-- Where a read has to stop: before the first place at which a trip waits, and after the place where it begins.
use Rattle.std.proofs.Common.{◌≡◌, ℕ, ◌+◌, ◌-◌, min, inl, inr, ◌<◌, ◌≤◌, List, [], ◌∷◌, Bool, true, false, cond, Option, Some, None, refl, sym, ◌∙◌, arith}
use Rattle.std.proofs.lemmas.Bool.{cases_lt}
use Rattle.std.proofs.lemmas.Bool.Decides.{nat_tests}
use Rattle.std.specs.List.{position, position_from}
use Rattle.std.proofs.lemmas.Iterator.Adapters.{position_from-zero}
use Rattle.fv_io.specs.declared.memory.trip.Trip.{Trip}
use Rattle.fv_io.specs.declared.memory.trip.Trip.TheVariants.{Read, Rewind}
use Rattle.fv_io.specs.Trips.{trips_read, stop_of, reach}

stop-le : (rewinds end : ℕ) (trip : Trip) → stop_of rewinds end trip ≤ end
stop-le rewinds end (Read after place) = grind (arith, nat_tests)
stop-le rewinds end (Rewind after) = omega arith

stop-past : (rewinds from end : ℕ) (trip : Trip) → trips_read rewinds from trip ≡ false → from < end → from < stop_of rewinds end trip
stop-past rewinds from end (Read after place) past within = grind (arith, nat_tests)
stop-past rewinds from end (Rewind after) past within = within

-- a read stops at the end of the bytes at the latest
pub reach-le : (rewinds : ℕ) (trips : List Trip) (end : ℕ) → reach rewinds trips end ≤ end
reach-le rewinds [] end = omega arith
reach-le rewinds (trip ∷ trips) end =
    let first = stop-le rewinds end trip in
    let rest = reach-le rewinds trips (stop_of rewinds end trip) in
    omega arith

none_first : (test : Bool) (i : ℕ) (rest : Option ℕ) → cond test (Some i) rest ≡ None → (test ≡ false) × (rest ≡ None)
none_first true i rest none = absurd (let no : ⊥ = cc in no)
none_first false i rest none = (refl, none)

past : (rewinds from : ℕ) (trips : List Trip) (i end : ℕ) → position_from (trips_read rewinds from) i trips ≡ None → from < end → from < reach rewinds trips end
past rewinds from [] i end none within = within
past rewinds from (trip ∷ trips) i end none within =
    let both = none_first (trips_read rewinds from trip) i _ none in
    past rewinds from trips (i + 1) (stop_of rewinds end trip) both.1 (stop-past rewinds from end trip both.0 within)

-- where no trip is met, a read can give a byte
pub reach-past : (rewinds from : ℕ) (trips : List Trip) (end : ℕ) → position (trips_read rewinds from) trips ≡ None → from < end → from < reach rewinds trips end
reach-past rewinds from trips end none within = past rewinds from trips 0 end (sym (position_from-zero (trips_read rewinds from) trips) ∙ none) within

-- where nothing comes into a buffer that isn't empty, the bytes are at their end
pub ended : (rewinds from : ℕ) (trips : List Trip) (end amount most : ℕ) → position (trips_read rewinds from) trips ≡ None → amount ≡ min most (reach rewinds trips end - from) → 0 < most → amount ≡ 0 → end ≤ from
ended rewinds from trips end amount most none is some nothing =
    elim (cases_lt from end) [ inl within ↦ (let past = reach-past rewinds from trips end none within in absurd (omega arith)) | inr at_end ↦ at_end ]
