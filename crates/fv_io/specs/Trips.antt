-- Where a source in memory is to fail.
use Rattle.std.specs.Prelude.{ℕ, List, Bool, false, ◌&&◌, ◌==◌, nat_le, min, fold, if◌then◌else◌}
use Rattle.fv_io.specs.declared.memory.trip.Trip.{Trip}
use Rattle.fv_io.specs.declared.memory.trip.Trip.TheVariants.{Read, Rewind}

-- after this many rewinds a read from this place fails
abbrev pub trips_read : ℕ → ℕ → Trip → Bool
trips_read rewinds from (Read after place) = after == rewinds && nat_le place from
trips_read rewinds from (Rewind after) = false

-- after this many rewinds the next one fails
abbrev pub trips_rewind : ℕ → Trip → Bool
trips_rewind rewinds (Read after place) = false
trips_rewind rewinds (Rewind after) = after == rewinds

-- where a read that could go up to the end has to stop for a trip
abbrev pub stop_of : ℕ → ℕ → Trip → ℕ
stop_of rewinds end (Read after place) = if after == rewinds then min end place else end
stop_of rewinds end (Rewind after) = end

-- how far a read may go: to the end, or to the first place at which a trip waits
abbrev pub reach : ℕ → List Trip → ℕ → ℕ
reach rewinds trips end = fold (stop_of rewinds) end trips
