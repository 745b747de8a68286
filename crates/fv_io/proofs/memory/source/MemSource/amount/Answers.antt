-- A read stops at the end or before a trip, and gives a byte where it can.
use Rattle.std.proofs.Common.{◌≡◌, ◌-◌, ◌≤◌, ◌<◌, min, length, arith, rules}
use Rattle.fv_io.specs.SourceState.{bytes_now}
use Rattle.fv_io.specs.Trips.{reach}
use Rattle.fv_io.proofs.TripLemmas.{reach-le, ended}
use Rattle.fv_io.proofs.memory.source.MemSource.amount.Goals as goal

pub returns-clause-inside : goal.returns-clause-inside
returns-clause-inside c =
    let state = c.args.self.now in
    let amount : c.min-2.result ≡ min (min c.args.room state.piece) (reach state.rewinds state.trips (length (bytes_now state)) - state.place) = search rules in
    let stop = reach-le state.rewinds state.trips (length (bytes_now state)) in
    let inside : state.place ≤ length (bytes_now state) = search rules in
    omega arith

pub returns-clause-ended : goal.returns-clause-ended
returns-clause-ended c none nothing some =
    let state = c.args.self.now in
    let amount : c.min-2.result ≡ min (min c.args.room state.piece) (reach state.rewinds state.trips (length (bytes_now state)) - state.place) = search rules in
    let gives : 0 < state.piece = search rules in
    ended state.rewinds state.place state.trips (length (bytes_now state)) c.min-2.result (min c.args.room state.piece) none amount (omega arith) nothing
