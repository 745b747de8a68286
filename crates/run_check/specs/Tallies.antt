-- What a tally counts.
use Rattle.std.specs.Prelude.{ℕ, ◌==◌, Bool, ◌&&◌, unwrap_or}
use Rattle.std.specs.HashMap.{get}
use Rattle.run_check.specs.declared.tally.Seat.{Seat}
use Rattle.run_check.specs.declared.tally.Tally.{Tally}

abbrev pub same_seat : Seat → Seat → Bool
same_seat a b = a.worker == b.worker && a.node == b.node

abbrev pub count_at : Tally → Seat → ℕ
count_at t q = unwrap_or (get same_seat t.counts q) 0
