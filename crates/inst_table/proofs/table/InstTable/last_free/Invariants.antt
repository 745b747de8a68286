use Rattle.std.proofs.Common.{◌≡◌, ℕ, ◌<◌, ◌≤◌, length, true, not, get_or}
use Rattle.inst_table.specs.declared.place.Place.{Place}
use Rattle.inst_table.specs.declared.place.Slot.{Slot}
use Rattle.inst_table.specs.Places.{is_free}
use Rattle.inst_table.proofs.table.InstTable.last_free.Given as goal

abbrev pub invariant-loop-at : goal.invariant-loop-at
invariant-loop-at g l = (k : ℕ) (d : Place × Slot g.row.I.Denot) → l.at ≤ k → k < length l.self → not (is_free (get_or l.self k d).1) ≡ true

abbrev pub decreases-loop-at : goal.decreases-loop-at
decreases-loop-at g l = l.at
