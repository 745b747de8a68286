-- A worker whose events turn out to be work is in its work all along.
use Rattle.std.specs.Prelude.{◌≡◌, List, ◌++◌, Some, None}
use Rattle.fv_plane.specs.declared.key.Key.{Key}
use Rattle.inst_table.specs.declared.place.Place.{Place}
use Rattle.serve_machine.specs.declared.event.Event.{Event}
use Rattle.serve_machine.specs.Law.{start_of}
use Rattle.serve_machine.specs.Machine.{Machine, replay, State}
use Rattle.run_moves.specs.Waiting.{AllInWork}

-- where all workers are somewhere in their work, they were so at each point before, unless a publication was awaited there
abbrev pub StaysInWork : Type 0 → Type 0
StaysInWork F = (m : Machine F) (cache : List (Key × F)) (places : List Place) (es fs : List Event) (s : State F)
    → replay m (start_of m cache places) es ≡ Some s → s.awaits ≡ None → AllInWork m (es ++ fs) → AllInWork m es
