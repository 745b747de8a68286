-- Files in memory.
use Rattle.std.specs.Prelude.{◌≡◌, ℕ, ◌+◌, ◌-◌, ◌^◌, ◌==◌, List, ◌∷◌, map, find, Option, Some, None, Bool, false, ◌||◌, is_none, if◌then◌else◌}
use Rattle.std.specs.List.{list_any, list_all}
use Rattle.std.specs.Option.{option_map}
use Rattle.std.specs.FinMap.{from_entries}
use Rattle.std.specs.Str.{bytes_eq}
use Rattle.fv_io.specs.declared.memory.trip.Trip.{Trip}
use Rattle.fv_io.specs.Faults.{risen, with_faults}
use Rattle.fv_io.specs.SourceState.{SourceState, at_start}
use Rattle.fv_io.specs.World.{World}

-- a file under its name, and how a source over it is to behave
pub record Entry : Type 0 where
  pub name : List ℕ
  pub first : List ℕ
  pub later : Option (List ℕ)
  pub piece : ℕ
  pub trips : List Trip

pub record FilesState : Type 0 where
  -- the newest first
  pub entries : List Entry
  -- the numbers of the fetches that are to fail, from 1 on
  pub stops : List ℕ
  -- how many fetches there were
  pub calls : ℕ
  -- how many sources were fetched, and how many of them were not closed
  pub sources : ℕ
  pub given : ℕ
  pub faults : ℕ

-- the newest file of this name
abbrev pub entry_among : List Entry → List ℕ → Option Entry
entry_among entries name = find (λ entry. bytes_eq name entry.name) entries

abbrev pub entry_of : FilesState → List ℕ → Option Entry
entry_of state name = entry_among state.entries name

-- the bytes of each name
abbrev pub world_of : List Entry → World
world_of entries = from_entries (map (λ entry. (entry.name, entry.first)) entries)

-- once a file that changes was added, no world is told
abbrev pub told_world : FilesState → Option World
told_world state = if list_all (λ entry. is_none entry.later) state.entries then Some (world_of state.entries) else None

-- a source over a file, at its start
abbrev pub opened : Entry → SourceState
opened entry = at_start entry.first entry.later entry.piece entry.trips

-- a file is added: it hides an earlier one of its name
abbrev pub with_entry : FilesState → Entry → FilesState
with_entry state entry = record state { entries = entry ∷ state.entries }

-- the fetch of this number is to fail
abbrev pub with_stop : FilesState → ℕ → FilesState
with_stop state call = record state { stops = call ∷ state.stops }

-- the next fetch fails: its number is among the stops, or no number is left
abbrev pub fetch_fails : FilesState → Bool
fetch_fails state = state.calls == 2 ^ 64 - 1 || list_any (λ stop. stop == state.calls + 1) state.stops

-- a fetch failed
abbrev pub failed : FilesState → FilesState
failed state = record state { calls = risen state.calls; faults = risen state.faults }

-- a fetch found no file, or was out of memory
abbrev pub called : FilesState → FilesState
called state = record state { calls = state.calls + 1 }

-- a source was fetched
abbrev pub fetched : FilesState → FilesState
fetched state = record state { calls = state.calls + 1; sources = state.sources + 1; given = state.given + 1 }

-- a source with this number of faults is closed
abbrev pub closed : FilesState → ℕ → FilesState
closed state faults = record state { given = state.given - 1; faults = with_faults state.faults faults }

-- the file of this name is fetched from the old state as this source
pub record Fetches (old new : FilesState) (name : List ℕ) (source : SourceState) : Type 0 where
  pub runs : fetch_fails old ≡ false
  pub source_is : option_map opened (entry_of old name) ≡ Some source
  pub counted : new ≡ fetched old
