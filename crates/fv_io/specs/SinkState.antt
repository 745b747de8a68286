-- A sink in memory.
use Rattle.std.specs.Prelude.{◌≡◌, ℕ, ◌+◌, ◌-◌, ◌≤◌, List, [], ◌++◌, length, take}
use Rattle.fv_io.specs.Faults.{risen}

pub record SinkState : Type 0 where
  pub bytes : List ℕ
  -- how many bytes it holds at most
  pub limit : ℕ
  pub faults : ℕ

abbrev pub empty : ℕ → SinkState
empty limit = record { bytes = []; limit = limit; faults = 0 }

-- no put failed before, and the piece passes no limit
abbrev pub Fits : SinkState → List ℕ → Type 0
Fits state piece = (state.faults ≡ 0) × (length state.bytes + length piece ≤ state.limit)

abbrev pub with_all : SinkState → List ℕ → SinkState
with_all state piece = record state { bytes = state.bytes ++ piece }

-- what fits is put, and a fault is counted
abbrev pub with_part : SinkState → List ℕ → SinkState
with_part state piece = record state { bytes = state.bytes ++ take (state.limit - length state.bytes) piece; faults = risen state.faults }
