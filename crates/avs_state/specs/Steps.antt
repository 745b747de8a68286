-- How many steps a run takes. A step is that an expression is given its value, or that a method call is made.
use Rattle.std.specs.Prelude.{ℕ, ◌+◌, ◌*◌, ◌≤◌, min}
use Rattle.avs_state.specs.Units.{steps_a_unit}
use Rattle.avs_state.specs.declared.run_state.RunState.{RunState}

-- the steps that were taken, with all for which the units that are left pay
unfoldable pub work : RunState → ℕ
work state = state.steps + steps_a_unit * state.units

-- So many steps were taken at most, beside those that units were paid for.
abbrev pub Works : ℕ → RunState → RunState → Type 0
Works steps old new = work new ≤ work old + steps

-- A unit was paid, which pays for so many steps.
abbrev pub Pays : RunState → RunState → Type 0
Pays old new = work new + steps_a_unit ≤ work old

-- where the count of steps, of 64 bits, ends
unfoldable pub last_count : ℕ
last_count = 18446744073709551615

-- A step was counted, unless the count has no room for it.
abbrev pub Counted : RunState → RunState → Type 0
Counted old new = min (old.steps + 1) last_count ≤ new.steps
