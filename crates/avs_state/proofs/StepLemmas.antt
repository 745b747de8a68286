-- What the units that were paid pay for.
use Rattle.std.proofs.Common.{◌≡◌, ℕ, ◌+◌, ◌-◌, ◌*◌, ◌≤◌, arith}
use Rattle.avs_state.specs.States.{state_of}
use Rattle.avs_state.specs.Steps.{work}
use Rattle.avs_state.specs.Units.{steps_a_unit}
use Rattle.avs_state.specs.declared.run_state.RunState.{RunState}

pub all_paid : (first last : RunState) → work first ≡ steps_a_unit * 1000000 → work last ≤ work first + 0
    → last.steps ≤ 1048576 * (1000000 - (state_of last).units)
unfolding work state_of steps_a_unit
all_paid first last start works = omega (arith, start, works)

-- A text that is not too long has short statements.
pub fits_unit : (n : ℕ) → n ≤ 1048576 → n ≤ steps_a_unit
unfolding steps_a_unit
fits_unit n h = h
