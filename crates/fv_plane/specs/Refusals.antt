-- Refusals in order: faults, each with the test that shows it. The first whose test holds is the fault.
use Rattle.std.specs.Prelude.{List, [], ◌∷◌, Option, Some, None, Bool, if◌then◌else◌}

abbrev pub Refusals : Type 0 → Type 0
Refusals Fault = List (Fault × Bool)

abbrev pub first_fault : {Fault : Type 0} → Refusals Fault → Option Fault
first_fault [] = None
first_fault ((fault, test) ∷ later) = if test then Some fault else first_fault later
