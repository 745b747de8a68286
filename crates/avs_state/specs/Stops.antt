-- Stops within a text, and where out of memory may be one.
use Rattle.std.specs.Prelude.{Result, Ok, Err}
use Rattle.avs_values.specs.Values.{Text, HasValue}
use Rattle.avs_meaning.specs.Faults.{Fault}
use Rattle.avs_meaning.specs.declared.stop.EvalError.{EvalError}
use Rattle.avs_meaning.specs.declared.stop.EvalError.TheVariants as e
use Rattle.avs_state.specs.declared.stop.Stop.{Stop}
use Rattle.avs_state.specs.declared.stop.Stop.TheVariants as s

-- a stop of the text of this name, as it is told outside of it
abbrev pub named : Text → Stop → EvalError
named here (s.Fault kind line) = e.Fault kind here line
named here (s.Whole stop) = stop

-- what is answered within the text of this name, as it is told outside of it
abbrev pub in_text : {X : Type 0} → Text → Result X Stop → Result X EvalError
in_text here (Ok x) = Ok x
in_text here (Err stop) = Err (named here stop)

-- ---- out of memory

-- Memory never runs out.
abbrev pub TakesNone : {X : Type 0} → Result X Stop → Type 0
TakesNone (Err (s.Whole e.Memory)) = ⊥
TakesNone _ = Unit {0}

-- Memory runs out only where the definition gives a value, so never in place of its fault.
abbrev pub HidesNone : {X Y : Type 0} → Result Y Fault → Result X Stop → Type 0
HidesNone answer (Err (s.Whole e.Memory)) = HasValue answer
HidesNone answer _ = Unit {0}
