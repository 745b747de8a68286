-- Where out of memory hides no fault of a value, it hides none of a run that has that value.
use Rattle.std.proofs.Common.{Result, Ok, Err}
use Rattle.avs_meaning.specs.Faults.{Fault}
use Rattle.avs_meaning.specs.State.{State, lifted}
use Rattle.avs_meaning.specs.declared.stop.EvalError.TheVariants as e
use Rattle.avs_state.specs.Stops.{HidesNone}
use Rattle.avs_state.specs.declared.stop.Stop.{Stop}
use Rattle.avs_state.specs.declared.stop.Stop.TheVariants as s

pub hides_lifted : {X Y : Type 0} (answer : Result Y Fault) (state : State) (r : Result X Stop)
    → HidesNone answer r → HidesNone (lifted answer state) r
hides_lifted answer state (Ok x) h = tt
hides_lifted answer state (Err (s.Fault kind line)) h = tt
hides_lifted answer state (Err (s.Whole (e.Fault kind name line))) h = tt
hides_lifted answer state (Err (s.Whole (e.Input name why))) h = tt
hides_lifted answer state (Err (s.Whole e.Read)) h = tt
hides_lifted (Ok y) state (Err (s.Whole e.Memory)) h = tt
hides_lifted (Err fault) state (Err (s.Whole e.Memory)) h = h
