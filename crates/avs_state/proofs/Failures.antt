-- How a part of a run that fails makes the whole fail.
use Rattle.std.proofs.Common.{◌≡◌, refl, sym, ap, subst, ℕ, Result, Ok, Err}
use Rattle.avs_meaning.specs.State.{State, Outcome, Run, and_then}
use Rattle.avs_meaning.specs.declared.stop.EvalError.{EvalError}
use Rattle.avs_meaning.specs.declared.stop.EvalError.TheVariants as e
use Rattle.avs_state.specs.Answers.{Fails, Says, Gives}
use Rattle.avs_state.specs.Walks.{Counts, stop_in}

pub then_fails : {X Y : Type 0} (one : Outcome X) (f : X → Run Y) (stop : EvalError) → Fails (Unit {0}) one stop → Fails (Unit {0}) (and_then one f) stop
then_fails one f (e.Fault kind name line) h = ap (λ o. and_then o f) h
then_fails one f (e.Input name why) h = ap (λ o. and_then o f) h
then_fails one f e.Read h = tt
then_fails one f e.Memory h = tt

pub is_fault : {Y : Type 0} (one other : Outcome Y) (stop : EvalError) → other ≡ one → Fails (Unit {0}) one stop → Fails (Unit {0}) other stop
is_fault one other stop is h = subst (λ o. Fails (Unit {0}) o stop) (sym is) h

pub first_fails : {X Y : Type 0} (whole : Outcome Y) (one : Outcome X) (f : X → Run Y) (stop : EvalError)
    → whole ≡ and_then one f → Fails (Unit {0}) one stop → Fails (Unit {0}) whole stop
first_fails whole one f stop is h = is_fault (and_then one f) whole stop is (then_fails one f stop h)

-- ---- what asks nothing of the outside

pub also_fails : {Y : Type 0} (o : Outcome Y) (stop : EvalError) → Fails ⊥ o stop → Fails (Unit {0}) o stop
also_fails o (e.Fault kind name line) h = h
also_fails o (e.Input name why) h = h
also_fails o e.Read h = tt
also_fails o e.Memory h = tt

-- it gives the same as a part of a run
pub given : {X Y : Type 0} (view : X → Y) (o : Outcome Y) (result : Result X EvalError) (new : State)
    → Gives view o result new → Says (Unit {0}) (λ x. (view x, new)) o result
given view o (Ok x) new h = h
given view o (Err stop) new h = also_fails o stop h

-- and no read of it fails
pub unread : {X Y : Type 0} (view : X → Y) (o : Outcome Y) (result : Result X EvalError) (new : State) (n : ℕ)
    → Gives view o result new → Counts (stop_in result) n n
unread view o (Ok x) new n h = refl
unread view o (Err (e.Fault kind name line)) new n h = refl
unread view o (Err (e.Input name why)) new n h = refl
unread view o (Err e.Read) new n h = absurd h
unread view o (Err e.Memory) new n h = refl
