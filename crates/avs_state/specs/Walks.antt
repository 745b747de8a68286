-- What the parts of a run ensure, over any host.
use Rattle.std.specs.Prelude.{◌≡◌, ℕ, ◌+◌, ℤ, pos, ◌-ℤ◌, ◌≤◌, length, Option, Some, None, IfNone, Result, Ok, Err, OnOk}
use Rattle.fv_io.specs.Faults.{HasRisen}
use Rattle.avs_meaning.specs.State.{Run}
use Rattle.avs_meaning.specs.declared.stop.EvalError.{EvalError}
use Rattle.avs_meaning.specs.declared.stop.EvalError.TheVariants as e
use Rattle.avs_state.specs.Answers.{Gives}
use Rattle.avs_state.specs.Sources.{sources_of}
use Rattle.avs_state.specs.States.{state_of, AsksNothing}
use Rattle.avs_state.specs.declared.host.Host as host
use Rattle.avs_state.specs.declared.run_state.RunState.{RunState}

-- why a part of a run ended early, where it did
abbrev pub stop_in : {X : Type 0} → Result X EvalError → Option EvalError
stop_in (Ok x) = None
stop_in (Err stop) = Some stop

-- a failed read counts a fault and is answered, and nothing else counts one
abbrev pub Counts : Option EvalError → ℕ → ℕ → Type 0
Counts (Some e.Read) before now = HasRisen before now
Counts _ before now = now ≡ before

-- how many more files the host fetched than clips were opened and scripts imported
abbrev pub unasked : {H : Type 0} → host.Ghosts H → RunState → H → ℤ
unasked h state x = pos (h.fetched x) -ℤ pos (length (state_of state).opened + (state_of state).imports)

-- Unless a part of a run ends early, the clips that were opened stay those that the host gave, and those of the plan's
-- sources, and each file that the host fetched is a clip that was opened or a script that was imported. The host's counts of
-- faults and of fetches never fall, and nor does the count of steps.
pub record Keeps {H : Type 0} (h : host.Ghosts H) (old : RunState) (before : H) (ended : Option EvalError) (new : RunState)
    (now : H) : Type 0 where
  pub given : (state_of old).opened ≡ h.opened before → IfNone ended ((state_of new).opened ≡ h.opened now)
  pub listed : sources_of (state_of old).plan ≡ (state_of old).opened
      → IfNone ended (sources_of (state_of new).plan ≡ (state_of new).opened)
  pub later : h.faults before ≤ h.faults now
  pub more : h.fetched before ≤ h.fetched now
  pub faults : Counts ended (h.faults before) (h.faults now)
  pub fetched : IfNone ended (unasked h new now ≡ unasked h old before)
  pub steps : old.steps ≤ new.steps

-- ---- with nothing asked of the outside

-- A part of a run answers what the definition gives in its state. It asks nothing of the outside and adds no source.
pub record Runs {X Y : Type 0} (view : X → Y) (run : Run Y) (old : RunState) (result : Result X EvalError) (new : RunState)
    : Type 0 where
  pub gives : Gives view (run (state_of old)) result (state_of new)
  pub asks : AsksNothing old new
  pub sources : OnOk result (sources_of (state_of new).plan ≡ sources_of (state_of old).plan)
