-- What a part of a run ensures within a text, whatever the name of the text is.
use Rattle.std.specs.Prelude.{◌≡◌, Result, OnOk}
use Rattle.avs_values.specs.Values.{Text}
use Rattle.avs_meaning.specs.State.{Run}
use Rattle.avs_state.specs.Answers.{Gives}
use Rattle.avs_state.specs.Sources.{sources_of}
use Rattle.avs_state.specs.States.{state_of, AsksNothing}
use Rattle.avs_state.specs.Stops.{in_text}
use Rattle.avs_state.specs.declared.run_state.RunState.{RunState}
use Rattle.avs_state.specs.declared.stop.Stop.{Stop}

-- It answers what the definition gives in its state. It asks nothing of the outside and adds no source.
pub record RunsWithin {X Y : Type 0} (view : X → Y) (run : Text → Run Y) (old : RunState) (result : Result X Stop) (new : RunState)
    : Type 0 where
  pub gives : (here : Text) → Gives view (run here (state_of old)) (in_text here result) (state_of new)
  pub asks : AsksNothing old new
  pub sources : OnOk result (sources_of (state_of new).plan ≡ sources_of (state_of old).plan)
