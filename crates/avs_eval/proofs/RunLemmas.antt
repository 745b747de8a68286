-- A script's run, by its parts.
use Rattle.std.proofs.Common.{◌≡◌, ◌∙◌, ap, ℕ, Result, Ok, Err}
use Rattle.fv_plane.specs.declared.format.Info.{Info}
use Rattle.avs_tree.specs.Tree.{Block}
use Rattle.avs_values.specs.Values.{Text}
use Rattle.avs_values.specs.declared.value.Value.{Value}
use Rattle.avs_parse.specs.Load.{script_of}
use Rattle.avs_meaning.specs.Meaning.{run, call_limit, clip_or_not, to_clip, executed, meaning_by}
use Rattle.avs_meaning.specs.State.{Outside, State, Outcome, Run, and_then}
use Rattle.avs_meaning.specs.declared.fault.FileKind.{FileKind}
use Rattle.avs_meaning.specs.declared.fault.InputFault.{InputFault}
use Rattle.avs_meaning.specs.declared.stop.EvalError.{EvalError}
use Rattle.avs_meaning.specs.declared.stop.EvalError.TheVariants as e
use Rattle.avs_state.specs.Answers.{Fails}
use Rattle.avs_eval.specs.OutsideBy.{outside_by}
use Rattle.avs_eval.proofs.BodyLemmas.{loaded_then}
use Rattle.avs_state.proofs.Failures.{also_fails, first_fails, then_fails}
use Rattle.avs_eval.specs.Bodies.{body_by}
use Rattle.avs_eval.specs.Evaluates.{Evaluates}

module _ (outside : Outside) (here : Text) where
  -- where the statements fail, there is no clip
  pub run_fails : (body : Block) (line : ℕ) (s : State) (stop : EvalError) → Fails (Unit {0}) (run outside call_limit here body s) stop → Fails (Unit {0}) (to_clip outside here body line s) stop
  unfolding to_clip
  run_fails body line s stop failed = then_fails (run outside call_limit here body s) (clip_or_not here line) stop failed

  -- where they end, their value says which
  pub run_ends : (body : Block) (line : ℕ) (s s' : State) (v : Value) → run outside call_limit here body s ≡ Ok (v, s') → to_clip outside here body line s ≡ clip_or_not here line v s'
  unfolding to_clip
  run_ends body line s s' v ended = ap (λ o. and_then o (clip_or_not here line)) ended

-- ---- the text

module _ (clips : Text → Result Info InputFault) (scripts : Text → Result Text FileKind) (here text : Text) where
  -- what goes on from its statements and its last line
  goes_on : Block × ℕ → Run ℕ
  goes_on body = to_clip (outside_by clips scripts) here body.0 body.1

  by_body : (s : State) → executed (outside_by clips scripts) here text s ≡ and_then (body_by (script_of text) here s) goes_on
  unfolding goes_on
  by_body s = loaded_then (script_of text) here (λ body. to_clip (outside_by clips scripts) here body.0 body.1) s

  -- once its functions stand
  pub loaded_runs : (body : Block × ℕ) (s s' : State) → body_by (script_of text) here s ≡ Ok (body, s')
      → executed (outside_by clips scripts) here text s ≡ to_clip (outside_by clips scripts) here body.0 body.1 s'
  unfolding goes_on
  loaded_runs body s s' loaded = by_body s ∙ ap (λ o. and_then o goes_on) loaded

  -- where it has no tree
  pub load_fails : (s : State) (stop : EvalError) → Fails ⊥ (body_by (script_of text) here s) stop
      → Fails (Unit {0}) (executed (outside_by clips scripts) here text s) stop
  load_fails s stop h =
      first_fails _ (body_by (script_of text) here s) goes_on stop (by_body s) (also_fails (body_by (script_of text) here s) stop h)

-- ---- the answer

-- what a stop shows of a run is what it tells of the script
pub stop_shows : (outcome : Outcome ℕ) (stop : EvalError) → Fails (Unit {0}) outcome stop → Evaluates (meaning_by outcome) (Err stop)
stop_shows outcome (e.Fault kind name line) h = ap meaning_by h
stop_shows outcome (e.Input name why) h = ap meaning_by h
stop_shows outcome e.Read h = tt
stop_shows outcome e.Memory h = tt
