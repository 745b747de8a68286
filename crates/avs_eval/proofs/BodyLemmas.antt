-- A text that is executed, by its parts.
use Rattle.std.proofs.Common.{◌≡◌, ◌∙◌, refl, ap, ℕ, ◌<◌, nat_le, nat_eq, Bool, false, List, [], ◌∷◌, length, Result, Ok, Err, ◌≤◌, true, rules, arith}
use Rattle.avs_tree.proofs.CallerLemmas.{script_shorter}
use Rattle.avs_tree.specs.Sizes.{IsScriptShort}
use Rattle.avs_tree.specs.Tree.{Loaded, NoTree, Block, Script}
use Rattle.avs_values.specs.Values.{text_limit, Text}
use Rattle.avs_values.specs.declared.value.Value.{Value}
use Rattle.avs_values.specs.declared.value.Value.TheVariants as v
use Rattle.avs_parse.specs.Load.{script_of}
use Rattle.avs_meaning.specs.Expressions as e
use Rattle.avs_meaning.specs.Meaning.{below}
use Rattle.avs_meaning.specs.State.{State, Outcome, Run, and_then, pure, fails}
use Rattle.avs_meaning.specs.Expressions.{loaded_by}
use Rattle.avs_meaning.specs.declared.fault.ScriptKind.TheVariants as k
use Rattle.avs_meaning.specs.declared.stop.EvalError.{EvalError}
use Rattle.avs_state.specs.Answers.{Fails}
use Rattle.avs_state.proofs.Failures.{is_fault, then_fails}
use Rattle.avs_state.proofs.StepLemmas.{fits_unit}
use Rattle.avs_state.specs.Units.{steps_a_unit}
use Rattle.avs_state.specs.declared.host.Host as host
use Rattle.avs_eval.specs.Bodies.{body_by, eval_text}
use Rattle.avs_eval.specs.OutsideBy.{context_in, outside_by}

-- what goes on from the statements and the last line alone
through : {X : Type 0} (o : Outcome Loaded) (next : Block × ℕ → Run X)
    → and_then o (λ loaded. next (loaded.tree.statements, loaded.last_line))
    ≡ and_then (and_then o (λ loaded. pure (loaded.tree.statements, loaded.last_line))) next
through (Ok ended) next = refl
through (Err fault) next = refl

-- a text goes on from its body
pub loaded_then : {X : Type 0} (tree : Result Loaded NoTree) (here : Text) (next : Block × ℕ → Run X) (s : State)
    → and_then (loaded_by tree here s) (λ loaded. next (loaded.tree.statements, loaded.last_line)) ≡ and_then (body_by tree here s) next
unfolding body_by
loaded_then tree here next s = through (loaded_by tree here s) next

module _ {H : Type 0} (h : host.Ghosts H) (n : ℕ) (from text here : Text) (line : ℕ) where
  -- a text that is not too long
  execute_is : (s : State) → length text ≤ text_limit
      → e.execute (context_in h n) from text here line s ≡ and_then (body_by (script_of text) from s) (λ body. below (outside_by h.clips h.scripts) n from body.0)
  execute_is s short =
      let holds : nat_le (length text) text_limit ≡ true = search (rules, short) in
      rw holds (loaded_then (script_of text) from (λ body. below (outside_by h.clips h.scripts) n from body.0) s)

  pub executed : (s s' : State) (body : Block × ℕ) → length text ≤ text_limit → body_by (script_of text) from s ≡ Ok (body, s')
      → e.execute (context_in h n) from text here line s ≡ below (outside_by h.clips h.scripts) n from body.0 s'
  executed s s' body short is = execute_is s short ∙ ap (λ o. and_then o (λ body. below (outside_by h.clips h.scripts) n from body.0)) is

  pub execute_fails : (s : State) (stop : EvalError) → length text ≤ text_limit → Fails (Unit {0}) (body_by (script_of text) from s) stop
      → Fails (Unit {0}) (e.execute (context_in h n) from text here line s) stop
  execute_fails s stop short failed =
      is_fault _ _ stop (execute_is s short) (then_fails (body_by (script_of text) from s) (λ body. below (outside_by h.clips h.scripts) n from body.0) stop failed)

module _ {H : Type 0} (h : host.Ghosts H) (n : ℕ) (here : Text) (line : ℕ) where
  -- by the one text among the arguments
  abbrev one_text : {X : Type 0} → (Text → X) → X → List Value → X
  one_text f other (v.Text text ∷ []) = f text
  one_text f other _ = other

  pub eval_by : (values : List Value) (s : State)
      → e.eval (context_in h n) here values line s ≡ one_text (λ text. eval_text (context_in h n) here text line s) (fails k.NoMatch here line s) values
  unfolding eval_text
  eval_by [] s = refl
  eval_by (v.Undefined ∷ rest) s = refl
  eval_by (v.Bool b ∷ rest) s = refl
  eval_by (v.Int m ∷ rest) s = refl
  eval_by (v.Clip i ∷ rest) s = refl
  eval_by (v.Text text ∷ []) s = refl
  eval_by (v.Text text ∷ x ∷ rest) s = refl

  eval_one : (b : Bool) (text : Text) (s : State) → nat_eq n 0 ≡ b → b ≡ false
      → eval_text (context_in h n) here text line s ≡ e.execute (context_in h n) e.eval_name text here line s
  unfolding eval_text
  eval_one b text s is never = rw (is ∙ never) refl

  -- where a call may nest
  pub eval_is : (text : Text) (s : State) → 0 < n → eval_text (context_in h n) here text line s ≡ e.execute (context_in h n) e.eval_name text here line s
  eval_is text s some =
      let holds : nat_eq n 0 ≡ false = grind (arith, some) in
      eval_one (nat_eq n 0) text s refl holds

-- ---- shortness

-- A unit pays for each statement of a text that is not too long.
pub pays_each : (text : Text) (tree : Script) → length text ≤ text_limit → IsScriptShort (length text) tree → IsScriptShort steps_a_unit tree
pays_each text tree few short = script_shorter (length text) steps_a_unit (fits_unit (length text) few) tree short
