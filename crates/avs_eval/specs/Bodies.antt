-- The statements of a text, once its functions are added, why it has none, and the text of `Eval`.
use Rattle.std.specs.Prelude.{ℕ, nat_eq, List, [], ◌∷◌, Option, Some, None, Result, if◌then◌else◌}
use Rattle.avs_tree.specs.Tree.{Loaded, NoTree, Block}
use Rattle.avs_tree.specs.View.{block_view}
use Rattle.avs_values.specs.Values.{Text}
use Rattle.avs_values.specs.declared.value.Value.{Value}
use Rattle.avs_values.specs.declared.value.Value.TheVariants as v
use Rattle.avs_meaning.specs.State.{Context, Run, ◌>>=◌, pure}
use Rattle.avs_meaning.specs.Expressions as e
use Rattle.avs_meaning.specs.Expressions.{loaded_by}
use Rattle.avs_meaning.specs.declared.fault.ScriptKind.{ScriptKind}
use Rattle.avs_meaning.specs.declared.fault.ScriptKind.TheVariants as k
use Rattle.avs_meaning.specs.declared.stop.EvalError.TheVariants as stop
use Rattle.avs_parse.specs.declared.fault.LoadFault.{LoadFault}
use Rattle.avs_parse.specs.declared.fault.LoadFault.TheVariants as f
use Rattle.avs_state.specs.declared.stop.Stop.{Stop}
use Rattle.avs_state.specs.declared.stop.Stop.TheVariants as s
use Rattle.avs_eval.specs.declared.texts.Body.{Body}

-- the statements and the last line of a text of this name
unfoldable pub body_by : Result Loaded NoTree → Text → Run (Block × ℕ)
body_by tree here = loaded_by tree here >>= (λ loaded. pure (loaded.tree.statements, loaded.last_line))

abbrev pub body_view : Body → Block × ℕ
body_view body = (block_view body.statements.items, body.last_line)

-- the stop of a text that has no tree
abbrev pub load_stop : LoadFault → Stop
load_stop (f.Lex kind line) = s.Fault (k.Lex kind) line
load_stop (f.Syntax line) = s.Fault k.Syntax line
load_stop (f.NestLimit line) = s.Fault k.NestLimit line
load_stop f.Memory = s.Whole stop.Memory

-- what is refused of `Eval` and `Import` before anything is read, where so many calls may still nest
abbrev pub refused : ℕ → List Value → Option ScriptKind
refused depth (v.Text text ∷ []) = if nat_eq depth 0 then Some k.CallDepth else None
refused depth _ = Some k.NoMatch

-- `Eval` of one text
unfoldable pub eval_text : Context → Text → Text → ℕ → Run Value
eval_text context here text line = e.eval context here (v.Text text ∷ []) line
