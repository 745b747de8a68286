-- What the states of the code mean, in a script.
use Rattle.std.specs.Prelude.{◌≡◌, ℕ, List, [], ◌∷◌, map, Option, Some, None, option_map, Result, IfOk}
use Rattle.avs_tree.specs.Tree as t
use Rattle.avs_tree.specs.View.{StatementIs, expr_view, arm_view, statement_view, function_view, script_view, arms_of, else_of, block_view}
use Rattle.avs_tree.specs.Machine as m
use Rattle.avs_frames.specs.ExprViews.{opened_view, expr_state_view}
use Rattle.avs_frames.specs.declared.memory.OutOfMemory.{OutOfMemory}
use Rattle.avs_frames.specs.declared.script_state.Use.{Use}
use Rattle.avs_frames.specs.declared.script_state.Use.TheVariants as u
use Rattle.avs_frames.specs.declared.script_state.ForHead.{ForHead}
use Rattle.avs_frames.specs.declared.script_state.Owner.{Owner}
use Rattle.avs_frames.specs.declared.script_state.Owner.TheVariants as o
use Rattle.avs_frames.specs.declared.script_state.Ended.{Ended}
use Rattle.avs_frames.specs.declared.script_state.Ended.TheVariants as e
use Rattle.avs_frames.specs.declared.script_state.Level.{Level}
use Rattle.avs_frames.specs.declared.script_state.OpenFunction.{OpenFunction}
use Rattle.avs_frames.specs.declared.around.Levels.{Levels}
use Rattle.avs_frames.specs.declared.around.Around.{Around}
use Rattle.avs_frames.specs.declared.script_state.StatementState.{StatementState}
use Rattle.avs_frames.specs.declared.script_state.StatementState.TheVariants as n
use Rattle.avs_frames.specs.declared.script_state.HeadState.{HeadState}
use Rattle.avs_frames.specs.declared.script_state.HeadState.TheVariants as h
use Rattle.avs_frames.specs.declared.script_state.State.{State}
use Rattle.avs_frames.specs.declared.script_state.State.TheVariants as s
use Rattle.avs_frames.specs.declared.script_state.ScriptStep.{ScriptStep}
use Rattle.avs_frames.specs.declared.script_state.ScriptStep.TheVariants as r

abbrev pub use_view : Use → m.Use
use_view u.Value = m.to_value
use_view (u.Global x) = m.to_global x
use_view (u.Assign x) = m.to_assign x
use_view u.Return = m.to_return
use_view (u.Arm arms) = m.to_arm (map arm_view arms.items)
use_view u.While = m.to_while
use_view (u.First x) = m.to_first x
use_view (u.Last x a) = m.to_last x (expr_view a.value)
use_view (u.Step x a b) = m.to_step x (expr_view a.value) (expr_view b.value)

abbrev pub for_view : ForHead → m.Owner
for_view f = m.for_of f.name (expr_view f.first.value) (expr_view f.last.value) (option_map (λ e. expr_view e.value) f.step)

abbrev pub owner_view : Owner → m.Owner
owner_view (o.Arm arms e) = m.arm_of (map arm_view arms.items) (expr_view e.value)
owner_view (o.Else arms) = m.else_of (map arm_view arms.items)
owner_view (o.While e) = m.while_of (expr_view e.value)
owner_view (o.For f) = for_view f

abbrev pub ended_view : Ended → t.Kind
ended_view (e.Value a) = t.value (expr_view a.value)
ended_view (e.Global x a) = t.global x (expr_view a.value)
ended_view (e.Assign x a) = t.assign x (expr_view a.value)
ended_view (e.Return a) = t.return (expr_view a.value)
ended_view (e.If arms other) = t.if_ (arms_of (map arm_view arms.items)) (else_of (option_map (λ body. block_view body.items) other))
ended_view (e.While c body) = t.while (expr_view c.value) (block_view body.items)
ended_view (e.For f body) = t.for f.name (expr_view f.first.value) (expr_view f.last.value) (option_map (λ c. expr_view c.value) f.step) (block_view body.items)

-- what stands outside of the braces of statements
abbrev pub outermost_view : Option OpenFunction → List t.Function → m.Levels
outermost_view None gs = m.top gs
outermost_view (Some f) gs = m.in_function f.signature.name f.signature.params.items f.line (map statement_view f.before.items) gs

abbrev pub level_view : Level → m.Levels → m.Levels
level_view l = m.level (owner_view l.owner) l.line (map statement_view l.before.items)

-- The innermost braces are last in the code, and first here.
abbrev pub inside : m.Levels → List Level → m.Levels
inside outer [] = outer
inside outer (l ∷ ls) = inside (level_view l outer) ls

unfoldable pub within : m.Levels → List Level → m.Levels
within outer ls = inside outer ls

abbrev pub levels_view : Levels → m.Levels
levels_view ls = within (outermost_view ls.function (map function_view ls.functions.items)) ls.inner.items

-- A definition of the machine, of a statement that stands so: its line, the statements before it, and the open braces.
abbrev pub inner : {A : Type 0} → Around → (ℕ → List StatementIs → m.Levels → A) → A
inner a f = f a.line (map statement_view a.before.items) (levels_view a.levels)

-- the same of the head of a function, with the functions before it
abbrev pub outer : {A : Type 0} → Around → (ℕ → List StatementIs → List t.Function → A) → A
outer a f = f a.line (map statement_view a.before.items) (map function_view a.levels.functions.items)

abbrev pub statement_state_view : StatementState → m.StatementState
statement_state_view n.StatementNext = m.statement_next
statement_state_view (n.InExpression purpose state fs) = m.in_expression (use_view purpose) (expr_state_view state) (opened_view fs.items)
statement_state_view (n.ParenthesisNext purpose) = m.parenthesis_next (use_view purpose)
statement_state_view (n.BracesNext owner) = m.braces_next (owner_view owner)
statement_state_view (n.AfterArm arms) = m.after_arm (map arm_view arms.items)
statement_state_view (n.AfterElse arms) = m.after_else (map arm_view arms.items)
statement_state_view n.AfterGlobal = m.after_global
statement_state_view (n.AfterGlobalName x) = m.after_global_name x
statement_state_view n.AfterFor = m.after_for
statement_state_view n.ForOpened = m.for_opened
statement_state_view (n.AfterForName x) = m.after_for_name x

abbrev pub head_state_view : HeadState → m.HeadState
head_state_view h.AfterFunction = m.after_function
head_state_view (h.AfterName x) = m.after_function_name x
head_state_view (h.Opened x) = m.head_opened x
head_state_view (h.AfterType f must word) = m.after_type f.name f.params.items must word
head_state_view (h.AfterParameter f must) = m.after_parameter f.name f.params.items must
head_state_view (h.ParameterNext f must) = m.parameter_next f.name f.params.items must
head_state_view (h.BracesNext f) = m.function_braces_next f.name f.params.items

abbrev pub state_view : State → m.State
state_view (s.Statement here a) = inner a (m.at (statement_state_view here))
state_view (s.Head here a) = outer a (m.at_head (head_state_view here))

abbrev pub step_view : ScriptStep → m.Step
step_view r.Refused = m.stuck
step_view (r.Goes state) = m.goes (state_view state)
step_view (r.Whole script) = m.whole (script_view script)

-- The code makes this step, unless memory runs out.
abbrev pub Steps : Result ScriptStep OutOfMemory → m.Step → Type 0
Steps result step = IfOk result (λ made. step_view made ≡ step)
