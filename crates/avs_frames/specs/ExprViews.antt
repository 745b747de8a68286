-- What the states of the code mean, in an expression.
use Rattle.std.specs.Prelude.{◌≡◌, ◌<◌, ℕ, List, [], ◌∷◌, map, length, Result, IfOk, ⊤}
use Rattle.avs_tree.specs.View.{expr_view, arg_view, method_call_view, step_view}
use Rattle.avs_tree.specs.Lexeme.{Lexemes}
use Rattle.avs_tree.specs.Machine as x
use Rattle.avs_frames.specs.declared.memory.OutOfMemory.{OutOfMemory}
use Rattle.avs_frames.specs.declared.state.Callee.{Callee}
use Rattle.avs_frames.specs.declared.state.Callee.TheVariants as k
use Rattle.avs_frames.specs.declared.state.Open.{Open}
use Rattle.avs_frames.specs.declared.state.Open.TheVariants as f
use Rattle.avs_frames.specs.declared.state.ExprState.{ExprState}
use Rattle.avs_frames.specs.declared.state.ExprState.TheVariants as n
use Rattle.avs_frames.specs.declared.state.ExprStep.{ExprStep}
use Rattle.avs_frames.specs.declared.state.ExprStep.TheVariants as r
use Rattle.avs_frames.specs.declared.state.ExprTurn.{ExprTurn}
use Rattle.avs_frames.specs.declared.state.ExprTurn.TheVariants.{Does, Again}
use Rattle.avs_frames.specs.declared.state.Closing.{Closing}
use Rattle.avs_frames.specs.declared.state.Closing.TheVariants as g

abbrev pub callee_view : Callee → x.Callee
callee_view (k.Call n) = x.call_of n.name n.line
callee_view (k.Method e n) = x.method_of (expr_view e.first.value) (map method_call_view e.calls.items) n.name n.line

abbrev pub open_view : Open → x.Open
open_view f.Paren = x.paren
open_view (f.Argument c found n) = x.argument (callee_view c) (map arg_view found.items) n
open_view (f.Minus line) = x.minus_of line
open_view (f.Not line) = x.not_of line
open_view (f.Chain e ss last) = x.chain_of (expr_view e.value) (map step_view ss.items) last.op last.line
open_view (f.Compare e last) = x.compare_of last.op (expr_view e.value) last.line
open_view (f.Yes e line) = x.yes_of (expr_view e.value) line
open_view (f.No e yes_ line) = x.no_of (expr_view e.value) (expr_view yes_.value) line

-- What is innermost is last in the code, and first here.
abbrev pub onto : List x.Open → List Open → List x.Open
onto outer [] = outer
onto outer (f ∷ fs) = onto (open_view f ∷ outer) fs

unfoldable pub opened_view : List Open → List x.Open
opened_view fs = onto [] fs

abbrev pub expr_state_view : ExprState → x.ExprState
expr_state_view n.OperandNext = x.operand_next
expr_state_view (n.ValueRead k e) = x.value_read k (expr_view e.value)
expr_state_view (n.NameRead n) = x.name_read n.name n.line
expr_state_view (n.ArgsOpened c) = x.args_opened (callee_view c)
expr_state_view (n.DotRead e) = x.dot_read (expr_view e.first.value) (map method_call_view e.calls.items)
expr_state_view (n.MethodRead e n) = x.method_read (expr_view e.first.value) (map method_call_view e.calls.items) n.name n.line
expr_state_view (n.CallsRead e) = x.calls_read (expr_view e.first.value) (map method_call_view e.calls.items)

abbrev pub expr_step_view : ExprStep → x.ExprStep
expr_step_view r.Refused = x.refused
expr_step_view (r.Keeps state fs) = x.keeps (expr_state_view state) (opened_view fs.items)
expr_step_view (r.Leaves e) = x.leaves (expr_view e.value)

-- The code makes this step, unless memory runs out.
abbrev pub Makes : Result ExprStep OutOfMemory → x.ExprStep → Type 0
Makes result step = IfOk result (λ made. expr_step_view made ≡ step)

-- What the token does in the end, which is these tokens' first: where it is read again, what it does to what is left.
abbrev pub turn_view : Lexemes → ExprTurn → x.ExprStep
turn_view ts (Does step) = expr_step_view step
turn_view ts (Again k e fs) = x.after k (expr_view e.value) (opened_view fs.items) ts

-- The code makes a turn of this step, unless memory runs out.
abbrev pub Turns : Result ExprTurn OutOfMemory → Lexemes → x.ExprStep → Type 0
Turns result ts step = IfOk result (λ made. turn_view ts made ≡ step)

-- Where the token is read again, fewer than these are open.
abbrev pub IsFewer : ℕ → ExprTurn → Type 0
IsFewer n (Does step) = ⊤
IsFewer n (Again k e fs) = length fs.items < n

abbrev pub closing_view : Closing → x.Closing
closing_view g.Refused = x.no_closing
closing_view (g.Taken state) = x.taken (expr_state_view state)
closing_view (g.Reopened f) = x.reopened (open_view f)
closing_view (g.Closed k e) = x.closed k (expr_view e.value)

-- the same of what a token does to what is open
abbrev pub Closes : Result Closing OutOfMemory → x.Closing → Type 0
Closes result closing = IfOk result (λ made. closing_view made ≡ closing)
