-- What the code does in a turn. A token takes one turn, and one more for each thing in an expression that ends before it.
use Rattle.std.specs.Prelude.{◌≡◌, ℕ, ◌*◌, ◌<◌, ◌≤◌, length, Result, IfOk, ⊤}
use Rattle.avs_tree.specs.Lexeme.{Lexemes}
use Rattle.avs_tree.specs.Machine as m
use Rattle.avs_frames.specs.declared.memory.OutOfMemory.{OutOfMemory}
use Rattle.avs_frames.specs.ScriptViews.{state_view, step_view}
use Rattle.avs_frames.specs.declared.script_state.StatementState.{StatementState}
use Rattle.avs_frames.specs.declared.script_state.StatementState.TheVariants as n
use Rattle.avs_frames.specs.declared.script_state.State.{State}
use Rattle.avs_frames.specs.declared.script_state.State.TheVariants as s
use Rattle.avs_parse.specs.declared.turn.Turn.{Turn}
use Rattle.avs_parse.specs.declared.turn.Turn.TheVariants.{Does, Again}

-- What the token does in the end, which is these tokens' first: where it is read again, what it does to what is left.
abbrev pub turn_view : Lexemes → Turn → m.Step
turn_view ts (Does step) = step_view step
turn_view ts (Again state) = m.advance (state_view state) ts

-- The code makes a turn of this step, unless memory runs out.
abbrev pub Turns : Result Turn OutOfMemory → Lexemes → m.Step → Type 0
Turns result ts step = IfOk result (λ made. turn_view ts made ≡ step)

-- how much is open in the expression that is read
abbrev pub open_here : StatementState → ℕ
open_here (n.InExpression purpose state opened) = length opened.items
open_here _ = 0

abbrev pub open_in : State → ℕ
open_in (s.Statement here around) = open_here here
open_in (s.Head here around) = 0

-- Where the token is read again, less is open than this.
abbrev pub IsFewer : ℕ → Turn → Type 0
IsFewer n (Does step) = ⊤
IsFewer n (Again state) = open_in state < n

-- So many turns are enough for tokens: a token opens at most two things, and each of them ends in one turn.
abbrev pub AreFew : ℕ → ℕ → Type 0
AreFew turns tokens = turns ≤ 3 * tokens
