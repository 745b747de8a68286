-- Tokens are at most one script: without a limit on nesting, the machine answers each script that they are.
use Rattle.std.proofs.Common.{◌≡◌, ap, [], ◌∷◌, Option, Some, None}
use Rattle.avs_tree.specs.Lexeme.{Lexeme, Lexemes}
use Rattle.avs_tree.specs.Tree.{Script}
use Rattle.avs_tree.specs.Grammar.{IsScript}
use Rattle.avs_tree.specs.Machine.{State, start, Step, stuck, goes, whole, advance}
use Rattle.avs_tree.proofs.ForwardScript.{FormedState, on_advance}
use Rattle.avs_tree.proofs.FormedScript.{FormedStep, formed_advance}
use Rattle.avs_tree.proofs.ScriptMeaning.{Completion, AfterStep}
use Rattle.avs_tree.proofs.Places.{comes, nothing}

abbrev then_read : Step → (State → Option Script) → Option Script
then_read stuck next = None
then_read (goes state) next = next state
then_read (whole tree) next = Some tree

abbrev read : State → Lexemes → Option Script
read state [] = None
read state (t ∷ ts) = then_read (advance state (t ∷ ts)) (λ next. read next ts)

read_by : (tree : Script) (x : Step) (t : Lexeme) (ts : Lexemes) → FormedStep x → AfterStep tree x (t ∷ ts) → ((next : State) → FormedState next → Completion tree next ts → read next ts ≡ Some tree)
    → then_read x (λ next. read next ts) ≡ Some tree
read_by tree stuck t ts f h go = absurd h
read_by tree (goes next) t ts f h go = go next f h
read_by tree (whole b) t ts f (none, same) go = ap Some same

read_from : (ts : Lexemes) (tree : Script) (state : State) → FormedState state → Completion tree state ts → read state ts ≡ Some tree
read_from [] tree state formed h = absurd (nothing state tree formed h)
read_from (t ∷ ts) tree state formed h = read_by tree (advance state (t ∷ ts)) t ts (formed_advance state (t ∷ ts) formed) (on_advance tree state (t ∷ ts) formed h) (read_from ts tree)

pub one_tree : (ts : Lexemes) (one other : Script) → IsScript ts one → IsScript ts other → one ≡ other
one_tree ts one other h k =
    let left = read_from ts one start tt (comes ts one h) in
    let right = read_from ts other start tt (comes ts other k) in
    cc
