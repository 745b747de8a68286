-- By the rules each start has exactly one outcome, and it is the one of the definitions.
use Rattle.std.specs.Prelude.{◌≡◌, ℕ}
use Rattle.avs_tree.specs.Tree.{Expr, Block}
use Rattle.avs_values.specs.Values.{Text}
use Rattle.avs_values.specs.declared.value.Value.{Value}
use Rattle.avs_values.specs.declared.value.Value.TheVariants as v
use Rattle.avs_meaning.specs.Expressions.{value_of}
use Rattle.avs_meaning.specs.Meaning.{context_of, run}
use Rattle.avs_meaning.specs.State.{Outside, State, Outcome}
use Rattle.avs_meaning.specs.Rules.{Gives, Executes}

-- the statements of a text or a function
pub record RulesAreExecution : Type 0 where
  pub some_result : (outside : Outside) (n : ℕ) (here : Text) (s : State) (body : Block)
      → Executes outside n here s body v.Undefined (run outside n here body s)
  pub one_result : (outside : Outside) (n : ℕ) (here : Text) (s : State) (body : Block) (out : Outcome Value)
      → Executes outside n here s body v.Undefined out → out ≡ run outside n here body s

-- expressions
pub record RulesAreEvaluation : Type 0 where
  pub some_value : (outside : Outside) (n : ℕ) (here : Text) (s : State) (e : Expr)
      → Gives outside n here s e (value_of (context_of outside n) here e s)
  pub one_value : (outside : Outside) (n : ℕ) (here : Text) (s : State) (e : Expr) (out : Outcome Value)
      → Gives outside n here s e out → out ≡ value_of (context_of outside n) here e s
