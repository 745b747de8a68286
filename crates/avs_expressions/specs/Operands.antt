-- The right operands of operators.
use Rattle.std.specs.Prelude.{ℕ}
use Rattle.avs_tree.specs.Tree.{Expr}
use Rattle.avs_tree.specs.declared.tree.Operator.{Operator}
use Rattle.avs_values.specs.Values.{Text}
use Rattle.avs_values.specs.declared.value.Value.{Value}
use Rattle.avs_meaning.specs.State.{Context, Run}
use Rattle.avs_meaning.specs.Expressions.{value_of}
use Rattle.avs_meaning.specs.Expressions as o

-- in the text of this name
module _ (context : Context) (here : Text) where
  -- a value and a right operand, which `&&` and `||` evaluate only where they need it
  abbrev pub joined : Operator → ℕ → Expr → Value → Run Value
  joined op line operand = o.joined here op line (value_of context here operand)

  -- an operand as a truth value
  abbrev pub truth_of : ℕ → Expr → Run Value
  truth_of line operand = o.truth_of here line (value_of context here operand)
