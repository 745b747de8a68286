-- One statement, and the turns of loops.
use Rattle.std.specs.Prelude.{ℕ, ℤ}
use Rattle.avs_tree.specs.Tree.{Expr, Kind, Block}
use Rattle.avs_values.specs.Values.{Text}
use Rattle.avs_meaning.specs.State.{Context, Run, ◌>>◌, spend}
use Rattle.avs_meaning.specs.Statements as l
use Rattle.avs_meaning.specs.Statements.{condition, effect_of, block_of}

-- in the text of this name
module _ (context : Context) (here : Text) where
  -- one statement, which costs a unit
  abbrev pub statement : Kind × ℕ → Run l.Flow
  statement x = spend here x.1 >> effect_of context here x.0 x.1

  -- the turns of `while`, of which there are no more than units
  abbrev pub loop_of : Expr → ℕ → Block → Run l.Flow
  loop_of c line body = λ state. l.turns here state.units (condition context here c line) line (block_of context here body) state

  -- the turns of `for`, of which there are no more than units
  abbrev pub count_of : Text → ℤ → ℤ → ℤ → ℕ → Block → Run l.Flow
  count_of x i last by line body = λ state. l.counts here state.units x i last by line (block_of context here body) state

  -- a turn of `for`
  abbrev pub turn : Text → ℤ → ℤ → ℤ → ℕ → Block → Run l.Turn
  turn x i last by line body = l.turn here x i last by line (block_of context here body)
