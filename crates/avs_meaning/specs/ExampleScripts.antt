-- What the worked scripts share: an outside without files, trees by hand, and what is looked at.
use Rattle.std.specs.Prelude.{ℕ, pos, List, [], codes, Some, Result, Ok, Err}
use Rattle.avs_tree.specs.Tree.{Expr, int, str, call, chain, Args, no_args, arg, no_steps, step, Block, Function, Loaded, NoTree}
use Rattle.avs_tree.specs.declared.tree.Operator.{Operator}
use Rattle.avs_values.specs.Values.{Text}
use Rattle.clip_graph.specs.Plan.{application_at}
use Rattle.avs_meaning.specs.Meaning.{Meaning, clip, wrong, text_meaning}
use Rattle.avs_meaning.specs.State.{Outside}
use Rattle.avs_meaning.specs.declared.fault.FileKind.TheVariants as f
use Rattle.avs_meaning.specs.declared.fault.InputFault.TheVariants as i

-- an outside without files, where texts have these trees
abbrev pub without_files : (Text → Result Loaded NoTree) → Outside
without_files trees = record { trees = trees; clips = λ file. Err i.NotThere; scripts = λ file. Err f.NotThere }

abbrev pub here : Text
here = codes "s.avs"

-- a script with these functions and statements, which ends in this line
abbrev pub script_of : List Function → Block → ℕ → Meaning
script_of functions statements line =
    text_meaning (without_files (λ text. Ok (record { tree = record { functions = functions; statements = statements }; last_line = line }))) here []

-- a script of statements alone
abbrev pub meaning_of : Block → ℕ → Meaning
meaning_of = script_of []

-- a left and a right operand
abbrev pub between : Operator → Expr → Expr → ℕ → Expr
between op l r line = chain l (step op r line no_steps)

-- an argument with a name
abbrev pub given : Text → Expr → Args → Args
given x e rest = arg (Some x) e rest

-- BlankClip(length=e, width=1, height=1, pixel_type="Y8")
abbrev pub dots : Expr → ℕ → Expr
dots e line =
    call (codes "BlankClip") (given (codes "length") e (given (codes "width") (int (pos 1)) (given (codes "height") (int (pos 1))
    (given (codes "pixel_type") (str (codes "Y8")) no_args)))) line

-- the place of the clip, how many frames it has, its mode and its inputs
pub data Seen : Type 0 where
  shown : ℕ → ℕ → ℕ → List ℕ → Seen
  faulty : Meaning → Seen

abbrev pub seen : Meaning → Seen
seen (clip plan root crew) =
    shown root (application_at plan root).info.frames (application_at plan root).mode (application_at plan root).inputs
seen (wrong fault) = faulty (wrong fault)
