-- What a filter does with its arguments, expressions for each frame among them.
use Rattle.std.specs.List.{list_all}
use Rattle.std.specs.Option.{option_and_then, unwrap_or}
use Rattle.std.specs.Prelude.{ℕ, Bool, nat_le, if◌then◌else◌, List, [], ◌∷◌, length, codes, Option, Some, None, option_map, Result, Ok, Err, ◌^◌, ◌==◌, nat_lt, not, ℤ, pos, negsuc, ◌++◌, slice_get, true, false, ◌&&◌}
use Rattle.std.specs.Str.{str_eq_ignore_ascii_case}
use Rattle.fv_plane.specs.Format.{planes}
use Rattle.fv_plane.specs.declared.format.Info.{Info}
use Rattle.avs_tree.specs.Lexeme.{meaning_in}
use Rattle.avs_tree.specs.Tree.{Loaded, NoTree}
use Rattle.avs_tree.specs.Tree as tree
use Rattle.avs_tree.specs.declared.tree.Operator.{Operator}
use Rattle.avs_tree.specs.declared.tree.Operator.TheVariants as op
use Rattle.avs_values.specs.Binding.{Bound}
use Rattle.avs_values.specs.Values.{Text}
use Rattle.avs_values.specs.declared.value.Value.{Value}
use Rattle.avs_values.specs.declared.value.Value.TheVariants as v
use Rattle.clip_term.specs.Choice.{choose, decide, run_inputs}
use Rattle.clip_term.specs.Expression.{Expr, int, bool, current_frame, of_plane, abs_, min_, max_, minus, not_, chain, compare, group, StepIs, exprs_of, steps_of, is_number, words}
use Rattle.clip_term.specs.Filters.{matrix_named}
use Rattle.clip_term.specs.Refusals.{is_bias}
use Rattle.clip_term.specs.Terms.{Act, time, space, joined, soft, fields, choice, time_inputs, time_lists, join_inputs, soft_lists}
use Rattle.clip_term.specs.declared.fault.FilterFault.{FilterFault}
use Rattle.clip_term.specs.declared.fault.FilterFault.TheVariants as fault
use Rattle.clip_term.specs.declared.op.Channels.{Channels}
use Rattle.clip_term.specs.declared.op.SoftOp.TheVariants as so
use Rattle.clip_term.specs.declared.op.SpaceOp.TheVariants as s
use Rattle.clip_term.specs.declared.op.TimeOp.TheVariants as t
use Rattle.clip_term.specs.declared.op.TrimBound.{TrimBound}
use Rattle.clip_term.specs.declared.op.TrimBound.TheVariants as bound
use Rattle.clip_term.specs.declared.run.PlaneStat.TheVariants.{Least, Greatest, Median}
use Rattle.clip_term.specs.declared.run.RunCompare.{RunCompare}
use Rattle.clip_term.specs.declared.run.RunCompare.TheVariants.{Equals, Greater, Less}
use Rattle.clip_term.specs.declared.run.RunOper.{RunOper}
use Rattle.clip_term.specs.declared.run.RunOper.TheVariants as o
use Rattle.avs_meaning.specs.declared.fault.ScriptKind.{ScriptKind}
use Rattle.avs_meaning.specs.declared.fault.ScriptKind.TheVariants as k

-- ==== Which texts are expressions: one statement, which is an expression of the parts below, and whose value is a number.

-- ---- parts

-- names stand in any case of letters
abbrev pub frame_names : List (Text × Expr)
frame_names =
    (codes "current_frame", current_frame)
    ∷ (codes "YPlaneMin", of_plane 0 Least)
    ∷ (codes "YPlaneMax", of_plane 0 Greatest)
    ∷ (codes "YPlaneMedian", of_plane 0 Median)
    ∷ (codes "UPlaneMin", of_plane 1 Least)
    ∷ (codes "UPlaneMax", of_plane 1 Greatest)
    ∷ (codes "UPlaneMedian", of_plane 1 Median)
    ∷ (codes "VPlaneMin", of_plane 2 Least)
    ∷ (codes "VPlaneMax", of_plane 2 Greatest)
    ∷ (codes "VPlaneMedian", of_plane 2 Median)
    ∷ []

unfoldable pub named : Text → Option Expr
named x = meaning_in frame_names x

-- what a function makes of its arguments: Abs takes one, Min and Max two or more
abbrev pub absolute : List Expr → Option Expr
absolute (e ∷ []) = Some (abs_ e)
absolute _ = None

abbrev pub least : List Expr → Option Expr
least (a ∷ b ∷ es) = Some (min_ (exprs_of (a ∷ b ∷ es)))
least _ = None

abbrev pub greatest : List Expr → Option Expr
greatest (a ∷ b ∷ es) = Some (max_ (exprs_of (a ∷ b ∷ es)))
greatest _ = None

abbrev pub is_word : List ℕ → Text → Bool
is_word word x = str_eq_ignore_ascii_case x word

abbrev pub function_of : Text → List Expr → Option Expr
function_of x es =
    if is_word (codes "Abs") x then absolute es
    else if is_word (codes "Min") x then least es
    else if is_word (codes "Max") x then greatest es
    else None

-- a name with arguments: one of the names with none, or a function
abbrev pub called : Text → List Expr → Option Expr
called x [] = named x
called x (e ∷ es) = function_of x (e ∷ es)

-- `++` is no operator of expressions
abbrev pub oper_of : Operator → Option RunOper
oper_of op.Or = Some o.Or
oper_of op.And = Some o.And
oper_of op.Equal = Some o.Equal
oper_of op.NotEqual = Some o.NotEqual
oper_of op.Less = Some o.Less
oper_of op.LessEqual = Some o.LessEqual
oper_of op.Greater = Some o.Greater
oper_of op.GreaterEqual = Some o.GreaterEqual
oper_of op.Plus = Some o.Plus
oper_of op.Minus = Some o.Minus
oper_of op.PlusPlus = None
oper_of op.Times = Some o.Times
oper_of op.Divide = Some o.Divide
oper_of op.Remainder = Some o.Remainder

-- both, where both are there
abbrev pub both : {A B C : Type 0} → (A → B → C) → Option A → Option B → Option C
both f (Some a) (Some b) = Some (f a b)
both f _ _ = None

-- a comparison, where the operator is one of expressions
abbrev pub compared : Option RunOper → Option Expr → Option Expr → Option Expr
compared (Some by) a b = both (compare by) a b
compared None a b = None

-- one more operator with its operand
abbrev pub stepped : Option RunOper → Option Expr → Option (List StepIs) → Option (List StepIs)
stepped (Some by) e ss = both (λ a rest. (by, a) ∷ rest) e ss
stepped None e ss = None

-- one more argument, where it has no name
abbrev pub unlabelled : Option Text → Option Expr → Option (List Expr) → Option (List Expr)
unlabelled None e es = both (λ a rest. a ∷ rest) e es
unlabelled (Some x) e es = None

-- The expression of the parts of a script's expression. A text, method calls and `?:` are no parts.
abbrev mutual
  pub part_of : tree.Expr → Option Expr
  part_of (tree.int n) = Some (int n)
  part_of (tree.bool b) = Some (bool b)
  part_of (tree.str x) = None
  part_of (tree.name x line) = named x
  part_of (tree.call x es line) = option_and_then (called x) (parts_of es)
  part_of (tree.method_calls e ds) = None
  part_of (tree.minus e line) = option_map minus (part_of e)
  part_of (tree.not_ e line) = option_map not_ (part_of e)
  part_of (tree.chain e ss) = both (λ a rest. chain a (steps_of rest)) (part_of e) (operated ss)
  part_of (tree.compare by a b line) = compared (oper_of by) (part_of a) (part_of b)
  part_of (tree.conditional c a b line) = None
  part_of (tree.group e) = option_map group (part_of e)

  pub parts_of : tree.Args → Option (List Expr)
  parts_of tree.no_args = Some []
  parts_of (tree.arg x e es) = unlabelled x (part_of e) (parts_of es)

  pub operated : tree.Steps → Option (List StepIs)
  operated tree.no_steps = Some []
  operated (tree.step by e line ss) = stepped (oper_of by) (part_of e) (operated ss)

-- ---- texts

abbrev pub length_limit : ℕ
length_limit = 4096

-- the planes of a clip with chroma, and without
abbrev pub planes_of : Bool → ℕ
planes_of chroma = if chroma then 3 else 1

-- an expression that is a number
abbrev pub typed : Bool → Option Expr → Option Expr
typed chroma (Some e) = if is_number (planes_of chroma) e then Some e else None
typed chroma None = None

-- a statement that is an expression
abbrev pub of_kind : Bool → tree.Kind → Option Expr
of_kind chroma (tree.value e) = typed chroma (part_of e)
of_kind chroma _ = None

-- one statement alone
abbrev pub of_statements : Bool → tree.Block → Option Expr
of_statements chroma (tree.then_ kind line tree.no_more) = of_kind chroma kind
of_statements chroma _ = None

-- a script without functions
abbrev pub of_functions : Bool → List tree.Function → tree.Block → Option Expr
of_functions chroma [] statements = of_statements chroma statements
of_functions chroma _ statements = None

abbrev pub of_script : Bool → Result Loaded NoTree → Option Expr
of_script chroma (Ok loaded) = of_functions chroma loaded.tree.functions loaded.tree.statements
of_script chroma (Err fault) = None

-- the expression that a text is, for a test clip with chroma or without, where texts have these trees
unfoldable pub expression_in : (Text → Result Loaded NoTree) → Bool → Text → Option Expr
expression_in trees chroma text = if nat_le (length text) length_limit then of_script chroma (trees text) else None

-- ==== What a filter does with its arguments (AviSynth+ wiki, "Internal filters").

-- ---- values

abbrev pub number_in : Option Value → Option ℤ
number_in (Some (v.Int n)) = Some n
number_in _ = None

abbrev pub text_in : Option Value → Option Text
text_in (Some (v.Text x)) = Some x
text_in _ = None

-- the number at a place, if one is given there
abbrev pub number_at : List Value → ℕ → Option ℤ
number_at values i = number_in (slice_get values i)

abbrev pub text_at : List Value → ℕ → Option Text
text_at values i = text_in (slice_get values i)

-- the places of the clips among values
abbrev pub clips_among : List Value → List ℕ
clips_among [] = []
clips_among (v.Clip i ∷ rest) = i ∷ clips_among rest
clips_among (x ∷ rest) = clips_among rest

-- the places of the clips among the arguments of a filter
abbrev pub clips_given : Bound → List ℕ
clips_given given = clips_among given.values ++ clips_among given.rest

abbrev pub numbers_among : List Value → List ℤ
numbers_among [] = []
numbers_among (v.Int n ∷ rest) = n ∷ numbers_among rest
numbers_among (x ∷ rest) = numbers_among rest

-- ---- the numbers that filters take

-- They go from -2^31 to 2^31 - 1.
abbrev pub is_filter_number : ℤ → Bool
is_filter_number (pos n) = nat_lt n (2 ^ 31)
is_filter_number (negsuc n) = nat_lt n (2 ^ 31)

abbrev pub fits_filters : Value → Bool
fits_filters (v.Int n) = is_filter_number n
fits_filters _ = true

-- Each number among values is one that filters take.
abbrev pub all_fit_filters : List Value → Bool
all_fit_filters values = list_all fits_filters values

-- how another number is refused
abbrev pub out_of_range : ScriptKind
out_of_range = k.Filter fault.BadRange

-- ---- what a filter does

abbrev pub Reading : Type 0
Reading = Result Act ScriptKind

-- exactly one of `last`, `length` and `end`
abbrev pub trim_bound : Option ℤ → Option ℤ → Option ℤ → Option TrimBound
trim_bound (Some n) None None = Some (bound.Last n)
trim_bound None (Some n) None = Some (bound.Length n)
trim_bound None None (Some n) = Some (bound.End n)
trim_bound _ _ _ = None

abbrev pub trims : ℤ → Option TrimBound → Reading
trims first (Some bound) = Ok (time (t.Trim first bound))
trims first None = Err k.NoMatch

abbrev pub inverts : Result Channels FilterFault → Reading
inverts (Ok channels) = Ok (space (s.Invert channels))
inverts (Err refusal) = Err (k.Filter refusal)

abbrev pub convolves_by : ℤ → Option (List ℤ) → Reading
convolves_by bias (Some entries) = Ok (soft (so.GeneralConvolution bias (record { entries = entries })))
convolves_by bias None = Err (k.Filter fault.BadText)

-- GeneralConvolution: its bias is refused before its matrix.
abbrev pub convolves : ℤ → Text → Reading
convolves bias matrix =
    if not (is_bias bias) then Err (k.Filter fault.BadRange) else convolves_by bias (matrix_named matrix)

-- the matrix that keeps each sample
abbrev pub middle_alone : Text
middle_alone = codes "0 0 0 0 1 0 0 0 0"

-- ConditionalSelect: its expression is refused before anything else.
abbrev pub chooses : Option Expr → Reading
chooses (Some e) = Ok (choice (choose (words e [])))
chooses None = Err k.BadExpression

-- the comparisons of ConditionalFilter, in any case of letters
abbrev pub comparisons : List (Text × RunCompare)
comparisons =
    (codes "equals", Equals)
    ∷ (codes "==", Equals)
    ∷ (codes "greaterthan", Greater)
    ∷ (codes ">", Greater)
    ∷ (codes "lessthan", Less)
    ∷ (codes "<", Less)
    ∷ []

-- ConditionalFilter: both expressions are refused before the comparison between them.
abbrev pub decides : Option Expr → Option Expr → Option RunCompare → Reading
decides (Some e) (Some f) (Some by) = Ok (choice (decide (words e []) by (words f [])))
decides (Some e) (Some f) None = Err (k.Filter fault.BadText)
decides _ _ _ = Err k.BadExpression

-- ---- numbers

-- the number at a place, or what counts where none is given
abbrev pub or_number : List Value → ℕ → ℤ → ℤ
or_number values i default = unwrap_or (number_at values i) default

abbrev pub number : List Value → ℕ → ℤ
number values i = or_number values i (pos 0)

-- ---- expressions

-- the expression that the text at a place is, over the planes of a clip of this info, where texts have these trees
abbrev pub expression_at : List Value → (Text → Result Loaded NoTree) → Info → ℕ → Option Expr
expression_at values trees c i = expression_in trees (not (planes c.shape.kind == 1)) (unwrap_or (text_at values i) [])

-- ---- how many clips

-- as many inputs, and such lists, as a filter takes
abbrev pub takes : Act → ℕ → Bool
takes (time op) k = time_inputs op k && time_lists op
takes (space op) k = k == 1
takes (joined op) k = join_inputs op k
takes (soft op) k = k == 1 && soft_lists op
takes (fields op) k = k == 1
takes (choice op) k = run_inputs op k
takes _ k = false
