-- The tree that a value of the code means.
use Rattle.std.specs.Prelude.{ℕ, List, [], ◌∷◌, map, Option, Some, None, option_map}
use Rattle.avs_lex.specs.Spelling.{Text}
use Rattle.avs_tree.specs.Tree as t
use Rattle.avs_tree.specs.declared.tree.Operator.{Operator}
use Rattle.avs_tree.specs.declared.tree.Expr.{Expr, fold-Expr}
use Rattle.avs_tree.specs.declared.tree.Arg.{Arg, fold-Arg}
use Rattle.avs_tree.specs.declared.tree.DotCall.{DotCall, fold-DotCall}
use Rattle.avs_tree.specs.declared.tree.Step.{Step, fold-Step}
use Rattle.avs_tree.specs.declared.tree.Expr.TheOpen.{Expr-F, Arg-F, DotCall-F, Step-F}
use Rattle.avs_tree.specs.declared.tree.Statement.{Statement, fold-Statement}
use Rattle.avs_tree.specs.declared.tree.StatementKind.{StatementKind, fold-StatementKind}
use Rattle.avs_tree.specs.declared.tree.Arm.{Arm, fold-Arm}
use Rattle.avs_tree.specs.declared.tree.StatementKind.TheOpen.{Statement-F, StatementKind-F, Arm-F}
use Rattle.avs_tree.specs.declared.tree.Function.{Function}
use Rattle.avs_tree.specs.declared.tree.Script.{Script}

-- ---- expressions

abbrev pub ArgIs : Type 0
ArgIs = Option Text × t.Expr

abbrev pub MethodCallIs : Type 0
MethodCallIs = Text × (Option t.Args × ℕ)

abbrev pub StepIs : Type 0
StepIs = Operator × (t.Expr × ℕ)

abbrev pub args_of : List ArgIs → t.Args
args_of [] = t.no_args
args_of (a ∷ rest) = t.arg a.0 a.1 (args_of rest)

abbrev pub method_call_of : Text → Option t.Args → ℕ → t.MethodCalls → t.MethodCalls
method_call_of x None line ds = t.method x line ds
method_call_of x (Some es) line ds = t.method_call x es line ds

abbrev pub method_calls_of : List MethodCallIs → t.MethodCalls
method_calls_of [] = t.no_method_calls
method_calls_of (d ∷ ds) = method_call_of d.0 d.1.0 d.1.1 (method_calls_of ds)

abbrev pub steps_of : List StepIs → t.Steps
steps_of [] = t.no_steps
steps_of (s ∷ ss) = t.step s.0 s.1.0 s.1.1 (steps_of ss)

abbrev pub expr_layer : Expr-F t.Expr ArgIs MethodCallIs StepIs → t.Expr
expr_layer (Expr-F.Int n) = t.int n
expr_layer (Expr-F.Bool b) = t.bool b
expr_layer (Expr-F.Str x) = t.str x
expr_layer (Expr-F.Name x line) = t.name x line
expr_layer (Expr-F.Call x es line) = t.call x (args_of es.items) line
expr_layer (Expr-F.Dots e ds) = t.method_calls e.value (method_calls_of ds.items)
expr_layer (Expr-F.Minus e line) = t.minus e.value line
expr_layer (Expr-F.Not e line) = t.not_ e.value line
expr_layer (Expr-F.Chain e ss) = t.chain e.value (steps_of ss.items)
expr_layer (Expr-F.Compare op a b line) = t.compare op a.value b.value line
expr_layer (Expr-F.Pick c a b line) = t.conditional c.value a.value b.value line
expr_layer (Expr-F.Group e) = t.group e.value

abbrev pub arg_layer : Arg-F t.Expr ArgIs MethodCallIs StepIs → ArgIs
arg_layer a = (a.name, a.value)

abbrev pub method_call_layer : DotCall-F t.Expr ArgIs MethodCallIs StepIs → MethodCallIs
method_call_layer d = (d.name, (option_map (λ es. args_of es.items) d.args, d.line))

abbrev pub step_layer : Step-F t.Expr ArgIs MethodCallIs StepIs → StepIs
step_layer s = (s.op, (s.operand, s.line))

abbrev pub expr_view : Expr → t.Expr
expr_view = fold-Expr t.Expr ArgIs MethodCallIs StepIs expr_layer arg_layer method_call_layer step_layer

abbrev pub arg_view : Arg → ArgIs
arg_view = fold-Arg t.Expr ArgIs MethodCallIs StepIs expr_layer arg_layer method_call_layer step_layer

abbrev pub method_call_view : DotCall → MethodCallIs
method_call_view = fold-DotCall t.Expr ArgIs MethodCallIs StepIs expr_layer arg_layer method_call_layer step_layer

abbrev pub step_view : Step → StepIs
step_view = fold-Step t.Expr ArgIs MethodCallIs StepIs expr_layer arg_layer method_call_layer step_layer

-- ---- statements

abbrev pub StatementIs : Type 0
StatementIs = t.Kind × ℕ

abbrev pub ArmIs : Type 0
ArmIs = t.Expr × t.Block

abbrev pub block_of : List StatementIs → t.Block
block_of [] = t.no_more
block_of (s ∷ rest) = t.then_ s.0 s.1 (block_of rest)

abbrev pub arms_of : List ArmIs → t.Arms
arms_of [] = t.no_arms
arms_of (a ∷ rest) = t.arm a.0 a.1 (arms_of rest)

abbrev pub else_of : Option t.Block → t.Else
else_of None = t.no_else
else_of (Some b) = t.else_ b

abbrev pub kind_layer : StatementKind-F t.Kind ArmIs StatementIs → t.Kind
kind_layer (StatementKind-F.Global x e) = t.global x (expr_view e)
kind_layer (StatementKind-F.Assign x e) = t.assign x (expr_view e)
kind_layer (StatementKind-F.Return e) = t.return (expr_view e)
kind_layer (StatementKind-F.If arms other) = t.if_ (arms_of arms.items) (else_of (option_map (λ b. block_of b.items) other))
kind_layer (StatementKind-F.While c b) = t.while (expr_view c) (block_of b.items)
kind_layer (StatementKind-F.For x a b c d) = t.for x (expr_view a) (expr_view b) (option_map expr_view c) (block_of d.items)
kind_layer (StatementKind-F.Value e) = t.value (expr_view e)

abbrev pub statement_layer : Statement-F t.Kind ArmIs StatementIs → StatementIs
statement_layer s = (s.kind, s.line)

abbrev pub arm_layer : Arm-F t.Kind ArmIs StatementIs → ArmIs
arm_layer a = (expr_view a.condition, block_of a.body.items)

abbrev pub statement_view : Statement → StatementIs
statement_view = fold-Statement t.Kind ArmIs StatementIs kind_layer arm_layer statement_layer

abbrev pub kind_view : StatementKind → t.Kind
kind_view = fold-StatementKind t.Kind ArmIs StatementIs kind_layer arm_layer statement_layer

abbrev pub arm_view : Arm → ArmIs
arm_view = fold-Arm t.Kind ArmIs StatementIs kind_layer arm_layer statement_layer

abbrev pub block_view : List Statement → t.Block
block_view body = block_of (map statement_view body)

abbrev pub function_view : Function → t.Function
function_view f = record { name = f.name; params = f.params.items; body = block_view f.body.items; line = f.line }

abbrev pub script_view : Script → t.Script
script_view s = record { functions = map function_view s.functions.items; statements = block_view s.statements.items }
