-- Trees apart from lines: each line is 0.
use Rattle.std.specs.Prelude.{map, option_map}
use Rattle.avs_tree.specs.Tree.{Expr, int, bool, str, name, call, method_calls, minus, not_, chain, compare, conditional, group, Args, no_args, arg, MethodCalls, no_method_calls, method, method_call, Steps, no_steps, step, Kind, global, assign, return, if_, while, for, value, Arms, no_arms, arm, Else, no_else, else_, Block, no_more, then_, Function, Script}

abbrev mutual
  pub without_lines : Expr → Expr
  without_lines (int n) = int n
  without_lines (bool b) = bool b
  without_lines (str x) = str x
  without_lines (name x line) = name x 0
  without_lines (call x es line) = call x (args_without_lines es) 0
  without_lines (method_calls e ds) = method_calls (without_lines e) (method_calls_without_lines ds)
  without_lines (minus e line) = minus (without_lines e) 0
  without_lines (not_ e line) = not_ (without_lines e) 0
  without_lines (chain e ss) = chain (without_lines e) (steps_without_lines ss)
  without_lines (compare op a b line) = compare op (without_lines a) (without_lines b) 0
  without_lines (conditional c a b line) = conditional (without_lines c) (without_lines a) (without_lines b) 0
  without_lines (group e) = group (without_lines e)

  pub args_without_lines : Args → Args
  args_without_lines no_args = no_args
  args_without_lines (arg x e es) = arg x (without_lines e) (args_without_lines es)

  pub method_calls_without_lines : MethodCalls → MethodCalls
  method_calls_without_lines no_method_calls = no_method_calls
  method_calls_without_lines (method x line ds) = method x 0 (method_calls_without_lines ds)
  method_calls_without_lines (method_call x es line ds) = method_call x (args_without_lines es) 0 (method_calls_without_lines ds)

  pub steps_without_lines : Steps → Steps
  steps_without_lines no_steps = no_steps
  steps_without_lines (step op e line ss) = step op (without_lines e) 0 (steps_without_lines ss)

abbrev mutual
  pub kind_without_lines : Kind → Kind
  kind_without_lines (global x e) = global x (without_lines e)
  kind_without_lines (assign x e) = assign x (without_lines e)
  kind_without_lines (return e) = return (without_lines e)
  kind_without_lines (if_ arms other) = if_ (arms_without_lines arms) (else_without_lines other)
  kind_without_lines (while e b) = while (without_lines e) (block_without_lines b)
  kind_without_lines (for x a b c d) = for x (without_lines a) (without_lines b) (option_map without_lines c) (block_without_lines d)
  kind_without_lines (value e) = value (without_lines e)

  pub arms_without_lines : Arms → Arms
  arms_without_lines no_arms = no_arms
  arms_without_lines (arm e b rest) = arm (without_lines e) (block_without_lines b) (arms_without_lines rest)

  pub else_without_lines : Else → Else
  else_without_lines no_else = no_else
  else_without_lines (else_ b) = else_ (block_without_lines b)

  pub block_without_lines : Block → Block
  block_without_lines no_more = no_more
  block_without_lines (then_ k line rest) = then_ (kind_without_lines k) 0 (block_without_lines rest)

abbrev pub function_without_lines : Function → Function
function_without_lines f = record { name = f.name; params = f.params; body = block_without_lines f.body; line = 0 }

abbrev pub script_without_lines : Script → Script
script_without_lines tree = record { functions = map function_without_lines tree.functions; statements = block_without_lines tree.statements }
