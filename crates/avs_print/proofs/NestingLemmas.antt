-- Lines don't matter to the nesting of a tree.
use Rattle.std.proofs.Common.{◌≡◌, refl, ap, ℕ, suc, max, List, [], ◌∷◌, map, Option, Some, None, option_map}
use Rattle.avs_tree.specs.Tree.{Expr, int, bool, str, call, method_calls, minus, not_, chain, compare, conditional, group, Args, no_args, arg, MethodCalls, no_method_calls, method, method_call, Steps, no_steps, step, Kind, global, assign, return, if_, while, for, value, Arms, no_arms, arm, Else, no_else, else_, Block, no_more, then_, Function, Script}
use Rattle.avs_tree.specs.Tree as t
use Rattle.avs_tree.specs.Grammar.{nesting, steps_nesting, method_calls_nesting, args_nesting, step_nesting, kind_nesting, arms_nesting, else_nesting, block_nesting, functions_nesting, script_nesting}
use Rattle.avs_print.specs.WithoutLines.{without_lines, args_without_lines, method_calls_without_lines, steps_without_lines, kind_without_lines, arms_without_lines, else_without_lines, block_without_lines, function_without_lines, script_without_lines}

max_same : {a b c d : ℕ} → a ≡ c → b ≡ d → max a b ≡ max c d
max_same first second = cc (first, second)

-- ---- expressions

mutual
  nesting_without_lines : (e : Expr) → nesting (without_lines e) ≡ nesting e
  nesting_without_lines (int n) = refl
  nesting_without_lines (bool b) = refl
  nesting_without_lines (str x) = refl
  nesting_without_lines (t.name x line) = refl
  nesting_without_lines (call x es line) = ap suc (args_nesting_without_lines es)
  nesting_without_lines (method_calls e ds) = max_same (nesting_without_lines e) (method_calls_nesting_without_lines ds)
  nesting_without_lines (minus e line) = ap suc (nesting_without_lines e)
  nesting_without_lines (not_ e line) = ap suc (nesting_without_lines e)
  nesting_without_lines (chain e ss) = max_same (nesting_without_lines e) (steps_nesting_without_lines ss)
  nesting_without_lines (compare op a b line) = max_same (nesting_without_lines a) (nesting_without_lines b)
  nesting_without_lines (conditional c a b line) = max_same (nesting_without_lines c) (ap suc (max_same (nesting_without_lines a) (nesting_without_lines b)))
  nesting_without_lines (group e) = ap suc (nesting_without_lines e)

  steps_nesting_without_lines : (ss : Steps) → steps_nesting (steps_without_lines ss) ≡ steps_nesting ss
  steps_nesting_without_lines no_steps = refl
  steps_nesting_without_lines (step op e line ss) = max_same (nesting_without_lines e) (steps_nesting_without_lines ss)

  method_calls_nesting_without_lines : (ds : MethodCalls) → method_calls_nesting (method_calls_without_lines ds) ≡ method_calls_nesting ds
  method_calls_nesting_without_lines no_method_calls = refl
  method_calls_nesting_without_lines (method x line ds) = method_calls_nesting_without_lines ds
  method_calls_nesting_without_lines (method_call x es line ds) = max_same (ap suc (args_nesting_without_lines es)) (method_calls_nesting_without_lines ds)

  args_nesting_without_lines : (es : Args) → args_nesting (args_without_lines es) ≡ args_nesting es
  args_nesting_without_lines no_args = refl
  args_nesting_without_lines (arg x e es) = max_same (nesting_without_lines e) (args_nesting_without_lines es)

-- ---- statements

step_nesting_without_lines : (c : Option Expr) → step_nesting (option_map without_lines c) ≡ step_nesting c
step_nesting_without_lines None = refl
step_nesting_without_lines (Some e) = nesting_without_lines e

mutual
  kind_nesting_without_lines : (k : Kind) → kind_nesting (kind_without_lines k) ≡ kind_nesting k
  kind_nesting_without_lines (global x e) = nesting_without_lines e
  kind_nesting_without_lines (assign x e) = nesting_without_lines e
  kind_nesting_without_lines (return e) = nesting_without_lines e
  kind_nesting_without_lines (if_ arms other) = max_same (arms_nesting_without_lines arms) (else_nesting_without_lines other)
  kind_nesting_without_lines (while e b) = ap suc (max_same (nesting_without_lines e) (block_nesting_without_lines b))
  kind_nesting_without_lines (for x a b c d) =
      ap suc (max_same (max_same (nesting_without_lines a) (max_same (nesting_without_lines b) (step_nesting_without_lines c))) (block_nesting_without_lines d))
  kind_nesting_without_lines (value e) = nesting_without_lines e

  arms_nesting_without_lines : (arms : Arms) → arms_nesting (arms_without_lines arms) ≡ arms_nesting arms
  arms_nesting_without_lines no_arms = refl
  arms_nesting_without_lines (arm e b rest) = max_same (ap suc (max_same (nesting_without_lines e) (block_nesting_without_lines b))) (arms_nesting_without_lines rest)

  else_nesting_without_lines : (other : Else) → else_nesting (else_without_lines other) ≡ else_nesting other
  else_nesting_without_lines no_else = refl
  else_nesting_without_lines (else_ b) = ap suc (block_nesting_without_lines b)

  block_nesting_without_lines : (b : Block) → block_nesting (block_without_lines b) ≡ block_nesting b
  block_nesting_without_lines no_more = refl
  block_nesting_without_lines (then_ k line rest) = max_same (kind_nesting_without_lines k) (block_nesting_without_lines rest)

-- ---- scripts

functions_nesting_without_lines : (fs : List Function) → functions_nesting (map function_without_lines fs) ≡ functions_nesting fs
functions_nesting_without_lines [] = refl
functions_nesting_without_lines (f ∷ fs) = max_same (ap suc (block_nesting_without_lines f.body)) (functions_nesting_without_lines fs)

pub script_nesting_without_lines : (tree : Script) → script_nesting (script_without_lines tree) ≡ script_nesting tree
script_nesting_without_lines tree = max_same (functions_nesting_without_lines tree.functions) (block_nesting_without_lines tree.statements)
