-- How large the expressions of a script are.
use Rattle.std.specs.Prelude.{ℕ, suc, ◌+◌, ◌≤◌, List, [], ◌∷◌, Option, Some, None, ⊤}
use Rattle.avs_tree.specs.Tree.{Expr, int, bool, str, name, call, method_calls, minus, not_, chain, compare, conditional, group, Args, no_args, arg, MethodCalls, no_method_calls, method, method_call, Steps, no_steps, step, Kind, global, assign, return, if_, while, for, value, Arms, no_arms, arm, Else, no_else, else_, Block, no_more, then_, Function, Script}

-- how many expressions and method calls an expression has, itself among them
abbrev mutual
  pub size : Expr → ℕ
  size (int n) = 1
  size (bool b) = 1
  size (str x) = 1
  size (name x line) = 1
  size (call x es line) = suc (args_size es)
  size (group e) = suc (size e)
  size (method_calls e ds) = suc (size e + method_calls_size ds)
  size (minus e line) = suc (size e)
  size (not_ e line) = suc (size e)
  size (chain e ss) = suc (size e + steps_size ss)
  size (compare op a b line) = suc (size a + size b)
  size (conditional c a b line) = suc (size c + (size a + size b))

  pub steps_size : Steps → ℕ
  steps_size no_steps = 0
  steps_size (step op e line ss) = size e + steps_size ss

  pub method_calls_size : MethodCalls → ℕ
  method_calls_size no_method_calls = 0
  method_calls_size (method x line ds) = suc (method_calls_size ds)
  method_calls_size (method_call x es line ds) = suc (args_size es + method_calls_size ds)

  pub args_size : Args → ℕ
  args_size no_args = 0
  args_size (arg x e es) = size e + args_size es

abbrev pub step_size : Option Expr → ℕ
step_size None = 0
step_size (Some e) = size e

-- those of the conditions of an `if`
abbrev pub arms_size : Arms → ℕ
arms_size no_arms = 0
arms_size (arm e b rest) = size e + arms_size rest

-- Statements are short where the expressions of each, without the statements inside it, are at most so large together.
module _ (most : ℕ) where
  abbrev mutual
    pub IsShort : Kind → Type 0
    IsShort (global x e) = size e ≤ most
    IsShort (assign x e) = size e ≤ most
    IsShort (return e) = size e ≤ most
    IsShort (if_ arms other) = (arms_size arms ≤ most) × ArmsAreShort arms × IsElseShort other
    IsShort (while e b) = (size e ≤ most) × AreShort b
    IsShort (for x a b c d) = (size a + (size b + step_size c) ≤ most) × AreShort d
    IsShort (value e) = size e ≤ most

    pub ArmsAreShort : Arms → Type 0
    ArmsAreShort no_arms = ⊤
    ArmsAreShort (arm e b rest) = AreShort b × ArmsAreShort rest

    pub IsElseShort : Else → Type 0
    IsElseShort no_else = ⊤
    IsElseShort (else_ b) = AreShort b

    pub AreShort : Block → Type 0
    AreShort no_more = ⊤
    AreShort (then_ k line rest) = IsShort k × AreShort rest

  abbrev pub FunctionsAreShort : List Function → Type 0
  FunctionsAreShort [] = ⊤
  FunctionsAreShort (f ∷ fs) = AreShort f.body × FunctionsAreShort fs

  abbrev pub IsScriptShort : Script → Type 0
  IsScriptShort tree = FunctionsAreShort tree.functions × AreShort tree.statements
