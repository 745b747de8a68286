-- What may still come of an expression nests as deep as what is open.
use Rattle.std.proofs.Common.{ℕ, suc, ◌+◌, ◌≤◌, arith, inl, inr, List, [], ◌∷◌, ◌++◌, Option, Some, None}
use Rattle.avs_tree.specs.Lexeme.{Lexemes, precedence_of}
use Rattle.avs_lex.specs.Spelling.{Text}
use Rattle.avs_tree.specs.Tree.{Expr, Kind, global, assign, return, if_, while, value, Arms, arm, Else, else_, Block, no_more, then_, call, method_calls, minus, not_, chain, compare, conditional, group, Args, no_args, arg, MethodCalls, method, method_call, Steps, step}
use Rattle.avs_tree.specs.Tree as t
use Rattle.avs_tree.specs.View.{ArgIs, MethodCallIs, StepIs}
use Rattle.avs_tree.specs.Grammar.{nesting, args_nesting, method_calls_nesting, steps_nesting}
use Rattle.avs_tree.specs.Machine.{Callee, call_of, method_of, Open, paren, argument, minus_of, not_of, chain_of, compare_of, yes_of, no_of, ExprState, operand_next, value_read, name_read, args_opened, dot_read, method_read, calls_read, hole, open_level, expr_level}
use Rattle.avs_tree.specs.declared.tree.Operator.{Operator}
use Rattle.avs_tree.proofs.Left.{Grows, grown, by_methods, by_chain, by_compare, by_question}
use Rattle.avs_tree.proofs.ExprMeaning.{all_args, all_calls, all_steps, ArgumentIn, LabelIn, Continuation, Grown, Called, Opened, WithCalls, MethodNamed, Meaning}

grows_deep : {k r : ℕ} {e e' : Expr} {ts us : Lexemes} → Grows k r e ts us e' → nesting e ≤ nesting e'
grows_deep grown = omega arith
grows_deep (by_methods ds vs a b c d g) = omega (arith, grows_deep g)
grows_deep (by_chain ss vs a b c d g) = omega (arith, grows_deep g)
grows_deep (by_compare op x line vs ws a b c d h g) = omega (arith, grows_deep g)
grows_deep (by_question x y line vs ws xs ys a b c d h i g) = omega (arith, grows_deep g)

args_deep : (found : List ArgIs) (x : Option Text) (e : Expr) (es : Args) → nesting e ≤ args_nesting (all_args found (arg x e es))
args_deep [] x e es = omega arith
args_deep (a ∷ found) x e es = omega (arith, args_deep found x e es)

calls_deep : (ds : List MethodCallIs) (x : Text) (es : Args) (line : ℕ) (rest : MethodCalls) → suc (args_nesting es) ≤ method_calls_nesting (all_calls ds (method_call x es line rest))
calls_deep [] x es line rest = omega arith
calls_deep ((y, (None, l)) ∷ ds) x es line rest = calls_deep ds x es line rest
calls_deep ((y, (Some fs, l)) ∷ ds) x es line rest = omega (arith, calls_deep ds x es line rest)

steps_deep : (ss : List StepIs) (op : Operator) (e : Expr) (line : ℕ) (rest : Steps) → nesting e ≤ steps_nesting (all_steps ss (step op e line rest))
steps_deep [] op e line rest = omega arith
steps_deep (x ∷ ss) op e line rest = omega (arith, steps_deep ss op e line rest)

module _ (K : Expr → Lexemes → Type 0) (base total : ℕ) (deep : (e : Expr) (ts : Lexemes) → K e ts → base + nesting e ≤ total) where
  grown_deep : (fs : List Open) → ((e : Expr) (ts : Lexemes) → Continuation K fs e ts → base + open_level fs + nesting e ≤ total) → (k : ℕ) (e : Expr) (ts : Lexemes) → Grown K fs k e ts
      → base + open_level fs + nesting e ≤ total
  grown_deep fs go k e ts (e', us, g, c) = omega (arith, grows_deep g, go e' us c)

  called_deep : (fs : List Open) → ((e : Expr) (ts : Lexemes) → Continuation K fs e ts → base + open_level fs + nesting e ≤ total) → (c : Callee) (es : Args) (ts : Lexemes) → Called K fs c es ts
      → base + open_level fs + suc (args_nesting es) ≤ total
  called_deep fs go (call_of x line) es ts h = grown_deep fs go 0 (call x es line) ts h
  called_deep fs go (method_of e ds x line) es ts (rest, us, d, h) =
      omega (arith, grown_deep fs go 1 (method_calls e (all_calls ds (method_call x es line rest))) us h, calls_deep ds x es line rest)

  argument_deep : (fs : List Open) → ((e : Expr) (ts : Lexemes) → Continuation K fs e ts → base + open_level fs + nesting e ≤ total) → (c : Callee) (found : List ArgIs) (x : Option Text) (e : Expr) (ts : Lexemes)
      → ArgumentIn (hole fs) (Continuation K fs) c found x e ts → base + open_level fs + suc (nesting e) ≤ total
  argument_deep fs go c found x e ts (es, us, more, h) = omega (arith, called_deep fs go c (all_args found (arg x e es)) us h, args_deep found x e es)

  label_deep : (fs : List Open) → ((e : Expr) (ts : Lexemes) → Continuation K fs e ts → base + open_level fs + nesting e ≤ total) → (c : Callee) (found : List ArgIs) (e : Expr) (ts : Lexemes)
      → LabelIn (hole fs) (Continuation K fs) c found e ts → base + open_level fs + suc (nesting e) ≤ total
  label_deep fs go c found (t.name y line) ts (us, vs, f, assign_, d, h) = omega (arith, argument_deep fs go c found (Some y) f vs h)
  label_deep fs go c found _ ts h = absurd h

  cont_deep : (fs : List Open) (e : Expr) (ts : Lexemes) → Continuation K fs e ts → base + open_level fs + nesting e ≤ total
  cont_deep [] e ts h = omega (arith, deep e ts h)
  cont_deep (paren ∷ fs) e ts (us, is, h) = omega (arith, grown_deep fs (cont_deep fs) 0 (group e) us h)
  cont_deep (argument c found None ∷ fs) e ts (inl h) = omega (arith, argument_deep fs (cont_deep fs) c found None e ts h)
  cont_deep (argument c found None ∷ fs) e ts (inr h) = omega (arith, label_deep fs (cont_deep fs) c found e ts h)
  cont_deep (argument c found (Some y) ∷ fs) e ts h = omega (arith, argument_deep fs (cont_deep fs) c found (Some y) e ts h)
  cont_deep (minus_of line ∷ fs) e ts h = omega (arith, grown_deep fs (cont_deep fs) 2 (minus e line) ts h)
  cont_deep (not_of line ∷ fs) e ts h = omega (arith, grown_deep fs (cont_deep fs) 2 (not_ e line) ts h)
  cont_deep (chain_of first ss op line ∷ fs) e ts (rest, us, d, h) =
      omega (arith, grown_deep fs (cont_deep fs) (precedence_of op) (chain first (all_steps ss (step op e line rest))) us h, steps_deep ss op e line rest)
  cont_deep (compare_of op first line ∷ fs) e ts h = omega (arith, grown_deep fs (cont_deep fs) 5 (compare op first e line) ts h)
  cont_deep (yes_of c line ∷ fs) e ts (us, vs, b, is, d, h) = omega (arith, grown_deep fs (cont_deep fs) 8 (conditional c e b line) vs h)
  cont_deep (no_of c yes_ line ∷ fs) e ts h = omega (arith, grown_deep fs (cont_deep fs) 8 (conditional c yes_ e line) ts h)

  calls_level : (fs : List Open) (e : Expr) (ds : List MethodCallIs) (ts : Lexemes) → WithCalls K fs e ds ts → base + open_level fs ≤ total
  calls_level fs e ds ts (rest, us, d, h) = omega (arith, grown_deep fs (cont_deep fs) 1 (method_calls e (all_calls ds rest)) us h)

  opened_level : (fs : List Open) (c : Callee) (ts : Lexemes) → Opened K fs c ts → base + (1 + open_level fs) ≤ total
  opened_level fs c ts (es, us, d, h) = omega (arith, called_deep fs (cont_deep fs) c es us h)

  method_level : (fs : List Open) (e : Expr) (ds : List MethodCallIs) (x : Text) (line : ℕ) (ts : Lexemes) → MethodNamed K fs e ds x line ts → base + open_level fs ≤ total
  method_level fs e ds x line ts (inl h) = calls_level fs e (ds ++ (x, (None, line)) ∷ []) ts h
  method_level fs e ds x line ts (inr (us, is, h)) = omega (arith, opened_level fs (method_of e ds x line) us h)

  pub meaning_deep : (now : ExprState) (fs : List Open) (ts : Lexemes) → Meaning K now fs ts → base + (expr_level now + open_level fs) ≤ total
  meaning_deep operand_next fs ts (e, us, d, c) = omega (arith, cont_deep fs e us c)
  meaning_deep (value_read k e) fs ts h = omega (arith, grown_deep fs (cont_deep fs) k e ts h)
  meaning_deep (name_read x line) fs ts (inl h) = omega (arith, grown_deep fs (cont_deep fs) 0 (t.name x line) ts h)
  meaning_deep (name_read x line) fs ts (inr (us, is, h)) = omega (arith, opened_level fs (call_of x line) us h)
  meaning_deep (args_opened c) fs ts h = opened_level fs c ts h
  meaning_deep (dot_read e ds) fs ts (x, line, us, is, h) = omega (arith, method_level fs e ds x line us h)
  meaning_deep (method_read e ds x line) fs ts h = omega (arith, method_level fs e ds x line ts h)
  meaning_deep (calls_read e ds) fs ts h = omega (arith, calls_level fs e ds ts h)
