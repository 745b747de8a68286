-- What was read of an expression and fits within the limit of nesting can be completed within it.
use Rattle.std.proofs.Common.{refl, ℕ, pos, suc, ◌+◌, ◌≤◌, max, arith, inl, List, [], ◌∷◌, ◌++◌, Option, Some, None}
use Rattle.avs_tree.specs.Lexeme.{Lexemes, precedence_of}
use Rattle.avs_lex.specs.Spelling.{Text}
use Rattle.avs_tree.specs.Tree.{Expr, int, call, method_calls, minus, not_, chain, compare, conditional, group, Args, no_args, arg, no_method_calls, no_steps, step, Kind, global, assign, return, if_, while, value, no_arms, no_else, else_, Block, no_more}
use Rattle.avs_tree.specs.Tree as t
use Rattle.avs_tree.specs.View.{ArgIs, MethodCallIs, StepIs, method_call_of}
use Rattle.avs_tree.specs.Grammar.{nesting, args_nesting, method_calls_nesting, steps_nesting}
use Rattle.avs_tree.specs.Machine.{Callee, call_of, method_of, Open, paren, argument, minus_of, not_of, chain_of, compare_of, yes_of, no_of, ExprState, operand_next, value_read, name_read, args_opened, dot_read, method_read, calls_read, open_level}
use Rattle.avs_tree.specs.declared.symbol.Symbol.TheVariants as s
use Rattle.avs_tree.specs.declared.symbol.Punctuation.TheVariants as m
use Rattle.avs_tree.specs.declared.tree.Operator.{Operator}
use Rattle.avs_tree.proofs.Left.{grown}
use Rattle.avs_tree.proofs.ExprMeaning.{all_args, all_calls, all_steps, Continuation, Grown, Called, WithCalls, Meaning}
use Rattle.avs_tree.proofs.Fits.{args_nest, calls_nest, steps_nest, FitsCallee, Fits, FitsNow, fits_level}

args_last : (found : List ArgIs) (x : Option Text) (e : Expr) → args_nesting (all_args found (arg x e no_args)) ≤ max (args_nest found) (nesting e)
args_last [] x e = omega arith
args_last (a ∷ found) x e = omega (arith, args_last found x e)

calls_last : (ds : List MethodCallIs) (x : Text) (es : Args) (line : ℕ) → method_calls_nesting (all_calls ds (method_call_of x (Some es) line no_method_calls)) ≤ max (calls_nest ds) (suc (args_nesting es))
calls_last [] x es line = omega arith
calls_last ((y, (None, l)) ∷ ds) x es line = calls_last ds x es line
calls_last ((y, (Some fs, l)) ∷ ds) x es line = omega (arith, calls_last ds x es line)

calls_named : (ds : List MethodCallIs) (x : Text) (line : ℕ) → calls_nest (ds ++ (x, (None, line)) ∷ []) ≤ calls_nest ds
calls_named [] x line = omega arith
calls_named ((y, (None, l)) ∷ ds) x line = calls_named ds x line
calls_named ((y, (Some fs, l)) ∷ ds) x line = omega (arith, calls_named ds x line)

steps_last : (ss : List StepIs) (op : Operator) (e : Expr) (line : ℕ) → steps_nesting (all_steps ss (step op e line no_steps)) ≤ max (steps_nest ss) (nesting e)
steps_last [] op e line = omega arith
steps_last (x ∷ ss) op e line = omega (arith, steps_last ss op e line)

module _ (most base : ℕ) (X : Type 0) (K : X → Expr → Lexemes → Type 0) (some : (e : Expr) → base + nesting e ≤ most → (a : X) × (ts : Lexemes) × K a e ts) where
  abbrev SomeCont : List Open → Expr → Type 0
  SomeCont fs e = (a : X) × (ts : Lexemes) × Continuation (K a) fs e ts

  abbrev Completes : List Open → Type 0
  Completes fs = (e : Expr) → base + open_level fs + nesting e ≤ most → SomeCont fs e

  some_grown : (fs : List Open) (k : ℕ) (e : Expr) → SomeCont fs e → (a : X) × (ts : Lexemes) × Grown (K a) fs k e ts
  some_grown fs k e (a, us, c) = (a, us, (e, us, grown, c))

  some_called : (fs : List Open) → Completes fs → (c : Callee) (es : Args) → FitsCallee most base (base + open_level fs) c → base + open_level fs + suc (args_nesting es) ≤ most
      → (a : X) × (ts : Lexemes) × Called (K a) fs c es ts
  some_called fs go (call_of x line) es f le = some_grown fs 0 (call x es line) (go (call x es line) le)
  some_called fs go (method_of e ds x line) es (f, f') le =
      let whole = method_calls e (all_calls ds (method_call_of x (Some es) line no_method_calls)) in
      let last = calls_last ds x es line in
      let one = some_grown fs 1 whole (go whole (omega arith)) in (one.0, one.1, (no_method_calls, one.1, refl {a = one.1}, one.2))

  some_argument : (fs : List Open) (c : Callee) (found : List ArgIs) (x : Option Text) (e : Expr) → ((a : X) × (ts : Lexemes) × Called (K a) fs c (all_args found (arg x e no_args)) ts) → SomeCont (argument c found x ∷ fs) e
  some_argument fs c found None e (a, us, h) = (a, (s.Punctuation m.RightParen, [], 0) ∷ us, inl (no_args, us, (0, ([], refl)), h))
  some_argument fs c found (Some y) e (a, us, h) = (a, (s.Punctuation m.RightParen, [], 0) ∷ us, (no_args, us, (0, ([], refl)), h))

  some_cont : (fs : List Open) → Fits most base fs → Completes fs
  some_cont [] h e le = some e (omega arith)
  some_cont (paren ∷ fs) (a, h) e le = let one = some_grown fs 0 (group e) (some_cont fs h (group e) (omega arith)) in (one.0, (s.Punctuation m.RightParen, [], 0) ∷ one.1, (one.1, (0, ([], refl)), one.2))
  some_cont (argument c found x ∷ fs) (a, b, h) e le =
      let last = args_last found x e in some_argument fs c found x e (some_called fs (some_cont fs h) c (all_args found (arg x e no_args)) b (omega arith))
  some_cont (minus_of line ∷ fs) (a, h) e le = some_grown fs 2 (minus e line) (some_cont fs h (minus e line) (omega arith))
  some_cont (not_of line ∷ fs) (a, h) e le = some_grown fs 2 (not_ e line) (some_cont fs h (not_ e line) (omega arith))
  some_cont (chain_of first ss op line ∷ fs) (a, b, h) e le =
      let whole = chain first (all_steps ss (step op e line no_steps)) in
      let last = steps_last ss op e line in
      let one = some_grown fs (precedence_of op) whole (some_cont fs h whole (omega arith)) in (one.0, one.1, (no_steps, one.1, refl {a = one.1}, one.2))
  some_cont (compare_of op first line ∷ fs) (a, h) e le = some_grown fs 5 (compare op first e line) (some_cont fs h (compare op first e line) (omega arith))
  some_cont (yes_of f line ∷ fs) (a, b, h) e le =
      let whole = conditional f e (int (pos 0)) line in
      let one = some_grown fs 8 whole (some_cont fs h whole (omega arith)) in
      (one.0, (s.Punctuation m.Colon, [], 0) ∷ (s.Int (pos 0), [], 0) ∷ one.1, ((s.Int (pos 0), [], 0) ∷ one.1, one.1, int (pos 0), (0, ([], refl {a = (s.Punctuation m.Colon, [], 0) ∷ (s.Int (pos 0), [], 0) ∷ one.1})), (0, ([], refl {a = (s.Int (pos 0), [], 0) ∷ one.1})), one.2))
  some_cont (no_of f yes_ line ∷ fs) (a, b, h) e le = some_grown fs 8 (conditional f yes_ e line) (some_cont fs h (conditional f yes_ e line) (omega arith))

  some_calls : (fs : List Open) → Fits most base fs → (e : Expr) (ds : List MethodCallIs) → base + open_level fs + nesting e ≤ most → base + open_level fs + calls_nest ds ≤ most → (a : X) × (ts : Lexemes) × WithCalls (K a) fs e ds ts
  some_calls fs h e ds a b =
      let whole = method_calls e (all_calls ds no_method_calls) in
      let one = some_grown fs 1 whole (some_cont fs h whole (omega arith)) in (one.0, one.1, (no_method_calls, one.1, refl {a = one.1}, one.2))

  pub shallow_meaning : (now : ExprState) (fs : List Open) → FitsNow most base (base + open_level fs) now → Fits most base fs → (a : X) × (ts : Lexemes) × Meaning (K a) now fs ts
  shallow_meaning operand_next fs f h =
      let low = fits_level most base fs h in
      let one = some_cont fs h (int (pos 0)) (omega arith) in (one.0, (s.Int (pos 0), [], 0) ∷ one.1, (int (pos 0), one.1, (0, ([], refl)), one.2))
  shallow_meaning (value_read k e) fs f h = some_grown fs k e (some_cont fs h e f)
  shallow_meaning (name_read x line) fs f h =
      let low = fits_level most base fs h in
      let one = some_grown fs 0 (t.name x line) (some_cont fs h (t.name x line) (omega arith)) in (one.0, one.1, inl one.2)
  shallow_meaning (args_opened c) fs (f, f') h =
      let one = some_called fs (some_cont fs h) c no_args f' (omega arith) in (one.0, (s.Punctuation m.RightParen, [], 0) ∷ one.1, (no_args, one.1, (0, ([], refl)), one.2))
  shallow_meaning (dot_read e ds) fs (f, f') h =
      let plain = calls_named ds [] 0 in
      let one = some_calls fs h e (ds ++ ([], (None, 0)) ∷ []) f (omega arith) in (one.0, (s.Name, [], 0) ∷ one.1, ([], 0, one.1, refl, inl one.2))
  shallow_meaning (method_read e ds x line) fs (f, f') h =
      let plain = calls_named ds x line in
      let one = some_calls fs h e (ds ++ (x, (None, line)) ∷ []) f (omega arith) in (one.0, one.1, inl one.2)
  shallow_meaning (calls_read e ds) fs (f, f') h = some_calls fs h e ds f f'
