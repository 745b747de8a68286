-- What was read of an expression fits within the limit of nesting, as long as no more levels are open than it allows.
use Rattle.std.proofs.Common.{ℕ, suc, ◌+◌, ◌<◌, ◌≤◌, max, arith, ◌&&◌, List, [], ◌∷◌, ◌++◌, Option, Some, None, nat_eq, nat_lt, nat_le, if◌then◌else◌}
use Rattle.avs_tree.specs.Lexeme.{Lexemes, precedence_of, line_of, peek, content_at, is_punctuation, operator_at}
use Rattle.avs_lex.specs.Spelling.{Text}
use Rattle.avs_tree.specs.Tree.{Expr, method_calls, minus, not_, chain, compare, conditional, group, Args, no_args, no_method_calls, no_steps}
use Rattle.avs_tree.specs.Tree as t
use Rattle.avs_tree.specs.View.{ArgIs, MethodCallIs, StepIs, args_of, method_calls_of, steps_of}
use Rattle.avs_tree.specs.Grammar.{nesting, args_nesting, method_calls_nesting, steps_nesting}
use Rattle.avs_tree.specs.Machine.{Callee, call_of, method_of, Open, paren, argument, minus_of, not_of, chain_of, compare_of, yes_of, no_of, ExprState, operand_next, value_read, name_read, args_opened, dot_read, method_read, calls_read, ExprStep, refused, keeps, leaves, hole, reach, operand_by, operand, grow_by, continues, grow, called, no_closing, taken, reopened, label_of, closing_argument, more_of, by_closing, close, after, after_calls, method_by, expr_step, open_level, expr_level}
use Rattle.avs_tree.specs.declared.symbol.Symbol.{Symbol}
use Rattle.avs_tree.specs.declared.symbol.Symbol.TheVariants as s
use Rattle.avs_tree.specs.declared.words.Keyword.TheVariants as w
use Rattle.avs_tree.specs.declared.symbol.Punctuation.TheVariants as m
use Rattle.avs_tree.specs.declared.tree.Operator.{Operator}
use Rattle.avs_tree.specs.declared.tree.Operator.TheVariants as o
use Rattle.avs_tree.proofs.Tokens.{in_if}
use Rattle.avs_tree.proofs.ExprMeaning.{all_args, all_calls, all_steps}

abbrev pub args_nest : List ArgIs → ℕ
args_nest found = args_nesting (all_args found no_args)

abbrev pub calls_nest : List MethodCallIs → ℕ
calls_nest ds = method_calls_nesting (all_calls ds no_method_calls)

abbrev pub steps_nest : List StepIs → ℕ
steps_nest ss = steps_nesting (all_steps ss no_steps)

args_more : (found : List ArgIs) (x : Option Text) (e : Expr) → args_nest (found ++ (x, e) ∷ []) ≤ max (args_nest found) (nesting e)
args_more [] x e = omega arith
args_more (a ∷ found) x e = omega (arith, args_more found x e)

args_is : (found : List ArgIs) → args_nesting (args_of found) ≤ args_nest found
args_is [] = omega arith
args_is (a ∷ found) = omega (arith, args_is found)

calls_more : (ds : List MethodCallIs) (x : Text) (es : Args) (line : ℕ) → calls_nest (ds ++ (x, (Some es, line)) ∷ []) ≤ max (calls_nest ds) (suc (args_nesting es))
calls_more [] x es line = omega arith
calls_more ((y, (None, l)) ∷ ds) x es line = calls_more ds x es line
calls_more ((y, (Some fs, l)) ∷ ds) x es line = omega (arith, calls_more ds x es line)

calls_plain : (ds : List MethodCallIs) (x : Text) (line : ℕ) → calls_nest (ds ++ (x, (None, line)) ∷ []) ≤ calls_nest ds
calls_plain [] x line = omega arith
calls_plain ((y, (None, l)) ∷ ds) x line = calls_plain ds x line
calls_plain ((y, (Some fs, l)) ∷ ds) x line = omega (arith, calls_plain ds x line)

calls_is : (ds : List MethodCallIs) → method_calls_nesting (method_calls_of ds) ≤ calls_nest ds
calls_is [] = omega arith
calls_is ((y, (None, l)) ∷ ds) = calls_is ds
calls_is ((y, (Some fs, l)) ∷ ds) = omega (arith, calls_is ds)

steps_more : (ss : List StepIs) (op : Operator) (e : Expr) (line : ℕ) → steps_nest (ss ++ (op, (e, line)) ∷ []) ≤ max (steps_nest ss) (nesting e)
steps_more [] op e line = omega arith
steps_more (x ∷ ss) op e line = omega (arith, steps_more ss op e line)

steps_is : (ss : List StepIs) → steps_nesting (steps_of ss) ≤ steps_nest ss
steps_is [] = omega arith
steps_is (x ∷ ss) = omega (arith, steps_is ss)

-- Around the expression so many levels are open, of this many at most.
module _ (most base : ℕ) where
  abbrev pub FitsCallee : ℕ → Callee → Type 0
  FitsCallee n (call_of x line) = Unit {0}
  FitsCallee n (method_of e ds x line) = (n + nesting e ≤ most) × (n + calls_nest ds ≤ most)

  abbrev pub Fits : List Open → Type 0
  Fits [] = base ≤ most
  Fits (paren ∷ fs) = (base + open_level fs < most) × Fits fs
  Fits (argument c found x ∷ fs) = (base + open_level fs + args_nest found < most) × FitsCallee (base + open_level fs) c × Fits fs
  Fits (minus_of line ∷ fs) = (base + open_level fs < most) × Fits fs
  Fits (not_of line ∷ fs) = (base + open_level fs < most) × Fits fs
  Fits (chain_of first ss op line ∷ fs) = (base + open_level fs + nesting first ≤ most) × (base + open_level fs + steps_nest ss ≤ most) × Fits fs
  Fits (compare_of op first line ∷ fs) = (base + open_level fs + nesting first ≤ most) × Fits fs
  Fits (yes_of c line ∷ fs) = (base + open_level fs < most) × (base + open_level fs + nesting c ≤ most) × Fits fs
  Fits (no_of c yes_ line ∷ fs) = (base + open_level fs + nesting yes_ < most) × (base + open_level fs + nesting c ≤ most) × Fits fs

  abbrev pub FitsNow : ℕ → ExprState → Type 0
  FitsNow n operand_next = Unit {0}
  FitsNow n (value_read k e) = n + nesting e ≤ most
  FitsNow n (name_read x line) = Unit {0}
  FitsNow n (args_opened c) = (n < most) × FitsCallee n c
  FitsNow n (dot_read e ds) = (n + nesting e ≤ most) × (n + calls_nest ds ≤ most)
  FitsNow n (method_read e ds x line) = (n + nesting e ≤ most) × (n + calls_nest ds ≤ most)
  FitsNow n (calls_read e ds) = (n + nesting e ≤ most) × (n + calls_nest ds ≤ most)

  abbrev pub FitsExprStep : ExprStep → Type 0
  FitsExprStep refused = Unit {0}
  FitsExprStep (keeps now fs) = base + (expr_level now + open_level fs) ≤ most → FitsNow (base + open_level fs) now × Fits fs
  FitsExprStep (leaves e) = base + nesting e ≤ most

  pub fits_level : (fs : List Open) → Fits fs → base + open_level fs ≤ most
  fits_level [] h = omega arith
  fits_level (paren ∷ fs) (a, h) = omega arith
  fits_level (argument c found x ∷ fs) (a, b, h) = omega arith
  fits_level (minus_of line ∷ fs) (a, h) = omega arith
  fits_level (not_of line ∷ fs) (a, h) = omega arith
  fits_level (chain_of first ss op line ∷ fs) (a, b, h) = fits_level fs h
  fits_level (compare_of op first line ∷ fs) (a, h) = fits_level fs h
  fits_level (yes_of c line ∷ fs) (a, b, h) = omega arith
  fits_level (no_of c yes_ line ∷ fs) (a, b, h) = omega arith

  fits_operand_by : (fs : List Open) → Fits fs → (x : Option Symbol) (y : Text) (line : ℕ) → FitsExprStep (operand_by x fs y line)
  fits_operand_by fs h (Some (s.Int n)) y line = λ low. (omega arith, h)
  fits_operand_by fs h (Some s.Str) y line = λ low. (omega arith, h)
  fits_operand_by fs h (Some (s.Keyword w.True)) y line = λ low. (omega arith, h)
  fits_operand_by fs h (Some (s.Keyword w.False)) y line = λ low. (omega arith, h)
  fits_operand_by fs h (Some s.Name) y line = λ low. (tt, h)
  fits_operand_by fs h (Some (s.Punctuation m.LeftParen)) y line = λ low. (tt, (omega arith, h))
  fits_operand_by fs h (Some (s.Operator o.Minus)) y line = λ low. (tt, (omega arith, h))
  fits_operand_by fs h (Some (s.Punctuation m.Not)) y line = λ low. (tt, (omega arith, h))
  fits_operand_by fs h _ y line = tt

  pub fits_operand : (fs : List Open) → Fits fs → (ts : Lexemes) → FitsExprStep (operand fs ts)
  unfolding operand
  fits_operand fs h ts = fits_operand_by fs h (peek ts) (content_at ts) (line_of ts)

  abbrev FitsIn : List Open → Expr → Type 0
  FitsIn fs e = base + open_level fs + nesting e ≤ most

  fits_grow : (fs : List Open) → Fits fs → (x : Option Symbol) (e : Expr) (line : ℕ) → FitsIn fs e → FitsExprStep (grow_by x e fs line)
  fits_grow fs h (Some (s.Punctuation m.Dot)) e line le = λ low. ((le, omega arith), h)
  fits_grow fs h (Some (s.Punctuation m.Question)) e line le = λ low. (tt, (omega arith, le, h))
  fits_grow fs h (Some (s.Operator op)) e line le =
      in_if (λ f. base + (0 + open_level (f ∷ fs)) ≤ most → Unit {0} × Fits (f ∷ fs)) (nat_eq (precedence_of op) 5) (compare_of op e line) (chain_of e [] op line)
      (λ _ low. (tt, (le, h))) (λ _ low. (tt, (le, omega arith, h)))
  fits_grow fs h _ e line le = tt

  fits_after : (fs : List Open) → Fits fs → ((e : Expr) (ts : Lexemes) → FitsIn fs e → FitsExprStep (close e fs ts)) → (k : ℕ) (e : Expr) (ts : Lexemes) → FitsIn fs e → FitsExprStep (after k e fs ts)
  unfolding continues grow
  fits_after fs h closes k e ts le =
      in_if FitsExprStep (nat_lt k (reach (peek ts)) && nat_le (reach (peek ts)) (hole fs)) (grow e fs ts) (close e fs ts) (λ _. fits_grow fs h (peek ts) e (line_of ts) le) (λ _. closes e ts le)

  fits_called : (fs : List Open) → Fits fs → (c : Callee) (found : List ArgIs) → FitsCallee (base + open_level fs) c → base + open_level fs + args_nest found < most → FitsExprStep (keeps (called c found) fs)
  fits_called fs h (call_of x line) found callee le = λ low. (omega (arith, args_is found), h)
  fits_called fs h (method_of e ds x line) found (a, b) le = λ low. ((a, omega (arith, calls_more ds x (args_of found) line, args_is found)), h)

  fits_label : (go : ℕ → Expr → ExprStep) (fs : List Open) (x : Option Text) (e : Expr) (c : Callee) (found : List ArgIs) → Fits (argument c found None ∷ fs) → FitsExprStep (by_closing (label_of x e c found) fs go)
  fits_label go fs None (t.name y line) c found h = λ low. (tt, h)
  fits_label go fs _ _ c found h = tt

  fits_argument : (go : ℕ → Expr → ExprStep) (fs : List Open) (c : Callee) (found : List ArgIs) (x : Option Text) (e : Expr) (ts : Lexemes) → Fits (argument c found x ∷ fs) → base + (1 + open_level fs) + nesting e ≤ most
      → FitsExprStep (by_closing (closing_argument c found x e ts) fs go)
  unfolding closing_argument
  fits_argument go fs c found x e ts (a, b, h) le =
      let more = args_more found x e in
      let fits : base + open_level fs + args_nest (found ++ (x, e) ∷ []) < most = omega arith in
      in_if (λ z. FitsExprStep (by_closing z fs go)) (is_punctuation m.Comma ts) (reopened (argument c (found ++ (x, e) ∷ []) None))
      (if is_punctuation m.RightParen ts then taken (called c (found ++ (x, e) ∷ [])) else (if is_punctuation m.Assign ts then label_of x e c found else no_closing)) (λ _ low. (tt, (fits, b, h)))
      (λ _. in_if (λ z. FitsExprStep (by_closing z fs go)) (is_punctuation m.RightParen ts) (taken (called c (found ++ (x, e) ∷ []))) (if is_punctuation m.Assign ts then label_of x e c found else no_closing)
      (λ _. fits_called fs h c (found ++ (x, e) ∷ []) b fits)
      (λ _. in_if (λ z. FitsExprStep (by_closing z fs go)) (is_punctuation m.Assign ts) (label_of x e c found) no_closing (λ _. fits_label go fs x e c found (a, b, h)) (λ _. tt)))

  fits_more : (go : ℕ → Expr → ExprStep) (fs : List Open) → Fits fs → (op : Operator) (first : Expr) (ss : List StepIs) (line : ℕ) (x : Option Operator) → base + open_level fs + nesting first ≤ most → base + open_level fs + steps_nest ss ≤ most
      → FitsExprStep (go (precedence_of op) (chain first (steps_of ss))) → FitsExprStep (by_closing (more_of x op first ss line) fs go)
  fits_more go fs h op first ss line None a b done = done
  fits_more go fs h op first ss line (Some op') a b done = λ low. (tt, (a, b, h))

  fits_close : (fs : List Open) → Fits fs → (e : Expr) (ts : Lexemes) → FitsIn fs e → FitsExprStep (close e fs ts)
  fits_close [] h e ts le = omega arith
  fits_close (paren ∷ fs) (a, h) e ts le = in_if (λ z. FitsExprStep (by_closing z fs (λ k whole. after k whole fs ts))) (is_punctuation m.RightParen ts) (taken (value_read 0 (group e))) no_closing (λ _ low. (omega arith, h)) (λ _. tt)
  fits_close (argument c found x ∷ fs) h e ts le = fits_argument (λ k whole. after k whole fs ts) fs c found x e ts h le
  fits_close (minus_of line ∷ fs) (a, h) e ts le = fits_after fs h (fits_close fs h) 2 (minus e line) ts (omega arith)
  fits_close (not_of line ∷ fs) (a, h) e ts le = fits_after fs h (fits_close fs h) 2 (not_ e line) ts (omega arith)
  fits_close (chain_of first ss op line ∷ fs) (a, b, h) e ts le =
      let more = steps_more ss op e line in
      fits_more (λ k whole. after k whole fs ts) fs h op first (ss ++ (op, (e, line)) ∷ []) (line_of ts) (operator_at (precedence_of op) ts) a (omega arith)
      (fits_after fs h (fits_close fs h) (precedence_of op) (chain first (steps_of (ss ++ (op, (e, line)) ∷ []))) ts (omega (arith, steps_is (ss ++ (op, (e, line)) ∷ []))))
  fits_close (compare_of op first line ∷ fs) (a, h) e ts le = fits_after fs h (fits_close fs h) 5 (compare op first e line) ts (omega arith)
  fits_close (yes_of c line ∷ fs) (a, b, h) e ts le = in_if (λ z. FitsExprStep (by_closing z fs (λ k whole. after k whole fs ts))) (is_punctuation m.Colon ts) (reopened (no_of c e line)) no_closing (λ _ low. (tt, (omega arith, b, h))) (λ _. tt)
  fits_close (no_of c yes_ line ∷ fs) (a, b, h) e ts le = fits_after fs h (fits_close fs h) 8 (conditional c yes_ e line) ts (omega arith)

  fits_calls : (fs : List Open) → Fits fs → (e : Expr) (ds : List MethodCallIs) (ts : Lexemes) → FitsIn fs e → base + open_level fs + calls_nest ds ≤ most → FitsExprStep (after_calls e ds fs ts)
  fits_calls fs h e ds ts a b =
      in_if FitsExprStep (is_punctuation m.Dot ts) (keeps (dot_read e ds) fs) (after 1 (method_calls e (method_calls_of ds)) fs ts) (λ _ low. ((a, b), h))
      (λ _. fits_after fs h (fits_close fs h) 1 (method_calls e (method_calls_of ds)) ts (omega (arith, calls_is ds)))

  fits_method : (fs : List Open) → Fits fs → (x : Option Symbol) (e : Expr) (ds : List MethodCallIs) (y : Text) (line : ℕ) → FitsIn fs e → base + open_level fs + calls_nest ds ≤ most → FitsExprStep (method_by x e ds fs y line)
  fits_method fs h (Some s.Name) e ds y line a b = λ low. ((a, b), h)
  fits_method fs h _ e ds y line a b = tt

  pub fits_expr_step : (now : ExprState) (fs : List Open) (ts : Lexemes) → FitsNow (base + open_level fs) now → Fits fs → FitsExprStep (expr_step now fs ts)
  fits_expr_step operand_next fs ts a h = fits_operand fs h ts
  fits_expr_step (value_read k e) fs ts a h = fits_after fs h (fits_close fs h) k e ts a
  fits_expr_step (name_read x line) fs ts a h =
      let low = fits_level fs h in
      in_if FitsExprStep (is_punctuation m.LeftParen ts) (keeps (args_opened (call_of x line)) fs) (after 0 (t.name x line) fs ts) (λ _ low. ((omega arith, tt), h)) (λ _. fits_after fs h (fits_close fs h) 0 (t.name x line) ts (omega arith))
  fits_expr_step (args_opened c) fs ts (a, b) h =
      in_if FitsExprStep (is_punctuation m.RightParen ts) (keeps (called c []) fs) (operand (argument c [] None ∷ fs) ts) (λ _. fits_called fs h c [] b (omega arith)) (λ _. fits_operand (argument c [] None ∷ fs) (omega arith, b, h) ts)
  fits_expr_step (dot_read e ds) fs ts (a, b) h = fits_method fs h (peek ts) e ds (content_at ts) (line_of ts) a b
  fits_expr_step (method_read e ds x line) fs ts (a, b) h =
      let plain = calls_plain ds x line in
      in_if FitsExprStep (is_punctuation m.LeftParen ts) (keeps (args_opened (method_of e ds x line)) fs) (after_calls e (ds ++ (x, (None, line)) ∷ []) fs ts) (λ _ low. ((omega arith, (a, b)), h))
      (λ _. fits_calls fs h e (ds ++ (x, (None, line)) ∷ []) ts a (omega arith))
  fits_expr_step (calls_read e ds) fs ts (a, b) h = fits_calls fs h e ds ts a b
