-- Operators stand at their precedences, whatever is read, and what is open can always be completed.
use Rattle.std.proofs.Common.{◌≡◌, refl, sym, ◌∙◌, ℕ, pos, ◌≤◌, arith, inl, ◌&&◌, List, [], ◌∷◌, ◌++◌, Option, Some, None, nat_eq, nat_lt, nat_le, if◌then◌else◌}
use Rattle.avs_tree.specs.Lexeme.{Lexemes, precedence_of, line_of, peek, content_at, is_punctuation, operator_at, operator_by}
use Rattle.avs_lex.specs.Spelling.{Text}
use Rattle.avs_tree.specs.Tree.{Expr, int, call, method_calls, minus, not_, chain, compare, conditional, group, Args, no_args, arg, no_method_calls, no_steps, step}
use Rattle.avs_tree.specs.Tree as t
use Rattle.avs_tree.specs.View.{ArgIs, MethodCallIs, StepIs, method_calls_of, method_call_of, steps_of}
use Rattle.avs_tree.specs.Machine.{Callee, call_of, method_of, Open, paren, argument, minus_of, not_of, chain_of, compare_of, yes_of, no_of, ExprState, operand_next, value_read, name_read, args_opened, dot_read, method_read, calls_read, ExprStep, refused, keeps, leaves, hole, reach, operand_by, operand, operand_of, grow_by, continues, grow, called, no_closing, taken, reopened, label_of, closing_argument, more_of, by_closing, close, after, after_calls, method_by, expr_step}
use Rattle.avs_tree.specs.declared.symbol.Symbol.{Symbol}
use Rattle.avs_tree.specs.declared.symbol.Symbol.TheVariants as s
use Rattle.avs_tree.specs.declared.words.Keyword.TheVariants as w
use Rattle.avs_tree.specs.declared.symbol.Punctuation.TheVariants as m
use Rattle.avs_tree.specs.declared.tree.Operator.{Operator}
use Rattle.avs_tree.specs.declared.tree.Operator.TheVariants as o
use Rattle.avs_tree.proofs.Tokens.{in_if, grows_high, five, not_five, operator_is}
use Rattle.avs_tree.proofs.Left.{grown}
use Rattle.avs_tree.proofs.ExprMeaning.{all_args, all_calls, all_steps, Continuation, Grown, Called, WithCalls, Meaning, Formed}

abbrev pub FormedExprStep : ExprStep → Type 0
FormedExprStep refused = Unit {0}
FormedExprStep (keeps now fs) = Formed fs
FormedExprStep (leaves e) = Unit {0}

formed_operand_by : (fs : List Open) → Formed fs → (x : Option Symbol) (y : Text) (line : ℕ) → FormedExprStep (operand_by x fs y line)
formed_operand_by fs formed (Some (s.Int n)) y line = formed
formed_operand_by fs formed (Some s.Str) y line = formed
formed_operand_by fs formed (Some (s.Keyword w.True)) y line = formed
formed_operand_by fs formed (Some (s.Keyword w.False)) y line = formed
formed_operand_by fs formed (Some s.Name) y line = formed
formed_operand_by fs formed (Some (s.Punctuation m.LeftParen)) y line = formed
formed_operand_by fs formed (Some (s.Operator o.Minus)) y line = formed
formed_operand_by fs formed (Some (s.Punctuation m.Not)) y line = formed
formed_operand_by fs formed _ y line = tt

pub formed_operand : (fs : List Open) → Formed fs → (ts : Lexemes) → FormedExprStep (operand fs ts)
unfolding operand
formed_operand fs formed ts = formed_operand_by fs formed (peek ts) (content_at ts) (line_of ts)

formed_step : (fs : List Open) → Formed fs → (op : Operator) (e : Expr) (line : ℕ) → precedence_of op ≤ hole fs → Formed (operand_of op e line ∷ fs)
formed_step fs formed op e line low =
    in_if (λ f. Formed (f ∷ fs)) (nat_eq (precedence_of op) 5) (compare_of op e line) (chain_of e [] op line)
    (λ same. let is = five op same in (is, omega arith, formed)) (λ other. (low, not_five op other, formed))

formed_grow : (fs : List Open) → Formed fs → (x : Option Symbol) (e : Expr) (line : ℕ) → reach x ≤ hole fs → FormedExprStep (grow_by x e fs line)
unfolding reach
formed_grow fs formed (Some (s.Punctuation m.Dot)) e line low = formed
formed_grow fs formed (Some (s.Punctuation m.Question)) e line low = (low, formed)
formed_grow fs formed (Some (s.Operator op)) e line low = formed_step fs formed op e line low
formed_grow fs formed _ e line low = tt

formed_after : (fs : List Open) → Formed fs → ((e : Expr) (ts : Lexemes) → FormedExprStep (close e fs ts)) → (k : ℕ) (e : Expr) (ts : Lexemes) → FormedExprStep (after k e fs ts)
unfolding continues grow
formed_after fs formed closes k e ts =
    in_if FormedExprStep (nat_lt k (reach (peek ts)) && nat_le (reach (peek ts)) (hole fs)) (grow e fs ts) (close e fs ts)
    (λ yes_. formed_grow fs formed (peek ts) e (line_of ts) (grows_high k (hole fs) (reach (peek ts)) yes_)) (λ no_. closes e ts)

formed_label : (go : ℕ → Expr → ExprStep) (fs : List Open) → Formed fs → (x : Option Text) (e : Expr) (c : Callee) (found : List ArgIs) → FormedExprStep (by_closing (label_of x e c found) fs go)
formed_label go fs formed None (t.name y line) c found = formed
formed_label go fs formed _ _ c found = tt

formed_argument : (go : ℕ → Expr → ExprStep) (fs : List Open) → Formed fs → (c : Callee) (found : List ArgIs) (x : Option Text) (e : Expr) (ts : Lexemes) → FormedExprStep (by_closing (closing_argument c found x e ts) fs go)
unfolding closing_argument
formed_argument go fs formed c found x e ts =
    in_if (λ z. FormedExprStep (by_closing z fs go)) (is_punctuation m.Comma ts) (reopened (argument c (found ++ (x, e) ∷ []) None))
    (if is_punctuation m.RightParen ts then taken (called c (found ++ (x, e) ∷ [])) else (if is_punctuation m.Assign ts then label_of x e c found else no_closing)) (λ _. formed)
    (λ _. in_if (λ z. FormedExprStep (by_closing z fs go)) (is_punctuation m.RightParen ts) (taken (called c (found ++ (x, e) ∷ []))) (if is_punctuation m.Assign ts then label_of x e c found else no_closing) (λ _. formed)
    (λ _. in_if (λ z. FormedExprStep (by_closing z fs go)) (is_punctuation m.Assign ts) (label_of x e c found) no_closing (λ _. formed_label go fs formed x e c found) (λ _. tt)))

formed_more : (go : ℕ → Expr → ExprStep) (fs : List Open) → Formed fs → (op : Operator) → precedence_of op ≤ hole fs → (precedence_of op ≡ 5 → ⊥) → (first : Expr) (ss : List StepIs) (line : ℕ) (x : Option Symbol) (y : Option Operator)
    → operator_by (precedence_of op) x ≡ y → FormedExprStep (go (precedence_of op) (chain first (steps_of ss))) → FormedExprStep (by_closing (more_of y op first ss line) fs go)
formed_more go fs formed op low not5 first ss line x None is h = h
formed_more go fs formed op low not5 first ss line x (Some op') is h =
    let both = operator_is (precedence_of op) x op' is in (omega (arith, both.1), λ five_. not5 (sym both.1 ∙ five_), formed)

pub formed_close : (fs : List Open) → Formed fs → (e : Expr) (ts : Lexemes) → FormedExprStep (close e fs ts)
unfolding operator_at
formed_close [] formed e ts = tt
formed_close (paren ∷ fs) formed e ts = in_if (λ z. FormedExprStep (by_closing z fs (λ k whole. after k whole fs ts))) (is_punctuation m.RightParen ts) (taken (value_read 0 (group e))) no_closing (λ _. formed) (λ _. tt)
formed_close (argument c found x ∷ fs) formed e ts = formed_argument (λ k whole. after k whole fs ts) fs formed c found x e ts
formed_close (minus_of line ∷ fs) formed e ts = formed_after fs formed (formed_close fs formed) 2 (minus e line) ts
formed_close (not_of line ∷ fs) formed e ts = formed_after fs formed (formed_close fs formed) 2 (not_ e line) ts
formed_close (chain_of first ss op line ∷ fs) (low, not5, formed) e ts =
    formed_more (λ k whole. after k whole fs ts) fs formed op low not5 first (ss ++ (op, (e, line)) ∷ []) (line_of ts) (peek ts) (operator_by (precedence_of op) (peek ts)) refl
    (formed_after fs formed (formed_close fs formed) (precedence_of op) (chain first (steps_of (ss ++ (op, (e, line)) ∷ []))) ts)
formed_close (compare_of op first line ∷ fs) (is, low, formed) e ts = formed_after fs formed (formed_close fs formed) 5 (compare op first e line) ts
formed_close (yes_of f line ∷ fs) (low, formed) e ts = in_if (λ z. FormedExprStep (by_closing z fs (λ k whole. after k whole fs ts))) (is_punctuation m.Colon ts) (reopened (no_of f e line)) no_closing (λ _. (low, formed)) (λ _. tt)
formed_close (no_of f yes_ line ∷ fs) (low, formed) e ts = formed_after fs formed (formed_close fs formed) 8 (conditional f yes_ e line) ts

formed_calls : (fs : List Open) → Formed fs → (e : Expr) (ds : List MethodCallIs) (ts : Lexemes) → FormedExprStep (after_calls e ds fs ts)
formed_calls fs formed e ds ts =
    in_if FormedExprStep (is_punctuation m.Dot ts) (keeps (dot_read e ds) fs) (after 1 (method_calls e (method_calls_of ds)) fs ts) (λ _. formed)
    (λ _. formed_after fs formed (formed_close fs formed) 1 (method_calls e (method_calls_of ds)) ts)

formed_method : (fs : List Open) → Formed fs → (x : Option Symbol) (e : Expr) (ds : List MethodCallIs) (y : Text) (line : ℕ) → FormedExprStep (method_by x e ds fs y line)
formed_method fs formed (Some s.Name) e ds y line = formed
formed_method fs formed _ e ds y line = tt

pub formed_expr_step : (now : ExprState) (fs : List Open) → Formed fs → (ts : Lexemes) → FormedExprStep (expr_step now fs ts)
formed_expr_step operand_next fs formed ts = formed_operand fs formed ts
formed_expr_step (value_read k e) fs formed ts = formed_after fs formed (formed_close fs formed) k e ts
formed_expr_step (name_read x line) fs formed ts =
    in_if FormedExprStep (is_punctuation m.LeftParen ts) (keeps (args_opened (call_of x line)) fs) (after 0 (t.name x line) fs ts) (λ _. formed) (λ _. formed_after fs formed (formed_close fs formed) 0 (t.name x line) ts)
formed_expr_step (args_opened c) fs formed ts =
    in_if FormedExprStep (is_punctuation m.RightParen ts) (keeps (called c []) fs) (operand (argument c [] None ∷ fs) ts) (λ _. formed) (λ _. formed_operand (argument c [] None ∷ fs) formed ts)
formed_expr_step (dot_read e ds) fs formed ts = formed_method fs formed (peek ts) e ds (content_at ts) (line_of ts)
formed_expr_step (method_read e ds x line) fs formed ts =
    in_if FormedExprStep (is_punctuation m.LeftParen ts) (keeps (args_opened (method_of e ds x line)) fs) (after_calls e (ds ++ (x, (None, line)) ∷ []) fs ts) (λ _. formed)
    (λ _. formed_calls fs formed e (ds ++ (x, (None, line)) ∷ []) ts)
formed_expr_step (calls_read e ds) fs formed ts = formed_calls fs formed e ds ts

-- ---- what is open can be completed

-- K also depends on something that may be chosen, as the tree of the script.
module _ (X : Type 0) (K : X → Expr → Lexemes → Type 0) (some : (e : Expr) → (a : X) × (ts : Lexemes) × K a e ts) where
  abbrev SomeCont : List Open → Expr → Type 0
  SomeCont fs e = (a : X) × (ts : Lexemes) × Continuation (K a) fs e ts

  abbrev SomeGrown : List Open → ℕ → Expr → Type 0
  SomeGrown fs k e = (a : X) × (ts : Lexemes) × Grown (K a) fs k e ts

  some_grown : (fs : List Open) (k : ℕ) (e : Expr) → SomeCont fs e → SomeGrown fs k e
  some_grown fs k e (a, us, c) = (a, us, (e, us, grown, c))

  some_called : (fs : List Open) → ((e : Expr) → SomeCont fs e) → (c : Callee) (es : Args) → (a : X) × (ts : Lexemes) × Called (K a) fs c es ts
  some_called fs go (call_of x line) es = some_grown fs 0 (call x es line) (go (call x es line))
  some_called fs go (method_of e ds x line) es =
      let whole = method_calls e (all_calls ds (method_call_of x (Some es) line no_method_calls)) in
      let one = some_grown fs 1 whole (go whole) in (one.0, one.1, (no_method_calls, one.1, refl, one.2))

  some_argument : (fs : List Open) (c : Callee) (found : List ArgIs) (x : Option Text) (e : Expr) → ((a : X) × (ts : Lexemes) × Called (K a) fs c (all_args found (arg x e no_args)) ts) → SomeCont (argument c found x ∷ fs) e
  some_argument fs c found None e (a, us, h) = (a, (s.Punctuation m.RightParen, [], 0) ∷ us, inl (no_args, us, (0, ([], refl)), h))
  some_argument fs c found (Some y) e (a, us, h) = (a, (s.Punctuation m.RightParen, [], 0) ∷ us, (no_args, us, (0, ([], refl)), h))

  pub some_cont : (fs : List Open) (e : Expr) → SomeCont fs e
  some_cont [] e = some e
  some_cont (paren ∷ fs) e = let one = some_grown fs 0 (group e) (some_cont fs (group e)) in (one.0, (s.Punctuation m.RightParen, [], 0) ∷ one.1, (one.1, (0, ([], refl)), one.2))
  some_cont (argument c found x ∷ fs) e = some_argument fs c found x e (some_called fs (some_cont fs) c (all_args found (arg x e no_args)))
  some_cont (minus_of line ∷ fs) e = some_grown fs 2 (minus e line) (some_cont fs (minus e line))
  some_cont (not_of line ∷ fs) e = some_grown fs 2 (not_ e line) (some_cont fs (not_ e line))
  some_cont (chain_of first ss op line ∷ fs) e =
      let whole = chain first (all_steps ss (step op e line no_steps)) in
      let one = some_grown fs (precedence_of op) whole (some_cont fs whole) in (one.0, one.1, (no_steps, one.1, refl, one.2))
  some_cont (compare_of op first line ∷ fs) e = some_grown fs 5 (compare op first e line) (some_cont fs (compare op first e line))
  some_cont (yes_of f line ∷ fs) e =
      let whole = conditional f e (int (pos 0)) line in
      let one = some_grown fs 8 whole (some_cont fs whole) in
      (one.0, (s.Punctuation m.Colon, [], 0) ∷ (s.Int (pos 0), [], 0) ∷ one.1, ((s.Int (pos 0), [], 0) ∷ one.1, one.1, int (pos 0), (0, ([], refl)), (0, ([], refl)), one.2))
  some_cont (no_of f yes_ line ∷ fs) e = some_grown fs 8 (conditional f yes_ e line) (some_cont fs (conditional f yes_ e line))

  some_calls : (fs : List Open) (e : Expr) (ds : List MethodCallIs) → (a : X) × (ts : Lexemes) × WithCalls (K a) fs e ds ts
  some_calls fs e ds =
      let whole = method_calls e (all_calls ds no_method_calls) in
      let one = some_grown fs 1 whole (some_cont fs whole) in (one.0, one.1, (no_method_calls, one.1, refl, one.2))

  -- Each state can be completed.
  pub some_meaning : (now : ExprState) (fs : List Open) → (a : X) × (ts : Lexemes) × Meaning (K a) now fs ts
  some_meaning operand_next fs = let one = some_cont fs (int (pos 0)) in (one.0, (s.Int (pos 0), [], 0) ∷ one.1, (int (pos 0), one.1, (0, ([], refl)), one.2))
  some_meaning (value_read k e) fs = some_grown fs k e (some_cont fs e)
  some_meaning (name_read x line) fs = let one = some_grown fs 0 (t.name x line) (some_cont fs (t.name x line)) in (one.0, one.1, inl one.2)
  some_meaning (args_opened c) fs = let one = some_called fs (some_cont fs) c no_args in (one.0, (s.Punctuation m.RightParen, [], 0) ∷ one.1, (no_args, one.1, (0, ([], refl)), one.2))
  some_meaning (dot_read e ds) fs = let one = some_calls fs e (ds ++ ([], (None, 0)) ∷ []) in (one.0, (s.Name, [], 0) ∷ one.1, ([], 0, one.1, refl, inl one.2))
  some_meaning (method_read e ds x line) fs = let one = some_calls fs e (ds ++ (x, (None, line)) ∷ []) in (one.0, one.1, inl one.2)
  some_meaning (calls_read e ds) fs = some_calls fs e ds
