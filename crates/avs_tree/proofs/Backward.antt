-- What may come after a token may come with it.
use Rattle.std.proofs.Common.{◌≡◌, refl, ap, subst, ◌∙◌, ℕ, ◌-◌, ◌<◌, ◌≤◌, arith, inl, inr, ◌&&◌, List, [], ◌∷◌, ◌++◌, Option, Some, None, nat_eq, nat_lt, nat_le, if◌then◌else◌}
use Rattle.avs_tree.specs.Lexeme.{Lexemes, precedence_of, line_of, peek, content_at, tail, is_punctuation, operator_at, operator_by}
use Rattle.avs_lex.specs.Spelling.{Text}
use Rattle.avs_tree.specs.Tree.{Expr, call, method_calls, minus, not_, chain, compare, conditional, group, Args, no_args, arg, no_method_calls, method, method_call, no_steps, step}
use Rattle.avs_tree.specs.Tree as t
use Rattle.avs_tree.specs.View.{ArgIs, MethodCallIs, StepIs, args_of, method_calls_of, steps_of}
use Rattle.avs_tree.specs.Grammar.{IsPunctuation, Labels, Derives, DerivesSteps}
use Rattle.avs_tree.specs.Machine.{Callee, call_of, method_of, Open, paren, argument, minus_of, not_of, chain_of, compare_of, yes_of, no_of, ExprState, operand_next, value_read, name_read, args_opened, dot_read, method_read, calls_read, keeps, hole, reach, operand_by, operand, operand_of, grow_by, continues, grow, called, no_closing, taken, reopened, label_of, closing_argument, more_of, by_closing, close, ExprStep, after, after_calls, method_by, expr_step}
use Rattle.avs_tree.specs.declared.symbol.Symbol.{Symbol}
use Rattle.avs_tree.specs.declared.symbol.Symbol.TheVariants as s
use Rattle.avs_tree.specs.declared.words.Keyword.TheVariants as w
use Rattle.avs_tree.specs.declared.symbol.Punctuation.TheVariants as m
use Rattle.avs_tree.specs.declared.tree.Operator.{Operator}
use Rattle.avs_tree.specs.declared.tree.Operator.TheVariants as o
use Rattle.avs_tree.proofs.Tokens.{next_is, is_next, is_here, on_if, grows_low, grows_high, five, not_five, operator_is}
use Rattle.avs_tree.proofs.Left.{grown, by_methods, by_chain, by_compare, by_question, derived}
use Rattle.avs_tree.proofs.ExprMeaning.{all_args, all_calls, all_steps, ArgumentIn, LabelIn, Continuation, Grown, Called, Opened, WithCalls, Meaning, After}
use Rattle.avs_tree.proofs.Forward.{args_so_far, args_then, calls_so_far, calls_then, steps_so_far, steps_then, hole_two}

module _ (K : Expr → Lexemes → Type 0) where
  -- ---- an operand comes next

  pub back_operand_by : (fs : List Open) (ts : Lexemes) (x : Option Symbol) → peek ts ≡ x → After K (operand_by x fs (content_at ts) (line_of ts)) ts → Meaning K operand_next fs ts
  back_operand_by fs ts (Some (s.Int n)) is (e, us, g, c) = (e, us, derived ts (omega arith) (is_next ts (s.Int n) is) g, c)
  back_operand_by fs ts (Some s.Str) is (e, us, g, c) = (e, us, derived ts (omega arith) (line_of ts, next_is ts s.Str is) g, c)
  back_operand_by fs ts (Some (s.Keyword w.True)) is (e, us, g, c) = (e, us, derived ts (omega arith) (is_next ts (s.Keyword w.True) is) g, c)
  back_operand_by fs ts (Some (s.Keyword w.False)) is (e, us, g, c) = (e, us, derived ts (omega arith) (is_next ts (s.Keyword w.False) is) g, c)
  back_operand_by fs ts (Some s.Name) is (inl (e, us, g, c)) = (e, us, derived ts (omega arith) (next_is ts s.Name is) g, c)
  back_operand_by fs ts (Some s.Name) is (inr (vs, left, (es, ws, listed, (e, us, g, c)))) = (e, us, derived ts (omega arith) (tail ts, vs, next_is ts s.Name is, left, listed) g, c)
  back_operand_by fs ts (Some (s.Punctuation m.LeftParen)) is (f, ws, d, (vs, right, (e, us, g, c))) =
      (e, us, derived ts (omega arith) (tail ts, ws, is_next ts (s.Punctuation m.LeftParen) is, d, right) g, c)
  back_operand_by fs ts (Some (s.Operator o.Minus)) is (f, ws, d, (e, us, g, c)) =
      (e, us, derived ts (hole_two fs) (omega arith, tail ts, (content_at ts, next_is ts (s.Operator o.Minus) is), d) g, c)
  back_operand_by fs ts (Some (s.Punctuation m.Not)) is (f, ws, d, (e, us, g, c)) =
      (e, us, derived ts (hole_two fs) (omega arith, tail ts, (content_at ts, next_is ts (s.Punctuation m.Not) is), d) g, c)
  back_operand_by fs ts _ is h = absurd h

  pub back_operand : (fs : List Open) (ts : Lexemes) → After K (operand fs ts) ts → Meaning K operand_next fs ts
  unfolding operand
  back_operand fs ts h = back_operand_by fs ts (peek ts) refl h

  -- ---- after an expression

  back_steps : (fs : List Open) (k : ℕ) (e : Expr) (op : Operator) (ts : Lexemes) → k < precedence_of op → precedence_of op ≤ hole fs → peek ts ≡ Some (s.Operator op)
      → Meaning K operand_next (operand_of op e (line_of ts) ∷ fs) (tail ts) → Grown K fs k e ts
  back_steps fs k e op ts low high is h =
      on_if (λ f. Meaning K operand_next (f ∷ fs) (tail ts)) (Grown K fs k e ts) (nat_eq (precedence_of op) 5) (compare_of op e (line_of ts)) (chain_of e [] op (line_of ts))
      (λ same (x, ws, d, (e', us, g, c)). let same' = five op same in (e', us, by_compare op x (line_of ts) (tail ts) ws (omega arith) (omega arith) same' (content_at ts, next_is ts (s.Operator op) is) d g, c))
      (λ other (x, ws, d, (rest, vs, more, (e', us, g, c))). (e', us, by_chain (step op x (line_of ts) rest) vs low high (not_five op other) (refl, tail ts, ws, (content_at ts, next_is ts (s.Operator op) is), d, more) g, c))
      h

  back_grow : (fs : List Open) (k : ℕ) (e : Expr) (ts : Lexemes) (x : Option Symbol) → peek ts ≡ x → k < reach x → reach x ≤ hole fs → After K (grow_by x e fs (line_of ts)) ts → Grown K fs k e ts
  unfolding reach
  back_grow fs k e ts (Some (s.Punctuation m.Dot)) is low high (x, line, vs, nm, inl (rest, ws, d, (e', us, g, c))) =
      (e', us, by_methods (method x line rest) ws low high tt (tail ts, vs, is_next ts (s.Punctuation m.Dot) is, nm, d) g, c)
  back_grow fs k e ts (Some (s.Punctuation m.Dot)) is low high (x, line, vs, nm, inr (xs, left, (es, ys, listed, (rest, ws, d, (e', us, g, c))))) =
      (e', us, by_methods (method_call x es line rest) ws low high tt (tail ts, vs, xs, ys, is_next ts (s.Punctuation m.Dot) is, nm, left, listed, d) g, c)
  back_grow fs k e ts (Some (s.Punctuation m.Question)) is low high (f, ws, d, (vs, xs, b, colon, d', (e', us, g, c))) =
      (e', us, by_question f b (line_of ts) (tail ts) ws vs xs low high (content_at ts, next_is ts (s.Punctuation m.Question) is) d colon d' g, c)
  back_grow fs k e ts (Some (s.Operator op)) is low high h = back_steps fs k e op ts low high is h
  back_grow fs k e ts _ is low high h = absurd h

  back_after : (fs : List Open) → ((e : Expr) (ts : Lexemes) → After K (close e fs ts) ts → Continuation K fs e ts) → (k : ℕ) (e : Expr) (ts : Lexemes) → After K (after k e fs ts) ts → Grown K fs k e ts
  unfolding continues grow
  back_after fs closes k e ts h =
      on_if (λ z. After K z ts) (Grown K fs k e ts) (nat_lt k (reach (peek ts)) && nat_le (reach (peek ts)) (hole fs)) (grow e fs ts) (close e fs ts)
      (λ yes_ h. back_grow fs k e ts (peek ts) refl (grows_low k (hole fs) (reach (peek ts)) yes_) (grows_high k (hole fs) (reach (peek ts)) yes_) h)
      (λ no_ h. (e, ts, grown, closes e ts h)) h

  -- ---- arguments

  -- an argument with a name or without
  abbrev Labelled : List Open → Callee → List ArgIs → Lexemes → Type 0
  Labelled fs c found ts = (y : Option Text) × (f : Expr) × (us vs : Lexemes) × Labels y ts us × Derives 8 f us vs × ArgumentIn (hole fs) (Continuation K fs) c found y f vs

  label_name : (fs : List Open) (c : Callee) (found : List ArgIs) (f : Expr) (ts us : Lexemes) → Derives 8 f ts us → LabelIn (hole fs) (Continuation K fs) c found f us → Labelled fs c found ts
  label_name fs c found (t.name y l) ts us is (vs, ws, e, assign, d, h) = (Some y, e, vs, ws, (us, (l, is), assign), d, h)
  label_name fs c found _ ts us is h = absurd h

  label_out : (fs : List Open) (c : Callee) (found : List ArgIs) (ts : Lexemes) → Meaning K operand_next (argument c found None ∷ fs) ts → Labelled fs c found ts
  label_out fs c found ts (f, us, d, inl h) = (None, f, ts, us, refl, d, h)
  label_out fs c found ts (f, us, d, inr h) = label_name fs c found f ts us d h

  called_out : (fs : List Open) (c : Callee) (found : List ArgIs) (es : Args) (ts : Lexemes) → args_of found ≡ es → Meaning K (called c found) fs ts → Called K fs c es ts
  called_out fs (call_of x line) found es ts same h = subst (λ z. Grown K fs 0 (call x z line) ts) same h
  called_out fs (method_of e ds x line) found es ts same (rest, us, d, h) =
      (rest, us, d, subst (λ z. Grown K fs 1 (method_calls e z) us) (calls_then ds (x, (Some (args_of found), line)) rest ∙ ap (λ z. all_calls ds (method_call x z line rest)) same) h)

  argument_out : (fs : List Open) (c : Callee) (found : List ArgIs) (x : Option Text) (e : Expr) (ts : Lexemes) → ArgumentIn (hole fs) (Continuation K fs) c found x e ts → Continuation K (argument c found x ∷ fs) e ts
  argument_out fs c found None e ts h = inl h
  argument_out fs c found (Some y) e ts h = h

  back_comma : (fs : List Open) (c : Callee) (found : List ArgIs) (x : Option Text) (e : Expr) (ts : Lexemes) → IsPunctuation m.Comma ts (tail ts) → Labelled fs c (found ++ (x, e) ∷ []) (tail ts)
      → Continuation K (argument c found x ∷ fs) e ts
  back_comma fs c found x e ts comma (y, f, us, vs, label, d, (es, ws, more, h)) =
      argument_out fs c found x e ts (arg y f es, ws, (tail ts, us, vs, comma, label, d, more), subst (λ z. Called K fs c z ws) (args_then found x e (arg y f es)) h)

  back_name : (go : ℕ → Expr → ExprStep) (fs : List Open) (c : Callee) (found : List ArgIs) (x : Option Text) (e : Expr) (ts : Lexemes) → IsPunctuation m.Assign ts (tail ts) → After K (by_closing (label_of x e c found) fs go) ts
      → Continuation K (argument c found x ∷ fs) e ts
  back_name go fs c found None (t.name y line) ts assign (f, vs, d, h) = inr (tail ts, vs, f, assign, d, h)
  back_name go fs c found _ _ ts assign h = absurd h

  back_argument : (go : ℕ → Expr → ExprStep) (fs : List Open) (c : Callee) (found : List ArgIs) (x : Option Text) (e : Expr) (ts : Lexemes) → After K (by_closing (closing_argument c found x e ts) fs go) ts → Continuation K (argument c found x ∷ fs) e ts
  unfolding closing_argument
  back_argument go fs c found x e ts h =
      on_if (λ z. After K (by_closing z fs go) ts) (Continuation K (argument c found x ∷ fs) e ts) (is_punctuation m.Comma ts) (reopened (argument c (found ++ (x, e) ∷ []) None))
      (if is_punctuation m.RightParen ts then taken (called c (found ++ (x, e) ∷ [])) else (if is_punctuation m.Assign ts then label_of x e c found else no_closing))
      (λ is h. back_comma fs c found x e ts (is_here m.Comma ts is) (label_out fs c (found ++ (x, e) ∷ []) (tail ts) h))
      (λ _ h. on_if (λ z. After K (by_closing z fs go) ts) (Continuation K (argument c found x ∷ fs) e ts) (is_punctuation m.RightParen ts) (taken (called c (found ++ (x, e) ∷ []))) (if is_punctuation m.Assign ts then label_of x e c found else no_closing)
      (λ is h. argument_out fs c found x e ts (no_args, tail ts, is_here m.RightParen ts is, called_out fs c (found ++ (x, e) ∷ []) (all_args found (arg x e no_args)) (tail ts) (args_so_far found x e) h))
      (λ _ h. on_if (λ z. After K (by_closing z fs go) ts) (Continuation K (argument c found x ∷ fs) e ts) (is_punctuation m.Assign ts) (label_of x e c found) no_closing (λ is h. back_name go fs c found x e ts (is_here m.Assign ts is) h) (λ _ h. absurd h) h) h) h

  -- ---- what is open innermost is closed

  abbrev FirstOf : List Open → Expr → List StepIs → Operator → ℕ → Expr → Lexemes → Type 0
  FirstOf fs first ss op line e ts = Continuation K (chain_of first ss op line ∷ fs) e ts

  back_more : (fs : List Open) (first : Expr) (ss : List StepIs) (op : Operator) (line : ℕ) (e : Expr) (ts : Lexemes) (x : Option Operator) → operator_by (precedence_of op) (peek ts) ≡ x
      → ((h : After K (after (precedence_of op) (chain first (steps_of (ss ++ (op, (e, line)) ∷ []))) fs ts) ts) → Grown K fs (precedence_of op) (chain first (steps_of (ss ++ (op, (e, line)) ∷ []))) ts)
      → After K (by_closing (more_of x op first (ss ++ (op, (e, line)) ∷ []) (line_of ts)) fs (λ k whole. after k whole fs ts)) ts
      → FirstOf fs first ss op line e ts
  back_more fs first ss op line e ts None is closes h = (no_steps, ts, refl, subst (λ z. Grown K fs (precedence_of op) (chain first z) ts) (steps_so_far ss op e line) (closes h))
  back_more fs first ss op line e ts (Some op') is closes (x, vs, d, (rest, us, more, g)) =
      let both = operator_is (precedence_of op) (peek ts) op' is in (
        step op' x (line_of ts) rest,
        us,
        (both.1, tail ts, vs, (content_at ts, next_is ts (s.Operator op') both.0), subst (λ n. Derives (n - 1) x (tail ts) vs) both.1 d, subst (λ n. DerivesSteps n rest vs us) both.1 more),
        subst (λ w. Grown K fs (precedence_of op) (chain first w) us) (steps_then ss op e line (step op' x (line_of ts) rest))
            (subst (λ n. Grown K fs n (chain first (all_steps (ss ++ (op, (e, line)) ∷ []) (step op' x (line_of ts) rest))) us) both.1 g),
      )

  pub back_close : (fs : List Open) (e : Expr) (ts : Lexemes) → After K (close e fs ts) ts → Continuation K fs e ts
  unfolding operator_at
  back_close [] e ts h = h
  back_close (paren ∷ fs) e ts h =
      on_if (λ z. After K (by_closing z fs (λ k whole. after k whole fs ts)) ts) (Continuation K (paren ∷ fs) e ts) (is_punctuation m.RightParen ts) (taken (value_read 0 (group e))) no_closing (λ is h. (tail ts, is_here m.RightParen ts is, h)) (λ _ h. absurd h) h
  back_close (argument c found x ∷ fs) e ts h = back_argument (λ k whole. after k whole fs ts) fs c found x e ts h
  back_close (minus_of line ∷ fs) e ts h = back_after fs (back_close fs) 2 (minus e line) ts h
  back_close (not_of line ∷ fs) e ts h = back_after fs (back_close fs) 2 (not_ e line) ts h
  back_close (chain_of first ss op line ∷ fs) e ts h =
      back_more fs first ss op line e ts (operator_by (precedence_of op) (peek ts)) refl (back_after fs (back_close fs) (precedence_of op) (chain first (steps_of (ss ++ (op, (e, line)) ∷ []))) ts) h
  back_close (compare_of op first line ∷ fs) e ts h = back_after fs (back_close fs) 5 (compare op first e line) ts h
  back_close (yes_of f line ∷ fs) e ts h =
      on_if (λ z. After K (by_closing z fs (λ k whole. after k whole fs ts)) ts) (Continuation K (yes_of f line ∷ fs) e ts) (is_punctuation m.Colon ts) (reopened (no_of f e line)) no_closing
      (λ is (b, vs, d, h). (tail ts, vs, b, is_here m.Colon ts is, d, h)) (λ _ h. absurd h) h
  back_close (no_of f yes_ line ∷ fs) e ts h = back_after fs (back_close fs) 8 (conditional f yes_ e line) ts h

  -- ---- one token

  dot_out : (fs : List Open) (e : Expr) (ds : List MethodCallIs) (ts : Lexemes) → IsPunctuation m.Dot ts (tail ts) → Meaning K (dot_read e ds) fs (tail ts) → WithCalls K fs e ds ts
  dot_out fs e ds ts dot (x, line, vs, nm, inl (rest, us, d, h)) =
      (method x line rest, us, (tail ts, vs, dot, nm, d), subst (λ w. Grown K fs 1 (method_calls e w) us) (calls_then ds (x, (None, line)) rest) h)
  dot_out fs e ds ts dot (x, line, vs, nm, inr (xs, left, (es, ys, listed, (rest, us, d, h)))) = (method_call x es line rest, us, (tail ts, vs, xs, ys, dot, nm, left, listed, d), h)

  back_calls : (fs : List Open) (e : Expr) (ds : List MethodCallIs) (ts : Lexemes) → After K (after_calls e ds fs ts) ts → WithCalls K fs e ds ts
  back_calls fs e ds ts h =
      on_if (λ z. After K z ts) (WithCalls K fs e ds ts) (is_punctuation m.Dot ts) (keeps (dot_read e ds) fs) (after 1 (method_calls e (method_calls_of ds)) fs ts)
      (λ is h. dot_out fs e ds ts (is_here m.Dot ts is) h)
      (λ _ h. (no_method_calls, ts, refl, subst (λ z. Grown K fs 1 (method_calls e z) ts) (calls_so_far ds) (back_after fs (back_close fs) 1 (method_calls e (method_calls_of ds)) ts h))) h

  back_opened : (fs : List Open) (c : Callee) (ts : Lexemes) → Labelled fs c [] ts → Opened K fs c ts
  back_opened fs c ts (y, f, us, vs, label, d, (es, ws, more, h)) = (arg y f es, ws, (us, vs, label, d, more), h)

  back_method : (fs : List Open) (e : Expr) (ds : List MethodCallIs) (ts : Lexemes) (x : Option Symbol) → peek ts ≡ x → After K (method_by x e ds fs (content_at ts) (line_of ts)) ts → Meaning K (dot_read e ds) fs ts
  back_method fs e ds ts (Some s.Name) is h = (content_at ts, line_of ts, tail ts, next_is ts s.Name is, h)
  back_method fs e ds ts _ is h = absurd h

  pub back_expr_step : (now : ExprState) (fs : List Open) (ts : Lexemes) → After K (expr_step now fs ts) ts → Meaning K now fs ts
  back_expr_step operand_next fs ts h = back_operand fs ts h
  back_expr_step (value_read k e) fs ts h = back_after fs (back_close fs) k e ts h
  back_expr_step (name_read x line) fs ts h =
      on_if (λ z. After K z ts) (Meaning K (name_read x line) fs ts) (is_punctuation m.LeftParen ts) (keeps (args_opened (call_of x line)) fs) (after 0 (t.name x line) fs ts)
      (λ is h. inr (tail ts, is_here m.LeftParen ts is, h)) (λ _ h. inl (back_after fs (back_close fs) 0 (t.name x line) ts h)) h
  back_expr_step (args_opened c) fs ts h =
      on_if (λ z. After K z ts) (Meaning K (args_opened c) fs ts) (is_punctuation m.RightParen ts) (keeps (called c []) fs) (operand (argument c [] None ∷ fs) ts)
      (λ is h. (no_args, tail ts, is_here m.RightParen ts is, called_out fs c [] no_args (tail ts) refl h))
      (λ _ h. back_opened fs c ts (label_out fs c [] ts (back_operand (argument c [] None ∷ fs) ts h))) h
  back_expr_step (dot_read e ds) fs ts h = back_method fs e ds ts (peek ts) refl h
  back_expr_step (method_read e ds x line) fs ts h =
      on_if (λ z. After K z ts) (Meaning K (method_read e ds x line) fs ts) (is_punctuation m.LeftParen ts) (keeps (args_opened (method_of e ds x line)) fs) (after_calls e (ds ++ (x, (None, line)) ∷ []) fs ts)
      (λ is h. inr (tail ts, is_here m.LeftParen ts is, h)) (λ _ h. inl (back_calls fs e (ds ++ (x, (None, line)) ∷ []) ts h)) h
  back_expr_step (calls_read e ds) fs ts h = back_calls fs e ds ts h
