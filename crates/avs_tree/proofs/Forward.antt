-- Nothing that may come is lost at a token.
use Rattle.std.proofs.Common.{◌≡◌, refl, sym, ap, subst, ◌∙◌, ℕ, ◌-◌, ◌<◌, ◌≤◌, arith, Bool, true, false, inl, inr, ◌&&◌, List, [], ◌∷◌, ◌++◌, Option, Some, None, nat_eq, nat_lt, nat_le, if◌then◌else◌}
use Rattle.std.proofs.lemmas.Bool.Decides.{nat_tests}
use Rattle.avs_tree.specs.Lexeme.{Lexemes, precedence_of, line_of, peek, content_at, punctuation_by, is_punctuation, operator_at, operator_by}
use Rattle.avs_lex.specs.Spelling.{Text}
use Rattle.avs_tree.specs.Tree.{Expr, int, bool, str, call, method_calls, minus, not_, chain, compare, conditional, group, Args, no_args, arg, MethodCalls, no_method_calls, method, method_call, Steps, no_steps, step}
use Rattle.avs_tree.specs.Tree as t
use Rattle.avs_tree.specs.View.{ArgIs, MethodCallIs, StepIs, args_of, method_calls_of, method_call_of, steps_of}
use Rattle.avs_tree.specs.Grammar.{IsAt, Labels, Derives, DerivesSteps}
use Rattle.avs_tree.specs.Machine.{Callee, call_of, method_of, Open, paren, argument, minus_of, not_of, chain_of, compare_of, yes_of, no_of, ExprState, operand_next, value_read, name_read, args_opened, dot_read, method_read, calls_read, ExprStep, keeps, hole, reach, operand_by, operand, grow_by, continues, grows, grow, called, Closing, reopened, closed, closing_argument, more_of, by_closing, close, after, after_calls, expr_step}
use Rattle.avs_tree.specs.declared.symbol.Symbol.{Symbol}
use Rattle.avs_tree.specs.declared.symbol.Symbol.TheVariants as s
use Rattle.avs_tree.specs.declared.symbol.Punctuation.TheVariants as m
use Rattle.avs_tree.specs.declared.tree.Operator.{Operator}
use Rattle.avs_tree.proofs.Left.{grown, by_methods, by_chain, by_compare, by_question, Front, primary, by_minus, by_not, front, positive, steps_positive}
use Rattle.avs_tree.proofs.ExprMeaning.{all_args, all_calls, all_steps, ArgumentIn, LabelIn, Continuation, Grown, Called, Opened, WithCalls, Meaning, After, Formed}

-- ---- lists

pub args_so_far : (found : List ArgIs) (x : Option Text) (e : Expr) → args_of (found ++ (x, e) ∷ []) ≡ all_args found (arg x e no_args)
args_so_far [] x e = refl
args_so_far (a ∷ found) x e = ap (arg a.0 a.1) (args_so_far found x e)

pub args_then : (found : List ArgIs) (x : Option Text) (e : Expr) (rest : Args) → all_args (found ++ (x, e) ∷ []) rest ≡ all_args found (arg x e rest)
args_then [] x e rest = refl
args_then (a ∷ found) x e rest = ap (arg a.0 a.1) (args_then found x e rest)

pub calls_so_far : (ds : List MethodCallIs) → method_calls_of ds ≡ all_calls ds no_method_calls
calls_so_far [] = refl
calls_so_far (d ∷ ds) = ap (method_call_of d.0 d.1.0 d.1.1) (calls_so_far ds)

pub calls_then : (ds : List MethodCallIs) (d : MethodCallIs) (rest : MethodCalls) → all_calls (ds ++ d ∷ []) rest ≡ all_calls ds (method_call_of d.0 d.1.0 d.1.1 rest)
calls_then [] d rest = refl
calls_then (x ∷ ds) d rest = ap (method_call_of x.0 x.1.0 x.1.1) (calls_then ds d rest)

pub steps_so_far : (ss : List StepIs) (op : Operator) (e : Expr) (line : ℕ) → steps_of (ss ++ (op, (e, line)) ∷ []) ≡ all_steps ss (step op e line no_steps)
steps_so_far [] op e line = refl
steps_so_far (x ∷ ss) op e line = ap (step x.0 x.1.0 x.1.1) (steps_so_far ss op e line)

pub steps_then : (ss : List StepIs) (op : Operator) (e : Expr) (line : ℕ) (rest : Steps) → all_steps (ss ++ (op, (e, line)) ∷ []) rest ≡ all_steps ss (step op e line rest)
steps_then [] op e line rest = refl
steps_then (x ∷ ss) op e line rest = ap (step x.0 x.1.0 x.1.1) (steps_then ss op e line rest)

-- ---- tests

pub if_true : {A : Type 0} (P : A → Type 0) (b : Bool) (x y : A) → b ≡ true → P x → P (if b then x else y)
if_true P true x y is h = h
if_true P false x y is h = absurd (cc)

pub if_false : {A : Type 0} (P : A → Type 0) (b : Bool) (x y : A) → b ≡ false → P y → P (if b then x else y)
if_false P true x y is h = absurd (cc)
if_false P false x y is h = h

pub grows_yes : (k r n : ℕ) → k < n → n ≤ r → (nat_lt k n && nat_le n r) ≡ true
grows_yes k r n lt le = grind (arith, nat_tests)

pub grows_no : (k r n : ℕ) → r < n → (nat_lt k n && nat_le n r) ≡ false
grows_no k r n lt = grind (arith, nat_tests)

pub reach_is : (symbol : Symbol) (line : ℕ) (ts us : Lexemes) → IsAt symbol line ts us → reach (peek ts) ≡ reach (Some symbol)
reach_is symbol line ts us (x, is) = ap (λ z. reach (peek z)) is

pub hole_two : (fs : List Open) → 2 ≤ hole fs
hole_two [] = omega arith
hole_two (paren ∷ fs) = omega arith
hole_two (argument c es x ∷ fs) = omega arith
hole_two (minus_of line ∷ fs) = omega arith
hole_two (not_of line ∷ fs) = omega arith
hole_two (chain_of e ss op line ∷ fs) = omega (arith, positive op)
hole_two (compare_of op e line ∷ fs) = omega arith
hole_two (yes_of e line ∷ fs) = omega arith
hole_two (no_of e f line ∷ fs) = omega arith

no_paren : (x : Option Symbol) → 0 < reach x → punctuation_by m.LeftParen x ≡ false
unfolding reach
no_paren (Some (s.Punctuation m.LeftParen)) h = absurd (omega arith)
no_paren _ h = refl

no_dot : (x : Option Symbol) → 1 < reach x → punctuation_by m.Dot x ≡ false
unfolding reach
no_dot (Some (s.Punctuation m.Dot)) h = absurd (omega arith)
no_dot _ h = refl

else_none : (b : Bool) (op : Operator) → b ≡ false → (if b then Some op else None) ≡ None
else_none true op h = absurd (cc)
else_none false op h = refl

then_some : (b : Bool) (op : Operator) → b ≡ true → (if b then Some op else None) ≡ Some op
then_some true op h = refl
then_some false op h = absurd (cc)

pub no_operator : (r : ℕ) (x : Option Symbol) → r < reach x → operator_by r x ≡ None
unfolding reach
no_operator r (Some (s.Operator op)) h = let other : nat_eq (precedence_of op) r ≡ false = grind (arith, nat_tests, h) in else_none (nat_eq (precedence_of op) r) op other
no_operator r _ h = refl

pub operator_here : (op : Operator) (r : ℕ) → precedence_of op ≡ r → operator_by r (Some (s.Operator op)) ≡ Some op
operator_here op r same = let yes_ : nat_eq (precedence_of op) r ≡ true = grind (arith, nat_tests) in then_some (nat_eq (precedence_of op) r) op yes_

pub is_not : (n r : ℕ) → (n ≡ r → ⊥) → nat_eq n r ≡ false
is_not n r h = grind (arith, nat_tests, h)

pub is_same : (n r : ℕ) → n ≡ r → nat_eq n r ≡ true
is_same n r h = grind (arith, nat_tests)

pub more_none : (P : Closing → Type 0) (x : Option Operator) (op : Operator) (e : Expr) (ss : List StepIs) (line : ℕ) → x ≡ None → P (closed (precedence_of op) (chain e (steps_of ss))) → P (more_of x op e ss line)
more_none P None op e ss line is h = h
more_none P (Some op') op e ss line is h = absurd (cc)

pub more_some : (P : Closing → Type 0) (x : Option Operator) (op op' : Operator) (e : Expr) (ss : List StepIs) (line : ℕ) → x ≡ Some op' → P (reopened (chain_of e ss op' line)) → P (more_of x op e ss line)
more_some P x op op' e ss line is h = subst (λ z. P (more_of z op e ss line)) (sym is) h

-- ---- what follows an expression

module _ (K : Expr → Lexemes → Type 0) (ends : (e : Expr) (ts : Lexemes) → K e ts → 8 < reach (peek ts)) where
  grows_past : (fs : List Open) (ok : (e : Expr) (ts : Lexemes) → Continuation K fs e ts → hole fs < reach (peek ts)) (k : ℕ) (e : Expr) (ts : Lexemes) → k ≤ hole fs
      → Grown K fs k e ts → k < reach (peek ts)
  unfolding reach
  grows_past fs ok k e ts le (e', us, grown, h) = omega (arith, ok e ts h)
  grows_past fs ok k e ts le (e', us, by_methods no_method_calls vs a b c d g, h) = absurd c
  grows_past fs ok k e ts le (e', us, by_methods (method x line ds) vs a b c (t1, t2, (l, is), nm, d) g, h) = omega (arith, reach_is (s.Punctuation m.Dot) l ts t1 is)
  grows_past fs ok k e ts le (e', us, by_methods (method_call x es line ds) vs a b c (t1, t2, t3, t4, (l, is), nm, left, listed, d) g, h) = omega (arith, reach_is (s.Punctuation m.Dot) l ts t1 is)
  grows_past fs ok k e ts le (e', us, by_chain no_steps vs a b c d g, h) = absurd c
  grows_past fs ok k e ts le (e', us, by_chain (step op x line ss) vs a b c (same, t1, t2, is, one, d) g, h) = omega (arith, reach_is (s.Operator op) line ts t1 is)
  grows_past fs ok k e ts le (e', us, by_compare op x line vs ws a b c is d g, h) = omega (arith, reach_is (s.Operator op) line ts vs is)
  grows_past fs ok k e ts le (e', us, by_question x y line vs ws xs ys a b is d i j g, h) = omega (arith, reach_is (s.Punctuation m.Question) line ts vs is)

  argument_past : (r : ℕ) (C : Expr → Lexemes → Type 0) (c : Callee) (found : List ArgIs) (x : Option Text) (e : Expr) (ts : Lexemes) → ArgumentIn r C c found x e ts → 8 < reach (peek ts)
  unfolding reach
  argument_past r C c found x e ts (no_args, us, (l, is), h) = omega (arith, reach_is (s.Punctuation m.RightParen) l ts us is)
  argument_past r C c found x e ts (arg y f es, us, (t1, t2, t3, (l, is), label, one, d), h) = omega (arith, reach_is (s.Punctuation m.Comma) l ts t1 is)

  label_past : (r : ℕ) (C : Expr → Lexemes → Type 0) (c : Callee) (found : List ArgIs) (e : Expr) (ts : Lexemes) → LabelIn r C c found e ts → 8 < reach (peek ts)
  unfolding reach
  label_past r C c found (t.name y line) ts (us, vs, e, (l, is), one, h) = omega (arith, reach_is (s.Punctuation m.Assign) l ts us is)
  label_past r C c found _ ts h = absurd h

  pub past : (fs : List Open) → Formed fs → (e : Expr) (ts : Lexemes) → Continuation K fs e ts → hole fs < reach (peek ts)
  unfolding reach
  past [] formed e ts h = ends e ts h
  past (paren ∷ fs) formed e ts (us, (l, is), h) = omega (arith, reach_is (s.Punctuation m.RightParen) l ts us is)
  past (argument c found None ∷ fs) formed e ts (inl h) = argument_past (hole fs) (Continuation K fs) c found None e ts h
  past (argument c found None ∷ fs) formed e ts (inr h) = label_past (hole fs) (Continuation K fs) c found e ts h
  past (argument c found (Some y) ∷ fs) formed e ts h = argument_past (hole fs) (Continuation K fs) c found (Some y) e ts h
  past (minus_of line ∷ fs) formed e ts h = grows_past fs (past fs formed) 2 (minus e line) ts (hole_two fs) h
  past (not_of line ∷ fs) formed e ts h = grows_past fs (past fs formed) 2 (not_ e line) ts (hole_two fs) h
  past (chain_of first ss op line ∷ fs) (low, other, formed) e ts (no_steps, us, same, h) =
      let far = grows_past fs (past fs formed) (precedence_of op) _ us low h in
      let here : precedence_of op < reach (peek ts) = subst (λ z. precedence_of op < reach (peek z)) (sym same) far in
      omega (arith, positive op)
  past (chain_of first ss op line ∷ fs) (low, other, formed) e ts (step op' x l rest, us, (same, t1, t2, is, one, d), h) =
      omega (arith, positive op, reach_is (s.Operator op') l ts t1 is)
  past (compare_of op first line ∷ fs) (is, low, formed) e ts h = let far = grows_past fs (past fs formed) 5 (compare op first e line) ts low h in omega arith
  past (yes_of c line ∷ fs) formed e ts (us, vs, b, (l, is), one, h) = omega (arith, reach_is (s.Punctuation m.Colon) l ts us is)
  past (no_of c yes_ line ∷ fs) (low, formed) e ts h = grows_past fs (past fs formed) 8 (conditional c yes_ e line) ts low h

  past_token : (fs : List Open) → Formed fs → (k : ℕ) (e : Expr) → Grown K fs k e [] → ⊥
  unfolding reach
  past_token fs formed k e (e', us, grown, h) = absurd (omega (arith, past fs formed e [] h))
  past_token fs formed k e (e', us, by_methods no_method_calls vs a b c d g, h) = absurd c
  past_token fs formed k e (e', us, by_methods (method x line ds) vs a b c (t1, t2, (l, (z, is)), nm, d) g, h) = absurd (cc)
  past_token fs formed k e (e', us, by_methods (method_call x es line ds) vs a b c (t1, t2, t3, t4, (l, (z, is)), nm, left, listed, d) g, h) = absurd (cc)
  past_token fs formed k e (e', us, by_chain no_steps vs a b c d g, h) = absurd c
  past_token fs formed k e (e', us, by_chain (step op x line ss) vs a b c (same, t1, t2, (z, is), one, d) g, h) = absurd (cc)
  past_token fs formed k e (e', us, by_compare op x line vs ws a b c (z, is) d g, h) = absurd (cc)
  past_token fs formed k e (e', us, by_question x y line vs ws xs ys a b (z, is) d i j g, h) = absurd (cc)

  -- ---- a token that continues an expression

  grown_at : (fs : List Open) (k : ℕ) (e : Expr) (symbol : Symbol) (line : ℕ) (ts us : Lexemes) → IsAt symbol line ts us → k < reach (Some symbol) → reach (Some symbol) ≤ hole fs
      → ((x : Text) → After K (grow_by (Some symbol) e fs line) ((symbol, x, line) ∷ us)) → After K (after k e fs ts) ts
  unfolding continues grow
  grown_at fs k e symbol line ts us (x, is) lt le h =
      subst (λ z. After K (after k e fs z) z) (sym is)
      (if_true (λ z. After K z ((symbol, x, line) ∷ us)) (nat_lt k (reach (Some symbol)) && nat_le (reach (Some symbol)) (hole fs)) _ _ (grows_yes k (hole fs) (reach (Some symbol)) lt le) (h x))

  on_grown : (fs : List Open) → ((e : Expr) (ts : Lexemes) → Continuation K fs e ts → After K (close e fs ts) ts) → ((e : Expr) (ts : Lexemes) → Continuation K fs e ts → hole fs < reach (peek ts))
      → (k : ℕ) (e : Expr) (ts : Lexemes) → Grown K fs k e ts → After K (after k e fs ts) ts
  unfolding reach continues
  on_grown fs closes ok k e ts (e', us, grown, h) = if_false (λ z. After K z ts) (grows k fs ts) (grow e fs ts) (close e fs ts) (grows_no k (hole fs) (reach (peek ts)) (ok e ts h)) (closes e ts h)
  on_grown fs closes ok k e ts (e', us, by_methods no_method_calls vs a b c d g, h) = absurd c
  on_grown fs closes ok k e ts (e', us, by_methods (method x line ds) vs a b c (t1, t2, (l, is), nm, d) g, h) =
      grown_at fs k e (s.Punctuation m.Dot) l ts t1 is a b (λ _. (x, line, t2, nm, inl (ds, vs, d, (e', us, g, h))))
  on_grown fs closes ok k e ts (e', us, by_methods (method_call x es line ds) vs a b c (t1, t2, t3, t4, (l, is), nm, left, listed, d) g, h) =
      grown_at fs k e (s.Punctuation m.Dot) l ts t1 is a b (λ _. (x, line, t2, nm, inr (t3, left, (es, t4, listed, (ds, vs, d, (e', us, g, h))))))
  on_grown fs closes ok k e ts (e', us, by_chain no_steps vs a b c d g, h) = absurd c
  on_grown fs closes ok k e ts (e', us, by_chain (step op x line ss) vs a b c (same, t1, t2, is, one, d) g, h) =
      grown_at fs k e (s.Operator op) line ts t1 is a b
      (λ _. if_false (λ f. Meaning K operand_next (f ∷ fs) t1) (nat_eq (precedence_of op) 5) (compare_of op e line) (chain_of e [] op line) (is_not (precedence_of op) 5 c) (x, t2, one, (ss, vs, d, (e', us, g, h))))
  on_grown fs closes ok k e ts (e', us, by_compare op x line vs ws a b c is d g, h) =
      grown_at fs k e (s.Operator op) line ts vs is (omega (arith, c)) (omega (arith, c))
      (λ _. if_true (λ f. Meaning K operand_next (f ∷ fs) vs) (nat_eq (precedence_of op) 5) (compare_of op e line) (chain_of e [] op line) (is_same (precedence_of op) 5 c) (x, ws, d, (e', us, g, h)))
  on_grown fs closes ok k e ts (e', us, by_question x y line vs ws xs ys a b is d i j g, h) =
      grown_at fs k e (s.Punctuation m.Question) line ts vs is a b (λ _. (x, ws, d, (xs, ys, y, i, j, (e', us, g, h))))

  -- ---- arguments

  label_in : (fs : List Open) (c : Callee) (found : List ArgIs) (y : Option Text) (f : Expr) (ts us vs : Lexemes) → Labels y ts us → Derives 8 f us vs
      → ArgumentIn (hole fs) (Continuation K fs) c found y f vs → Meaning K operand_next (argument c found None ∷ fs) ts
  label_in fs c found None f ts us vs same d h = (f, vs, subst (λ z. Derives 8 f z vs) (sym same) d, inl h)
  label_in fs c found (Some y) f ts us vs (t1, (l, is), assign) d h = (t.name y l, t1, is, inr (us, vs, f, assign, d, h))

  called_in : (fs : List Open) (c : Callee) (found : List ArgIs) (es : Args) (ts : Lexemes) → args_of found ≡ es → Called K fs c es ts → Meaning K (called c found) fs ts
  called_in fs (call_of x line) found es ts same h = subst (λ z. Grown K fs 0 (call x z line) ts) (sym same) h
  called_in fs (method_of e ds x line) found es ts same (rest, us, d, h) =
      (rest, us, d, subst (λ z. Grown K fs 1 (method_calls e z) us) (ap (λ z. all_calls ds (method_call x z line rest)) (sym same) ∙ sym (calls_then ds (x, (Some (args_of found), line)) rest)) h)

  on_argument : (go : Lexemes → ℕ → Expr → ExprStep) (fs : List Open) (c : Callee) (found : List ArgIs) (x : Option Text) (e : Expr) (ts : Lexemes) → ArgumentIn (hole fs) (Continuation K fs) c found x e ts
      → After K (by_closing (closing_argument c found x e ts) fs (go ts)) ts
  unfolding closing_argument is_punctuation
  on_argument go fs c found x e ts (no_args, us, (l, (z, is)), h) =
      subst (λ y. After K (by_closing (closing_argument c found x e y) fs (go y)) y) (sym is) (called_in fs c (found ++ (x, e) ∷ []) (all_args found (arg x e no_args)) us (args_so_far found x e) h)
  on_argument go fs c found x e ts (arg y f es, us, (t1, t2, t3, (l, (z, is)), label, one, d), h) =
      subst (λ y. After K (by_closing (closing_argument c found x e y) fs (go y)) y) (sym is)
      (label_in fs c (found ++ (x, e) ∷ []) y f t1 t2 t3 label one (es, us, d, subst (λ w. Called K fs c w us) (sym (args_then found x e (arg y f es))) h))

  on_label : (go : Lexemes → ℕ → Expr → ExprStep) (fs : List Open) (c : Callee) (found : List ArgIs) (e : Expr) (ts : Lexemes) → LabelIn (hole fs) (Continuation K fs) c found e ts → After K (by_closing (closing_argument c found None e ts) fs (go ts)) ts
  unfolding closing_argument is_punctuation
  on_label go fs c found (t.name y line) ts (us, vs, f, (l, (z, is)), d, h) = subst (λ w. After K (by_closing (closing_argument c found None (t.name y line) w) fs (go w)) w) (sym is) (f, vs, d, h)
  on_label go fs c found _ ts h = absurd h

  -- ---- what is open innermost is closed

  pub on_close : (fs : List Open) → Formed fs → (e : Expr) (ts : Lexemes) → Continuation K fs e ts → After K (close e fs ts) ts
  unfolding is_punctuation operator_at
  on_close [] formed e ts h = h
  on_close (paren ∷ fs) formed e ts (us, (l, (z, is)), h) = subst (λ w. After K (close e (paren ∷ fs) w) w) (sym is) h
  on_close (argument c found None ∷ fs) formed e ts (inl h) = on_argument (λ w k whole. after k whole fs w) fs c found None e ts h
  on_close (argument c found None ∷ fs) formed e ts (inr h) = on_label (λ w k whole. after k whole fs w) fs c found e ts h
  on_close (argument c found (Some y) ∷ fs) formed e ts h = on_argument (λ w k whole. after k whole fs w) fs c found (Some y) e ts h
  on_close (minus_of line ∷ fs) formed e ts h = on_grown fs (on_close fs formed) (past fs formed) 2 (minus e line) ts h
  on_close (not_of line ∷ fs) formed e ts h = on_grown fs (on_close fs formed) (past fs formed) 2 (not_ e line) ts h
  on_close (chain_of first ss op line ∷ fs) (low, other, formed) e ts (no_steps, us, same, h) =
      let h' = subst (λ z. Grown K fs (precedence_of op) (chain first (all_steps ss (step op e line no_steps))) z) (sym same) h in
      let far = grows_past fs (past fs formed) (precedence_of op) (chain first (all_steps ss (step op e line no_steps))) ts low h' in
      more_none (λ z. After K (by_closing z fs (λ k whole. after k whole fs ts)) ts) (operator_by (precedence_of op) (peek ts)) op first (ss ++ (op, (e, line)) ∷ []) (line_of ts)
      (no_operator (precedence_of op) (peek ts) far)
      (on_grown fs (on_close fs formed) (past fs formed) (precedence_of op) (chain first (steps_of (ss ++ (op, (e, line)) ∷ []))) ts
      (subst (λ z. Grown K fs (precedence_of op) (chain first z) ts) (sym (steps_so_far ss op e line)) h'))
  on_close (chain_of first ss op line ∷ fs) (low, other, formed) e ts (step op' x l rest, us, (same, t1, t2, (z, is), one, d), h) =
      subst (λ w. After K (close e (chain_of first ss op line ∷ fs) w) w) (sym is)
      (more_some (λ w. After K (by_closing w fs (λ k whole. after k whole fs ((s.Operator op', z, l) ∷ t1))) ((s.Operator op', z, l) ∷ t1)) (operator_by (precedence_of op) (Some (s.Operator op'))) op op' first (ss ++ (op, (e, line)) ∷ []) l (operator_here op' (precedence_of op) same) (
        x,
        t2,
        subst (λ n. Derives (n - 1) x t1 t2) (sym same) one,
        (
          rest,
          us,
          subst (λ n. DerivesSteps n rest t2 us) (sym same) d,
          subst (λ n. Grown K fs n (chain first (all_steps (ss ++ (op, (e, line)) ∷ []) (step op' x l rest))) us) (sym same)
              (subst (λ w. Grown K fs (precedence_of op) (chain first w) us) (sym (steps_then ss op e line (step op' x l rest))) h),
        ),
      ))
  on_close (compare_of op first line ∷ fs) (is, low, formed) e ts h = on_grown fs (on_close fs formed) (past fs formed) 5 (compare op first e line) ts h
  on_close (yes_of c line ∷ fs) formed e ts (us, vs, b, (l, (z, is)), d, h) = subst (λ w. After K (close e (yes_of c line ∷ fs) w) w) (sym is) (b, vs, d, h)
  on_close (no_of c yes_ line ∷ fs) (low, formed) e ts h = on_grown fs (on_close fs formed) (past fs formed) 8 (conditional c yes_ e line) ts h

  -- ---- an operand comes next

  on_primary : (fs : List Open) (e : Expr) (ts us : Lexemes) → Derives 0 e ts us → Grown K fs 0 e us → After K (operand fs ts) ts
  unfolding operand
  on_primary fs (int n) ts us (l, (x, is)) h = subst (λ z. After K (operand fs z) z) (sym is) h
  on_primary fs (bool true) ts us (l, (x, is)) h = subst (λ z. After K (operand fs z) z) (sym is) h
  on_primary fs (bool false) ts us (l, (x, is)) h = subst (λ z. After K (operand fs z) z) (sym is) h
  on_primary fs (str x) ts us (l, is) h = subst (λ z. After K (operand fs z) z) (sym is) h
  on_primary fs (t.name x line) ts us is h = subst (λ z. After K (operand fs z) z) (sym is) (inl h)
  on_primary fs (call x es line) ts us (vs, ws, is, left, listed) h = subst (λ z. After K (operand fs z) z) (sym is) (inr (ws, left, (es, us, listed, h)))
  on_primary fs (group e) ts us (vs, ws, (l, (x, is)), d, right) h = subst (λ z. After K (operand fs z) z) (sym is) (e, ws, d, (us, right, h))
  on_primary fs (method_calls e ds) ts us (low, has, vs, a, b) h = absurd (omega arith)
  on_primary fs (minus e line) ts us (low, vs, a, b) h = absurd (omega arith)
  on_primary fs (not_ e line) ts us (low, vs, a, b) h = absurd (omega arith)
  on_primary fs (chain e ss) ts us (low, chains, vs, a, b) h = absurd (omega (arith, steps_positive ss chains))
  on_primary fs (compare op a b line) ts us (low, is, vs, ws, x, y, z) h = absurd (omega arith)
  on_primary fs (conditional a b c line) ts us (low, vs, ws, xs, ys, x, y, z, v, w) h = absurd (omega arith)

  on_front : (fs : List Open) (e : Expr) (ts us : Lexemes) → Front (hole fs) ts us e → Continuation K fs e us → After K (operand fs ts) ts
  unfolding operand
  on_front fs e ts us (primary f vs d g) h = on_primary fs f ts vs d (e, us, g, h)
  on_front fs e ts us (by_minus f line vs ws two (x, is) d g) h = subst (λ z. After K (operand fs z) z) (sym is) (f, ws, d, (e, us, g, h))
  on_front fs e ts us (by_not f line vs ws two (x, is) d g) h = subst (λ z. After K (operand fs z) z) (sym is) (f, ws, d, (e, us, g, h))

  pub on_operand_next : (fs : List Open) (ts : Lexemes) → Meaning K operand_next fs ts → After K (operand fs ts) ts
  on_operand_next fs ts (e, us, d, h) = on_front fs e ts us (front (hole fs) e ts us d) h

  -- ---- one token

  on_calls : (fs : List Open) → Formed fs → (e : Expr) (ds : List MethodCallIs) (ts : Lexemes) → WithCalls K fs e ds ts → After K (after_calls e ds fs ts) ts
  unfolding is_punctuation
  on_calls fs formed e ds ts (no_method_calls, us, same, h) =
      let h' = subst (λ z. Grown K fs 1 (method_calls e (all_calls ds no_method_calls)) z) (sym same) h in
      let low = hole_two fs in
      let far = grows_past fs (past fs formed) 1 (method_calls e (all_calls ds no_method_calls)) ts (omega arith) h' in
      if_false (λ z. After K z ts) (punctuation_by m.Dot (peek ts)) (keeps (dot_read e ds) fs) (after 1 (method_calls e (method_calls_of ds)) fs ts) (no_dot (peek ts) far)
      (on_grown fs (on_close fs formed) (past fs formed) 1 (method_calls e (method_calls_of ds)) ts (subst (λ z. Grown K fs 1 (method_calls e z) ts) (sym (calls_so_far ds)) h'))
  on_calls fs formed e ds ts (method x line rest, us, (t1, t2, (l, (z, is)), nm, d), h) =
      subst (λ w. After K (after_calls e ds fs w) w) (sym is)
      (x, line, t2, nm, inl (rest, us, d, subst (λ w. Grown K fs 1 (method_calls e w) us) (sym (calls_then ds (x, (None, line)) rest)) h))
  on_calls fs formed e ds ts (method_call x es line rest, us, (t1, t2, t3, t4, (l, (z, is)), nm, left, listed, d), h) =
      subst (λ w. After K (after_calls e ds fs w) w) (sym is) (x, line, t2, nm, inr (t3, left, (es, t4, listed, (rest, us, d, h))))

  calls_past : (fs : List Open) → Formed fs → (e : Expr) (ds : List MethodCallIs) (ts : Lexemes) → WithCalls K fs e ds ts → 0 < reach (peek ts)
  unfolding reach
  calls_past fs formed e ds ts (no_method_calls, us, same, h) =
      let low = hole_two fs in
      let far = grows_past fs (past fs formed) 1 (method_calls e (all_calls ds no_method_calls)) us (omega arith) h in
      subst (λ z. 0 < reach (peek z)) (sym same) (omega arith)
  calls_past fs formed e ds ts (method x line rest, us, (t1, t2, (l, is), nm, d), h) = omega (arith, reach_is (s.Punctuation m.Dot) l ts t1 is)
  calls_past fs formed e ds ts (method_call x es line rest, us, (t1, t2, t3, t4, (l, is), nm, left, listed, d), h) = omega (arith, reach_is (s.Punctuation m.Dot) l ts t1 is)

  no_operand : (fs : List Open) (c : Callee) (x : Option Symbol) (y : Text) (line : ℕ) (ts : Lexemes) → After K (operand_by x (argument c [] None ∷ fs) y line) ts
      → After K (if punctuation_by m.RightParen x then keeps (called c []) fs else operand_by x (argument c [] None ∷ fs) y line) ts
  no_operand fs c (Some (s.Punctuation m.RightParen)) y line ts h = absurd h
  no_operand fs c (Some (s.Punctuation m.LeftParen)) y line ts h = h
  no_operand fs c (Some (s.Punctuation m.Not)) y line ts h = h
  no_operand fs c (Some (s.Punctuation _)) y line ts h = absurd h
  no_operand fs c None y line ts h = h
  no_operand fs c (Some s.Name) y line ts h = h
  no_operand fs c (Some (s.Int n)) y line ts h = h
  no_operand fs c (Some s.Str) y line ts h = h
  no_operand fs c (Some (s.Keyword k)) y line ts h = h
  no_operand fs c (Some (s.Operator op)) y line ts h = h

  on_opened : (fs : List Open) (c : Callee) (ts : Lexemes) → Opened K fs c ts → After K (expr_step (args_opened c) fs ts) ts
  unfolding is_punctuation operand
  on_opened fs c ts (no_args, us, (l, (z, is)), h) = subst (λ w. After K (expr_step (args_opened c) fs w) w) (sym is) (called_in fs c [] no_args us refl h)
  on_opened fs c ts (arg y f es, us, (t1, t2, label, d, more), h) =
      no_operand fs c (peek ts) (content_at ts) (line_of ts) ts (on_operand_next (argument c [] None ∷ fs) ts (label_in fs c [] y f ts t1 t2 label d (es, us, more, h)))

  -- What may come still may come after the token is taken, and where the token is refused nothing may come.
  pub on_expr_step : (now : ExprState) (fs : List Open) → Formed fs → (ts : Lexemes) → Meaning K now fs ts → After K (expr_step now fs ts) ts
  unfolding is_punctuation
  on_expr_step operand_next fs formed ts h = on_operand_next fs ts h
  on_expr_step (value_read k e) fs formed ts h = on_grown fs (on_close fs formed) (past fs formed) k e ts h
  on_expr_step (name_read x line) fs formed ts (inl h) =
      if_false (λ z. After K z ts) (punctuation_by m.LeftParen (peek ts)) (keeps (args_opened (call_of x line)) fs) (after 0 (t.name x line) fs ts)
      (no_paren (peek ts) (grows_past fs (past fs formed) 0 (t.name x line) ts (omega arith) h)) (on_grown fs (on_close fs formed) (past fs formed) 0 (t.name x line) ts h)
  on_expr_step (name_read x line) fs formed ts (inr (us, (l, (z, is)), h)) = subst (λ w. After K (expr_step (name_read x line) fs w) w) (sym is) h
  on_expr_step (args_opened c) fs formed ts h = on_opened fs c ts h
  on_expr_step (dot_read e ds) fs formed ts (x, line, us, is, h) = subst (λ w. After K (expr_step (dot_read e ds) fs w) w) (sym is) h
  on_expr_step (method_read e ds x line) fs formed ts (inl h) =
      if_false (λ z. After K z ts) (punctuation_by m.LeftParen (peek ts)) (keeps (args_opened (method_of e ds x line)) fs) (after_calls e (ds ++ (x, (None, line)) ∷ []) fs ts)
      (no_paren (peek ts) (calls_past fs formed e (ds ++ (x, (None, line)) ∷ []) ts h)) (on_calls fs formed e (ds ++ (x, (None, line)) ∷ []) ts h)
  on_expr_step (method_read e ds x line) fs formed ts (inr (us, (l, (z, is)), h)) = subst (λ w. After K (expr_step (method_read e ds x line) fs w) w) (sym is) h
  on_expr_step (calls_read e ds) fs formed ts h = on_calls fs formed e ds ts h

  -- Some token has to come.
  pub some_token : (now : ExprState) (fs : List Open) → Formed fs → Meaning K now fs [] → ⊥
  unfolding reach operand is_punctuation
  some_token operand_next fs formed h = on_operand_next fs [] h
  some_token (value_read k e) fs formed h = past_token fs formed k e h
  some_token (name_read x line) fs formed (inl h) = past_token fs formed 0 (t.name x line) h
  some_token (name_read x line) fs formed (inr (us, (l, (z, is)), h)) = absurd (cc)
  some_token (args_opened c) fs formed h = on_opened fs c [] h
  some_token (dot_read e ds) fs formed (x, line, us, is, h) = absurd (cc)
  some_token (method_read e ds x line) fs formed (inl h) = absurd (omega (arith, calls_past fs formed e (ds ++ (x, (None, line)) ∷ []) [] h))
  some_token (method_read e ds x line) fs formed (inr (us, (l, (z, is)), h)) = absurd (cc)
  some_token (calls_read e ds) fs formed h = absurd (omega (arith, calls_past fs formed e ds [] h))
