-- What a token does depends on no token after it.
use Rattle.std.proofs.Common.{◌≡◌, refl, ap, ◌∙◌, ℕ, List, [], ◌∷◌, ◌++◌, None, if◌then◌else◌}
use Rattle.avs_tree.specs.Lexeme.{Lexeme, Lexemes, is_punctuation, operator_at}
use Rattle.avs_tree.specs.Tree.{Expr, method_calls, Function}
use Rattle.avs_tree.specs.Tree as t
use Rattle.avs_tree.specs.View.{StatementIs, MethodCallIs, method_calls_of}
use Rattle.avs_tree.specs.Machine.{Open, paren, argument, minus_of, not_of, chain_of, compare_of, yes_of, no_of, ExprState, operand_next, value_read, name_read, args_opened, dot_read, method_read, calls_read, call_of, method_of, ExprStep, refused, leaves, keeps, operand, grow, continues, grows, Closing, no_closing, taken, reopened, closed, closing_argument, closing, by_closing, close, after, after_calls, expr_step, StatementState, statement_next, in_expression, parenthesis_next, braces_next, after_arm, after_else, after_global, after_global_name, after_for, for_opened, after_for_name, HeadState, after_function, after_function_name, head_opened, after_type, after_parameter, parameter_next, function_braces_next, State, at, at_head, Levels, used, expression_by, Use, to_value, to_global, to_assign, to_return, to_arm, to_while, to_first, to_last, to_step, advance_statement, advance_head, advance}
use Rattle.avs_tree.specs.declared.symbol.Punctuation.TheVariants as m

same_by_closing : (c : Closing) (fs : List Open) (go other : ℕ → Expr → ExprStep) → ((k : ℕ) (e : Expr) → go k e ≡ other k e) → by_closing c fs go ≡ by_closing c fs other
same_by_closing no_closing fs go other same = refl
same_by_closing (taken now) fs go other same = refl
same_by_closing (reopened f) fs go other same = refl
same_by_closing (closed k e) fs go other same = same k e

module _ (x : Lexeme) (ts us : Lexemes) where
  same_closing : (f : Open) (e : Expr) → closing e f (x ∷ ts) ≡ closing e f (x ∷ us)
  unfolding is_punctuation operator_at closing_argument
  same_closing paren e = refl
  same_closing (argument c found y) e = refl
  same_closing (minus_of line) e = refl
  same_closing (not_of line) e = refl
  same_closing (chain_of first ss op line) e = refl
  same_closing (compare_of op first line) e = refl
  same_closing (yes_of f line) e = refl
  same_closing (no_of f yes_ line) e = refl

  same_close : (fs : List Open) (e : Expr) → close e fs (x ∷ ts) ≡ close e fs (x ∷ us)
  unfolding continues grow
  same_close [] e = refl
  same_close (f ∷ fs) e =
      ap (λ c. by_closing c fs (λ k whole. after k whole fs (x ∷ ts))) (same_closing f e)
      ∙ same_by_closing (closing e f (x ∷ us)) fs (λ k whole. after k whole fs (x ∷ ts)) (λ k whole. after k whole fs (x ∷ us)) (λ k whole. ap (λ z. if grows k fs (x ∷ ts) then grow whole fs (x ∷ ts) else z) (same_close fs whole))

  same_after : (k : ℕ) (e : Expr) (fs : List Open) → after k e fs (x ∷ ts) ≡ after k e fs (x ∷ us)
  unfolding continues grow
  same_after k e fs = ap (λ z. if grows k fs (x ∷ ts) then grow e fs (x ∷ ts) else z) (same_close fs e)

  same_calls : (e : Expr) (ds : List MethodCallIs) (fs : List Open) → after_calls e ds fs (x ∷ ts) ≡ after_calls e ds fs (x ∷ us)
  unfolding is_punctuation
  same_calls e ds fs = ap (λ z. if is_punctuation m.Dot (x ∷ ts) then keeps (dot_read e ds) fs else z) (same_after 1 (method_calls e (method_calls_of ds)) fs)

  same_expr_step : (now : ExprState) (fs : List Open) → expr_step now fs (x ∷ ts) ≡ expr_step now fs (x ∷ us)
  unfolding is_punctuation operand
  same_expr_step operand_next fs = refl
  same_expr_step (value_read k e) fs = same_after k e fs
  same_expr_step (name_read y line) fs = ap (λ z. if is_punctuation m.LeftParen (x ∷ ts) then keeps (args_opened (call_of y line)) fs else z) (same_after 0 (t.name y line) fs)
  same_expr_step (args_opened c) fs = refl
  same_expr_step (dot_read e ds) fs = refl
  same_expr_step (method_read e ds y line) fs =
      ap (λ z. if is_punctuation m.LeftParen (x ∷ ts) then keeps (args_opened (method_of e ds y line)) fs else z) (same_calls e (ds ++ (y, (None, line)) ∷ []) fs)
  same_expr_step (calls_read e ds) fs = same_calls e ds fs

  same_used : (use_ : Use) (e : Expr) (line : ℕ) (ss : List StatementIs) (ls : Levels) → used use_ e line ss ls (x ∷ ts) ≡ used use_ e line ss ls (x ∷ us)
  unfolding is_punctuation
  same_used to_value e line ss ls = refl
  same_used (to_global y) e line ss ls = refl
  same_used (to_assign y) e line ss ls = refl
  same_used to_return e line ss ls = refl
  same_used (to_arm arms) e line ss ls = refl
  same_used to_while e line ss ls = refl
  same_used (to_first y) e line ss ls = refl
  same_used (to_last y a) e line ss ls = refl
  same_used (to_step y a b) e line ss ls = refl

  same_by : (z : ExprStep) (use_ : Use) (line : ℕ) (ss : List StatementIs) (ls : Levels) → expression_by z use_ line ss ls (x ∷ ts) ≡ expression_by z use_ line ss ls (x ∷ us)
  same_by refused use_ line ss ls = refl
  same_by (keeps now fs) use_ line ss ls = refl
  same_by (leaves e) use_ line ss ls = same_used use_ e line ss ls

  same_statement : (here : StatementState) (line : ℕ) (ss : List StatementIs) (ls : Levels) → advance_statement here line ss ls (x ∷ ts) ≡ advance_statement here line ss ls (x ∷ us)
  unfolding is_punctuation operand
  same_statement statement_next line ss ls = refl
  same_statement (in_expression use_ now fs) line ss ls = ap (λ z. expression_by z use_ line ss ls (x ∷ ts)) (same_expr_step now fs) ∙ same_by (expr_step now fs (x ∷ us)) use_ line ss ls
  same_statement (parenthesis_next use_) line ss ls = refl
  same_statement (braces_next o) line ss ls = refl
  same_statement (after_arm arms) line ss ls = refl
  same_statement (after_else arms) line ss ls = refl
  same_statement after_global line ss ls = refl
  same_statement (after_global_name y) line ss ls = refl
  same_statement after_for line ss ls = refl
  same_statement for_opened line ss ls = refl
  same_statement (after_for_name y) line ss ls = refl

  same_head : (here : HeadState) (line : ℕ) (ss : List StatementIs) (gs : List Function) → advance_head here line ss gs (x ∷ ts) ≡ advance_head here line ss gs (x ∷ us)
  unfolding is_punctuation
  same_head after_function line ss gs = refl
  same_head (after_function_name y) line ss gs = refl
  same_head (head_opened y) line ss gs = refl
  same_head (after_type y ps must word) line ss gs = refl
  same_head (after_parameter y ps must) line ss gs = refl
  same_head (parameter_next y ps must) line ss gs = refl
  same_head (function_braces_next y ps) line ss gs = refl

  pub same_advance : (state : State) → advance state (x ∷ ts) ≡ advance state (x ∷ us)
  same_advance (at here line ss ls) = same_statement here line ss ls
  same_advance (at_head here line ss gs) = same_head here line ss gs
