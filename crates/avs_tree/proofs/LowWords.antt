-- `if`, `while` and `for` open no level.
use Rattle.std.proofs.Common.{◌≡◌, sym, subst, inl, inr, ◌≤◌, arith, ℕ, List, [], ◌∷◌, ◌++◌, Some, None}
use Rattle.avs_tree.specs.Lexeme.{Lexeme, Lexemes, precedence_of, is_punctuation, operator_at}
use Rattle.avs_lex.specs.Spelling.{Text}
use Rattle.avs_tree.specs.Tree.{Expr, method_calls, minus, not_, chain, compare, conditional, Function}
use Rattle.avs_tree.specs.Tree as t
use Rattle.avs_tree.specs.View.{StatementIs, method_calls_of, steps_of}
use Rattle.avs_tree.specs.Machine.{Open, paren, argument, minus_of, not_of, chain_of, compare_of, yes_of, no_of, ExprState, operand_next, value_read, name_read, args_opened, dot_read, method_read, calls_read, ExprStep, refused, keeps, leaves, operand_by, operand, grow, grows, closing_argument, close, after, expr_step, Use, to_value, to_global, to_assign, to_return, to_arm, to_while, to_first, to_last, to_step, Levels, depth, after_for, for_opened, after_for_name, HeadState, after_function, after_function_name, head_opened, after_type, after_parameter, parameter_next, function_braces_next, State, at, at_head, advance_statement, advance_head, StatementState, statement_next, in_expression, parenthesis_next, braces_next, after_arm, after_else, after_global, after_global_name, Step, stuck, goes, whole, expression_by, advance, level_of}
use Rattle.avs_tree.specs.Place.{IsWord}
use Rattle.avs_tree.specs.declared.symbol.Symbol.TheVariants as s
use Rattle.avs_tree.specs.declared.words.Keyword.{Keyword}
use Rattle.avs_tree.specs.declared.words.Keyword.TheVariants as w
use Rattle.avs_tree.proofs.Tokens.{in_if}

abbrev pub NotOn : ExprStep → Type 0
NotOn refused = Unit {0}
NotOn (keeps now fs) = ⊥
NotOn (leaves e) = Unit {0}

abbrev pub LowStep : ℕ → Step → Type 0
LowStep most stuck = Unit {0}
LowStep most (goes state) = level_of state ≤ most
LowStep most (whole b) = Unit {0}

module _ (k : Keyword) (x : Text) (l : ℕ) (ts : Lexemes) (plain : (fs : List Open) → NotOn (operand_by (Some (s.Keyword k)) fs x l)) where
  quiet_close : (fs : List Open) (e : Expr) → NotOn (close e fs ((s.Keyword k, x, l) ∷ ts))
  unfolding is_punctuation operator_at closing_argument grow
  quiet_close [] e = tt
  quiet_close (paren ∷ fs) e = tt
  quiet_close (argument c found y ∷ fs) e = tt
  quiet_close (minus_of line ∷ fs) e = in_if NotOn (grows 2 fs ((s.Keyword k, x, l) ∷ ts)) (grow (minus e line) fs ((s.Keyword k, x, l) ∷ ts)) (close (minus e line) fs ((s.Keyword k, x, l) ∷ ts)) (λ _. tt) (λ _. quiet_close fs (minus e line))
  quiet_close (not_of line ∷ fs) e = in_if NotOn (grows 2 fs ((s.Keyword k, x, l) ∷ ts)) (grow (not_ e line) fs ((s.Keyword k, x, l) ∷ ts)) (close (not_ e line) fs ((s.Keyword k, x, l) ∷ ts)) (λ _. tt) (λ _. quiet_close fs (not_ e line))
  quiet_close (chain_of first ss op line ∷ fs) e =
      let whole_ = chain first (steps_of (ss ++ (op, (e, line)) ∷ [])) in
      in_if NotOn (grows (precedence_of op) fs ((s.Keyword k, x, l) ∷ ts)) (grow whole_ fs ((s.Keyword k, x, l) ∷ ts)) (close whole_ fs ((s.Keyword k, x, l) ∷ ts)) (λ _. tt) (λ _. quiet_close fs whole_)
  quiet_close (compare_of op first line ∷ fs) e =
      in_if NotOn (grows 5 fs ((s.Keyword k, x, l) ∷ ts)) (grow (compare op first e line) fs ((s.Keyword k, x, l) ∷ ts)) (close (compare op first e line) fs ((s.Keyword k, x, l) ∷ ts)) (λ _. tt) (λ _. quiet_close fs (compare op first e line))
  quiet_close (yes_of f line ∷ fs) e = tt
  quiet_close (no_of f yes_ line ∷ fs) e =
      in_if NotOn (grows 8 fs ((s.Keyword k, x, l) ∷ ts)) (grow (conditional f yes_ e line) fs ((s.Keyword k, x, l) ∷ ts)) (close (conditional f yes_ e line) fs ((s.Keyword k, x, l) ∷ ts)) (λ _. tt) (λ _. quiet_close fs (conditional f yes_ e line))

  quiet_after : (n : ℕ) (e : Expr) (fs : List Open) → NotOn (after n e fs ((s.Keyword k, x, l) ∷ ts))
  unfolding grow
  quiet_after n e fs = in_if NotOn (grows n fs ((s.Keyword k, x, l) ∷ ts)) (grow e fs ((s.Keyword k, x, l) ∷ ts)) (close e fs ((s.Keyword k, x, l) ∷ ts)) (λ _. tt) (λ _. quiet_close fs e)

  quiet_expr_step : (now : ExprState) (fs : List Open) → NotOn (expr_step now fs ((s.Keyword k, x, l) ∷ ts))
  unfolding is_punctuation operand
  quiet_expr_step operand_next fs = plain fs
  quiet_expr_step (value_read n e) fs = quiet_after n e fs
  quiet_expr_step (name_read y line) fs = quiet_after 0 (t.name y line) fs
  quiet_expr_step (args_opened c) fs = plain (argument c [] None ∷ fs)
  quiet_expr_step (dot_read e ds) fs = tt
  quiet_expr_step (method_read e ds y line) fs = quiet_after 1 (method_calls e (method_calls_of (ds ++ (y, (None, line)) ∷ []))) fs
  quiet_expr_step (calls_read e ds) fs = quiet_after 1 (method_calls e (method_calls_of ds)) fs

  low_used : (most : ℕ) (use_ : Use) (e : Expr) (line : ℕ) (ss : List StatementIs) (ls : Levels) → LowStep most (expression_by (leaves e) use_ line ss ls ((s.Keyword k, x, l) ∷ ts))
  unfolding is_punctuation
  low_used most to_value e line ss ls = tt
  low_used most (to_global y) e line ss ls = tt
  low_used most (to_assign y) e line ss ls = tt
  low_used most to_return e line ss ls = tt
  low_used most (to_arm arms) e line ss ls = tt
  low_used most to_while e line ss ls = tt
  low_used most (to_first y) e line ss ls = tt
  low_used most (to_last y a) e line ss ls = tt
  low_used most (to_step y a b) e line ss ls = tt

  low_expression : (most : ℕ) (z : ExprStep) (use_ : Use) (line : ℕ) (ss : List StatementIs) (ls : Levels) → NotOn z → LowStep most (expression_by z use_ line ss ls ((s.Keyword k, x, l) ∷ ts))
  low_expression most refused use_ line ss ls h = tt
  low_expression most (keeps now fs) use_ line ss ls h = absurd h
  low_expression most (leaves e) use_ line ss ls h = low_used most use_ e line ss ls

module _ (most : ℕ) (x : Text) (l : ℕ) (ts : Lexemes) where
  low_if : (here : StatementState) (line : ℕ) (ss : List StatementIs) (ls : Levels) → depth ls ≤ most → LowStep most (advance_statement here line ss ls ((s.Keyword w.If, x, l) ∷ ts))
  unfolding is_punctuation
  low_if statement_next line ss ls low = omega arith
  low_if (in_expression use_ now fs) line ss ls low = low_expression w.If x l ts (λ fs. tt) most (expr_step now fs ((s.Keyword w.If, x, l) ∷ ts)) use_ line ss ls (quiet_expr_step w.If x l ts (λ fs. tt) now fs)
  low_if (parenthesis_next u) line ss ls low = tt
  low_if (braces_next o) line ss ls low = tt
  low_if (after_arm arms) line ss ls low = omega arith
  low_if (after_else arms) line ss ls low = omega arith
  low_if after_global line ss ls low = tt
  low_if (after_global_name y) line ss ls low = tt
  low_if after_for line ss ls low = tt
  low_if for_opened line ss ls low = tt
  low_if (after_for_name y) line ss ls low = tt

  low_while : (here : StatementState) (line : ℕ) (ss : List StatementIs) (ls : Levels) → depth ls ≤ most → LowStep most (advance_statement here line ss ls ((s.Keyword w.While, x, l) ∷ ts))
  unfolding is_punctuation
  low_while statement_next line ss ls low = omega arith
  low_while (in_expression use_ now fs) line ss ls low = low_expression w.While x l ts (λ fs. tt) most (expr_step now fs ((s.Keyword w.While, x, l) ∷ ts)) use_ line ss ls (quiet_expr_step w.While x l ts (λ fs. tt) now fs)
  low_while (parenthesis_next u) line ss ls low = tt
  low_while (braces_next o) line ss ls low = tt
  low_while (after_arm arms) line ss ls low = omega arith
  low_while (after_else arms) line ss ls low = tt
  low_while after_global line ss ls low = tt
  low_while (after_global_name y) line ss ls low = tt
  low_while after_for line ss ls low = tt
  low_while for_opened line ss ls low = tt
  low_while (after_for_name y) line ss ls low = tt

  low_for : (here : StatementState) (line : ℕ) (ss : List StatementIs) (ls : Levels) → depth ls ≤ most → LowStep most (advance_statement here line ss ls ((s.Keyword w.For, x, l) ∷ ts))
  unfolding is_punctuation
  low_for statement_next line ss ls low = omega arith
  low_for (in_expression use_ now fs) line ss ls low = low_expression w.For x l ts (λ fs. tt) most (expr_step now fs ((s.Keyword w.For, x, l) ∷ ts)) use_ line ss ls (quiet_expr_step w.For x l ts (λ fs. tt) now fs)
  low_for (parenthesis_next u) line ss ls low = tt
  low_for (braces_next o) line ss ls low = tt
  low_for (after_arm arms) line ss ls low = omega arith
  low_for (after_else arms) line ss ls low = tt
  low_for after_global line ss ls low = tt
  low_for (after_global_name y) line ss ls low = tt
  low_for after_for line ss ls low = tt
  low_for for_opened line ss ls low = tt
  low_for (after_for_name y) line ss ls low = tt

  low_if_head : (here : HeadState) (line : ℕ) (ss : List StatementIs) (gs : List Function) → LowStep most (advance_head here line ss gs ((s.Keyword w.If, x, l) ∷ ts))
  unfolding is_punctuation
  low_if_head after_function line ss gs = tt
  low_if_head (after_function_name y) line ss gs = tt
  low_if_head (head_opened y) line ss gs = tt
  low_if_head (after_type y ps must word) line ss gs = tt
  low_if_head (after_parameter y ps must) line ss gs = tt
  low_if_head (parameter_next y ps must) line ss gs = tt
  low_if_head (function_braces_next y ps) line ss gs = tt

  low_while_head : (here : HeadState) (line : ℕ) (ss : List StatementIs) (gs : List Function) → LowStep most (advance_head here line ss gs ((s.Keyword w.While, x, l) ∷ ts))
  unfolding is_punctuation
  low_while_head after_function line ss gs = tt
  low_while_head (after_function_name y) line ss gs = tt
  low_while_head (head_opened y) line ss gs = tt
  low_while_head (after_type y ps must word) line ss gs = tt
  low_while_head (after_parameter y ps must) line ss gs = tt
  low_while_head (parameter_next y ps must) line ss gs = tt
  low_while_head (function_braces_next y ps) line ss gs = tt

  low_for_head : (here : HeadState) (line : ℕ) (ss : List StatementIs) (gs : List Function) → LowStep most (advance_head here line ss gs ((s.Keyword w.For, x, l) ∷ ts))
  unfolding is_punctuation
  low_for_head after_function line ss gs = tt
  low_for_head (after_function_name y) line ss gs = tt
  low_for_head (head_opened y) line ss gs = tt
  low_for_head (after_type y ps must word) line ss gs = tt
  low_for_head (after_parameter y ps must) line ss gs = tt
  low_for_head (parameter_next y ps must) line ss gs = tt
  low_for_head (function_braces_next y ps) line ss gs = tt

abbrev pub Few : ℕ → State → Type 0
Few most (at here line ss ls) = depth ls ≤ most
Few most (at_head here line ss gs) = Unit {0}

low_by : (most : ℕ) (k : Keyword) (token : Lexeme) (ts : Lexemes) (state : State) → Some token.0 ≡ Some (s.Keyword k) → LowStep most (advance state ((s.Keyword k, token.1, token.2) ∷ ts)) → LowStep most (advance state (token ∷ ts))
low_by most k token ts state is h = let same : token.0 ≡ s.Keyword k = cc in subst (λ z. LowStep most (advance state ((z, token.1, token.2) ∷ ts))) (sym same) h

pub low_word : (most : ℕ) (token : Lexeme) (ts : Lexemes) (state : State) → Few most state → IsWord (Some token.0) → LowStep most (advance state (token ∷ ts))
low_word most token ts (at here line ss ls) low (inl is) = low_by most w.If token ts (at here line ss ls) is (low_if most token.1 token.2 ts here line ss ls low)
low_word most token ts (at here line ss ls) low (inr (inl is)) = low_by most w.While token ts (at here line ss ls) is (low_while most token.1 token.2 ts here line ss ls low)
low_word most token ts (at here line ss ls) low (inr (inr is)) = low_by most w.For token ts (at here line ss ls) is (low_for most token.1 token.2 ts here line ss ls low)
low_word most token ts (at_head here line ss gs) low (inl is) = low_by most w.If token ts (at_head here line ss gs) is (low_if_head most token.1 token.2 ts here line ss gs)
low_word most token ts (at_head here line ss gs) low (inr (inl is)) = low_by most w.While token ts (at_head here line ss gs) is (low_while_head most token.1 token.2 ts here line ss gs)
low_word most token ts (at_head here line ss gs) low (inr (inr is)) = low_by most w.For token ts (at_head here line ss gs) is (low_for_head most token.1 token.2 ts here line ss gs)
