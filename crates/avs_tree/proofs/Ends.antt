-- The end of a script is told: tokens that end with it are accepted, or one of them is the place of a fault.
use Rattle.std.proofs.Common.{◌≡◌, sym, subst, ℕ, suc, List, [], ◌∷◌, ◌++◌, length, None}
use Rattle.avs_tree.specs.Lexeme.{Lexeme, Lexemes, is_punctuation, precedence_of, operator_at}
use Rattle.avs_lex.specs.Spelling.{Text}
use Rattle.avs_tree.specs.Tree.{Expr, Kind, global, assign, return, if_, while, for, value, Arms, no_arms, arm, Else, no_else, else_, Block, no_more, then_, Function, Script, ends_with_brace, method_calls, minus, not_, chain, compare, conditional}
use Rattle.avs_tree.specs.Tree as t
use Rattle.avs_tree.specs.View.{StatementIs, arms_of}
use Rattle.avs_tree.specs.declared.symbol.Symbol.TheVariants as s
use Rattle.avs_tree.specs.declared.symbol.Punctuation.TheVariants as m
use Rattle.avs_tree.specs.Machine.{operand_next, keeps, leaves, refused, ExprStep, ExprState, Open, operand, expr_step, start, Use, to_value, to_global, to_assign, to_return, to_arm, to_while, to_first, to_last, to_step, Levels, top, statement_next, in_expression, parenthesis_next, braces_next, after_arm, after_else, after_global, after_global_name, after_for, for_opened, after_for_name, after_function, after_function_name, head_opened, after_type, after_parameter, parameter_next, function_braces_next, State, at, at_head, Step, stuck, goes, whole, end_by, used, expression_by, advance, paren, argument, minus_of, not_of, chain_of, compare_of, yes_of, no_of, value_read, name_read, args_opened, dot_read, method_read, calls_read, grow, grows, closing_argument, close, after, level_of}
use Rattle.avs_tree.specs.View.{method_calls_of, steps_of}
use Rattle.avs_tree.specs.Grammar.{nesting_limit}
use Rattle.std.specs.Prelude.{nat_le}
use Rattle.avs_tree.specs.Place.{Verdict, stops, too_deep, alone, go_on, run, verdict}
use Rattle.avs_tree.proofs.Tokens.{in_if}
use Rattle.avs_tree.proofs.LowWords.{NotOn}

abbrev NotGoes : Step → Type 0
NotGoes stuck = Unit {0}
NotGoes (goes state) = ⊥
NotGoes (whole b) = Unit {0}

module _ (x : Text) (l : ℕ) (ts : Lexemes) where
  -- ---- no expression goes on with the end

  quiet_close : (fs : List Open) (e : Expr) → NotOn (close e fs ((s.Punctuation m.End, x, l) ∷ ts))
  unfolding is_punctuation operator_at closing_argument grow
  quiet_close [] e = tt
  quiet_close (paren ∷ fs) e = tt
  quiet_close (argument c found y ∷ fs) e = tt
  quiet_close (minus_of line ∷ fs) e = in_if NotOn (grows 2 fs ((s.Punctuation m.End, x, l) ∷ ts)) (grow (minus e line) fs ((s.Punctuation m.End, x, l) ∷ ts)) (close (minus e line) fs ((s.Punctuation m.End, x, l) ∷ ts)) (λ _. tt) (λ _. quiet_close fs (minus e line))
  quiet_close (not_of line ∷ fs) e = in_if NotOn (grows 2 fs ((s.Punctuation m.End, x, l) ∷ ts)) (grow (not_ e line) fs ((s.Punctuation m.End, x, l) ∷ ts)) (close (not_ e line) fs ((s.Punctuation m.End, x, l) ∷ ts)) (λ _. tt) (λ _. quiet_close fs (not_ e line))
  quiet_close (chain_of first ss op line ∷ fs) e =
      let whole_ = chain first (steps_of (ss ++ (op, (e, line)) ∷ [])) in
      in_if NotOn (grows (precedence_of op) fs ((s.Punctuation m.End, x, l) ∷ ts)) (grow whole_ fs ((s.Punctuation m.End, x, l) ∷ ts)) (close whole_ fs ((s.Punctuation m.End, x, l) ∷ ts)) (λ _. tt) (λ _. quiet_close fs whole_)
  quiet_close (compare_of op first line ∷ fs) e =
      in_if NotOn (grows 5 fs ((s.Punctuation m.End, x, l) ∷ ts)) (grow (compare op first e line) fs ((s.Punctuation m.End, x, l) ∷ ts)) (close (compare op first e line) fs ((s.Punctuation m.End, x, l) ∷ ts)) (λ _. tt) (λ _. quiet_close fs (compare op first e line))
  quiet_close (yes_of f line ∷ fs) e = tt
  quiet_close (no_of f yes_ line ∷ fs) e =
      in_if NotOn (grows 8 fs ((s.Punctuation m.End, x, l) ∷ ts)) (grow (conditional f yes_ e line) fs ((s.Punctuation m.End, x, l) ∷ ts)) (close (conditional f yes_ e line) fs ((s.Punctuation m.End, x, l) ∷ ts)) (λ _. tt) (λ _. quiet_close fs (conditional f yes_ e line))

  quiet_after : (n : ℕ) (e : Expr) (fs : List Open) → NotOn (after n e fs ((s.Punctuation m.End, x, l) ∷ ts))
  unfolding grow
  quiet_after n e fs = in_if NotOn (grows n fs ((s.Punctuation m.End, x, l) ∷ ts)) (grow e fs ((s.Punctuation m.End, x, l) ∷ ts)) (close e fs ((s.Punctuation m.End, x, l) ∷ ts)) (λ _. tt) (λ _. quiet_close fs e)

  quiet_expr_step : (now : ExprState) (fs : List Open) → NotOn (expr_step now fs ((s.Punctuation m.End, x, l) ∷ ts))
  unfolding is_punctuation operand
  quiet_expr_step operand_next fs = tt
  quiet_expr_step (value_read n e) fs = quiet_after n e fs
  quiet_expr_step (name_read y line) fs = quiet_after 0 (t.name y line) fs
  quiet_expr_step (args_opened c) fs = tt
  quiet_expr_step (dot_read e ds) fs = tt
  quiet_expr_step (method_read e ds y line) fs = quiet_after 1 (method_calls e (method_calls_of (ds ++ (y, (None, line)) ∷ []))) fs
  quiet_expr_step (calls_read e ds) fs = quiet_after 1 (method_calls e (method_calls_of ds)) fs

  -- ---- nor does anything else

  end_stops : (ss : List StatementIs) (ls : Levels) → NotGoes (end_by ss ls)
  end_stops ss (top gs) = tt
  end_stops ss _ = tt

  end_used : (use_ : Use) (e : Expr) (line : ℕ) (ss : List StatementIs) (ls : Levels) → NotGoes (used use_ e line ss ls ((s.Punctuation m.End, x, l) ∷ ts))
  unfolding is_punctuation
  end_used to_value e line ss ls = end_stops (ss ++ (value e, line) ∷ []) ls
  end_used (to_global y) e line ss ls = end_stops (ss ++ (global y e, line) ∷ []) ls
  end_used (to_assign y) e line ss ls = end_stops (ss ++ (assign y e, line) ∷ []) ls
  end_used to_return e line ss ls = end_stops (ss ++ (return e, line) ∷ []) ls
  end_used (to_arm arms) e line ss ls = tt
  end_used to_while e line ss ls = tt
  end_used (to_first y) e line ss ls = tt
  end_used (to_last y a) e line ss ls = tt
  end_used (to_step y a b) e line ss ls = tt

  end_expression : (step : ExprStep) (use_ : Use) (line : ℕ) (ss : List StatementIs) (ls : Levels) → NotOn step → NotGoes (expression_by step use_ line ss ls ((s.Punctuation m.End, x, l) ∷ ts))
  end_expression refused use_ line ss ls h = tt
  end_expression (keeps now fs) use_ line ss ls h = absurd h
  end_expression (leaves e) use_ line ss ls h = end_used use_ e line ss ls

  end_token : (state : State) → NotGoes (advance state ((s.Punctuation m.End, x, l) ∷ ts))
  unfolding is_punctuation
  end_token (at statement_next line ss ls) = end_stops ss ls
  end_token (at (in_expression use_ now fs) line ss ls) = end_expression (expr_step now fs ((s.Punctuation m.End, x, l) ∷ ts)) use_ line ss ls (quiet_expr_step now fs)
  end_token (at (parenthesis_next u) line ss ls) = tt
  end_token (at (braces_next o) line ss ls) = tt
  end_token (at (after_arm arms) line ss ls) = end_stops (ss ++ (if_ (arms_of arms) no_else, line) ∷ []) ls
  end_token (at (after_else arms) line ss ls) = tt
  end_token (at after_global line ss ls) = tt
  end_token (at (after_global_name y) line ss ls) = tt
  end_token (at after_for line ss ls) = tt
  end_token (at for_opened line ss ls) = tt
  end_token (at (after_for_name y) line ss ls) = tt
  end_token (at_head after_function line ss gs) = tt
  end_token (at_head (after_function_name y) line ss gs) = tt
  end_token (at_head (head_opened y) line ss gs) = tt
  end_token (at_head (after_type y ps must word) line ss gs) = tt
  end_token (at_head (after_parameter y ps must) line ss gs) = tt
  end_token (at_head (parameter_next y ps must) line ss gs) = tt
  end_token (at_head (function_braces_next y ps) line ss gs) = tt

-- ---- runs

abbrev Told : Verdict → Type 0
Told v = v ≡ stops 0 → ⊥

alone_told : (tree : Script) (ts : Lexemes) → Told (alone tree ts)
alone_told tree [] is = absurd (cc)
alone_told tree (t ∷ ts) is = absurd (cc)

last_told : (step : Step) (next : State → Verdict) → NotGoes step → Told (go_on step [] next)
last_told stuck next h is = absurd (cc)
last_told (goes state) next h is = absurd h
last_told (whole tree) next h is = absurd (cc)

more_told : (step : Step) (ts : Lexemes) (next : State → Verdict) → ((state : State) → Told (next state)) → Told (go_on step ts next)
more_told stuck ts next go = λ is. absurd (cc)
more_told (goes state) ts next go = in_if Told (nat_le (level_of state) nesting_limit) (next state) (too_deep (suc (length ts))) (λ _. go state) (λ _ is. absurd (cc))
more_told (whole tree) ts next go = alone_told tree ts

run_told : (before : Lexemes) (x : Text) (l : ℕ) (state : State) → Told (run state (before ++ (s.Punctuation m.End, x, l) ∷ []))
run_told [] x l state = last_told (advance state ((s.Punctuation m.End, x, l) ∷ [])) (λ next. run next []) (end_token x l [] state)
run_told (t ∷ before) x l state =
    more_told (advance state (t ∷ before ++ (s.Punctuation m.End, x, l) ∷ [])) (before ++ (s.Punctuation m.End, x, l) ∷ []) (λ next. run next (before ++ (s.Punctuation m.End, x, l) ∷ [])) (run_told before x l)

pub end_is_told : (before : Lexemes) (last : Lexeme) → last.0 ≡ s.Punctuation m.End → verdict (before ++ last ∷ []) ≡ stops 0 → ⊥
unfolding verdict
end_is_told before last end = subst (λ z. Told (run start (before ++ (z, last.1, last.2) ∷ []))) (sym end) (run_told before last.1 last.2 start)
