-- A parenthesis has to come next only after `if`, `while` and `for`.
use Rattle.std.proofs.Common.{refl, ℕ, ◌<◌, Bool, true, false, inl, inr, List, [], ◌∷◌, ◌++◌, Option, Some, None, if◌then◌else◌}
use Rattle.avs_tree.specs.Lexeme.{Lexemes, line_of, is_name, type_word_of, peek, content_at, is_punctuation}
use Rattle.avs_lex.specs.Spelling.{Text}
use Rattle.avs_tree.specs.Tree.{Expr, Kind, global, assign, return, if_, while, for, value, Arms, no_arms, arm, Else, no_else, else_, Block, no_more, then_, Function, Script, ends_with_brace}
use Rattle.avs_tree.specs.Tree as t
use Rattle.avs_tree.specs.View.{StatementIs, ArmIs, arms_of}
use Rattle.avs_tree.specs.declared.symbol.Symbol.{Symbol}
use Rattle.avs_tree.specs.declared.symbol.Symbol.TheVariants as s
use Rattle.avs_tree.specs.declared.words.Keyword.TheVariants as w
use Rattle.avs_tree.specs.declared.words.TypeWord.{TypeWord}
use Rattle.avs_tree.specs.declared.symbol.Punctuation.TheVariants as m
use Rattle.avs_tree.specs.declared.tree.Parameter.{Parameter}
use Rattle.avs_tree.specs.Machine.{operand_next, keeps, leaves, refused, ExprStep, operand, expr_step, Use, to_value, to_global, to_assign, to_return, to_arm, to_while, to_first, to_last, to_step, Owner, arm_of, else_of, while_of, for_of, Levels, top, in_function, level, depth, statement_next, in_expression, parenthesis_next, braces_next, after_arm, after_else, after_global, after_global_name, after_for, for_opened, after_for_name, HeadState, after_function, after_function_name, head_opened, after_type, after_parameter, parameter_next, function_braces_next, State, at, at_head, Step, stuck, goes, whole, close_by, end_by, in_statement, function_by, items_by, done_by, assigned, used, expression_by, body_by, arms_by, other_by, global_by, for_by, advance_statement, function_name_by, type_by, with_parameter, parameter_by, function_body_by, advance_head, advance}
use Rattle.avs_tree.specs.Grammar.{nesting_limit}
use Rattle.avs_tree.specs.Place.{IsWord}
use Rattle.avs_tree.proofs.Tokens.{in_if}
use Rattle.avs_tree.proofs.Shallow.{MayOpen}

-- a parenthesis has to come next, which opens a level
abbrev pub NeedsParenthesis : State → Type 0
NeedsParenthesis (at (parenthesis_next u) line ss ls) = Unit {0}
NeedsParenthesis (at after_for line ss ls) = Unit {0}
NeedsParenthesis (at _ line ss ls) = ⊥
NeedsParenthesis (at_head here line ss gs) = ⊥

abbrev pub WordStep : Type 0 → Option Symbol → Step → Type 0
WordStep Q x stuck = Unit {0}
WordStep Q x (goes (at (parenthesis_next u) line ss ls)) = IsWord x × Q
WordStep Q x (goes (at after_for line ss ls)) = IsWord x × Q
WordStep Q x (goes _) = Unit {0}
WordStep Q x (whole b) = Unit {0}

pub word_before : (Q : Type 0) (x : Option Symbol) (state : State) → NeedsParenthesis state → WordStep Q x (goes state) → IsWord x × Q
word_before Q x (at (parenthesis_next u) line ss ls) h word = word
word_before Q x (at after_for line ss ls) h word = word
word_before Q x (at _ line ss ls) h word = absurd h
word_before Q x (at_head here line ss gs) h word = absurd h

module _ (Q : Type 0) (q : Q) where
  word_brace : (x : Option Symbol) (ss : List StatementIs) (ls : Levels) → WordStep Q x (close_by ss ls)
  word_brace x ss (top gs) = tt
  word_brace x ss (in_function y ps line before gs) = tt
  word_brace x ss (level (arm_of arms e) line before ls) = tt
  word_brace x ss (level (else_of arms) line before ls) = tt
  word_brace x ss (level (while_of e) line before ls) = tt
  word_brace x ss (level (for_of y a b c) line before ls) = tt

  word_end : (x : Option Symbol) (ss : List StatementIs) (ls : Levels) → WordStep Q x (end_by ss ls)
  word_end x ss (top gs) = tt
  word_end x ss _ = tt

  word_operand : (x : Option Symbol) (v : ExprStep) (line : ℕ) (ss : List StatementIs) (ls : Levels) → WordStep Q x (in_statement v to_value line ss ls)
  word_operand x refused line ss ls = tt
  word_operand x (keeps now fs) line ss ls = tt
  word_operand x (leaves e) line ss ls = tt

  word_function : (x : Option Symbol) (line : ℕ) (ss : List StatementIs) (ls : Levels) → WordStep Q x (function_by line ss ls)
  word_function x line ss (top gs) = tt
  word_function x line ss _ = tt

  word_items : (x : Option Symbol) (v : ExprStep) (line : ℕ) (ss : List StatementIs) (ls : Levels) → WordStep Q x (items_by x v line ss ls)
  word_items (Some (s.Punctuation m.Newline)) v line ss ls = tt
  word_items (Some (s.Punctuation m.RightBrace)) v line ss ls = word_brace (Some (s.Punctuation m.RightBrace)) ss ls
  word_items (Some (s.Punctuation m.End)) v line ss ls = word_end (Some (s.Punctuation m.End)) ss ls
  word_items (Some (s.Keyword w.If)) v line ss ls = (inl refl, q)
  word_items (Some (s.Keyword w.While)) v line ss ls = (inr (inl refl), q)
  word_items (Some (s.Keyword w.For)) v line ss ls = (inr (inr refl), q)
  word_items (Some (s.Keyword w.Function)) v line ss ls = word_function (Some (s.Keyword w.Function)) line ss ls
  word_items (Some (s.Keyword w.Return)) v line ss ls = tt
  word_items (Some (s.Keyword w.Global)) v line ss ls = tt
  word_items x v line ss ls = word_operand x v line ss ls

  word_done : (x : Option Symbol) (ss : List StatementIs) (line : ℕ) (ls : Levels) → WordStep Q x (done_by x ss line ls)
  word_done (Some (s.Punctuation m.Newline)) ss line ls = tt
  word_done (Some (s.Punctuation m.RightBrace)) ss line ls = word_brace (Some (s.Punctuation m.RightBrace)) ss ls
  word_done (Some (s.Punctuation m.End)) ss line ls = word_end (Some (s.Punctuation m.End)) ss ls
  word_done _ ss line ls = tt

  word_assigned : (x : Option Symbol) (e : Expr) (line : ℕ) (ss : List StatementIs) (ls : Levels) → WordStep Q x (assigned e line ss ls)
  word_assigned x (t.name y l) line ss ls = tt
  word_assigned x _ line ss ls = tt

  word_used : (use_ : Use) (e : Expr) (line : ℕ) (ss : List StatementIs) (ls : Levels) (ts : Lexemes) → WordStep Q (peek ts) (used use_ e line ss ls ts)
  word_used to_value e line ss ls ts =
      in_if (WordStep Q (peek ts)) (is_punctuation m.Assign ts) (assigned e line ss ls) (done_by (peek ts) (ss ++ (value e, line) ∷ []) line ls) (λ _. word_assigned (peek ts) e line ss ls) (λ _. word_done (peek ts) (ss ++ (value e, line) ∷ []) line ls)
  word_used (to_global y) e line ss ls ts = word_done (peek ts) (ss ++ (global y e, line) ∷ []) line ls
  word_used (to_assign y) e line ss ls ts = word_done (peek ts) (ss ++ (assign y e, line) ∷ []) line ls
  word_used to_return e line ss ls ts = word_done (peek ts) (ss ++ (return e, line) ∷ []) line ls
  word_used (to_arm arms) e line ss ls ts = in_if (WordStep Q (peek ts)) (is_punctuation m.RightParen ts) (goes (at (braces_next (arm_of arms e)) line ss ls)) stuck (λ _. tt) (λ _. tt)
  word_used to_while e line ss ls ts = in_if (WordStep Q (peek ts)) (is_punctuation m.RightParen ts) (goes (at (braces_next (while_of e)) line ss ls)) stuck (λ _. tt) (λ _. tt)
  word_used (to_first y) e line ss ls ts = in_if (WordStep Q (peek ts)) (is_punctuation m.Comma ts) (goes (at (in_expression (to_last y e) operand_next []) line ss ls)) stuck (λ _. tt) (λ _. tt)
  word_used (to_last y a) e line ss ls ts =
      in_if (WordStep Q (peek ts)) (is_punctuation m.Comma ts) (goes (at (in_expression (to_step y a e) operand_next []) line ss ls)) (if is_punctuation m.RightParen ts then goes (at (braces_next (for_of y a e None)) line ss ls) else stuck) (λ _. tt)
      (λ _. in_if (WordStep Q (peek ts)) (is_punctuation m.RightParen ts) (goes (at (braces_next (for_of y a e None)) line ss ls)) stuck (λ _. tt) (λ _. tt))
  word_used (to_step y a b) e line ss ls ts = in_if (WordStep Q (peek ts)) (is_punctuation m.RightParen ts) (goes (at (braces_next (for_of y a b (Some e))) line ss ls)) stuck (λ _. tt) (λ _. tt)

  word_expression : (v : ExprStep) (use_ : Use) (line : ℕ) (ss : List StatementIs) (ls : Levels) (ts : Lexemes) → WordStep Q (peek ts) (expression_by v use_ line ss ls ts)
  word_expression refused use_ line ss ls ts = tt
  word_expression (keeps now fs) use_ line ss ls ts = tt
  word_expression (leaves e) use_ line ss ls ts = word_used use_ e line ss ls ts

  word_body : (x : Option Symbol) (o : Owner) (line : ℕ) (ss : List StatementIs) (ls : Levels) → WordStep Q x (body_by x o line ss ls)
  word_body (Some (s.Punctuation m.Newline)) o line ss ls = tt
  word_body (Some (s.Punctuation m.LeftBrace)) o line ss ls = tt
  word_body _ o line ss ls = tt

  word_arms : (x : Option Symbol) (v : ExprStep) (next : ℕ) (arms : List ArmIs) (line : ℕ) (ss : List StatementIs) (ls : Levels) → WordStep Q x (arms_by x v next arms line ss ls)
  word_arms (Some (s.Punctuation m.Newline)) v next arms line ss ls = tt
  word_arms (Some (s.Keyword w.Else)) v next arms line ss ls = tt
  word_arms x v next arms line ss ls = word_items x v next (ss ++ (if_ (arms_of arms) no_else, line) ∷ []) ls

  word_other : (x : Option Symbol) (arms : List ArmIs) (line : ℕ) (ss : List StatementIs) (ls : Levels) → WordStep Q x (other_by x arms line ss ls)
  word_other (Some (s.Keyword w.If)) arms line ss ls = (inl refl, q)
  word_other x arms line ss ls = word_body x (else_of arms) line ss ls

  word_global : (x : Option Symbol) (y : Text) (line : ℕ) (ss : List StatementIs) (ls : Levels) → WordStep Q x (global_by x y line ss ls)
  word_global (Some s.Name) y line ss ls = tt
  word_global _ y line ss ls = tt

  word_equals : (y : Text) (line : ℕ) (ss : List StatementIs) (ls : Levels) (ts : Lexemes) → WordStep Q (peek ts) (advance_statement (after_global_name y) line ss ls ts)
  word_equals y line ss ls ts = in_if (WordStep Q (peek ts)) (is_punctuation m.Assign ts) (goes (at (in_expression (to_global y) operand_next []) line ss ls)) stuck (λ _. tt) (λ _. tt)

  word_for : (x : Option Symbol) (y : Text) (line : ℕ) (ss : List StatementIs) (ls : Levels) → WordStep Q x (for_by x y line ss ls)
  word_for (Some s.Name) y line ss ls = tt
  word_for _ y line ss ls = tt

  word_for_equals : (y : Text) (line : ℕ) (ss : List StatementIs) (ls : Levels) (ts : Lexemes) → WordStep Q (peek ts) (advance_statement (after_for_name y) line ss ls ts)
  word_for_equals y line ss ls ts = in_if (WordStep Q (peek ts)) (is_punctuation m.Assign ts) (goes (at (in_expression (to_first y) operand_next []) line ss ls)) stuck (λ _. tt) (λ _. tt)

  -- ---- the head of a function

  word_name : (x : Option Symbol) (y : Text) (line : ℕ) (ss : List StatementIs) (gs : List Function) → WordStep Q x (function_name_by x y line ss gs)
  word_name (Some s.Name) y line ss gs = tt
  word_name _ y line ss gs = tt

  word_type : (x : Option Symbol) (word : Option TypeWord) (y : Text) (ps : List Parameter) (must : Bool) (line : ℕ) (ss : List StatementIs) (gs : List Function) → WordStep Q x (type_by x word y ps must line ss gs)
  word_type (Some s.Name) (Some word) y ps must line ss gs = tt
  word_type _ _ y ps must line ss gs = tt

  word_parameter : (x : Option Symbol) (z y : Text) (ps : List Parameter) (must : Bool) (word : TypeWord) (line : ℕ) (ss : List StatementIs) (gs : List Function) → WordStep Q x (parameter_by x z y ps must word line ss gs)
  word_parameter (Some s.Name) z y ps must word line ss gs = in_if (WordStep Q (Some s.Name)) must stuck (goes (at_head (after_parameter y (with_parameter ps word false z) false) line ss gs)) (λ _. tt) (λ _. tt)
  word_parameter (Some s.Str) z y ps must word line ss gs = in_if (WordStep Q (Some s.Str)) (is_name z) (goes (at_head (after_parameter y (with_parameter ps word true z) true) line ss gs)) stuck (λ _. tt) (λ _. tt)
  word_parameter _ z y ps must word line ss gs = tt

  word_function_body : (x : Option Symbol) (y : Text) (ps : List Parameter) (line : ℕ) (ss : List StatementIs) (gs : List Function) → WordStep Q x (function_body_by x y ps line ss gs)
  word_function_body (Some (s.Punctuation m.Newline)) y ps line ss gs = tt
  word_function_body (Some (s.Punctuation m.LeftBrace)) y ps line ss gs = tt
  word_function_body _ y ps line ss gs = tt

  word_head : (here : HeadState) (line : ℕ) (ss : List StatementIs) (gs : List Function) (ts : Lexemes) → WordStep Q (peek ts) (advance_head here line ss gs ts)
  word_head after_function line ss gs ts = word_name (peek ts) (content_at ts) line ss gs
  word_head (after_function_name y) line ss gs ts = in_if (WordStep Q (peek ts)) (is_punctuation m.LeftParen ts) (goes (at_head (head_opened y) line ss gs)) stuck (λ _. tt) (λ _. tt)
  word_head (head_opened y) line ss gs ts =
      in_if (WordStep Q (peek ts)) (is_punctuation m.RightParen ts) (goes (at_head (function_braces_next y []) line ss gs)) (type_by (peek ts) (type_word_of (content_at ts)) y [] false line ss gs) (λ _. tt)
      (λ _. word_type (peek ts) (type_word_of (content_at ts)) y [] false line ss gs)
  word_head (after_type y ps must word) line ss gs ts = word_parameter (peek ts) (content_at ts) y ps must word line ss gs
  word_head (after_parameter y ps must) line ss gs ts =
      in_if (WordStep Q (peek ts)) (is_punctuation m.Comma ts) (goes (at_head (parameter_next y ps must) line ss gs)) (if is_punctuation m.RightParen ts then goes (at_head (function_braces_next y ps) line ss gs) else stuck) (λ _. tt)
      (λ _. in_if (WordStep Q (peek ts)) (is_punctuation m.RightParen ts) (goes (at_head (function_braces_next y ps) line ss gs)) stuck (λ _. tt) (λ _. tt))
  word_head (parameter_next y ps must) line ss gs ts = word_type (peek ts) (type_word_of (content_at ts)) y ps must line ss gs
  word_head (function_braces_next y ps) line ss gs ts = word_function_body (peek ts) y ps line ss gs

-- no word is read where a parenthesis has to come
never : (u : Use) (line : ℕ) (ss : List StatementIs) (ls : Levels) (ts : Lexemes) → WordStep ⊥ (peek ts) (advance_statement (parenthesis_next u) line ss ls ts)
never u line ss ls ts = in_if (WordStep ⊥ (peek ts)) (is_punctuation m.LeftParen ts) (goes (at (in_expression u operand_next []) line ss ls)) stuck (λ _. tt) (λ _. tt)

never_for : (line : ℕ) (ss : List StatementIs) (ls : Levels) (ts : Lexemes) → WordStep ⊥ (peek ts) (advance_statement after_for line ss ls ts)
never_for line ss ls ts = in_if (WordStep ⊥ (peek ts)) (is_punctuation m.LeftParen ts) (goes (at for_opened line ss ls)) stuck (λ _. tt) (λ _. tt)

raise_word : (Q : Type 0) (x : Option Symbol) (step : Step) → WordStep ⊥ x step → WordStep Q x step
raise_word Q x stuck h = tt
raise_word Q x (goes (at (parenthesis_next u) line ss ls)) h = absurd h.1
raise_word Q x (goes (at after_for line ss ls)) h = absurd h.1
raise_word Q x (goes _) h = tt
raise_word Q x (whole b) h = tt

-- Where a word is read, a parenthesis may still be opened.
pub word_advance : (some : 0 < nesting_limit) (state : State) (ts : Lexemes) → WordStep (MayOpen nesting_limit some state) (peek ts) (advance state ts)
word_advance some (at statement_next line ss ls) ts = word_items (Unit {0}) tt (peek ts) (operand [] ts) (line_of ts) ss ls
word_advance some (at (in_expression use_ now fs) line ss ls) ts = word_expression (Unit {0}) tt (expr_step now fs ts) use_ line ss ls ts
word_advance some (at (parenthesis_next u) line ss ls) ts = raise_word (depth ls < nesting_limit) (peek ts) (advance_statement (parenthesis_next u) line ss ls ts) (never u line ss ls ts)
word_advance some (at (braces_next o) line ss ls) ts = word_body (Unit {0}) tt (peek ts) o line ss ls
word_advance some (at (after_arm arms) line ss ls) ts = word_arms (Unit {0}) tt (peek ts) (operand [] ts) (line_of ts) arms line ss ls
word_advance some (at (after_else arms) line ss ls) ts = word_other (Unit {0}) tt (peek ts) arms line ss ls
word_advance some (at after_global line ss ls) ts = word_global (Unit {0}) tt (peek ts) (content_at ts) line ss ls
word_advance some (at (after_global_name y) line ss ls) ts = word_equals (Unit {0}) tt y line ss ls ts
word_advance some (at after_for line ss ls) ts = raise_word (depth ls < nesting_limit) (peek ts) (advance_statement after_for line ss ls ts) (never_for line ss ls ts)
word_advance some (at for_opened line ss ls) ts = word_for (Unit {0}) tt (peek ts) (content_at ts) line ss ls
word_advance some (at (after_for_name y) line ss ls) ts = word_for_equals (Unit {0}) tt y line ss ls ts
word_advance some (at_head here line ss gs) ts = word_head (Unit {0}) tt here line ss gs ts
