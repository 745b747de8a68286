-- Operators stand at their precedences, whatever of a script is read.
use Rattle.std.proofs.Common.{ℕ, Bool, true, false, List, [], ◌∷◌, ◌++◌, Option, Some, None, if◌then◌else◌}
use Rattle.avs_tree.specs.Lexeme.{Lexemes, line_of, is_name, type_word_of, peek, content_at, is_punctuation}
use Rattle.avs_lex.specs.Spelling.{Text}
use Rattle.avs_tree.specs.Tree.{Expr, Kind, global, assign, return, if_, while, for, value, Arms, no_arms, arm, Else, no_else, else_, Block, no_more, then_, Function, Script, ends_with_brace}
use Rattle.avs_tree.specs.Tree as t
use Rattle.avs_tree.specs.View.{StatementIs, ArmIs, arms_of}
use Rattle.avs_tree.specs.declared.symbol.Symbol.{Symbol}
use Rattle.avs_tree.specs.declared.symbol.Symbol.TheVariants as s
use Rattle.avs_tree.specs.declared.words.Keyword.TheVariants as w
use Rattle.avs_tree.specs.declared.words.TypeWord.{TypeWord}
use Rattle.avs_tree.specs.declared.symbol.Punctuation.TheVariants as m
use Rattle.avs_tree.specs.declared.tree.Parameter.{Parameter}
use Rattle.avs_tree.specs.Machine.{operand_next, keeps, leaves, refused, ExprStep, operand, expr_step, Use, to_value, to_global, to_assign, to_return, to_arm, to_while, to_first, to_last, to_step, Owner, arm_of, else_of, while_of, for_of, Levels, top, in_function, level, StatementState, statement_next, in_expression, parenthesis_next, braces_next, after_arm, after_else, after_global, after_global_name, after_for, for_opened, after_for_name, HeadState, after_function, after_function_name, head_opened, after_type, after_parameter, parameter_next, function_braces_next, State, at, at_head, Step, stuck, goes, whole, close_by, end_by, in_statement, function_by, items_by, done_by, assigned, used, expression_by, body_by, arms_by, other_by, global_by, for_by, advance_statement, function_name_by, type_by, with_parameter, parameter_by, function_body_by, advance_head, advance}
use Rattle.avs_tree.proofs.Tokens.{in_if}
use Rattle.avs_tree.proofs.Formed.{FormedExprStep, formed_operand, formed_expr_step}
use Rattle.avs_tree.proofs.ForwardScript.{FormedStatement, FormedState}

abbrev pub FormedStep : Step → Type 0
FormedStep stuck = Unit {0}
FormedStep (goes state) = FormedState state
FormedStep (whole b) = Unit {0}

formed_brace : (ss : List StatementIs) (ls : Levels) → FormedStep (close_by ss ls)
formed_brace ss (top gs) = tt
formed_brace ss (in_function y ps line before gs) = tt
formed_brace ss (level (arm_of arms e) line before ls) = tt
formed_brace ss (level (else_of arms) line before ls) = tt
formed_brace ss (level (while_of e) line before ls) = tt
formed_brace ss (level (for_of y a b c) line before ls) = tt

formed_end : (ss : List StatementIs) (ls : Levels) → FormedStep (end_by ss ls)
formed_end ss (top gs) = tt
formed_end ss _ = tt

formed_operand_step : (x : ExprStep) (line : ℕ) (ss : List StatementIs) (ls : Levels) → FormedExprStep x → FormedStep (in_statement x to_value line ss ls)
formed_operand_step refused line ss ls h = tt
formed_operand_step (keeps now fs) line ss ls h = h
formed_operand_step (leaves e) line ss ls h = tt

formed_function : (line : ℕ) (ss : List StatementIs) (ls : Levels) → FormedStep (function_by line ss ls)
formed_function line ss (top gs) = tt
formed_function line ss _ = tt

formed_items : (x : Option Symbol) (expr_step : ExprStep) (line : ℕ) (ss : List StatementIs) (ls : Levels) → FormedExprStep expr_step → FormedStep (items_by x expr_step line ss ls)
formed_items (Some (s.Punctuation m.Newline)) expr_step line ss ls h = tt
formed_items (Some (s.Punctuation m.RightBrace)) expr_step line ss ls h = formed_brace ss ls
formed_items (Some (s.Punctuation m.End)) expr_step line ss ls h = formed_end ss ls
formed_items (Some (s.Keyword w.Function)) expr_step line ss ls h = formed_function line ss ls
formed_items (Some (s.Keyword w.For)) expr_step line ss ls h = tt
formed_items (Some (s.Keyword w.If)) expr_step line ss ls h = tt
formed_items (Some (s.Keyword w.While)) expr_step line ss ls h = tt
formed_items (Some (s.Keyword w.Return)) expr_step line ss ls h = tt
formed_items (Some (s.Keyword w.Global)) expr_step line ss ls h = tt
formed_items _ expr_step line ss ls h = formed_operand_step expr_step line ss ls h

formed_done : (x : Option Symbol) (line : ℕ) (ss : List StatementIs) (ls : Levels) → FormedStep (done_by x ss line ls)
formed_done (Some (s.Punctuation m.Newline)) line ss ls = tt
formed_done (Some (s.Punctuation m.RightBrace)) line ss ls = formed_brace ss ls
formed_done (Some (s.Punctuation m.End)) line ss ls = formed_end ss ls
formed_done _ line ss ls = tt

formed_assigned : (e : Expr) (line : ℕ) (ss : List StatementIs) (ls : Levels) → FormedStep (assigned e line ss ls)
formed_assigned (t.name y l) line ss ls = tt
formed_assigned _ line ss ls = tt

formed_used : (use_ : Use) (e : Expr) (line : ℕ) (ss : List StatementIs) (ls : Levels) (ts : Lexemes) → FormedStep (used use_ e line ss ls ts)
formed_used to_value e line ss ls ts =
    in_if FormedStep (is_punctuation m.Assign ts) (assigned e line ss ls) (done_by (peek ts) (ss ++ (value e, line) ∷ []) line ls) (λ _. formed_assigned e line ss ls) (λ _. formed_done (peek ts) line (ss ++ (value e, line) ∷ []) ls)
formed_used (to_global y) e line ss ls ts = formed_done (peek ts) line (ss ++ (global y e, line) ∷ []) ls
formed_used (to_assign y) e line ss ls ts = formed_done (peek ts) line (ss ++ (assign y e, line) ∷ []) ls
formed_used to_return e line ss ls ts = formed_done (peek ts) line (ss ++ (return e, line) ∷ []) ls
formed_used (to_arm arms) e line ss ls ts = in_if FormedStep (is_punctuation m.RightParen ts) (goes (at (braces_next (arm_of arms e)) line ss ls)) stuck (λ _. tt) (λ _. tt)
formed_used to_while e line ss ls ts = in_if FormedStep (is_punctuation m.RightParen ts) (goes (at (braces_next (while_of e)) line ss ls)) stuck (λ _. tt) (λ _. tt)
formed_used (to_first y) e line ss ls ts = in_if FormedStep (is_punctuation m.Comma ts) (goes (at (in_expression (to_last y e) operand_next []) line ss ls)) stuck (λ _. tt) (λ _. tt)
formed_used (to_last y a) e line ss ls ts =
    in_if FormedStep (is_punctuation m.Comma ts) (goes (at (in_expression (to_step y a e) operand_next []) line ss ls)) (if is_punctuation m.RightParen ts then goes (at (braces_next (for_of y a e None)) line ss ls) else stuck) (λ _. tt)
    (λ _. in_if FormedStep (is_punctuation m.RightParen ts) (goes (at (braces_next (for_of y a e None)) line ss ls)) stuck (λ _. tt) (λ _. tt))
formed_used (to_step y a b) e line ss ls ts = in_if FormedStep (is_punctuation m.RightParen ts) (goes (at (braces_next (for_of y a b (Some e))) line ss ls)) stuck (λ _. tt) (λ _. tt)

formed_expression : (x : ExprStep) (use_ : Use) (line : ℕ) (ss : List StatementIs) (ls : Levels) (ts : Lexemes) → FormedExprStep x → FormedStep (expression_by x use_ line ss ls ts)
formed_expression refused use_ line ss ls ts h = tt
formed_expression (keeps now fs) use_ line ss ls ts h = h
formed_expression (leaves e) use_ line ss ls ts h = formed_used use_ e line ss ls ts

formed_body : (x : Option Symbol) (o : Owner) (line : ℕ) (ss : List StatementIs) (ls : Levels) → FormedStep (body_by x o line ss ls)
formed_body (Some (s.Punctuation m.Newline)) o line ss ls = tt
formed_body (Some (s.Punctuation m.LeftBrace)) o line ss ls = tt
formed_body _ o line ss ls = tt

formed_arms : (x : Option Symbol) (expr_step : ExprStep) (next : ℕ) (arms : List ArmIs) (line : ℕ) (ss : List StatementIs) (ls : Levels) → FormedExprStep expr_step → FormedStep (arms_by x expr_step next arms line ss ls)
formed_arms (Some (s.Punctuation m.Newline)) expr_step next arms line ss ls h = tt
formed_arms (Some (s.Keyword w.Else)) expr_step next arms line ss ls h = tt
formed_arms x expr_step next arms line ss ls h = formed_items x expr_step next (ss ++ (if_ (arms_of arms) no_else, line) ∷ []) ls h

formed_other : (x : Option Symbol) (arms : List ArmIs) (line : ℕ) (ss : List StatementIs) (ls : Levels) → FormedStep (other_by x arms line ss ls)
formed_other (Some (s.Keyword w.If)) arms line ss ls = tt
formed_other x arms line ss ls = formed_body x (else_of arms) line ss ls

formed_global : (x : Option Symbol) (y : Text) (line : ℕ) (ss : List StatementIs) (ls : Levels) → FormedStep (global_by x y line ss ls)
formed_global (Some s.Name) y line ss ls = tt
formed_global _ y line ss ls = tt

formed_for : (x : Option Symbol) (y : Text) (line : ℕ) (ss : List StatementIs) (ls : Levels) → FormedStep (for_by x y line ss ls)
formed_for (Some s.Name) y line ss ls = tt
formed_for _ y line ss ls = tt

formed_statement : (here : StatementState) (line : ℕ) (ss : List StatementIs) (ls : Levels) (ts : Lexemes) → FormedStatement here → FormedStep (advance_statement here line ss ls ts)
formed_statement statement_next line ss ls ts h = formed_items (peek ts) (operand [] ts) (line_of ts) ss ls (formed_operand [] tt ts)
formed_statement (in_expression use_ now fs) line ss ls ts h = formed_expression (expr_step now fs ts) use_ line ss ls ts (formed_expr_step now fs h ts)
formed_statement (parenthesis_next use_) line ss ls ts h = in_if FormedStep (is_punctuation m.LeftParen ts) (goes (at (in_expression use_ operand_next []) line ss ls)) stuck (λ _. tt) (λ _. tt)
formed_statement (braces_next o) line ss ls ts h = formed_body (peek ts) o line ss ls
formed_statement (after_arm arms) line ss ls ts h = formed_arms (peek ts) (operand [] ts) (line_of ts) arms line ss ls (formed_operand [] tt ts)
formed_statement (after_else arms) line ss ls ts h = formed_other (peek ts) arms line ss ls
formed_statement after_global line ss ls ts h = formed_global (peek ts) (content_at ts) line ss ls
formed_statement (after_global_name y) line ss ls ts h = in_if FormedStep (is_punctuation m.Assign ts) (goes (at (in_expression (to_global y) operand_next []) line ss ls)) stuck (λ _. tt) (λ _. tt)
formed_statement after_for line ss ls ts h = in_if FormedStep (is_punctuation m.LeftParen ts) (goes (at for_opened line ss ls)) stuck (λ _. tt) (λ _. tt)
formed_statement for_opened line ss ls ts h = formed_for (peek ts) (content_at ts) line ss ls
formed_statement (after_for_name y) line ss ls ts h = in_if FormedStep (is_punctuation m.Assign ts) (goes (at (in_expression (to_first y) operand_next []) line ss ls)) stuck (λ _. tt) (λ _. tt)

-- ---- the head of a function

formed_name : (x : Option Symbol) (y : Text) (line : ℕ) (ss : List StatementIs) (gs : List Function) → FormedStep (function_name_by x y line ss gs)
formed_name (Some s.Name) y line ss gs = tt
formed_name _ y line ss gs = tt

formed_type : (x : Option Symbol) (word : Option TypeWord) (y : Text) (ps : List Parameter) (must : Bool) (line : ℕ) (ss : List StatementIs) (gs : List Function) → FormedStep (type_by x word y ps must line ss gs)
formed_type (Some s.Name) (Some word) y ps must line ss gs = tt
formed_type _ _ y ps must line ss gs = tt

formed_parameter : (x : Option Symbol) (z y : Text) (ps : List Parameter) (must : Bool) (word : TypeWord) (line : ℕ) (ss : List StatementIs) (gs : List Function) → FormedStep (parameter_by x z y ps must word line ss gs)
formed_parameter (Some s.Name) z y ps must word line ss gs = in_if FormedStep must stuck (goes (at_head (after_parameter y (with_parameter ps word false z) false) line ss gs)) (λ _. tt) (λ _. tt)
formed_parameter (Some s.Str) z y ps must word line ss gs = in_if FormedStep (is_name z) (goes (at_head (after_parameter y (with_parameter ps word true z) true) line ss gs)) stuck (λ _. tt) (λ _. tt)
formed_parameter _ z y ps must word line ss gs = tt

formed_braces : (x : Option Symbol) (y : Text) (ps : List Parameter) (line : ℕ) (ss : List StatementIs) (gs : List Function) → FormedStep (function_body_by x y ps line ss gs)
formed_braces (Some (s.Punctuation m.Newline)) y ps line ss gs = tt
formed_braces (Some (s.Punctuation m.LeftBrace)) y ps line ss gs = tt
formed_braces _ y ps line ss gs = tt

formed_head : (here : HeadState) (line : ℕ) (ss : List StatementIs) (gs : List Function) (ts : Lexemes) → FormedStep (advance_head here line ss gs ts)
formed_head after_function line ss gs ts = formed_name (peek ts) (content_at ts) line ss gs
formed_head (after_function_name y) line ss gs ts = in_if FormedStep (is_punctuation m.LeftParen ts) (goes (at_head (head_opened y) line ss gs)) stuck (λ _. tt) (λ _. tt)
formed_head (head_opened y) line ss gs ts =
    in_if FormedStep (is_punctuation m.RightParen ts) (goes (at_head (function_braces_next y []) line ss gs)) (type_by (peek ts) (type_word_of (content_at ts)) y [] false line ss gs) (λ _. tt)
    (λ _. formed_type (peek ts) (type_word_of (content_at ts)) y [] false line ss gs)
formed_head (after_type y ps must word) line ss gs ts = formed_parameter (peek ts) (content_at ts) y ps must word line ss gs
formed_head (after_parameter y ps must) line ss gs ts =
    in_if FormedStep (is_punctuation m.Comma ts) (goes (at_head (parameter_next y ps must) line ss gs)) (if is_punctuation m.RightParen ts then goes (at_head (function_braces_next y ps) line ss gs) else stuck) (λ _. tt)
    (λ _. in_if FormedStep (is_punctuation m.RightParen ts) (goes (at_head (function_braces_next y ps) line ss gs)) stuck (λ _. tt) (λ _. tt))
formed_head (parameter_next y ps must) line ss gs ts = formed_type (peek ts) (type_word_of (content_at ts)) y ps must line ss gs
formed_head (function_braces_next y ps) line ss gs ts = formed_braces (peek ts) y ps line ss gs

pub formed_advance : (state : State) (ts : Lexemes) → FormedState state → FormedStep (advance state ts)
formed_advance (at here line ss ls) ts h = formed_statement here line ss ls ts h
formed_advance (at_head here line ss gs) ts h = formed_head here line ss gs ts
