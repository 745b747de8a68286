-- How much is open in an expression: a token opens at most two things more, whatever it closes.
use Rattle.std.proofs.Common.{◌≡◌, refl, sym, subst, ap, ◌∙◌, ℕ, suc, ◌+◌, ◌≤◌, arith, Bool, true, false, List, [], ◌∷◌, ◌++◌, length, Option, Some, None, if◌then◌else◌}
use Rattle.avs_lex.specs.Spelling.{Text}
use Rattle.avs_tree.specs.Lexeme.{Lexemes, line_of, is_name, type_word_of, peek, content_at, is_punctuation}
use Rattle.avs_tree.specs.Tree.{Expr, global, assign, return, if_, while, for, value, no_else, else_, Function, method_calls}
use Rattle.avs_tree.specs.Tree as t
use Rattle.avs_tree.specs.View.{StatementIs, ArmIs, MethodCallIs, arms_of, method_calls_of}
use Rattle.avs_tree.specs.declared.symbol.Symbol.{Symbol}
use Rattle.avs_tree.specs.declared.symbol.Symbol.TheVariants as s
use Rattle.avs_tree.specs.declared.words.Keyword.TheVariants as w
use Rattle.avs_tree.specs.declared.words.TypeWord.{TypeWord}
use Rattle.avs_tree.specs.declared.symbol.Punctuation.TheVariants as m
use Rattle.avs_tree.specs.declared.tree.Operator.TheVariants as o
use Rattle.avs_tree.specs.declared.tree.Parameter.{Parameter}
use Rattle.avs_tree.specs.Machine.{Open, argument, ExprState, operand_next, value_read, name_read, args_opened, dot_read, method_read, calls_read, call_of, method_of, ExprStep, keeps, leaves, refused, operand, operand_by, grow, grow_by, grows, called, Closing, no_closing, taken, reopened, closed, closing, by_closing, close, after, after_calls, method_by, expr_step, Use, to_value, to_global, to_assign, to_return, to_arm, to_while, to_first, to_last, to_step, Owner, arm_of, else_of, while_of, for_of, Levels, top, in_function, level, StatementState, statement_next, in_expression, parenthesis_next, braces_next, after_arm, after_else, after_global, after_global_name, after_for, for_opened, after_for_name, HeadState, after_function, after_function_name, head_opened, after_type, after_parameter, parameter_next, function_braces_next, State, start, at, at_head, Step, stuck, goes, whole, close_by, end_by, in_statement, function_by, items_by, done_by, assigned, used, expression_by, body_by, arms_by, other_by, global_by, for_by, advance_statement, function_name_by, type_by, with_parameter, parameter_by, function_body_by, advance_head, advance}
use Rattle.avs_frames.specs.ExprViews.{open_view, onto, opened_view}
use Rattle.avs_frames.specs.declared.state.Open as f
use Rattle.avs_frames.specs.ScriptViews.{state_view, statement_state_view}
use Rattle.avs_parse.specs.Turns.{open_here, open_in}
use Rattle.avs_frames.specs.declared.script_state.StatementState as c
use Rattle.avs_frames.specs.declared.script_state.StatementState.TheVariants as n
use Rattle.avs_frames.specs.declared.script_state.State as q
use Rattle.avs_frames.specs.declared.script_state.State.TheVariants as v

in_if : {A : Type 0} (P : A → Type 0) (b : Bool) (x y : A) → (b ≡ true → P x) → (b ≡ false → P y) → P (if b then x else y)
in_if P true x y f g = f refl
in_if P false x y f g = g refl

-- how much is open in the expression that is read
abbrev stack : StatementState → ℕ
stack (in_expression use_ now fs) = length fs
stack _ = 0

abbrev pub height : State → ℕ
height (at here line ss ls) = stack here
height (at_head here line ss gs) = 0

-- at most so much is open after a step
module _ (n : ℕ) where
  abbrev FewExpr : ExprStep → Type 0
  FewExpr refused = Unit {0}
  FewExpr (keeps now fs) = length fs ≤ n
  FewExpr (leaves e) = Unit {0}

  abbrev FewState : State → Type 0
  FewState (at (in_expression use_ now fs) line ss ls) = length fs ≤ n
  FewState _ = Unit {0}

  abbrev pub FewStep : Step → Type 0
  FewStep stuck = Unit {0}
  FewStep (goes state) = FewState state
  FewStep (whole b) = Unit {0}

  none : 0 ≤ n
  none = omega arith

  -- ---- expressions

  few_operand_by : (fs : List Open) → suc (length fs) ≤ n → (x : Option Symbol) (y : Text) (line : ℕ) → FewExpr (operand_by x fs y line)
  few_operand_by fs room (Some (s.Int k)) y line = omega (arith, room)
  few_operand_by fs room (Some s.Str) y line = omega (arith, room)
  few_operand_by fs room (Some (s.Keyword w.True)) y line = omega (arith, room)
  few_operand_by fs room (Some (s.Keyword w.False)) y line = omega (arith, room)
  few_operand_by fs room (Some s.Name) y line = omega (arith, room)
  few_operand_by fs room (Some (s.Punctuation m.LeftParen)) y line = room
  few_operand_by fs room (Some (s.Operator o.Minus)) y line = room
  few_operand_by fs room (Some (s.Punctuation m.Not)) y line = room
  few_operand_by fs room _ y line = tt

  few_operand : (fs : List Open) (ts : Lexemes) → suc (length fs) ≤ n → FewExpr (operand fs ts)
  unfolding operand
  few_operand fs ts room = few_operand_by fs room (peek ts) (content_at ts) (line_of ts)

  few_grow_by : (fs : List Open) → suc (length fs) ≤ n → (x : Option Symbol) (e : Expr) (line : ℕ) → FewExpr (grow_by x e fs line)
  few_grow_by fs room (Some (s.Punctuation m.Dot)) e line = omega (arith, room)
  few_grow_by fs room (Some (s.Punctuation m.Question)) e line = room
  few_grow_by fs room (Some (s.Operator op)) e line = room
  few_grow_by fs room _ e line = tt

  few_grow : (fs : List Open) → suc (length fs) ≤ n → (e : Expr) (ts : Lexemes) → FewExpr (grow e fs ts)
  unfolding grow
  few_grow fs room e ts = few_grow_by fs room (peek ts) e (line_of ts)

  few_by : (fs : List Open) → suc (length fs) ≤ n → (x : Closing) (go : ℕ → Expr → ExprStep) → ((k : ℕ) (e : Expr) → FewExpr (go k e)) → FewExpr (by_closing x fs go)
  few_by fs room no_closing go few = tt
  few_by fs room (taken now) go few = omega (arith, room)
  few_by fs room (reopened g) go few = room
  few_by fs room (closed k e) go few = few k e

  few_after_by : (fs : List Open) (ts : Lexemes) → suc (length fs) ≤ n → ((e : Expr) → FewExpr (close e fs ts)) → (k : ℕ) (e : Expr) → FewExpr (after k e fs ts)
  few_after_by fs ts room closes k e = in_if FewExpr (grows k fs ts) (grow e fs ts) (close e fs ts) (λ _. few_grow fs room e ts) (λ _. closes e)

  few_close : (fs : List Open) (ts : Lexemes) → length fs ≤ n → (e : Expr) → FewExpr (close e fs ts)
  few_close [] ts room e = tt
  few_close (g ∷ fs) ts room e = few_by fs room (closing e g ts) (λ k whole. after k whole fs ts) (few_after_by fs ts room (few_close fs ts (omega (arith, room))))

  few_after : (fs : List Open) (ts : Lexemes) → suc (length fs) ≤ n → (k : ℕ) (e : Expr) → FewExpr (after k e fs ts)
  few_after fs ts room k e = few_after_by fs ts room (few_close fs ts (omega (arith, room))) k e

  few_calls : (fs : List Open) (ts : Lexemes) → suc (length fs) ≤ n → (e : Expr) (ds : List MethodCallIs) → FewExpr (after_calls e ds fs ts)
  few_calls fs ts room e ds =
      in_if FewExpr (is_punctuation m.Dot ts) (keeps (dot_read e ds) fs) (after 1 (method_calls e (method_calls_of ds)) fs ts) (λ _. omega (arith, room))
      (λ _. few_after fs ts room 1 (method_calls e (method_calls_of ds)))

  few_method : (fs : List Open) → suc (length fs) ≤ n → (x : Option Symbol) (e : Expr) (ds : List MethodCallIs) (y : Text) (line : ℕ) → FewExpr (method_by x e ds fs y line)
  few_method fs room (Some s.Name) e ds y line = omega (arith, room)
  few_method fs room _ e ds y line = tt

  few_expr_step : (now : ExprState) (fs : List Open) (ts : Lexemes) → length fs + 2 ≤ n → FewExpr (expr_step now fs ts)
  few_expr_step operand_next fs ts room = few_operand fs ts (omega (arith, room))
  few_expr_step (value_read k e) fs ts room = few_after fs ts (omega (arith, room)) k e
  few_expr_step (name_read x line) fs ts room =
      in_if FewExpr (is_punctuation m.LeftParen ts) (keeps (args_opened (call_of x line)) fs) (after 0 (t.name x line) fs ts) (λ _. omega (arith, room)) (λ _. few_after fs ts (omega (arith, room)) 0 (t.name x line))
  few_expr_step (args_opened c) fs ts room =
      in_if FewExpr (is_punctuation m.RightParen ts) (keeps (called c []) fs) (operand (argument c [] None ∷ fs) ts) (λ _. omega (arith, room)) (λ _. few_operand (argument c [] None ∷ fs) ts (omega (arith, room)))
  few_expr_step (dot_read e ds) fs ts room = few_method fs (omega (arith, room)) (peek ts) e ds (content_at ts) (line_of ts)
  few_expr_step (method_read e ds x line) fs ts room =
      in_if FewExpr (is_punctuation m.LeftParen ts) (keeps (args_opened (method_of e ds x line)) fs) (after_calls e (ds ++ (x, (None, line)) ∷ []) fs ts) (λ _. omega (arith, room))
      (λ _. few_calls fs ts (omega (arith, room)) e (ds ++ (x, (None, line)) ∷ []))
  few_expr_step (calls_read e ds) fs ts room = few_calls fs ts (omega (arith, room)) e ds

  -- ---- statements

  few_brace : (ss : List StatementIs) (ls : Levels) → FewStep (close_by ss ls)
  few_brace ss (top gs) = tt
  few_brace ss (in_function y ps line before gs) = tt
  few_brace ss (level (arm_of arms e) line before ls) = tt
  few_brace ss (level (else_of arms) line before ls) = tt
  few_brace ss (level (while_of e) line before ls) = tt
  few_brace ss (level (for_of y a b c) line before ls) = tt

  few_end : (ss : List StatementIs) (ls : Levels) → FewStep (end_by ss ls)
  few_end ss (top gs) = tt
  few_end ss _ = tt

  few_operand_step : (x : ExprStep) (line : ℕ) (ss : List StatementIs) (ls : Levels) → FewExpr x → FewStep (in_statement x to_value line ss ls)
  few_operand_step refused line ss ls h = tt
  few_operand_step (keeps now fs) line ss ls h = h
  few_operand_step (leaves e) line ss ls h = tt

  few_function : (line : ℕ) (ss : List StatementIs) (ls : Levels) → FewStep (function_by line ss ls)
  few_function line ss (top gs) = tt
  few_function line ss _ = tt

  few_items : (x : Option Symbol) (expr_step : ExprStep) (line : ℕ) (ss : List StatementIs) (ls : Levels) → FewExpr expr_step → FewStep (items_by x expr_step line ss ls)
  few_items (Some (s.Punctuation m.Newline)) expr_step line ss ls h = tt
  few_items (Some (s.Punctuation m.RightBrace)) expr_step line ss ls h = few_brace ss ls
  few_items (Some (s.Punctuation m.End)) expr_step line ss ls h = few_end ss ls
  few_items (Some (s.Keyword w.Function)) expr_step line ss ls h = few_function line ss ls
  few_items (Some (s.Keyword w.For)) expr_step line ss ls h = tt
  few_items (Some (s.Keyword w.If)) expr_step line ss ls h = tt
  few_items (Some (s.Keyword w.While)) expr_step line ss ls h = tt
  few_items (Some (s.Keyword w.Return)) expr_step line ss ls h = none
  few_items (Some (s.Keyword w.Global)) expr_step line ss ls h = tt
  few_items _ expr_step line ss ls h = few_operand_step expr_step line ss ls h

  few_done : (x : Option Symbol) (line : ℕ) (ss : List StatementIs) (ls : Levels) → FewStep (done_by x ss line ls)
  few_done (Some (s.Punctuation m.Newline)) line ss ls = tt
  few_done (Some (s.Punctuation m.RightBrace)) line ss ls = few_brace ss ls
  few_done (Some (s.Punctuation m.End)) line ss ls = few_end ss ls
  few_done _ line ss ls = tt

  few_assigned : (e : Expr) (line : ℕ) (ss : List StatementIs) (ls : Levels) → FewStep (assigned e line ss ls)
  few_assigned (t.name y l) line ss ls = none
  few_assigned _ line ss ls = tt

  few_used : (use_ : Use) (e : Expr) (line : ℕ) (ss : List StatementIs) (ls : Levels) (ts : Lexemes) → FewStep (used use_ e line ss ls ts)
  few_used to_value e line ss ls ts =
      in_if FewStep (is_punctuation m.Assign ts) (assigned e line ss ls) (done_by (peek ts) (ss ++ (value e, line) ∷ []) line ls) (λ _. few_assigned e line ss ls) (λ _. few_done (peek ts) line (ss ++ (value e, line) ∷ []) ls)
  few_used (to_global y) e line ss ls ts = few_done (peek ts) line (ss ++ (global y e, line) ∷ []) ls
  few_used (to_assign y) e line ss ls ts = few_done (peek ts) line (ss ++ (assign y e, line) ∷ []) ls
  few_used to_return e line ss ls ts = few_done (peek ts) line (ss ++ (return e, line) ∷ []) ls
  few_used (to_arm arms) e line ss ls ts = in_if FewStep (is_punctuation m.RightParen ts) (goes (at (braces_next (arm_of arms e)) line ss ls)) stuck (λ _. tt) (λ _. tt)
  few_used to_while e line ss ls ts = in_if FewStep (is_punctuation m.RightParen ts) (goes (at (braces_next (while_of e)) line ss ls)) stuck (λ _. tt) (λ _. tt)
  few_used (to_first y) e line ss ls ts = in_if FewStep (is_punctuation m.Comma ts) (goes (at (in_expression (to_last y e) operand_next []) line ss ls)) stuck (λ _. none) (λ _. tt)
  few_used (to_last y a) e line ss ls ts =
      in_if FewStep (is_punctuation m.Comma ts) (goes (at (in_expression (to_step y a e) operand_next []) line ss ls)) (if is_punctuation m.RightParen ts then goes (at (braces_next (for_of y a e None)) line ss ls) else stuck) (λ _. none)
      (λ _. in_if FewStep (is_punctuation m.RightParen ts) (goes (at (braces_next (for_of y a e None)) line ss ls)) stuck (λ _. tt) (λ _. tt))
  few_used (to_step y a b) e line ss ls ts = in_if FewStep (is_punctuation m.RightParen ts) (goes (at (braces_next (for_of y a b (Some e))) line ss ls)) stuck (λ _. tt) (λ _. tt)

  few_expression : (x : ExprStep) (use_ : Use) (line : ℕ) (ss : List StatementIs) (ls : Levels) (ts : Lexemes) → FewExpr x → FewStep (expression_by x use_ line ss ls ts)
  few_expression refused use_ line ss ls ts h = tt
  few_expression (keeps now fs) use_ line ss ls ts h = h
  few_expression (leaves e) use_ line ss ls ts h = few_used use_ e line ss ls ts

  few_body : (x : Option Symbol) (o : Owner) (line : ℕ) (ss : List StatementIs) (ls : Levels) → FewStep (body_by x o line ss ls)
  few_body (Some (s.Punctuation m.Newline)) o line ss ls = tt
  few_body (Some (s.Punctuation m.LeftBrace)) o line ss ls = tt
  few_body _ o line ss ls = tt

  few_arms : (x : Option Symbol) (expr_step : ExprStep) (next : ℕ) (arms : List ArmIs) (line : ℕ) (ss : List StatementIs) (ls : Levels) → FewExpr expr_step → FewStep (arms_by x expr_step next arms line ss ls)
  few_arms (Some (s.Punctuation m.Newline)) expr_step next arms line ss ls h = tt
  few_arms (Some (s.Keyword w.Else)) expr_step next arms line ss ls h = tt
  few_arms x expr_step next arms line ss ls h = few_items x expr_step next (ss ++ (if_ (arms_of arms) no_else, line) ∷ []) ls h

  few_other : (x : Option Symbol) (arms : List ArmIs) (line : ℕ) (ss : List StatementIs) (ls : Levels) → FewStep (other_by x arms line ss ls)
  few_other (Some (s.Keyword w.If)) arms line ss ls = tt
  few_other x arms line ss ls = few_body x (else_of arms) line ss ls

  few_global : (x : Option Symbol) (y : Text) (line : ℕ) (ss : List StatementIs) (ls : Levels) → FewStep (global_by x y line ss ls)
  few_global (Some s.Name) y line ss ls = tt
  few_global _ y line ss ls = tt

  few_for : (x : Option Symbol) (y : Text) (line : ℕ) (ss : List StatementIs) (ls : Levels) → FewStep (for_by x y line ss ls)
  few_for (Some s.Name) y line ss ls = tt
  few_for _ y line ss ls = tt

  few_statement : (here : StatementState) (line : ℕ) (ss : List StatementIs) (ls : Levels) (ts : Lexemes) → stack here + 2 ≤ n → FewStep (advance_statement here line ss ls ts)
  few_statement statement_next line ss ls ts h = few_items (peek ts) (operand [] ts) (line_of ts) ss ls (few_operand [] ts (omega (arith, h)))
  few_statement (in_expression use_ now fs) line ss ls ts h = few_expression (expr_step now fs ts) use_ line ss ls ts (few_expr_step now fs ts h)
  few_statement (parenthesis_next use_) line ss ls ts h = in_if FewStep (is_punctuation m.LeftParen ts) (goes (at (in_expression use_ operand_next []) line ss ls)) stuck (λ _. none) (λ _. tt)
  few_statement (braces_next o) line ss ls ts h = few_body (peek ts) o line ss ls
  few_statement (after_arm arms) line ss ls ts h = few_arms (peek ts) (operand [] ts) (line_of ts) arms line ss ls (few_operand [] ts (omega (arith, h)))
  few_statement (after_else arms) line ss ls ts h = few_other (peek ts) arms line ss ls
  few_statement after_global line ss ls ts h = few_global (peek ts) (content_at ts) line ss ls
  few_statement (after_global_name y) line ss ls ts h = in_if FewStep (is_punctuation m.Assign ts) (goes (at (in_expression (to_global y) operand_next []) line ss ls)) stuck (λ _. none) (λ _. tt)
  few_statement after_for line ss ls ts h = in_if FewStep (is_punctuation m.LeftParen ts) (goes (at for_opened line ss ls)) stuck (λ _. tt) (λ _. tt)
  few_statement for_opened line ss ls ts h = few_for (peek ts) (content_at ts) line ss ls
  few_statement (after_for_name y) line ss ls ts h = in_if FewStep (is_punctuation m.Assign ts) (goes (at (in_expression (to_first y) operand_next []) line ss ls)) stuck (λ _. none) (λ _. tt)

  -- ---- the head of a function

  few_name : (x : Option Symbol) (y : Text) (line : ℕ) (ss : List StatementIs) (gs : List Function) → FewStep (function_name_by x y line ss gs)
  few_name (Some s.Name) y line ss gs = tt
  few_name _ y line ss gs = tt

  few_type : (x : Option Symbol) (word : Option TypeWord) (y : Text) (ps : List Parameter) (must : Bool) (line : ℕ) (ss : List StatementIs) (gs : List Function) → FewStep (type_by x word y ps must line ss gs)
  few_type (Some s.Name) (Some word) y ps must line ss gs = tt
  few_type _ _ y ps must line ss gs = tt

  few_parameter : (x : Option Symbol) (z y : Text) (ps : List Parameter) (must : Bool) (word : TypeWord) (line : ℕ) (ss : List StatementIs) (gs : List Function) → FewStep (parameter_by x z y ps must word line ss gs)
  few_parameter (Some s.Name) z y ps must word line ss gs = in_if FewStep must stuck (goes (at_head (after_parameter y (with_parameter ps word false z) false) line ss gs)) (λ _. tt) (λ _. tt)
  few_parameter (Some s.Str) z y ps must word line ss gs = in_if FewStep (is_name z) (goes (at_head (after_parameter y (with_parameter ps word true z) true) line ss gs)) stuck (λ _. tt) (λ _. tt)
  few_parameter _ z y ps must word line ss gs = tt

  few_braces : (x : Option Symbol) (y : Text) (ps : List Parameter) (line : ℕ) (ss : List StatementIs) (gs : List Function) → FewStep (function_body_by x y ps line ss gs)
  few_braces (Some (s.Punctuation m.Newline)) y ps line ss gs = tt
  few_braces (Some (s.Punctuation m.LeftBrace)) y ps line ss gs = tt
  few_braces _ y ps line ss gs = tt

  few_head : (here : HeadState) (line : ℕ) (ss : List StatementIs) (gs : List Function) (ts : Lexemes) → FewStep (advance_head here line ss gs ts)
  few_head after_function line ss gs ts = few_name (peek ts) (content_at ts) line ss gs
  few_head (after_function_name y) line ss gs ts = in_if FewStep (is_punctuation m.LeftParen ts) (goes (at_head (head_opened y) line ss gs)) stuck (λ _. tt) (λ _. tt)
  few_head (head_opened y) line ss gs ts =
      in_if FewStep (is_punctuation m.RightParen ts) (goes (at_head (function_braces_next y []) line ss gs)) (type_by (peek ts) (type_word_of (content_at ts)) y [] false line ss gs) (λ _. tt)
      (λ _. few_type (peek ts) (type_word_of (content_at ts)) y [] false line ss gs)
  few_head (after_type y ps must word) line ss gs ts = few_parameter (peek ts) (content_at ts) y ps must word line ss gs
  few_head (after_parameter y ps must) line ss gs ts =
      in_if FewStep (is_punctuation m.Comma ts) (goes (at_head (parameter_next y ps must) line ss gs)) (if is_punctuation m.RightParen ts then goes (at_head (function_braces_next y ps) line ss gs) else stuck) (λ _. tt)
      (λ _. in_if FewStep (is_punctuation m.RightParen ts) (goes (at_head (function_braces_next y ps) line ss gs)) stuck (λ _. tt) (λ _. tt))
  few_head (parameter_next y ps must) line ss gs ts = few_type (peek ts) (type_word_of (content_at ts)) y ps must line ss gs
  few_head (function_braces_next y ps) line ss gs ts = few_braces (peek ts) y ps line ss gs

  pub few_advance : (state : State) (ts : Lexemes) → height state + 2 ≤ n → FewStep (advance state ts)
  few_advance (at here line ss ls) ts h = few_statement here line ss ls ts h
  few_advance (at_head here line ss gs) ts h = few_head here line ss gs ts

  few_height : (state : State) → FewState state → height state ≤ n
  few_height (at (in_expression use_ now fs) line ss ls) h = h
  few_height _ h = none

  -- what is open after a step that goes on
  pub few_next : (x : Step) (next : State) → FewStep x → x ≡ goes next → height next ≤ n
  few_next x next h is = few_height next (subst FewStep is h)

-- ---- the code's states

length_onto : (outer : List Open) (fs : List f.Open) → length (onto outer fs) ≡ length outer + length fs
length_onto outer [] = omega arith
length_onto outer (g ∷ fs) = let e = length_onto (open_view g ∷ outer) fs in omega (arith, e)

length_opened : (fs : List f.Open) → length (opened_view fs) ≡ length fs
unfolding opened_view
length_opened fs = let e = length_onto [] fs in omega (arith, e)

stack_is : (here : c.StatementState) → stack (statement_state_view here) ≡ open_here here
stack_is n.StatementNext = refl
stack_is (n.InExpression purpose state opened) = length_opened opened.items
stack_is (n.ParenthesisNext purpose) = refl
stack_is (n.BracesNext owner) = refl
stack_is (n.AfterArm arms) = refl
stack_is (n.AfterElse arms) = refl
stack_is n.AfterGlobal = refl
stack_is (n.AfterGlobalName y) = refl
stack_is n.AfterFor = refl
stack_is n.ForOpened = refl
stack_is (n.AfterForName y) = refl

height_is : (state : q.State) → height (state_view state) ≡ open_in state
height_is (v.Statement here around) = stack_is here
height_is (v.Head here around) = refl

-- A token opens at most two things more.
pub opens_few : (state next : q.State) (ts : Lexemes) → advance (state_view state) ts ≡ goes (state_view next) → open_in next ≤ open_in state + 2
opens_few state next ts is =
    let before = height_is state in
    let after_ = height_is next in
    let most = height (state_view state) + 2 in
    let few = few_next most (advance (state_view state) ts) (state_view next) (few_advance most (state_view state) ts (omega arith)) is in
    omega (arith, before, after_, few)

pub start_none : (state : q.State) → state_view state ≡ start → open_in state ≡ 0
start_none state is = sym (height_is state) ∙ ap height is
