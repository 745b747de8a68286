-- The machine that reads a script one token a turn: what is open in expressions and statements, and how deep.
use Rattle.std.specs.Prelude.{ℕ, ◌-◌, Bool, true, false, ◌&&◌, List, [], ◌∷◌, ◌++◌, Option, Some, None, if◌then◌else◌, nat_eq, nat_lt, nat_le, suc, ◌+◌}
use Rattle.avs_lex.specs.Spelling.{Text}
use Rattle.avs_tree.specs.Lexeme.{Lexemes, precedence_of, line_of, peek, content_at, is_punctuation, operator_at, is_name, type_word_of}
use Rattle.avs_tree.specs.Tree.{Expr, int, bool, str, name, call, method_calls, minus, not_, chain, compare, conditional, group, Kind, global, assign, return, if_, while, for, value, no_else, else_, Block, Function, Script}
use Rattle.avs_tree.specs.Tree as t
use Rattle.avs_tree.specs.View.{ArgIs, MethodCallIs, StepIs, args_of, method_calls_of, steps_of, StatementIs, ArmIs, block_of, arms_of}
use Rattle.avs_tree.specs.declared.symbol.Punctuation.TheVariants as m
use Rattle.avs_tree.specs.declared.symbol.Symbol.{Symbol}
use Rattle.avs_tree.specs.declared.symbol.Symbol.TheVariants as s
use Rattle.avs_tree.specs.declared.tree.Operator.{Operator}
use Rattle.avs_tree.specs.declared.tree.Operator.TheVariants as o
use Rattle.avs_tree.specs.declared.tree.Parameter.{Parameter}
use Rattle.avs_tree.specs.declared.words.Keyword.TheVariants as w
use Rattle.avs_tree.specs.declared.words.TypeWord.{TypeWord}

-- ==== What is open in an expression, and what a token does to it: the machine on expressions. A state is what the grammar of avs_tree
-- leaves to read, with the trees of what was read.

-- what arguments belong to
pub data Callee : Type 0 where
  call_of : Text → ℕ → Callee
  method_of : Expr → List MethodCallIs → Text → ℕ → Callee

-- What is open, with what was read of it. An expression comes next in it.
pub data Open : Type 0 where
  paren : Open
  argument : Callee → List ArgIs → Option Text → Open
  minus_of : ℕ → Open
  not_of : ℕ → Open
  chain_of : Expr → List StepIs → Operator → ℕ → Open
  compare_of : Operator → Expr → ℕ → Open
  yes_of : Expr → ℕ → Open
  no_of : Expr → Expr → ℕ → Open

-- what was read last
pub data ExprState : Type 0 where
  -- an operand comes next
  operand_next : ExprState
  -- an expression of this precedence
  value_read : ℕ → Expr → ExprState
  -- a name, which arguments may follow
  name_read : Text → ℕ → ExprState
  -- the parenthesis of arguments
  args_opened : Callee → ExprState
  -- a dot
  dot_read : Expr → List MethodCallIs → ExprState
  -- a dot and a name, which arguments may follow
  method_read : Expr → List MethodCallIs → Text → ℕ → ExprState
  -- an expression with method calls
  calls_read : Expr → List MethodCallIs → ExprState

-- What a token does: it cannot stand there, it is taken, or the whole expression ends before it.
pub data ExprStep : Type 0 where
  refused : ExprStep
  keeps : ExprState → List Open → ExprStep
  leaves : Expr → ExprStep

-- the highest precedence of what comes next in it
abbrev pub hole_of : Open → ℕ
hole_of (minus_of line) = 2
hole_of (not_of line) = 2
hole_of (chain_of e ss op line) = precedence_of op - 1
hole_of (compare_of op e line) = 4
hole_of _ = 8

abbrev pub hole : List Open → ℕ
hole [] = 8
hole (f ∷ fs) = hole_of f

-- the least precedence at which this continues an expression: 9 where it ends any, and 0 where it cannot follow one
unfoldable pub reach : Option Symbol → ℕ
reach None = 0
reach (Some (s.Punctuation m.LeftParen)) = 0
reach (Some (s.Punctuation m.Dot)) = 1
reach (Some (s.Punctuation m.Question)) = 8
reach (Some (s.Operator op)) = precedence_of op
reach (Some _) = 9

-- ---- an operand comes next

abbrev pub operand_by : Option Symbol → List Open → Text → ℕ → ExprStep
operand_by (Some (s.Int n)) fs x line = keeps (value_read 0 (int n)) fs
operand_by (Some s.Str) fs x line = keeps (value_read 0 (str x)) fs
operand_by (Some (s.Keyword w.True)) fs x line = keeps (value_read 0 (bool true)) fs
operand_by (Some (s.Keyword w.False)) fs x line = keeps (value_read 0 (bool false)) fs
operand_by (Some s.Name) fs x line = keeps (name_read x line) fs
operand_by (Some (s.Punctuation m.LeftParen)) fs x line = keeps operand_next (paren ∷ fs)
operand_by (Some (s.Operator o.Minus)) fs x line = keeps operand_next (minus_of line ∷ fs)
operand_by (Some (s.Punctuation m.Not)) fs x line = keeps operand_next (not_of line ∷ fs)
operand_by _ fs x line = refused

unfoldable pub operand : List Open → Lexemes → ExprStep
operand fs ts = operand_by (peek ts) fs (content_at ts) (line_of ts)

-- ---- after an expression

abbrev pub operand_of : Operator → Expr → ℕ → Open
operand_of op e line = if nat_eq (precedence_of op) 5 then compare_of op e line else chain_of e [] op line

abbrev pub grow_by : Option Symbol → Expr → List Open → ℕ → ExprStep
grow_by (Some (s.Punctuation m.Dot)) e fs line = keeps (dot_read e []) fs
grow_by (Some (s.Punctuation m.Question)) e fs line = keeps operand_next (yes_of e line ∷ fs)
grow_by (Some (s.Operator op)) e fs line = keeps operand_next (operand_of op e line ∷ fs)
grow_by _ e fs line = refused

-- the next token continues an expression of precedence k, where one of at most this precedence may stand
unfoldable pub continues : ℕ → ℕ → Lexemes → Bool
continues k highest ts = nat_lt k (reach (peek ts)) && nat_le (reach (peek ts)) highest

abbrev pub grows : ℕ → List Open → Lexemes → Bool
grows k fs ts = continues k (hole fs) ts

unfoldable pub grow : Expr → List Open → Lexemes → ExprStep
grow e fs ts = grow_by (peek ts) e fs (line_of ts)

abbrev pub called : Callee → List ArgIs → ExprState
called (call_of x line) es = value_read 0 (call x (args_of es) line)
called (method_of e ds x line) es = calls_read e (ds ++ (x, (Some (args_of es), line)) ∷ [])

-- ---- what is open innermost, where the expression in it ends

-- What a token does to it: it cannot stand there, it is taken, something else is open in its place, or it stands after
-- the expression of this precedence that it is now.
pub data Closing : Type 0 where
  no_closing : Closing
  taken : ExprState → Closing
  reopened : Open → Closing
  closed : ℕ → Expr → Closing

-- after `=`, where the argument is a name so far
abbrev pub label_of : Option Text → Expr → Callee → List ArgIs → Closing
label_of None (name x line) c es = reopened (argument c es (Some x))
label_of _ _ c es = no_closing

-- after the value of an argument
unfoldable pub closing_argument : Callee → List ArgIs → Option Text → Expr → Lexemes → Closing
closing_argument c es x e ts =
    if is_punctuation m.Comma ts then reopened (argument c (es ++ (x, e) ∷ []) None)
    else (if is_punctuation m.RightParen ts then taken (called c (es ++ (x, e) ∷ []))
    else (if is_punctuation m.Assign ts then label_of x e c es else no_closing))

-- after an operand of a chain, where this operator of its precedence comes next or none
abbrev pub more_of : Option Operator → Operator → Expr → List StepIs → ℕ → Closing
more_of (Some op) before first ss line = reopened (chain_of first ss op line)
more_of None before first ss line = closed (precedence_of before) (chain first (steps_of ss))

abbrev pub closing : Expr → Open → Lexemes → Closing
closing e paren ts = if is_punctuation m.RightParen ts then taken (value_read 0 (group e)) else no_closing
closing e (argument c es x) ts = closing_argument c es x e ts
closing e (minus_of line) ts = closed 2 (minus e line)
closing e (not_of line) ts = closed 2 (not_ e line)
closing e (chain_of first ss op line) ts = more_of (operator_at (precedence_of op) ts) op first (ss ++ (op, (e, line)) ∷ []) (line_of ts)
closing e (compare_of op first line) ts = closed 5 (compare op first e line)
closing e (yes_of c line) ts = if is_punctuation m.Colon ts then reopened (no_of c e line) else no_closing
closing e (no_of c yes_ line) ts = closed 8 (conditional c yes_ e line)

abbrev pub by_closing : Closing → List Open → (ℕ → Expr → ExprStep) → ExprStep
by_closing no_closing fs go = refused
by_closing (taken now) fs go = keeps now fs
by_closing (reopened f) fs go = keeps operand_next (f ∷ fs)
by_closing (closed k e) fs go = go k e

-- The next token closes what is open innermost. The expression stands in it.
abbrev pub close : Expr → List Open → Lexemes → ExprStep
close e [] ts = leaves e
close e (f ∷ fs) ts = by_closing (closing e f ts) fs (λ k grown. if grows k fs ts then grow grown fs ts else close grown fs ts)

-- after an expression of this precedence
abbrev pub after : ℕ → Expr → List Open → Lexemes → ExprStep
after k e fs ts = if grows k fs ts then grow e fs ts else close e fs ts

-- ---- one token

abbrev pub after_calls : Expr → List MethodCallIs → List Open → Lexemes → ExprStep
after_calls e ds fs ts = if is_punctuation m.Dot ts then keeps (dot_read e ds) fs else after 1 (method_calls e (method_calls_of ds)) fs ts

abbrev pub method_by : Option Symbol → Expr → List MethodCallIs → List Open → Text → ℕ → ExprStep
method_by (Some s.Name) e ds fs x line = keeps (method_read e ds x line) fs
method_by _ e ds fs x line = refused

abbrev pub expr_step : ExprState → List Open → Lexemes → ExprStep
expr_step operand_next fs ts = operand fs ts
expr_step (value_read k e) fs ts = after k e fs ts
expr_step (name_read x line) fs ts = if is_punctuation m.LeftParen ts then keeps (args_opened (call_of x line)) fs else after 0 (name x line) fs ts
expr_step (args_opened c) fs ts = if is_punctuation m.RightParen ts then keeps (called c []) fs else operand (argument c [] None ∷ fs) ts
expr_step (dot_read e ds) fs ts = method_by (peek ts) e ds fs (content_at ts) (line_of ts)
expr_step (method_read e ds x line) fs ts =
    if is_punctuation m.LeftParen ts then keeps (args_opened (method_of e ds x line)) fs else after_calls e (ds ++ (x, (None, line)) ∷ []) fs ts
expr_step (calls_read e ds) fs ts = after_calls e ds fs ts

-- ==== What is open in a script, and what a token does to it: the machine that reads a script one token a turn. A state is what the
-- grammar of avs_tree leaves to read, with the trees of what was read.

-- ---- states

-- what an expression is for
pub data Use : Type 0 where
  to_value : Use
  to_global : Text → Use
  to_assign : Text → Use
  to_return : Use
  to_arm : List ArmIs → Use
  to_while : Use
  -- the numbers of a `for`, after its name and the numbers before
  to_first : Text → Use
  to_last : Text → Expr → Use
  to_step : Text → Expr → Expr → Use

-- what braces in a statement belong to
pub data Owner : Type 0 where
  arm_of : List ArmIs → Expr → Owner
  else_of : List ArmIs → Owner
  while_of : Expr → Owner
  for_of : Text → Expr → Expr → Option Expr → Owner

-- Open braces, the innermost first, each with the line of what it belongs to and the statements before that. The outermost
-- may be those of a function, with its name and its parameters. At the bottom stand the functions of the script so far.
pub data Levels : Type 0 where
  top : List Function → Levels
  in_function : Text → List Parameter → ℕ → List StatementIs → List Function → Levels
  level : Owner → ℕ → List StatementIs → Levels → Levels

-- how many braces are open
abbrev pub depth : Levels → ℕ
depth (top gs) = 0
depth (in_function y ps line before gs) = 1
depth (level o line before ls) = suc (depth ls)

-- what was read last of a statement
pub data StatementState : Type 0 where
  -- a statement or newlines come next
  statement_next : StatementState
  in_expression : Use → ExprState → List Open → StatementState
  -- a parenthesis comes next
  parenthesis_next : Use → StatementState
  -- newlines and a left brace come next
  braces_next : Owner → StatementState
  -- an arm, which `else` may follow
  after_arm : List ArmIs → StatementState
  -- `else`
  after_else : List ArmIs → StatementState
  -- `global`, and `global` with a name
  after_global : StatementState
  after_global_name : Text → StatementState
  -- `for`, `for` with its parenthesis, and with a name
  after_for : StatementState
  for_opened : StatementState
  after_for_name : Text → StatementState

-- What was read last of the head of a function. A truth value says whether further parameters have to be optional.
pub data HeadState : Type 0 where
  -- `function`, and `function` with a name
  after_function : HeadState
  after_function_name : Text → HeadState
  -- its parenthesis
  head_opened : Text → HeadState
  -- the type of a parameter
  after_type : Text → List Parameter → Bool → TypeWord → HeadState
  after_parameter : Text → List Parameter → Bool → HeadState
  -- a comma
  parameter_next : Text → List Parameter → Bool → HeadState
  -- the right parenthesis
  function_braces_next : Text → List Parameter → HeadState

-- What was read of a script: beside what was read last, the line of the statement or function, the statements before it, and
-- the open braces. The head of a function stands in none, so there are only the functions before it.
pub data State : Type 0 where
  at : StatementState → ℕ → List StatementIs → Levels → State
  at_head : HeadState → ℕ → List StatementIs → List Function → State

-- nothing
abbrev pub start : State
start = at statement_next 0 [] (top [])

-- What a token does: it cannot stand there, it is taken, or it ends the script.
pub data Step : Type 0 where
  stuck : Step
  goes : State → Step
  whole : Script → Step

-- ---- the ends of blocks

abbrev pub function_of : Text → List Parameter → ℕ → List StatementIs → Function
function_of y ps line ss = record { name = y; params = ps; body = block_of ss; line = line }

-- `}`
abbrev pub close_by : List StatementIs → Levels → Step
close_by ss (top gs) = stuck
close_by ss (in_function y ps line before gs) = goes (at statement_next line before (top (gs ++ function_of y ps line ss ∷ [])))
close_by ss (level (arm_of arms e) line before ls) = goes (at (after_arm (arms ++ (e, block_of ss) ∷ [])) line before ls)
close_by ss (level (else_of arms) line before ls) = goes (at statement_next line (before ++ (if_ (arms_of arms) (else_ (block_of ss)), line) ∷ []) ls)
close_by ss (level (while_of e) line before ls) = goes (at statement_next line (before ++ (while e (block_of ss), line) ∷ []) ls)
close_by ss (level (for_of y a b c) line before ls) = goes (at statement_next line (before ++ (for y a b c (block_of ss), line) ∷ []) ls)

-- the end
abbrev pub end_by : List StatementIs → Levels → Step
end_by ss (top gs) = whole (record { functions = gs; statements = block_of ss })
end_by ss _ = stuck

-- ---- statements

abbrev pub in_statement : ExprStep → Use → ℕ → List StatementIs → Levels → Step
in_statement refused use_ line ss ls = stuck
in_statement (keeps now fs) use_ line ss ls = goes (at (in_expression use_ now fs) line ss ls)
in_statement (leaves e) use_ line ss ls = stuck

-- `function`, which stands in no braces
abbrev pub function_by : ℕ → List StatementIs → Levels → Step
function_by line ss (top gs) = goes (at_head after_function line ss gs)
function_by line ss _ = stuck

-- Where no statement of another kind begins, an expression does, by this step of it.
abbrev pub items_by : Option Symbol → ExprStep → ℕ → List StatementIs → Levels → Step
items_by (Some (s.Punctuation m.Newline)) operand line ss ls = goes (at statement_next line ss ls)
items_by (Some (s.Punctuation m.RightBrace)) operand line ss ls = close_by ss ls
items_by (Some (s.Punctuation m.End)) operand line ss ls = end_by ss ls
items_by (Some (s.Keyword w.Function)) operand line ss ls = function_by line ss ls
items_by (Some (s.Keyword w.If)) operand line ss ls = goes (at (parenthesis_next (to_arm [])) line ss ls)
items_by (Some (s.Keyword w.While)) operand line ss ls = goes (at (parenthesis_next to_while) line ss ls)
items_by (Some (s.Keyword w.For)) operand line ss ls = goes (at after_for line ss ls)
items_by (Some (s.Keyword w.Return)) operand line ss ls = goes (at (in_expression to_return operand_next []) line ss ls)
items_by (Some (s.Keyword w.Global)) operand line ss ls = goes (at after_global line ss ls)
items_by _ operand line ss ls = in_statement operand to_value line ss ls

-- a newline, `}` or the end, after a statement
abbrev pub done_by : Option Symbol → List StatementIs → ℕ → Levels → Step
done_by (Some (s.Punctuation m.Newline)) ss line ls = goes (at statement_next line ss ls)
done_by (Some (s.Punctuation m.RightBrace)) ss line ls = close_by ss ls
done_by (Some (s.Punctuation m.End)) ss line ls = end_by ss ls
done_by _ ss line ls = stuck

abbrev pub assigned : Expr → ℕ → List StatementIs → Levels → Step
assigned (t.name y l) line ss ls = goes (at (in_expression (to_assign y) operand_next []) line ss ls)
assigned _ line ss ls = stuck

-- after a whole expression
abbrev pub used : Use → Expr → ℕ → List StatementIs → Levels → Lexemes → Step
used to_value e line ss ls ts = if is_punctuation m.Assign ts then assigned e line ss ls else done_by (peek ts) (ss ++ (value e, line) ∷ []) line ls
used (to_global y) e line ss ls ts = done_by (peek ts) (ss ++ (global y e, line) ∷ []) line ls
used (to_assign y) e line ss ls ts = done_by (peek ts) (ss ++ (assign y e, line) ∷ []) line ls
used to_return e line ss ls ts = done_by (peek ts) (ss ++ (return e, line) ∷ []) line ls
used (to_arm arms) e line ss ls ts = if is_punctuation m.RightParen ts then goes (at (braces_next (arm_of arms e)) line ss ls) else stuck
used to_while e line ss ls ts = if is_punctuation m.RightParen ts then goes (at (braces_next (while_of e)) line ss ls) else stuck
used (to_first y) e line ss ls ts = if is_punctuation m.Comma ts then goes (at (in_expression (to_last y e) operand_next []) line ss ls) else stuck
used (to_last y a) e line ss ls ts =
    if is_punctuation m.Comma ts then goes (at (in_expression (to_step y a e) operand_next []) line ss ls)
    else (if is_punctuation m.RightParen ts then goes (at (braces_next (for_of y a e None)) line ss ls) else stuck)
used (to_step y a b) e line ss ls ts = if is_punctuation m.RightParen ts then goes (at (braces_next (for_of y a b (Some e))) line ss ls) else stuck

abbrev pub expression_by : ExprStep → Use → ℕ → List StatementIs → Levels → Lexemes → Step
expression_by refused use_ line ss ls ts = stuck
expression_by (keeps now fs) use_ line ss ls ts = goes (at (in_expression use_ now fs) line ss ls)
expression_by (leaves e) use_ line ss ls ts = used use_ e line ss ls ts

abbrev pub body_by : Option Symbol → Owner → ℕ → List StatementIs → Levels → Step
body_by (Some (s.Punctuation m.Newline)) o line ss ls = goes (at (braces_next o) line ss ls)
body_by (Some (s.Punctuation m.LeftBrace)) o line ss ls = goes (at statement_next line [] (level o line ss ls))
body_by _ o line ss ls = stuck

abbrev pub arms_by : Option Symbol → ExprStep → ℕ → List ArmIs → ℕ → List StatementIs → Levels → Step
arms_by (Some (s.Punctuation m.Newline)) operand next arms line ss ls = goes (at (after_arm arms) line ss ls)
arms_by (Some (s.Keyword w.Else)) operand next arms line ss ls = goes (at (after_else arms) line ss ls)
arms_by y operand next arms line ss ls = items_by y operand next (ss ++ (if_ (arms_of arms) no_else, line) ∷ []) ls

abbrev pub other_by : Option Symbol → List ArmIs → ℕ → List StatementIs → Levels → Step
other_by (Some (s.Keyword w.If)) arms line ss ls = goes (at (parenthesis_next (to_arm arms)) line ss ls)
other_by y arms line ss ls = body_by y (else_of arms) line ss ls

abbrev pub global_by : Option Symbol → Text → ℕ → List StatementIs → Levels → Step
global_by (Some s.Name) y line ss ls = goes (at (after_global_name y) line ss ls)
global_by _ y line ss ls = stuck

abbrev pub for_by : Option Symbol → Text → ℕ → List StatementIs → Levels → Step
for_by (Some s.Name) y line ss ls = goes (at (after_for_name y) line ss ls)
for_by _ y line ss ls = stuck

-- one token in a statement
abbrev pub advance_statement : StatementState → ℕ → List StatementIs → Levels → Lexemes → Step
advance_statement statement_next line ss ls ts = items_by (peek ts) (operand [] ts) (line_of ts) ss ls
advance_statement (in_expression use_ now fs) line ss ls ts = expression_by (expr_step now fs ts) use_ line ss ls ts
advance_statement (parenthesis_next use_) line ss ls ts = if is_punctuation m.LeftParen ts then goes (at (in_expression use_ operand_next []) line ss ls) else stuck
advance_statement (braces_next o) line ss ls ts = body_by (peek ts) o line ss ls
advance_statement (after_arm arms) line ss ls ts = arms_by (peek ts) (operand [] ts) (line_of ts) arms line ss ls
advance_statement (after_else arms) line ss ls ts = other_by (peek ts) arms line ss ls
advance_statement after_global line ss ls ts = global_by (peek ts) (content_at ts) line ss ls
advance_statement (after_global_name y) line ss ls ts = if is_punctuation m.Assign ts then goes (at (in_expression (to_global y) operand_next []) line ss ls) else stuck
advance_statement after_for line ss ls ts = if is_punctuation m.LeftParen ts then goes (at for_opened line ss ls) else stuck
advance_statement for_opened line ss ls ts = for_by (peek ts) (content_at ts) line ss ls
advance_statement (after_for_name y) line ss ls ts = if is_punctuation m.Assign ts then goes (at (in_expression (to_first y) operand_next []) line ss ls) else stuck

-- ---- the head of a function

abbrev pub function_name_by : Option Symbol → Text → ℕ → List StatementIs → List Function → Step
function_name_by (Some s.Name) y line ss gs = goes (at_head (after_function_name y) line ss gs)
function_name_by _ y line ss gs = stuck

-- a name that is the word for a type
abbrev pub type_by : Option Symbol → Option TypeWord → Text → List Parameter → Bool → ℕ → List StatementIs → List Function → Step
type_by (Some s.Name) (Some word) y ps must line ss gs = goes (at_head (after_type y ps must word) line ss gs)
type_by _ _ y ps must line ss gs = stuck

abbrev pub with_parameter : List Parameter → TypeWord → Bool → Text → List Parameter
with_parameter ps word optional z = ps ++ record { name = z; word = word; optional = optional } ∷ []

-- the name of a parameter, or the string of an optional one
abbrev pub parameter_by : Option Symbol → Text → Text → List Parameter → Bool → TypeWord → ℕ → List StatementIs → List Function → Step
parameter_by (Some s.Name) z y ps must word line ss gs = if must then stuck else goes (at_head (after_parameter y (with_parameter ps word false z) false) line ss gs)
parameter_by (Some s.Str) z y ps must word line ss gs = if is_name z then goes (at_head (after_parameter y (with_parameter ps word true z) true) line ss gs) else stuck
parameter_by _ z y ps must word line ss gs = stuck

-- newlines and a left brace
abbrev pub function_body_by : Option Symbol → Text → List Parameter → ℕ → List StatementIs → List Function → Step
function_body_by (Some (s.Punctuation m.Newline)) y ps line ss gs = goes (at_head (function_braces_next y ps) line ss gs)
function_body_by (Some (s.Punctuation m.LeftBrace)) y ps line ss gs = goes (at statement_next line [] (in_function y ps line ss gs))
function_body_by _ y ps line ss gs = stuck

-- one token in the head of a function
abbrev pub advance_head : HeadState → ℕ → List StatementIs → List Function → Lexemes → Step
advance_head after_function line ss gs ts = function_name_by (peek ts) (content_at ts) line ss gs
advance_head (after_function_name y) line ss gs ts = if is_punctuation m.LeftParen ts then goes (at_head (head_opened y) line ss gs) else stuck
advance_head (head_opened y) line ss gs ts =
    if is_punctuation m.RightParen ts then goes (at_head (function_braces_next y []) line ss gs)
    else type_by (peek ts) (type_word_of (content_at ts)) y [] false line ss gs
advance_head (after_type y ps must word) line ss gs ts = parameter_by (peek ts) (content_at ts) y ps must word line ss gs
advance_head (after_parameter y ps must) line ss gs ts =
    if is_punctuation m.Comma ts then goes (at_head (parameter_next y ps must) line ss gs)
    else (if is_punctuation m.RightParen ts then goes (at_head (function_braces_next y ps) line ss gs) else stuck)
advance_head (parameter_next y ps must) line ss gs ts = type_by (peek ts) (type_word_of (content_at ts)) y ps must line ss gs
advance_head (function_braces_next y ps) line ss gs ts = function_body_by (peek ts) y ps line ss gs

-- ---- one token

abbrev pub advance : State → Lexemes → Step
advance (at here line ss ls) ts = advance_statement here line ss ls ts
advance (at_head here line ss gs) ts = advance_head here line ss gs ts

-- ==== How many levels are open in a state of the machine: parentheses, braces, signs before an operand, and branches.

abbrev pub open_level : List Open → ℕ
open_level [] = 0
open_level (chain_of e ss op line ∷ fs) = open_level fs
open_level (compare_of op e line ∷ fs) = open_level fs
open_level (_ ∷ fs) = 1 + open_level fs

abbrev pub expr_level : ExprState → ℕ
expr_level (args_opened c) = 1
expr_level _ = 0

abbrev pub use_level : Use → ℕ
use_level (to_arm arms) = 1
use_level to_while = 1
use_level (to_first y) = 1
use_level (to_last y a) = 1
use_level (to_step y a b) = 1
use_level _ = 0

abbrev pub statement_level : StatementState → ℕ
statement_level (in_expression use_ now fs) = use_level use_ + (expr_level now + open_level fs)
statement_level for_opened = 1
statement_level (after_for_name y) = 1
statement_level _ = 0

abbrev pub head_level : HeadState → ℕ
head_level (head_opened y) = 1
head_level (after_type y ps must word) = 1
head_level (after_parameter y ps must) = 1
head_level (parameter_next y ps must) = 1
head_level _ = 0

abbrev pub level_of : State → ℕ
level_of (at here line ss ls) = depth ls + statement_level here
level_of (at_head here line ss gs) = head_level here
