-- What may still come nests as deep as what is open.
use Rattle.std.proofs.Common.{ap, ℕ, suc, ◌+◌, ◌≤◌, max, arith, Bool, false, inl, inr, List, [], ◌∷◌, ◌++◌, Option, Some}
use Rattle.avs_tree.specs.Lexeme.{Lexemes}
use Rattle.avs_lex.specs.Spelling.{Text}
use Rattle.avs_tree.specs.Tree.{Expr, Kind, global, assign, return, if_, while, for, value, Arms, no_arms, arm, Else, no_else, else_, Block, no_more, then_, Function, Script, ends_with_brace}
use Rattle.avs_tree.specs.Tree as t
use Rattle.avs_tree.specs.View.{StatementIs, ArmIs, arms_of}
use Rattle.avs_tree.specs.Grammar.{nesting, step_nesting, kind_nesting, arms_nesting, block_nesting, functions_nesting, script_nesting, functions_of, statements_of}
use Rattle.avs_tree.specs.declared.words.TypeWord.{TypeWord}
use Rattle.avs_tree.specs.declared.tree.Parameter.{Parameter}
use Rattle.avs_tree.specs.Machine.{operand_next, ExprState, Open, Use, to_value, to_global, to_assign, to_return, to_arm, to_while, to_first, to_last, to_step, Owner, arm_of, else_of, while_of, for_of, Levels, top, in_function, level, depth, StatementState, statement_next, in_expression, parenthesis_next, braces_next, after_arm, after_else, after_global, after_global_name, after_for, for_opened, after_for_name, HeadState, after_function, after_function_name, head_opened, after_type, after_parameter, parameter_next, function_braces_next, State, at, at_head, open_level, expr_level, use_level, level_of}
use Rattle.avs_tree.proofs.ScriptMeaning.{all_block, all_arms, function_with, ArmsIn, OwnedIn, Rest, Next, Done, Bodied, ForBodied, Used, Equals, ForNamed, Statement, FunctionBodied, HeadEnds, Typed, HeadOpened, Head, Completion}
use Rattle.avs_tree.proofs.ExprMeaning.{Meaning}
use Rattle.avs_tree.proofs.DeepExpr.{meaning_deep}

kind_deep : (before : List StatementIs) (k : Kind) (line : ℕ) (rest : Block) → kind_nesting k ≤ block_nesting (all_block (before ++ (k, line) ∷ []) rest)
kind_deep [] k line rest = omega arith
kind_deep (x ∷ before) k line rest = omega (arith, kind_deep before k line rest)

arms_deep : (arms : List ArmIs) (e : Expr) (b : Block) (rest : Arms) → suc (max (nesting e) (block_nesting b)) ≤ arms_nesting (all_arms (arms ++ (e, b) ∷ []) rest)
arms_deep [] e b rest = omega arith
arms_deep (a ∷ arms) e b rest = omega (arith, arms_deep arms e b rest)

function_deep : (gs : List Function) (f : Function) (hs : List Function) → suc (block_nesting f.body) ≤ functions_nesting ((gs ++ f ∷ []) ++ hs)
function_deep [] f hs = omega arith
function_deep (g ∷ gs) f hs = omega (arith, function_deep gs f hs)

module _ (tree : Script) where
  -- the statements of a block, with further ones, nest within the script
  abbrev Deep : Levels → List StatementIs → Type 0
  Deep ls ss = (b : Block) × (depth ls + block_nesting (all_block ss b) ≤ script_nesting tree)

  owned_deep : (n : ℕ) (N : List StatementIs → Lexemes → Type 0) → ((before : List StatementIs) (k : Kind) (line : ℕ) (ts : Lexemes) → N (before ++ (k, line) ∷ []) ts → n + kind_nesting k ≤ script_nesting tree)
      → (o : Owner) (line : ℕ) (before : List StatementIs) (b : Block) (ts : Lexemes) → OwnedIn N o line before b ts → n + suc (block_nesting b) ≤ script_nesting tree
  owned_deep n N go (arm_of arms e) line before b ts (rest, o, us, vs, elses, els, h) = omega (arith, go before (if_ (all_arms (arms ++ (e, b) ∷ []) rest) o) line vs h, arms_deep arms e b rest)
  owned_deep n N go (else_of arms) line before b ts h = omega (arith, go before (if_ (arms_of arms) (else_ b)) line ts h)
  owned_deep n N go (while_of e) line before b ts h = omega (arith, go before (while e b) line ts h)
  owned_deep n N go (for_of y a b' c) line before b ts h = omega (arith, go before (for y a b' c b) line ts h)

  next_by : (ls : Levels) → ((ss : List StatementIs) (ts : Lexemes) → Rest tree ls ss ts → Deep ls ss) → (before : List StatementIs) (k : Kind) (line : ℕ) (ts : Lexemes)
      → Next tree ls (before ++ (k, line) ∷ []) ts → depth ls + kind_nesting k ≤ script_nesting tree
  next_by ls go before k line ts (us, nls, h) = let one = go (before ++ (k, line) ∷ []) us h in omega (arith, one.1, kind_deep before k line one.0)

  rest_deep : (ls : Levels) (ss : List StatementIs) (ts : Lexemes) → Rest tree ls ss ts → Deep ls ss
  rest_deep (top gs) ss ts (i, us, d, end, same) = (statements_of i, omega (arith, ap script_nesting same))
  rest_deep (in_function y ps line before gs) ss ts (b, us, d, (vs, right, (ws, nls, (i, xs, d', end, same)))) =
      (b, omega (arith, ap script_nesting same, function_deep gs (function_with y ps line (all_block ss b)) (functions_of i)))
  rest_deep (level o line before ls) ss ts (b, us, d, (vs, right, h)) =
      let low = owned_deep (depth ls) (Next tree ls) (next_by ls (rest_deep ls)) o line before (all_block ss b) vs h in (b, omega arith)

  next_deep : (ls : Levels) (before : List StatementIs) (k : Kind) (line : ℕ) (ts : Lexemes) → Next tree ls (before ++ (k, line) ∷ []) ts → depth ls + kind_nesting k ≤ script_nesting tree
  next_deep ls before k line ts h = next_by ls (rest_deep ls) before k line ts h

  next_level : (ls : Levels) (ss : List StatementIs) (ts : Lexemes) → Next tree ls ss ts → depth ls ≤ script_nesting tree
  next_level ls ss ts (us, nls, h) = let one = rest_deep ls ss us h in omega (arith, one.1)

  done_deep : (ls : Levels) (ss : List StatementIs) (k : Kind) (line : ℕ) (ts : Lexemes) → Done tree ls ss k line ts → depth ls + kind_nesting k ≤ script_nesting tree
  done_deep ls ss k line ts (us, sep, h) = let one = rest_deep ls (ss ++ (k, line) ∷ []) us h in omega (arith, one.1, kind_deep ss k line one.0)

  arms_level : (ls : Levels) (ss : List StatementIs) (line : ℕ) (arms : List ArmIs) (e : Expr) (b : Block) (ts : Lexemes) → ArmsIn (Next tree ls) line ss (arms ++ (e, b) ∷ []) ts
      → depth ls + suc (nesting e) ≤ script_nesting tree
  arms_level ls ss line arms e b ts (rest, o, us, vs, elses, els, h) =
      omega (arith, next_deep ls ss (if_ (all_arms (arms ++ (e, b) ∷ []) rest) o) line vs h, arms_deep arms e b rest)

  for_deep : (ls : Levels) (ss : List StatementIs) (line : ℕ) (y : Text) (a b : Expr) (c : Option Expr) (ts : Lexemes) → ForBodied tree ls ss line y a b c ts
      → depth ls + suc (max (nesting a) (max (nesting b) (step_nesting c))) ≤ script_nesting tree
  for_deep ls ss line y a b c ts (v, r, (us, vs, nls, left, (ws, nls', (d, xs, inside, (ys, right, h))))) = omega (arith, next_deep ls ss (for y a b c d) line ys h)

  -- the parentheses of a condition were as deep as the braces after it are
  used_deep : (ls : Levels) (ss : List StatementIs) (line : ℕ) (use_ : Use) (e : Expr) (ts : Lexemes) → Used tree ls ss line use_ e ts → (depth ls + use_level use_) + nesting e ≤ script_nesting tree
  used_deep ls ss line to_value e ts (inl h) = omega (arith, done_deep ls ss (value e) line ts h)
  used_deep ls ss line to_value (t.name y l) ts (inr (us, vs, f, is, d, h)) = omega (arith, done_deep ls ss (assign y f) line vs h)
  used_deep ls ss line to_value _ ts (inr h) = absurd h
  used_deep ls ss line (to_global y) e ts h = omega (arith, done_deep ls ss (global y e) line ts h)
  used_deep ls ss line (to_assign y) e ts h = omega (arith, done_deep ls ss (assign y e) line ts h)
  used_deep ls ss line to_return e ts h = omega (arith, done_deep ls ss (return e) line ts h)
  used_deep ls ss line (to_arm arms) e ts (v, r, (us, vs, nls, left, (ws, nls', (b, xs, d, (ys, right, h))))) = omega (arith, arms_level ls ss line arms e b ys h)
  used_deep ls ss line to_while e ts (v, r, (us, vs, nls, left, (ws, nls', (b, xs, d, (ys, right, h))))) = omega (arith, next_deep ls ss (while e b) line ys h)
  used_deep ls ss line (to_first y) e ts (us, vs, b, comma, d, (c, ws, step, h)) = omega (arith, for_deep ls ss line y e b c ws h)
  used_deep ls ss line (to_last y a) e ts (c, ws, step, h) = omega (arith, for_deep ls ss line y a e c ws h)
  used_deep ls ss line (to_step y a b) e ts h = omega (arith, for_deep ls ss line y a b (Some e) ts h)

  operand_next_level : (ls : Levels) (ss : List StatementIs) (line : ℕ) (use_ : Use) (now : ExprState) (fs : List Open) (ts : Lexemes) → Meaning (Used tree ls ss line use_) now fs ts
      → (depth ls + use_level use_) + (expr_level now + open_level fs) ≤ script_nesting tree
  operand_next_level ls ss line use_ now fs ts h = meaning_deep (Used tree ls ss line use_) (depth ls + use_level use_) (script_nesting tree) (used_deep ls ss line use_) now fs ts h

  equals_level : (ls : Levels) (ss : List StatementIs) (line : ℕ) (use_ : Use) (ts : Lexemes) → Equals tree ls ss line use_ ts → depth ls + use_level use_ ≤ script_nesting tree
  equals_level ls ss line use_ ts (us, is, h) = omega (arith, operand_next_level ls ss line use_ operand_next [] us h)

  bodied_level : (ls : Levels) (ss : List StatementIs) (line : ℕ) (o : Owner) (ts : Lexemes) → Bodied tree ls ss line o ts → depth ls ≤ script_nesting tree
  bodied_level ls ss line o ts (us, vs, nls, left, h) = omega (arith, next_level (level o line ss ls) [] vs h)

  for_level : (ls : Levels) (ss : List StatementIs) (line : ℕ) (ts : Lexemes) → ForNamed tree ls ss line ts → depth ls + 1 ≤ script_nesting tree
  for_level ls ss line ts (y, us, nm, h) = equals_level ls ss line (to_first y) us h

  statement_deep : (here : StatementState) (line : ℕ) (ss : List StatementIs) (ls : Levels) (ts : Lexemes) → Statement tree here line ss ls ts → level_of (at here line ss ls) ≤ script_nesting tree
  statement_deep statement_next line ss ls ts h = omega (arith, next_level ls ss ts h)
  statement_deep (in_expression use_ now fs) line ss ls ts h = omega (arith, operand_next_level ls ss line use_ now fs ts h)
  statement_deep (parenthesis_next use_) line ss ls ts (us, is, h) = omega (arith, operand_next_level ls ss line use_ operand_next [] us h)
  statement_deep (braces_next o) line ss ls ts h = omega (arith, bodied_level ls ss line o ts h)
  statement_deep (after_arm arms) line ss ls ts (rest, o, us, vs, elses, els, h) = omega (arith, next_level ls (ss ++ (if_ (all_arms arms rest) o, line) ∷ []) vs h)
  statement_deep (after_else arms) line ss ls ts (inl (us, is, (vs, is', h))) = omega (arith, operand_next_level ls ss line (to_arm arms) operand_next [] vs h)
  statement_deep (after_else arms) line ss ls ts (inr h) = omega (arith, bodied_level ls ss line (else_of arms) ts h)
  statement_deep after_global line ss ls ts (y, us, is, h) = omega (arith, equals_level ls ss line (to_global y) us h)
  statement_deep (after_global_name y) line ss ls ts h = omega (arith, equals_level ls ss line (to_global y) ts h)
  statement_deep after_for line ss ls ts (us, is, h) = omega (arith, for_level ls ss line us h)
  statement_deep for_opened line ss ls ts h = omega (arith, for_level ls ss line ts h)
  statement_deep (after_for_name y) line ss ls ts h = omega (arith, equals_level ls ss line (to_first y) ts h)

  -- ---- the head of a function

  body_level : (gs : List Function) (ss : List StatementIs) (line : ℕ) (y : Text) (ps : List Parameter) (ts : Lexemes) → FunctionBodied tree gs ss line y ps ts → 1 ≤ script_nesting tree
  body_level gs ss line y ps ts (us, vs, nls, left, h) = next_level (in_function y ps line ss gs) [] vs h

  end_level : (gs : List Function) (ss : List StatementIs) (line : ℕ) (y : Text) (ps : List Parameter) (ts : Lexemes) → HeadEnds tree gs ss line y ps ts → 1 ≤ script_nesting tree
  end_level gs ss line y ps ts (us, right, h) = body_level gs ss line y ps us h

  typed_level : (gs : List Function) (ss : List StatementIs) (line : ℕ) (y : Text) (ps : List Parameter) (must : Bool) (word : TypeWord) (ts : Lexemes) → Typed tree gs ss line y ps must word ts → 1 ≤ script_nesting tree
  typed_level gs ss line y ps must word ts (optional, z, us, implies, nm, (rest, vs, more, h)) = end_level gs ss line y ((ps ++ record { name = z; word = word; optional = optional } ∷ []) ++ rest) vs h

  opened_level : (gs : List Function) (ss : List StatementIs) (line : ℕ) (y : Text) (ts : Lexemes) → HeadOpened tree gs ss line y ts → 1 ≤ script_nesting tree
  opened_level gs ss line y ts (inl h) = end_level gs ss line y [] ts h
  opened_level gs ss line y ts (inr (x, word, us, nm, is, h)) = typed_level gs ss line y [] false word us h

  head_deep : (here : HeadState) (line : ℕ) (ss : List StatementIs) (gs : List Function) (ts : Lexemes) → Head tree here line ss gs ts → level_of (at_head here line ss gs) ≤ script_nesting tree
  head_deep after_function line ss gs ts h = omega arith
  head_deep (after_function_name y) line ss gs ts h = omega arith
  head_deep (head_opened y) line ss gs ts h = opened_level gs ss line y ts h
  head_deep (after_type y ps must word) line ss gs ts h = typed_level gs ss line y ps must word ts h
  head_deep (after_parameter y ps must) line ss gs ts (rest, us, more, h) = end_level gs ss line y (ps ++ rest) us h
  head_deep (parameter_next y ps must) line ss gs ts (x, word, us, nm, is, h) = typed_level gs ss line y ps must word us h
  head_deep (function_braces_next y ps) line ss gs ts h = omega arith

  -- What may come makes a script that nests as deep as what is open.
  pub completion_deep : (state : State) (ts : Lexemes) → Completion tree state ts → level_of state ≤ script_nesting tree
  completion_deep (at here line ss ls) ts h = statement_deep here line ss ls ts h
  completion_deep (at_head here line ss gs) ts h = head_deep here line ss gs ts h
