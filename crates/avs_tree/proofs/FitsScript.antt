-- What was read of a script fits within the limit of nesting, as long as no more levels are open than it allows.
use Rattle.std.proofs.Common.{ℕ, suc, ◌+◌, ◌<◌, ◌≤◌, max, arith, Bool, true, false, List, [], ◌∷◌, ◌++◌, Option, Some, None, if◌then◌else◌}
use Rattle.avs_tree.specs.Lexeme.{Lexemes, line_of, is_name, type_word_of, peek, content_at, is_punctuation}
use Rattle.avs_lex.specs.Spelling.{Text}
use Rattle.avs_tree.specs.Tree.{Expr, Kind, global, assign, return, if_, while, for, value, Arms, no_arms, arm, Else, no_else, else_, Block, no_more, then_, Function, Script, ends_with_brace}
use Rattle.avs_tree.specs.Tree as t
use Rattle.avs_tree.specs.View.{StatementIs, ArmIs, arms_of, block_of}
use Rattle.avs_tree.specs.Grammar.{nesting, step_nesting, kind_nesting, arms_nesting, block_nesting, functions_nesting, script_nesting}
use Rattle.avs_tree.specs.declared.symbol.Symbol.{Symbol}
use Rattle.avs_tree.specs.declared.symbol.Symbol.TheVariants as s
use Rattle.avs_tree.specs.declared.words.Keyword.TheVariants as w
use Rattle.avs_tree.specs.declared.words.TypeWord.{TypeWord}
use Rattle.avs_tree.specs.declared.symbol.Punctuation.TheVariants as m
use Rattle.avs_tree.specs.declared.tree.Parameter.{Parameter}
use Rattle.avs_tree.specs.Machine.{operand_next, keeps, leaves, refused, ExprStep, operand, expr_step, Use, to_value, to_global, to_assign, to_return, to_arm, to_while, to_first, to_last, to_step, Owner, arm_of, else_of, while_of, for_of, Levels, top, in_function, level, depth, StatementState, statement_next, in_expression, parenthesis_next, braces_next, after_arm, after_else, after_global, after_global_name, after_for, for_opened, after_for_name, HeadState, after_function, after_function_name, head_opened, after_type, after_parameter, parameter_next, function_braces_next, State, at, at_head, Step, stuck, goes, whole, function_of, close_by, end_by, in_statement, function_by, items_by, done_by, assigned, used, expression_by, body_by, arms_by, other_by, global_by, for_by, advance_statement, function_name_by, type_by, with_parameter, parameter_by, function_body_by, advance_head, advance, open_level, use_level, level_of}
use Rattle.avs_tree.proofs.ScriptMeaning.{all_block, all_arms}
use Rattle.avs_tree.proofs.Tokens.{in_if}
use Rattle.avs_tree.proofs.Fits.{Fits, FitsNow, FitsExprStep, fits_operand, fits_expr_step}

abbrev pub block_nest : List StatementIs → ℕ
block_nest ss = block_nesting (all_block ss no_more)

abbrev pub arms_nest : List ArmIs → ℕ
arms_nest arms = arms_nesting (all_arms arms no_arms)

pub block_more : (ss : List StatementIs) (k : Kind) (line : ℕ) → block_nest (ss ++ (k, line) ∷ []) ≤ max (block_nest ss) (kind_nesting k)
block_more [] k line = omega arith
block_more (x ∷ ss) k line = omega (arith, block_more ss k line)

block_is : (ss : List StatementIs) → block_nesting (block_of ss) ≤ block_nest ss
block_is [] = omega arith
block_is (x ∷ ss) = omega (arith, block_is ss)

pub arms_more : (arms : List ArmIs) (e : Expr) (b : Block) → arms_nest (arms ++ (e, b) ∷ []) ≤ max (arms_nest arms) (suc (max (nesting e) (block_nesting b)))
arms_more [] e b = omega arith
arms_more (a ∷ arms) e b = omega (arith, arms_more arms e b)

pub arms_is : (arms : List ArmIs) → arms_nesting (arms_of arms) ≤ arms_nest arms
arms_is [] = omega arith
arms_is (a ∷ arms) = omega (arith, arms_is arms)

pub functions_more : (gs : List Function) (f : Function) → functions_nesting (gs ++ f ∷ []) ≤ max (functions_nesting gs) (suc (block_nesting f.body))
functions_more [] f = omega arith
functions_more (g ∷ gs) f = omega (arith, functions_more gs f)

module _ (most : ℕ) (some : 0 < most) where
  abbrev pub FitsOwner : ℕ → Owner → Type 0
  FitsOwner n (arm_of arms e) = (n + arms_nest arms ≤ most) × (n + nesting e < most)
  FitsOwner n (else_of arms) = n + arms_nest arms ≤ most
  FitsOwner n (while_of e) = n + nesting e < most
  FitsOwner n (for_of y a b c) = (n + nesting a < most) × (n + nesting b < most) × (n + step_nesting c < most)

  abbrev pub FitsLevels : Levels → Type 0
  FitsLevels (top gs) = functions_nesting gs ≤ most
  FitsLevels (in_function y ps line before gs) = (block_nest before ≤ most) × (functions_nesting gs ≤ most)
  FitsLevels (level o line before ls) = (depth ls < most) × FitsOwner (depth ls) o × (depth ls + block_nest before ≤ most) × FitsLevels ls

  abbrev pub FitsUse : ℕ → Use → Type 0
  FitsUse n (to_arm arms) = n + arms_nest arms ≤ most
  FitsUse n (to_last y a) = n + nesting a < most
  FitsUse n (to_step y a b) = (n + nesting a < most) × (n + nesting b < most)
  FitsUse n _ = Unit {0}

  abbrev pub FitsHere : ℕ → StatementState → Type 0
  FitsHere n statement_next = Unit {0}
  FitsHere n (in_expression use_ now fs) = FitsUse n use_ × FitsNow most (n + use_level use_) ((n + use_level use_) + open_level fs) now × Fits most (n + use_level use_) fs
  FitsHere n (parenthesis_next use_) = FitsUse n use_
  FitsHere n (braces_next o) = (n < most) × FitsOwner n o
  FitsHere n (after_arm arms) = (n < most) × (n + arms_nest arms ≤ most)
  FitsHere n (after_else arms) = (n < most) × (n + arms_nest arms ≤ most)
  FitsHere n after_global = Unit {0}
  FitsHere n (after_global_name y) = Unit {0}
  FitsHere n after_for = Unit {0}
  FitsHere n for_opened = n < most
  FitsHere n (after_for_name y) = n < most

  abbrev pub FitsState : State → Type 0
  FitsState (at here line ss ls) = FitsHere (depth ls) here × (depth ls + block_nest ss ≤ most) × FitsLevels ls
  FitsState (at_head here line ss gs) = (block_nest ss ≤ most) × (functions_nesting gs ≤ most)

  abbrev pub FitsStep : Step → Type 0
  FitsStep stuck = Unit {0}
  FitsStep (goes state) = level_of state ≤ most → FitsState state
  FitsStep (whole b) = script_nesting b ≤ most

  abbrev FitsBlock : List StatementIs → Levels → Type 0
  FitsBlock ss ls = depth ls + block_nest ss ≤ most

  fits_brace : (ss : List StatementIs) (ls : Levels) → FitsBlock ss ls → FitsLevels ls → FitsStep (close_by ss ls)
  fits_brace ss (top gs) b h = tt
  fits_brace ss (in_function y ps line before gs) b (z, g) = λ _. let more = functions_more gs (function_of y ps line ss) in (tt, omega arith, omega (arith, block_is ss))
  fits_brace ss (level (arm_of arms e) line before ls) b (low, (x, y), z, h) = λ _. let more = arms_more arms e (block_of ss) in ((low, omega (arith, block_is ss)), z, h)
  fits_brace ss (level (else_of arms) line before ls) b (low, x, z, h) =
      λ _. let more = block_more before (if_ (arms_of arms) (else_ (block_of ss))) line in (tt, omega (arith, block_is ss, arms_is arms), h)
  fits_brace ss (level (while_of e) line before ls) b (low, x, z, h) = λ _. let more = block_more before (while e (block_of ss)) line in (tt, omega (arith, block_is ss), h)
  fits_brace ss (level (for_of v a c d) line before ls) b (low, (x, x', x''), z, h) = λ _. let more = block_more before (for v a c d (block_of ss)) line in (tt, omega (arith, block_is ss), h)

  fits_end : (ss : List StatementIs) (ls : Levels) → FitsBlock ss ls → FitsLevels ls → FitsStep (end_by ss ls)
  fits_end ss (top gs) b h = omega (arith, block_is ss)
  fits_end ss _ b h = tt

  fits_function : (line : ℕ) (ss : List StatementIs) (ls : Levels) → FitsBlock ss ls → FitsLevels ls → FitsStep (function_by line ss ls)
  fits_function line ss (top gs) b h = λ _. (omega arith, h)
  fits_function line ss _ b h = tt

  fits_operand_step : (x : ExprStep) (line : ℕ) (ss : List StatementIs) (ls : Levels) → FitsBlock ss ls → FitsLevels ls → FitsExprStep most (depth ls + 0) x → FitsStep (in_statement x to_value line ss ls)
  fits_operand_step refused line ss ls b h x = tt
  fits_operand_step (keeps now fs) line ss ls b h x = λ low. let both = x (omega arith) in ((tt, both.0, both.1), b, h)
  fits_operand_step (leaves e) line ss ls b h x = tt

  fits_items : (x : Option Symbol) (expr_step : ExprStep) (line : ℕ) (ss : List StatementIs) (ls : Levels) → FitsBlock ss ls → FitsLevels ls → FitsExprStep most (depth ls + 0) expr_step → FitsStep (items_by x expr_step line ss ls)
  fits_items (Some (s.Punctuation m.Newline)) expr_step line ss ls b h x = λ _. (tt, b, h)
  fits_items (Some (s.Punctuation m.RightBrace)) expr_step line ss ls b h x = fits_brace ss ls b h
  fits_items (Some (s.Punctuation m.End)) expr_step line ss ls b h x = fits_end ss ls b h
  fits_items (Some (s.Keyword w.Function)) expr_step line ss ls b h x = fits_function line ss ls b h
  fits_items (Some (s.Keyword w.For)) expr_step line ss ls b h x = λ _. (tt, b, h)
  fits_items (Some (s.Keyword w.If)) expr_step line ss ls b h x = λ _. (omega arith, b, h)
  fits_items (Some (s.Keyword w.While)) expr_step line ss ls b h x = λ _. (tt, b, h)
  fits_items (Some (s.Keyword w.Return)) expr_step line ss ls b h x = λ low. ((tt, tt, omega arith), b, h)
  fits_items (Some (s.Keyword w.Global)) expr_step line ss ls b h x = λ _. (tt, b, h)
  fits_items _ expr_step line ss ls b h x = fits_operand_step expr_step line ss ls b h x

  fits_done : (x : Option Symbol) (k : Kind) (line : ℕ) (ss : List StatementIs) (ls : Levels) → depth ls + kind_nesting k ≤ most → FitsBlock ss ls → FitsLevels ls → FitsStep (done_by x (ss ++ (k, line) ∷ []) line ls)
  fits_done (Some (s.Punctuation m.Newline)) k line ss ls e b h = λ _. let more = block_more ss k line in (tt, omega arith, h)
  fits_done (Some (s.Punctuation m.RightBrace)) k line ss ls e b h = let more = block_more ss k line in fits_brace (ss ++ (k, line) ∷ []) ls (omega arith) h
  fits_done (Some (s.Punctuation m.End)) k line ss ls e b h = let more = block_more ss k line in fits_end (ss ++ (k, line) ∷ []) ls (omega arith) h
  fits_done _ k line ss ls e b h = tt

  fits_assigned : (e : Expr) (line : ℕ) (ss : List StatementIs) (ls : Levels) → FitsBlock ss ls → FitsLevels ls → FitsStep (assigned e line ss ls)
  fits_assigned (t.name y l) line ss ls b h = λ low. ((tt, tt, omega arith), b, h)
  fits_assigned _ line ss ls b h = tt

  fits_used : (use_ : Use) (e : Expr) (line : ℕ) (ss : List StatementIs) (ls : Levels) (ts : Lexemes) → FitsUse (depth ls) use_ → (depth ls + use_level use_) + nesting e ≤ most → FitsBlock ss ls → FitsLevels ls → FitsStep (used use_ e line ss ls ts)
  fits_used to_value e line ss ls ts u le b h =
      in_if FitsStep (is_punctuation m.Assign ts) (assigned e line ss ls) (done_by (peek ts) (ss ++ (value e, line) ∷ []) line ls) (λ _. fits_assigned e line ss ls b h) (λ _. fits_done (peek ts) (value e) line ss ls (omega arith) b h)
  fits_used (to_global y) e line ss ls ts u le b h = fits_done (peek ts) (global y e) line ss ls (omega arith) b h
  fits_used (to_assign y) e line ss ls ts u le b h = fits_done (peek ts) (assign y e) line ss ls (omega arith) b h
  fits_used to_return e line ss ls ts u le b h = fits_done (peek ts) (return e) line ss ls (omega arith) b h
  fits_used (to_arm arms) e line ss ls ts u le b h = in_if FitsStep (is_punctuation m.RightParen ts) (goes (at (braces_next (arm_of arms e)) line ss ls)) stuck (λ _ _. ((omega arith, (u, omega arith)), b, h)) (λ _. tt)
  fits_used to_while e line ss ls ts u le b h = in_if FitsStep (is_punctuation m.RightParen ts) (goes (at (braces_next (while_of e)) line ss ls)) stuck (λ _ _. ((omega arith, omega arith), b, h)) (λ _. tt)
  fits_used (to_first y) e line ss ls ts u le b h = in_if FitsStep (is_punctuation m.Comma ts) (goes (at (in_expression (to_last y e) operand_next []) line ss ls)) stuck (λ _ low. ((omega arith, tt, omega arith), b, h)) (λ _. tt)
  fits_used (to_last y a) e line ss ls ts u le b h =
      in_if FitsStep (is_punctuation m.Comma ts) (goes (at (in_expression (to_step y a e) operand_next []) line ss ls)) (if is_punctuation m.RightParen ts then goes (at (braces_next (for_of y a e None)) line ss ls) else stuck)
      (λ _ low. (((u, omega arith), tt, omega arith), b, h))
      (λ _. in_if FitsStep (is_punctuation m.RightParen ts) (goes (at (braces_next (for_of y a e None)) line ss ls)) stuck (λ _ _. ((omega arith, (u, omega arith, omega arith)), b, h)) (λ _. tt))
  fits_used (to_step y a b') e line ss ls ts (u, v) le b h =
      in_if FitsStep (is_punctuation m.RightParen ts) (goes (at (braces_next (for_of y a b' (Some e))) line ss ls)) stuck (λ _ _. ((omega arith, (u, v, omega arith)), b, h)) (λ _. tt)

  fits_expression : (x : ExprStep) (use_ : Use) (line : ℕ) (ss : List StatementIs) (ls : Levels) (ts : Lexemes) → FitsUse (depth ls) use_ → FitsExprStep most (depth ls + use_level use_) x → FitsBlock ss ls → FitsLevels ls
      → FitsStep (expression_by x use_ line ss ls ts)
  fits_expression refused use_ line ss ls ts u x b h = tt
  fits_expression (keeps now fs) use_ line ss ls ts u x b h = λ low. let both = x (omega arith) in ((u, both.0, both.1), b, h)
  fits_expression (leaves e) use_ line ss ls ts u x b h = fits_used use_ e line ss ls ts u x b h

  fits_body : (x : Option Symbol) (o : Owner) (line : ℕ) (ss : List StatementIs) (ls : Levels) → depth ls < most → FitsOwner (depth ls) o → FitsBlock ss ls → FitsLevels ls → FitsStep (body_by x o line ss ls)
  fits_body (Some (s.Punctuation m.Newline)) o line ss ls low x b h = λ _. ((low, x), b, h)
  fits_body (Some (s.Punctuation m.LeftBrace)) o line ss ls low x b h = λ _. (tt, omega arith, (low, x, b, h))
  fits_body _ o line ss ls low x b h = tt

  fits_arms : (x : Option Symbol) (expr_step : ExprStep) (next : ℕ) (arms : List ArmIs) (line : ℕ) (ss : List StatementIs) (ls : Levels) → depth ls < most → depth ls + arms_nest arms ≤ most → FitsBlock ss ls → FitsLevels ls
      → FitsExprStep most (depth ls + 0) expr_step → FitsStep (arms_by x expr_step next arms line ss ls)
  fits_arms (Some (s.Punctuation m.Newline)) expr_step next arms line ss ls low a b h x = λ _. ((low, a), b, h)
  fits_arms (Some (s.Keyword w.Else)) expr_step next arms line ss ls low a b h x = λ _. ((low, a), b, h)
  fits_arms y expr_step next arms line ss ls low a b h x =
      let more = block_more ss (if_ (arms_of arms) no_else) line in fits_items y expr_step next (ss ++ (if_ (arms_of arms) no_else, line) ∷ []) ls (omega (arith, arms_is arms)) h x

  fits_other : (x : Option Symbol) (arms : List ArmIs) (line : ℕ) (ss : List StatementIs) (ls : Levels) → depth ls < most → depth ls + arms_nest arms ≤ most → FitsBlock ss ls → FitsLevels ls → FitsStep (other_by x arms line ss ls)
  fits_other (Some (s.Keyword w.If)) arms line ss ls low a b h = λ _. (a, b, h)
  fits_other x arms line ss ls low a b h = fits_body x (else_of arms) line ss ls low a b h

  fits_global : (x : Option Symbol) (y : Text) (line : ℕ) (ss : List StatementIs) (ls : Levels) → FitsBlock ss ls → FitsLevels ls → FitsStep (global_by x y line ss ls)
  fits_global (Some s.Name) y line ss ls b h = λ _. (tt, b, h)
  fits_global _ y line ss ls b h = tt

  fits_for : (x : Option Symbol) (y : Text) (line : ℕ) (ss : List StatementIs) (ls : Levels) → depth ls < most → FitsBlock ss ls → FitsLevels ls → FitsStep (for_by x y line ss ls)
  fits_for (Some s.Name) y line ss ls low b h = λ _. (low, b, h)
  fits_for _ y line ss ls low b h = tt

  fits_statement : (here : StatementState) (line : ℕ) (ss : List StatementIs) (ls : Levels) (ts : Lexemes) → FitsHere (depth ls) here → FitsBlock ss ls → FitsLevels ls → FitsStep (advance_statement here line ss ls ts)
  fits_statement statement_next line ss ls ts f b h = fits_items (peek ts) (operand [] ts) (line_of ts) ss ls b h (fits_operand most (depth ls + 0) [] (omega arith) ts)
  fits_statement (in_expression use_ now fs) line ss ls ts (u, n, f) b h = fits_expression (expr_step now fs ts) use_ line ss ls ts u (fits_expr_step most (depth ls + use_level use_) now fs ts n f) b h
  fits_statement (parenthesis_next use_) line ss ls ts f b h =
      in_if FitsStep (is_punctuation m.LeftParen ts) (goes (at (in_expression use_ operand_next []) line ss ls)) stuck (λ _ low. ((f, tt, omega arith), b, h)) (λ _. tt)
  fits_statement (braces_next o) line ss ls ts (low, f) b h = fits_body (peek ts) o line ss ls low f b h
  fits_statement (after_arm arms) line ss ls ts (low, a) b h = fits_arms (peek ts) (operand [] ts) (line_of ts) arms line ss ls low a b h (fits_operand most (depth ls + 0) [] (omega arith) ts)
  fits_statement (after_else arms) line ss ls ts (low, a) b h = fits_other (peek ts) arms line ss ls low a b h
  fits_statement after_global line ss ls ts f b h = fits_global (peek ts) (content_at ts) line ss ls b h
  fits_statement (after_global_name y) line ss ls ts f b h = in_if FitsStep (is_punctuation m.Assign ts) (goes (at (in_expression (to_global y) operand_next []) line ss ls)) stuck (λ _ low. ((tt, tt, omega arith), b, h)) (λ _. tt)
  fits_statement after_for line ss ls ts f b h = in_if FitsStep (is_punctuation m.LeftParen ts) (goes (at for_opened line ss ls)) stuck (λ _ low. (omega arith, b, h)) (λ _. tt)
  fits_statement for_opened line ss ls ts f b h = fits_for (peek ts) (content_at ts) line ss ls f b h
  fits_statement (after_for_name y) line ss ls ts f b h = in_if FitsStep (is_punctuation m.Assign ts) (goes (at (in_expression (to_first y) operand_next []) line ss ls)) stuck (λ _ low. ((tt, tt, omega arith), b, h)) (λ _. tt)

  -- ---- the head of a function

  abbrev FitsHead : List StatementIs → List Function → Type 0
  FitsHead ss gs = (block_nest ss ≤ most) × (functions_nesting gs ≤ most)

  fits_name : (x : Option Symbol) (y : Text) (line : ℕ) (ss : List StatementIs) (gs : List Function) → FitsHead ss gs → FitsStep (function_name_by x y line ss gs)
  fits_name (Some s.Name) y line ss gs h = λ _. h
  fits_name _ y line ss gs h = tt

  fits_type : (x : Option Symbol) (word : Option TypeWord) (y : Text) (ps : List Parameter) (must : Bool) (line : ℕ) (ss : List StatementIs) (gs : List Function) → FitsHead ss gs → FitsStep (type_by x word y ps must line ss gs)
  fits_type (Some s.Name) (Some word) y ps must line ss gs h = λ _. h
  fits_type _ _ y ps must line ss gs h = tt

  fits_parameter : (x : Option Symbol) (z y : Text) (ps : List Parameter) (must : Bool) (word : TypeWord) (line : ℕ) (ss : List StatementIs) (gs : List Function) → FitsHead ss gs → FitsStep (parameter_by x z y ps must word line ss gs)
  fits_parameter (Some s.Name) z y ps must word line ss gs h = in_if FitsStep must stuck (goes (at_head (after_parameter y (with_parameter ps word false z) false) line ss gs)) (λ _. tt) (λ _ _. h)
  fits_parameter (Some s.Str) z y ps must word line ss gs h = in_if FitsStep (is_name z) (goes (at_head (after_parameter y (with_parameter ps word true z) true) line ss gs)) stuck (λ _ _. h) (λ _. tt)
  fits_parameter _ z y ps must word line ss gs h = tt

  fits_braces : (x : Option Symbol) (y : Text) (ps : List Parameter) (line : ℕ) (ss : List StatementIs) (gs : List Function) → FitsHead ss gs → FitsStep (function_body_by x y ps line ss gs)
  fits_braces (Some (s.Punctuation m.Newline)) y ps line ss gs h = λ _. h
  fits_braces (Some (s.Punctuation m.LeftBrace)) y ps line ss gs h = λ _. (tt, omega (arith, some), h)
  fits_braces _ y ps line ss gs h = tt

  fits_head : (here : HeadState) (line : ℕ) (ss : List StatementIs) (gs : List Function) (ts : Lexemes) → FitsHead ss gs → FitsStep (advance_head here line ss gs ts)
  fits_head after_function line ss gs ts h = fits_name (peek ts) (content_at ts) line ss gs h
  fits_head (after_function_name y) line ss gs ts h = in_if FitsStep (is_punctuation m.LeftParen ts) (goes (at_head (head_opened y) line ss gs)) stuck (λ _ _. h) (λ _. tt)
  fits_head (head_opened y) line ss gs ts h =
      in_if FitsStep (is_punctuation m.RightParen ts) (goes (at_head (function_braces_next y []) line ss gs)) (type_by (peek ts) (type_word_of (content_at ts)) y [] false line ss gs) (λ _ _. h)
      (λ _. fits_type (peek ts) (type_word_of (content_at ts)) y [] false line ss gs h)
  fits_head (after_type y ps must word) line ss gs ts h = fits_parameter (peek ts) (content_at ts) y ps must word line ss gs h
  fits_head (after_parameter y ps must) line ss gs ts h =
      in_if FitsStep (is_punctuation m.Comma ts) (goes (at_head (parameter_next y ps must) line ss gs)) (if is_punctuation m.RightParen ts then goes (at_head (function_braces_next y ps) line ss gs) else stuck) (λ _ _. h)
      (λ _. in_if FitsStep (is_punctuation m.RightParen ts) (goes (at_head (function_braces_next y ps) line ss gs)) stuck (λ _ _. h) (λ _. tt))
  fits_head (parameter_next y ps must) line ss gs ts h = fits_type (peek ts) (type_word_of (content_at ts)) y ps must line ss gs h
  fits_head (function_braces_next y ps) line ss gs ts h = fits_braces (peek ts) y ps line ss gs h

  -- What was read fits after a token, as long as no more levels are open than the limit.
  pub fits_advance : (state : State) (ts : Lexemes) → FitsState state → FitsStep (advance state ts)
  fits_advance (at here line ss ls) ts (f, b, h) = fits_statement here line ss ls ts f b h
  fits_advance (at_head here line ss gs) ts h = fits_head here line ss gs ts h
