-- What was read of a script and fits within the limit of nesting can be completed within it.
use Rattle.std.proofs.Common.{◌≡◌, refl, ℕ, pos, ◌+◌, ◌<◌, ◌≤◌, arith, Bool, true, inl, inr, List, [], ◌∷◌, ◌++◌, Option, Some, None}
use Rattle.avs_tree.specs.Lexeme.{Lexemes}
use Rattle.avs_lex.specs.Spelling.{Text}
use Rattle.avs_tree.specs.Tree.{Expr, Kind, global, assign, return, if_, while, for, value, no_arms, no_else, else_, Block, no_more, Function, Script, int}
use Rattle.avs_tree.specs.View.{StatementIs, ArmIs, arms_of}
use Rattle.avs_tree.specs.Grammar.{nesting, kind_nesting, block_nesting, functions_nesting, script_nesting}
use Rattle.avs_tree.specs.declared.symbol.Symbol.TheVariants as s
use Rattle.avs_tree.specs.declared.words.TypeWord.{TypeWord}
use Rattle.avs_tree.specs.declared.symbol.Punctuation.TheVariants as m
use Rattle.avs_tree.specs.declared.tree.Parameter.{Parameter}
use Rattle.avs_tree.specs.Machine.{operand_next, ExprState, Open, Use, to_value, to_global, to_assign, to_return, to_arm, to_while, to_first, to_last, to_step, Owner, arm_of, else_of, while_of, for_of, Levels, top, in_function, level, depth, StatementState, statement_next, in_expression, parenthesis_next, braces_next, after_arm, after_else, after_global, after_global_name, after_for, for_opened, after_for_name, HeadState, after_function, after_function_name, head_opened, after_type, after_parameter, parameter_next, function_braces_next, State, at, at_head, use_level}
use Rattle.avs_tree.proofs.ScriptMeaning.{all_block, all_arms, function_with, ArmsIn, OwnedIn, Closed, Next, Done, Bodied, ForBodied, Stepped, Used, OperandNext, Conditioned, Equals, ForNamed, Statement, FunctionBodied, HeadEnds, ParametersEnd, Typed, ParameterNext, HeadNamed, Head, Completion}
use Rattle.std.specs.Prelude.{codes}
use Rattle.avs_tree.specs.declared.words.TypeWord.TheVariants as v
use Rattle.avs_tree.proofs.ExprMeaning.{Meaning}
use Rattle.avs_tree.proofs.Blocks.{no_newlines, rest_ends}
use Rattle.avs_tree.proofs.Completions.{a_name, a_type}
use Rattle.avs_tree.proofs.FitsScript.{block_nest, block_more, arms_more, arms_is, functions_more, FitsOwner, FitsLevels, FitsUse, FitsHere, FitsState}
use Rattle.avs_tree.proofs.ShallowExpr.{shallow_meaning}

module _ (most : ℕ) (some : 0 < most) where
  -- a tree within the limit
  abbrev pub Within : Type 0
  Within = (tree : Script) × (script_nesting tree ≤ most)

  abbrev SomeClosed : Levels → Block → Type 0
  SomeClosed ls b = (w : Within) × (ts : Lexemes) × Closed w.0 ls b ts

  abbrev SomeNext : Levels → List StatementIs → Type 0
  SomeNext ls ss = (w : Within) × (ts : Lexemes) × Next w.0 ls ss ts

  some_next : (ls : Levels) (ss : List StatementIs) → SomeClosed ls (all_block ss no_more) → SomeNext ls ss
  some_next ls ss (w, ts, h) = (w, ts, (ts, no_newlines ts, rest_ends w.0 ls ss ts h))

  some_arms : (ls : Levels) (line : ℕ) (ss : List StatementIs) (arms : List ArmIs) → SomeNext ls (ss ++ (if_ (all_arms arms no_arms) no_else, line) ∷ []) → (w : Within) × (ts : Lexemes) × ArmsIn (Next w.0 ls) line ss arms ts
  some_arms ls line ss arms (w, ts, h) = (w, ts, (no_arms, no_else, ts, ts, refl, refl, h))

  braced : (ls : Levels) (o : Owner) (line : ℕ) (before : List StatementIs) (b : Block) → ((w : Within) × (ts : Lexemes) × OwnedIn (Next w.0 ls) o line before b ts) → SomeClosed (level o line before ls) b
  braced ls o line before b (w, ts, h) = (w, (s.Punctuation m.RightBrace, [], 0) ∷ ts, (ts, (0, ([], refl)), h))

  some_top : (gs : List Function) (b : Block) → functions_nesting gs ≤ most → block_nesting b ≤ most → SomeClosed (top gs) b
  some_top gs b g le = ((record { functions = gs; statements = b }, omega arith), (s.Punctuation m.End, [], 0) ∷ [], ((0, ([], refl)), refl))

  some_closed : (ls : Levels) → FitsLevels most some ls → (b : Block) → depth ls + block_nesting b ≤ most → SomeClosed ls b
  some_closed (top gs) h b le = some_top gs b h (omega arith)
  some_closed (in_function y ps line before gs) (z, g) b le =
      let f = function_with y ps line b in
      let more = functions_more gs f in
      let one = some_next (top (gs ++ f ∷ [])) before (some_top (gs ++ f ∷ []) (all_block before no_more) (omega arith) (omega arith)) in
      (one.0, (s.Punctuation m.RightBrace, [], 0) ∷ one.1, (one.1, (0, ([], refl)), one.2))
  some_closed (level (arm_of arms e) line before ls) (low, (x, y), z, h) b le =
      let ss = before ++ (if_ (all_arms (arms ++ (e, b) ∷ []) no_arms) no_else, line) ∷ [] in
      let more = block_more before (if_ (all_arms (arms ++ (e, b) ∷ []) no_arms) no_else) line in
      let more' = arms_more arms e b in
      braced ls (arm_of arms e) line before b (some_arms ls line before (arms ++ (e, b) ∷ []) (some_next ls ss (some_closed ls h (all_block ss no_more) (omega arith))))
  some_closed (level (else_of arms) line before ls) (low, x, z, h) b le =
      let ss = before ++ (if_ (arms_of arms) (else_ b), line) ∷ [] in
      let more = block_more before (if_ (arms_of arms) (else_ b)) line in
      braced ls (else_of arms) line before b (some_next ls ss (some_closed ls h (all_block ss no_more) (omega (arith, arms_is arms))))
  some_closed (level (while_of e) line before ls) (low, x, z, h) b le =
      let ss = before ++ (while e b, line) ∷ [] in
      let more = block_more before (while e b) line in
      braced ls (while_of e) line before b (some_next ls ss (some_closed ls h (all_block ss no_more) (omega arith)))
  some_closed (level (for_of y a b' c) line before ls) (low, (x, x', x''), z, h) b le =
      let ss = before ++ (for y a b' c b, line) ∷ [] in
      let more = block_more before (for y a b' c b) line in
      braced ls (for_of y a b' c) line before b (some_next ls ss (some_closed ls h (all_block ss no_more) (omega arith)))

  some_rest : (ls : Levels) (ss : List StatementIs) → FitsLevels most some ls → depth ls + block_nest ss ≤ most → SomeNext ls ss
  some_rest ls ss h b = some_next ls ss (some_closed ls h (all_block ss no_more) b)

  some_done : (ls : Levels) (ss : List StatementIs) (k : Kind) (line : ℕ) → FitsLevels most some ls → depth ls + block_nest ss ≤ most → depth ls + kind_nesting k ≤ most → (w : Within) × (ts : Lexemes) × Done w.0 ls ss k line ts
  some_done ls ss k line h b le =
      let more = block_more ss k line in
      let one = some_closed ls h (all_block (ss ++ (k, line) ∷ []) no_more) (omega arith) in
      (one.0, (s.Punctuation m.Newline, [], 0) ∷ one.1, (one.1, inl (one.1, (0, ([], refl)), no_newlines one.1), rest_ends one.0.0 ls (ss ++ (k, line) ∷ []) one.1 one.2))

  some_bodied : (ls : Levels) (ss : List StatementIs) (line : ℕ) (o : Owner) → FitsLevels most some ls → depth ls + block_nest ss ≤ most → depth ls < most → FitsOwner most some (depth ls) o → (w : Within) × (ts : Lexemes) × Bodied w.0 ls ss line o ts
  some_bodied ls ss line o h b low f =
      let one = some_rest (level o line ss ls) [] (low, f, b, h) (omega arith) in
      let here = (s.Punctuation m.LeftBrace, [], 0) ∷ one.1 in
      (one.0, here, (here, one.1, no_newlines here, (0, ([], refl)), one.2))

  parenthesis : (ls : Levels) (ss : List StatementIs) (line : ℕ) (use_ : Use) (e : Expr) (o : Owner) → ((tree : Script) (ts us : Lexemes) → ts ≡ (s.Punctuation m.RightParen, [], 0) ∷ us → Bodied tree ls ss line o us → Used tree ls ss line use_ e ts)
      → ((w : Within) × (ts : Lexemes) × Bodied w.0 ls ss line o ts) → (w : Within) × (ts : Lexemes) × Used w.0 ls ss line use_ e ts
  parenthesis ls ss line use_ e o f (w, ts, h) = (w, (s.Punctuation m.RightParen, [], 0) ∷ ts, f w.0 ((s.Punctuation m.RightParen, [], 0) ∷ ts) ts refl h)

  some_for : (ls : Levels) (ss : List StatementIs) (line : ℕ) (y : Text) (a b : Expr) (c : Option Expr) → FitsLevels most some ls → depth ls + block_nest ss ≤ most → depth ls < most → FitsOwner most some (depth ls) (for_of y a b c)
      → (w : Within) × (ts : Lexemes) × ForBodied w.0 ls ss line y a b c ts
  some_for ls ss line y a b c h z low f = let one = some_bodied ls ss line (for_of y a b c) h z low f in (one.0, (s.Punctuation m.RightParen, [], 0) ∷ one.1, (one.1, (0, ([], refl)), one.2))

  some_stepped : (ls : Levels) (ss : List StatementIs) (line : ℕ) (y : Text) (a b : Expr) → FitsLevels most some ls → depth ls + block_nest ss ≤ most → depth ls < most → depth ls + nesting a < most → depth ls + nesting b < most
      → (w : Within) × (ts : Lexemes) × Stepped w.0 ls ss line y a b ts
  some_stepped ls ss line y a b h z low first last = let one = some_for ls ss line y a b None h z low (first, last, omega arith) in (one.0, one.1, (None, one.1, refl, one.2))

  some_used : (ls : Levels) (ss : List StatementIs) (line : ℕ) (use_ : Use) → FitsUse most some (depth ls) use_ → FitsLevels most some ls → depth ls + block_nest ss ≤ most → (e : Expr) → (depth ls + use_level use_) + nesting e ≤ most
      → (w : Within) × (ts : Lexemes) × Used w.0 ls ss line use_ e ts
  some_used ls ss line to_value u h b e le = let one = some_done ls ss (value e) line h b (omega arith) in (one.0, one.1, inl one.2)
  some_used ls ss line (to_global y) u h b e le = some_done ls ss (global y e) line h b (omega arith)
  some_used ls ss line (to_assign y) u h b e le = some_done ls ss (assign y e) line h b (omega arith)
  some_used ls ss line to_return u h b e le = some_done ls ss (return e) line h b (omega arith)
  some_used ls ss line (to_arm arms) u h b e le = parenthesis ls ss line (to_arm arms) e (arm_of arms e) (λ tree ts us is h. (us, (0, ([], is)), h)) (some_bodied ls ss line (arm_of arms e) h b (omega arith) (u, omega arith))
  some_used ls ss line to_while u h b e le = parenthesis ls ss line to_while e (while_of e) (λ tree ts us is h. (us, (0, ([], is)), h)) (some_bodied ls ss line (while_of e) h b (omega arith) (omega arith))
  some_used ls ss line (to_first y) u h b e le =
      let one = some_stepped ls ss line y e (int (pos 0)) h b (omega arith) (omega arith) (omega arith) in
      let number = (s.Int (pos 0), [], 0) ∷ one.1 in
      (one.0, (s.Punctuation m.Comma, [], 0) ∷ number, (number, one.1, int (pos 0), (0, ([], refl)), (0, ([], refl)), one.2))
  some_used ls ss line (to_last y a) u h b e le = some_stepped ls ss line y a e h b (omega arith) u (omega arith)
  some_used ls ss line (to_step y a b') (u, v) h b e le = some_for ls ss line y a b' (Some e) h b (omega arith) (u, v, omega arith)

  some_expression : (ls : Levels) (ss : List StatementIs) (line : ℕ) (use_ : Use) (now : ExprState) (fs : List Open) → FitsHere most some (depth ls) (in_expression use_ now fs) → FitsLevels most some ls → depth ls + block_nest ss ≤ most
      → (w : Within) × (ts : Lexemes) × Meaning (Used w.0 ls ss line use_) now fs ts
  some_expression ls ss line use_ now fs (u, n, f) h b =
      shallow_meaning most (depth ls + use_level use_) Within (λ w. Used w.0 ls ss line use_) (some_used ls ss line use_ u h b) now fs n f

  some_operand_next : (ls : Levels) (ss : List StatementIs) (line : ℕ) (use_ : Use) → FitsUse most some (depth ls) use_ → depth ls + use_level use_ ≤ most → FitsLevels most some ls → depth ls + block_nest ss ≤ most
      → (w : Within) × (ts : Lexemes) × OperandNext w.0 ls ss line use_ ts
  some_operand_next ls ss line use_ u low h b = some_expression ls ss line use_ operand_next [] (u, tt, low) h b

  some_equals : (ls : Levels) (ss : List StatementIs) (line : ℕ) (use_ : Use) → FitsUse most some (depth ls) use_ → depth ls + use_level use_ ≤ most → FitsLevels most some ls → depth ls + block_nest ss ≤ most
      → (w : Within) × (ts : Lexemes) × Equals w.0 ls ss line use_ ts
  some_equals ls ss line use_ u low h b = let one = some_operand_next ls ss line use_ u low h b in (one.0, (s.Punctuation m.Assign, [], 0) ∷ one.1, (one.1, (0, ([], refl)), one.2))

  some_for_name : (ls : Levels) (ss : List StatementIs) (line : ℕ) → depth ls < most → FitsLevels most some ls → depth ls + block_nest ss ≤ most → (w : Within) × (ts : Lexemes) × ForNamed w.0 ls ss line ts
  some_for_name ls ss line low h b = let one = some_equals ls ss line (to_first []) tt (omega arith) h b in (one.0, (s.Name, [], 0) ∷ one.1, ([], one.1, (0, refl), one.2))

  -- no use opens more than one level
  one_level : (use_ : Use) → use_level use_ ≤ 1
  one_level to_value = omega arith
  one_level (to_global y) = omega arith
  one_level (to_assign y) = omega arith
  one_level to_return = omega arith
  one_level (to_arm arms) = omega arith
  one_level to_while = omega arith
  one_level (to_first y) = omega arith
  one_level (to_last y a) = omega arith
  one_level (to_step y a b) = omega arith

  some_conditioned : (ls : Levels) (ss : List StatementIs) (line : ℕ) (use_ : Use) → depth ls < most → FitsUse most some (depth ls) use_ → depth ls + block_nest ss ≤ most → FitsLevels most some ls
      → (w : Within) × (ts : Lexemes) × Conditioned w.0 ls ss line use_ ts
  some_conditioned ls ss line use_ low u b h = let one = some_operand_next ls ss line use_ u (omega (arith, one_level use_)) h b in (one.0, (s.Punctuation m.LeftParen, [], 0) ∷ one.1, (one.1, (0, ([], refl)), one.2))

  -- the parenthesis that has to come next may still be opened
  abbrev pub MayOpenHere : Levels → StatementState → Type 0
  MayOpenHere ls (parenthesis_next use_) = depth ls < most
  MayOpenHere ls after_for = depth ls < most
  MayOpenHere ls _ = Unit {0}

  some_statement : (here : StatementState) (line : ℕ) (ss : List StatementIs) (ls : Levels) → MayOpenHere ls here → FitsHere most some (depth ls) here → depth ls + block_nest ss ≤ most → FitsLevels most some ls
      → (w : Within) × (ts : Lexemes) × Statement w.0 here line ss ls ts
  some_statement statement_next line ss ls may f b h = some_rest ls ss h b
  some_statement (in_expression use_ now fs) line ss ls may f b h = some_expression ls ss line use_ now fs f h b
  some_statement (parenthesis_next use_) line ss ls may f b h = some_conditioned ls ss line use_ may f b h
  some_statement (braces_next o) line ss ls may (low, f) b h = some_bodied ls ss line o h b low f
  some_statement (after_arm arms) line ss ls may (low, a) b h =
      let more = block_more ss (if_ (all_arms arms no_arms) no_else) line in
      some_arms ls line ss arms (some_rest ls (ss ++ (if_ (all_arms arms no_arms) no_else, line) ∷ []) h (omega arith))
  some_statement (after_else arms) line ss ls may (low, a) b h = let one = some_bodied ls ss line (else_of arms) h b low a in (one.0, one.1, inr one.2)
  some_statement after_global line ss ls may f b h = let one = some_equals ls ss line (to_global []) tt (omega arith) h b in (one.0, (s.Name, [], 0) ∷ one.1, ([], one.1, (0, refl), one.2))
  some_statement (after_global_name y) line ss ls may f b h = some_equals ls ss line (to_global y) tt (omega arith) h b
  some_statement after_for line ss ls may f b h = let one = some_for_name ls ss line may h b in (one.0, (s.Punctuation m.LeftParen, [], 0) ∷ one.1, (one.1, (0, ([], refl)), one.2))
  some_statement for_opened line ss ls may f b h = some_for_name ls ss line f h b
  some_statement (after_for_name y) line ss ls may f b h = some_equals ls ss line (to_first y) tt (omega arith) h b

  -- ---- the head of a function

  some_function : (gs : List Function) (ss : List StatementIs) (line : ℕ) (y : Text) (ps : List Parameter) → block_nest ss ≤ most → functions_nesting gs ≤ most → (w : Within) × (ts : Lexemes) × FunctionBodied w.0 gs ss line y ps ts
  some_function gs ss line y ps b g =
      let one = some_rest (in_function y ps line ss gs) [] (b, g) (omega (arith, some)) in
      let here = (s.Punctuation m.LeftBrace, [], 0) ∷ one.1 in
      (one.0, here, (here, one.1, no_newlines here, (0, ([], refl)), one.2))

  some_end : (gs : List Function) (ss : List StatementIs) (line : ℕ) (y : Text) (ps : List Parameter) → block_nest ss ≤ most → functions_nesting gs ≤ most → (w : Within) × (ts : Lexemes) × HeadEnds w.0 gs ss line y ps ts
  some_end gs ss line y ps b g = let one = some_function gs ss line y ps b g in (one.0, (s.Punctuation m.RightParen, [], 0) ∷ one.1, (one.1, (0, ([], refl)), one.2))

  some_parameters : (gs : List Function) (ss : List StatementIs) (line : ℕ) (y : Text) (ps : List Parameter) (must : Bool) → block_nest ss ≤ most → functions_nesting gs ≤ most → (w : Within) × (ts : Lexemes) × ParametersEnd w.0 gs ss line y ps must ts
  some_parameters gs ss line y ps must b g = let one = some_end gs ss line y (ps ++ []) b g in (one.0, one.1, ([], one.1, refl, one.2))

  some_typed : (gs : List Function) (ss : List StatementIs) (line : ℕ) (y : Text) (ps : List Parameter) (must : Bool) (word : TypeWord) → block_nest ss ≤ most → functions_nesting gs ≤ most
      → (w : Within) × (ts : Lexemes) × Typed w.0 gs ss line y ps must word ts
  some_typed gs ss line y ps must word b g =
      let one = some_parameters gs ss line y (ps ++ record { name = codes "a"; word = word; optional = true } ∷ []) true b g in
      (one.0, (s.Str, codes "a", 0) ∷ one.1, (true, codes "a", one.1, (λ _. refl), (a_name, (0, refl)), one.2))

  some_parameter : (gs : List Function) (ss : List StatementIs) (line : ℕ) (y : Text) (ps : List Parameter) (must : Bool) → block_nest ss ≤ most → functions_nesting gs ≤ most → (w : Within) × (ts : Lexemes) × ParameterNext w.0 gs ss line y ps must ts
  some_parameter gs ss line y ps must b g = let one = some_typed gs ss line y ps must v.Int b g in (one.0, (s.Name, codes "int", 0) ∷ one.1, (codes "int", v.Int, one.1, (0, refl), a_type, one.2))

  some_opened : (gs : List Function) (ss : List StatementIs) (line : ℕ) (y : Text) → block_nest ss ≤ most → functions_nesting gs ≤ most → (w : Within) × (ts : Lexemes) × HeadNamed w.0 gs ss line y ts
  some_opened gs ss line y b g = let one = some_end gs ss line y [] b g in (one.0, (s.Punctuation m.LeftParen, [], 0) ∷ one.1, (one.1, (0, ([], refl)), inl one.2))

  some_head : (here : HeadState) (line : ℕ) (ss : List StatementIs) (gs : List Function) → block_nest ss ≤ most → functions_nesting gs ≤ most → (w : Within) × (ts : Lexemes) × Head w.0 here line ss gs ts
  some_head after_function line ss gs b g = let one = some_opened gs ss line [] b g in (one.0, (s.Name, [], 0) ∷ one.1, ([], one.1, (0, refl), one.2))
  some_head (after_function_name y) line ss gs b g = some_opened gs ss line y b g
  some_head (head_opened y) line ss gs b g = let one = some_end gs ss line y [] b g in (one.0, one.1, inl one.2)
  some_head (after_type y ps must word) line ss gs b g = some_typed gs ss line y ps must word b g
  some_head (after_parameter y ps must) line ss gs b g = some_parameters gs ss line y ps must b g
  some_head (parameter_next y ps must) line ss gs b g = some_parameter gs ss line y ps must b g
  some_head (function_braces_next y ps) line ss gs b g = some_function gs ss line y ps b g

  abbrev pub MayOpen : State → Type 0
  MayOpen (at here line ss ls) = MayOpenHere ls here
  MayOpen (at_head here line ss gs) = Unit {0}

  -- What fits can be completed within the limit.
  pub some_shallow : (state : State) → MayOpen state → FitsState most some state → (w : Within) × (ts : Lexemes) × Completion w.0 state ts
  some_shallow (at here line ss ls) may (f, b, h) = some_statement here line ss ls may f b h
  some_shallow (at_head here line ss gs) may (b, g) = some_head here line ss gs b g
