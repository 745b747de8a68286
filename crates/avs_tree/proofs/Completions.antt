-- What is open in a script can always be completed.
use Rattle.std.proofs.Common.{◌≡◌, refl, ℕ, pos, Bool, true, IsTrue, inl, inr, List, [], ◌∷◌, ◌++◌, Option, Some, None}
use Rattle.avs_tree.specs.Lexeme.{Lexemes, is_name, type_word_of, spells_name, keyword_of}
use Rattle.avs_lex.specs.Spelling.{Text}
use Rattle.avs_tree.specs.Tree.{Expr, Kind, global, assign, return, if_, while, for, value, no_arms, no_else, else_, Block, no_more, Function, Script, int}
use Rattle.avs_tree.specs.View.{StatementIs, ArmIs, arms_of}
use Rattle.avs_tree.specs.declared.symbol.Symbol.TheVariants as s
use Rattle.avs_tree.specs.declared.words.TypeWord.{TypeWord}
use Rattle.avs_tree.specs.declared.symbol.Punctuation.TheVariants as m
use Rattle.avs_tree.specs.declared.tree.Parameter.{Parameter}
use Rattle.avs_tree.specs.Machine.{operand_next, ExprState, Open, Use, to_value, to_global, to_assign, to_return, to_arm, to_while, to_first, to_last, to_step, Owner, arm_of, else_of, while_of, for_of, Levels, top, in_function, level, StatementState, statement_next, in_expression, parenthesis_next, braces_next, after_arm, after_else, after_global, after_global_name, after_for, for_opened, after_for_name, HeadState, after_function, after_function_name, head_opened, after_type, after_parameter, parameter_next, function_braces_next, State, at, at_head}
use Rattle.avs_tree.proofs.ScriptMeaning.{all_block, all_arms, function_with, ArmsIn, OwnedIn, Closed, Next, Done, Bodied, ForBodied, Stepped, Used, Conditioned, Equals, ForNamed, Statement, FunctionBodied, HeadEnds, ParametersEnd, Typed, ParameterNext, HeadNamed, Head, Completion}
use Rattle.std.specs.Prelude.{codes}
use Rattle.avs_tree.specs.declared.words.TypeWord.TheVariants as v
use Rattle.avs_tree.proofs.ExprMeaning.{Meaning}
use Rattle.avs_tree.proofs.Formed.{some_meaning}
use Rattle.avs_tree.proofs.Blocks.{no_newlines, rest_ends}

-- a name, and the word for a type
pub a_name : IsTrue (is_name (codes "a"))
unfolding is_name spells_name keyword_of
a_name = refl

pub a_type : type_word_of (codes "int") ≡ Some v.Int
unfolding type_word_of
a_type = refl

abbrev SomeClosed : Levels → Block → Type 0
SomeClosed ls b = (tree : Script) × (ts : Lexemes) × Closed tree ls b ts

abbrev SomeNext : Levels → List StatementIs → Type 0
SomeNext ls ss = (tree : Script) × (ts : Lexemes) × Next tree ls ss ts

some_next : (ls : Levels) (ss : List StatementIs) → SomeClosed ls (all_block ss no_more) → SomeNext ls ss
some_next ls ss (tree, ts, h) = (tree, ts, (ts, no_newlines ts, rest_ends tree ls ss ts h))

some_arms : (ls : Levels) (line : ℕ) (ss : List StatementIs) (arms : List ArmIs) → SomeNext ls (ss ++ (if_ (all_arms arms no_arms) no_else, line) ∷ []) → (tree : Script) × (ts : Lexemes) × ArmsIn (Next tree ls) line ss arms ts
some_arms ls line ss arms (tree, ts, h) = (tree, ts, (no_arms, no_else, ts, ts, refl, refl, h))

braced : (ls : Levels) (o : Owner) (line : ℕ) (before : List StatementIs) (b : Block) → ((tree : Script) × (ts : Lexemes) × OwnedIn (Next tree ls) o line before b ts) → SomeClosed (level o line before ls) b
braced ls o line before b (tree, ts, h) = (tree, (s.Punctuation m.RightBrace, [], 0) ∷ ts, (ts, (0, ([], refl)), h))

some_top : (gs : List Function) (b : Block) → SomeClosed (top gs) b
some_top gs b = (record { functions = gs; statements = b }, (s.Punctuation m.End, [], 0) ∷ [], ((0, ([], refl)), refl))

some_closed : (ls : Levels) (b : Block) → SomeClosed ls b
some_closed (top gs) b = some_top gs b
some_closed (in_function y ps line before gs) b =
    let hs = gs ++ function_with y ps line b ∷ [] in
    let one = some_next (top hs) before (some_top hs (all_block before no_more)) in (one.0, (s.Punctuation m.RightBrace, [], 0) ∷ one.1, (one.1, (0, ([], refl)), one.2))
some_closed (level (arm_of arms e) line before ls) b =
    let ss = before ++ (if_ (all_arms (arms ++ (e, b) ∷ []) no_arms) no_else, line) ∷ [] in
    braced ls (arm_of arms e) line before b (some_arms ls line before (arms ++ (e, b) ∷ []) (some_next ls ss (some_closed ls (all_block ss no_more))))
some_closed (level (else_of arms) line before ls) b =
    let ss = before ++ (if_ (arms_of arms) (else_ b), line) ∷ [] in braced ls (else_of arms) line before b (some_next ls ss (some_closed ls (all_block ss no_more)))
some_closed (level (while_of e) line before ls) b =
    let ss = before ++ (while e b, line) ∷ [] in braced ls (while_of e) line before b (some_next ls ss (some_closed ls (all_block ss no_more)))
some_closed (level (for_of y a b' c) line before ls) b =
    let ss = before ++ (for y a b' c b, line) ∷ [] in braced ls (for_of y a b' c) line before b (some_next ls ss (some_closed ls (all_block ss no_more)))

pub some_rest : (ls : Levels) (ss : List StatementIs) → SomeNext ls ss
some_rest ls ss = some_next ls ss (some_closed ls (all_block ss no_more))

some_done : (ls : Levels) (ss : List StatementIs) (k : Kind) (line : ℕ) → (tree : Script) × (ts : Lexemes) × Done tree ls ss k line ts
some_done ls ss k line =
    let one = some_closed ls (all_block (ss ++ (k, line) ∷ []) no_more) in
    (one.0, (s.Punctuation m.Newline, [], 0) ∷ one.1, (one.1, inl (one.1, (0, ([], refl)), no_newlines one.1), rest_ends one.0 ls (ss ++ (k, line) ∷ []) one.1 one.2))

some_bodied : (ls : Levels) (ss : List StatementIs) (line : ℕ) (o : Owner) → (tree : Script) × (ts : Lexemes) × Bodied tree ls ss line o ts
some_bodied ls ss line o =
    let one = some_rest (level o line ss ls) [] in
    let here = (s.Punctuation m.LeftBrace, [], 0) ∷ one.1 in
    (one.0, here, (here, one.1, no_newlines here, (0, ([], refl)), one.2))

parenthesis : (ls : Levels) (ss : List StatementIs) (line : ℕ) (use_ : Use) (e : Expr) (o : Owner) → ((tree : Script) (ts us : Lexemes) → ts ≡ (s.Punctuation m.RightParen, [], 0) ∷ us → Bodied tree ls ss line o us → Used tree ls ss line use_ e ts)
    → (tree : Script) × (ts : Lexemes) × Used tree ls ss line use_ e ts
parenthesis ls ss line use_ e o f = let one = some_bodied ls ss line o in (one.0, (s.Punctuation m.RightParen, [], 0) ∷ one.1, f one.0 ((s.Punctuation m.RightParen, [], 0) ∷ one.1) one.1 refl one.2)

some_for : (ls : Levels) (ss : List StatementIs) (line : ℕ) (y : Text) (a b : Expr) (c : Option Expr) → (tree : Script) × (ts : Lexemes) × ForBodied tree ls ss line y a b c ts
some_for ls ss line y a b c = let one = some_bodied ls ss line (for_of y a b c) in (one.0, (s.Punctuation m.RightParen, [], 0) ∷ one.1, (one.1, (0, ([], refl)), one.2))

some_stepped : (ls : Levels) (ss : List StatementIs) (line : ℕ) (y : Text) (a b : Expr) → (tree : Script) × (ts : Lexemes) × Stepped tree ls ss line y a b ts
some_stepped ls ss line y a b = let one = some_for ls ss line y a b None in (one.0, one.1, (None, one.1, refl, one.2))

some_used : (ls : Levels) (ss : List StatementIs) (line : ℕ) (use_ : Use) (e : Expr) → (tree : Script) × (ts : Lexemes) × Used tree ls ss line use_ e ts
some_used ls ss line to_value e = let one = some_done ls ss (value e) line in (one.0, one.1, inl one.2)
some_used ls ss line (to_global y) e = some_done ls ss (global y e) line
some_used ls ss line (to_assign y) e = some_done ls ss (assign y e) line
some_used ls ss line to_return e = some_done ls ss (return e) line
some_used ls ss line (to_arm arms) e = parenthesis ls ss line (to_arm arms) e (arm_of arms e) (λ tree ts us is h. (us, (0, ([], is)), h))
some_used ls ss line to_while e = parenthesis ls ss line to_while e (while_of e) (λ tree ts us is h. (us, (0, ([], is)), h))
some_used ls ss line (to_first y) e =
    let one = some_stepped ls ss line y e (int (pos 0)) in
    let number = (s.Int (pos 0), [], 0) ∷ one.1 in
    (one.0, (s.Punctuation m.Comma, [], 0) ∷ number, (number, one.1, int (pos 0), (0, ([], refl)), (0, ([], refl)), one.2))
some_used ls ss line (to_last y a) e = some_stepped ls ss line y a e
some_used ls ss line (to_step y a b) e = some_for ls ss line y a b (Some e)

some_expression : (ls : Levels) (ss : List StatementIs) (line : ℕ) (use_ : Use) (now : ExprState) (fs : List Open) → (tree : Script) × (ts : Lexemes) × Meaning (Used tree ls ss line use_) now fs ts
some_expression ls ss line use_ = some_meaning Script (λ tree. Used tree ls ss line use_) (some_used ls ss line use_)

some_conditioned : (ls : Levels) (ss : List StatementIs) (line : ℕ) (use_ : Use) → (tree : Script) × (ts : Lexemes) × Conditioned tree ls ss line use_ ts
some_conditioned ls ss line use_ = let one = some_expression ls ss line use_ operand_next [] in (one.0, (s.Punctuation m.LeftParen, [], 0) ∷ one.1, (one.1, (0, ([], refl)), one.2))

some_equals : (ls : Levels) (ss : List StatementIs) (line : ℕ) (use_ : Use) → (tree : Script) × (ts : Lexemes) × Equals tree ls ss line use_ ts
some_equals ls ss line use_ = let one = some_expression ls ss line use_ operand_next [] in (one.0, (s.Punctuation m.Assign, [], 0) ∷ one.1, (one.1, (0, ([], refl)), one.2))

some_for_name : (ls : Levels) (ss : List StatementIs) (line : ℕ) → (tree : Script) × (ts : Lexemes) × ForNamed tree ls ss line ts
some_for_name ls ss line = let one = some_equals ls ss line (to_first []) in (one.0, (s.Name, [], 0) ∷ one.1, ([], one.1, (0, refl), one.2))

some_statement : (here : StatementState) (line : ℕ) (ss : List StatementIs) (ls : Levels) → (tree : Script) × (ts : Lexemes) × Statement tree here line ss ls ts
some_statement statement_next line ss ls = some_rest ls ss
some_statement (in_expression use_ now fs) line ss ls = some_expression ls ss line use_ now fs
some_statement (parenthesis_next use_) line ss ls = some_conditioned ls ss line use_
some_statement (braces_next o) line ss ls = some_bodied ls ss line o
some_statement (after_arm arms) line ss ls = some_arms ls line ss arms (some_rest ls (ss ++ (if_ (all_arms arms no_arms) no_else, line) ∷ []))
some_statement (after_else arms) line ss ls = let one = some_bodied ls ss line (else_of arms) in (one.0, one.1, inr one.2)
some_statement after_global line ss ls = let one = some_equals ls ss line (to_global []) in (one.0, (s.Name, [], 0) ∷ one.1, ([], one.1, (0, refl), one.2))
some_statement (after_global_name y) line ss ls = some_equals ls ss line (to_global y)
some_statement after_for line ss ls = let one = some_for_name ls ss line in (one.0, (s.Punctuation m.LeftParen, [], 0) ∷ one.1, (one.1, (0, ([], refl)), one.2))
some_statement for_opened line ss ls = some_for_name ls ss line
some_statement (after_for_name y) line ss ls = some_equals ls ss line (to_first y)

-- ---- the head of a function

some_function : (gs : List Function) (ss : List StatementIs) (line : ℕ) (y : Text) (ps : List Parameter) → (tree : Script) × (ts : Lexemes) × FunctionBodied tree gs ss line y ps ts
some_function gs ss line y ps =
    let one = some_rest (in_function y ps line ss gs) [] in
    let here = (s.Punctuation m.LeftBrace, [], 0) ∷ one.1 in
    (one.0, here, (here, one.1, no_newlines here, (0, ([], refl)), one.2))

some_end : (gs : List Function) (ss : List StatementIs) (line : ℕ) (y : Text) (ps : List Parameter) → (tree : Script) × (ts : Lexemes) × HeadEnds tree gs ss line y ps ts
some_end gs ss line y ps = let one = some_function gs ss line y ps in (one.0, (s.Punctuation m.RightParen, [], 0) ∷ one.1, (one.1, (0, ([], refl)), one.2))

some_parameters : (gs : List Function) (ss : List StatementIs) (line : ℕ) (y : Text) (ps : List Parameter) (must : Bool) → (tree : Script) × (ts : Lexemes) × ParametersEnd tree gs ss line y ps must ts
some_parameters gs ss line y ps must = let one = some_end gs ss line y (ps ++ []) in (one.0, one.1, ([], one.1, refl, one.2))

some_typed : (gs : List Function) (ss : List StatementIs) (line : ℕ) (y : Text) (ps : List Parameter) (must : Bool) (word : TypeWord) → (tree : Script) × (ts : Lexemes) × Typed tree gs ss line y ps must word ts
some_typed gs ss line y ps must word =
    let one = some_parameters gs ss line y (ps ++ record { name = codes "a"; word = word; optional = true } ∷ []) true in
    (one.0, (s.Str, codes "a", 0) ∷ one.1, (true, codes "a", one.1, (λ _. refl), (a_name, (0, refl)), one.2))

some_parameter : (gs : List Function) (ss : List StatementIs) (line : ℕ) (y : Text) (ps : List Parameter) (must : Bool) → (tree : Script) × (ts : Lexemes) × ParameterNext tree gs ss line y ps must ts
some_parameter gs ss line y ps must = let one = some_typed gs ss line y ps must v.Int in (one.0, (s.Name, codes "int", 0) ∷ one.1, (codes "int", v.Int, one.1, (0, refl), a_type, one.2))

some_opened : (gs : List Function) (ss : List StatementIs) (line : ℕ) (y : Text) → (tree : Script) × (ts : Lexemes) × HeadNamed tree gs ss line y ts
some_opened gs ss line y = let one = some_end gs ss line y [] in (one.0, (s.Punctuation m.LeftParen, [], 0) ∷ one.1, (one.1, (0, ([], refl)), inl one.2))

some_head : (here : HeadState) (line : ℕ) (ss : List StatementIs) (gs : List Function) → (tree : Script) × (ts : Lexemes) × Head tree here line ss gs ts
some_head after_function line ss gs = let one = some_opened gs ss line [] in (one.0, (s.Name, [], 0) ∷ one.1, ([], one.1, (0, refl), one.2))
some_head (after_function_name y) line ss gs = some_opened gs ss line y
some_head (head_opened y) line ss gs = let one = some_end gs ss line y [] in (one.0, one.1, inl one.2)
some_head (after_type y ps must word) line ss gs = some_typed gs ss line y ps must word
some_head (after_parameter y ps must) line ss gs = some_parameters gs ss line y ps must
some_head (parameter_next y ps must) line ss gs = some_parameter gs ss line y ps must
some_head (function_braces_next y ps) line ss gs = some_function gs ss line y ps

-- Whatever was read, something may come that makes it a script.
pub some_completion : (state : State) → (tree : Script) × (ts : Lexemes) × Completion tree state ts
some_completion (at here line ss ls) = some_statement here line ss ls
some_completion (at_head here line ss gs) = some_head here line ss gs
