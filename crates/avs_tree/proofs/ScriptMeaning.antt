-- What may still come, by the grammar, where a part of a script was read.
use Rattle.std.proofs.Common.{◌≡◌, ℕ, ◌⊎◌, Bool, false, IsTrue, List, [], ◌∷◌, ◌++◌, Option, Some}
use Rattle.avs_tree.specs.Lexeme.{Lexemes, type_word_of, tail}
use Rattle.avs_lex.specs.Spelling.{Text}
use Rattle.avs_tree.specs.Tree.{Expr, Kind, global, assign, return, if_, while, for, value, Arms, arm, Else, else_, Block, then_, Function, Script}
use Rattle.avs_tree.specs.Tree as t
use Rattle.avs_tree.specs.View.{StatementIs, ArmIs, arms_of}
use Rattle.avs_tree.specs.Grammar.{IsPunctuation, IsKeyword, IsName, Derives, Newlines, Separates, ForStep, DerivesElseIfs, DerivesElse, DerivesAll, ParameterName, MoreParameters, Items, functions_of, statements_of, DerivesItems}
use Rattle.avs_tree.specs.declared.words.Keyword.TheVariants as w
use Rattle.avs_tree.specs.declared.words.TypeWord.{TypeWord}
use Rattle.avs_tree.specs.declared.symbol.Punctuation.TheVariants as m
use Rattle.avs_tree.specs.declared.tree.Parameter.{Parameter}
use Rattle.avs_tree.specs.Machine.{operand_next, Use, to_value, to_global, to_assign, to_return, to_arm, to_while, to_first, to_last, to_step, Owner, arm_of, else_of, while_of, for_of, Levels, top, in_function, level, StatementState, statement_next, in_expression, parenthesis_next, braces_next, after_arm, after_else, after_global, after_global_name, after_for, for_opened, after_for_name, HeadState, after_function, after_function_name, head_opened, after_type, after_parameter, parameter_next, function_braces_next, State, at, at_head, Step, stuck, goes, whole}
use Rattle.avs_tree.proofs.ExprMeaning.{Meaning}

-- these and then further ones
abbrev pub all_block : List StatementIs → Block → Block
all_block [] rest = rest
all_block (x ∷ ss) rest = then_ x.0 x.1 (all_block ss rest)

abbrev pub all_arms : List ArmIs → Arms → Arms
all_arms [] rest = rest
all_arms (a ∷ arms) rest = arm a.0 a.1 (all_arms arms rest)

-- a script of these functions and statements, and then further ones
abbrev pub all_items : List Function → List StatementIs → Items → Script
all_items gs ss i = record { functions = gs ++ functions_of i; statements = all_block ss (statements_of i) }

abbrev pub function_with : Text → List Parameter → ℕ → Block → Function
function_with y ps line b = record { name = y; params = ps; body = b; line = line }

-- Newlines, and then C.
abbrev pub NextIn : (List StatementIs → Lexemes → Type 0) → List StatementIs → Lexemes → Type 0
NextIn C ss ts = (us : Lexemes) × Newlines ts us × C ss us

-- after an arm, where N says what comes after the statement
abbrev pub ArmsIn : (List StatementIs → Lexemes → Type 0) → ℕ → List StatementIs → List ArmIs → Lexemes → Type 0
ArmsIn N line before arms ts =
    (rest : Arms) × (o : Else) × (us vs : Lexemes) × DerivesElseIfs rest ts us × DerivesElse o us vs × N (before ++ (if_ (all_arms arms rest) o, line) ∷ []) vs

-- after a right brace
abbrev pub OwnedIn : (List StatementIs → Lexemes → Type 0) → Owner → ℕ → List StatementIs → Block → Lexemes → Type 0
OwnedIn N (arm_of arms e) line before b ts = ArmsIn N line before (arms ++ (e, b) ∷ []) ts
OwnedIn N (else_of arms) line before b ts = N (before ++ (if_ (arms_of arms) (else_ b), line) ∷ []) ts
OwnedIn N (while_of e) line before b ts = N (before ++ (while e b, line) ∷ []) ts
OwnedIn N (for_of y a b' c) line before b ts = N (before ++ (for y a b' c b, line) ∷ []) ts

-- The tree is that of the whole script.
module _ (tree : Script) where
  -- further functions and statements, and the end
  abbrev pub TopRest : List Function → List StatementIs → Lexemes → Type 0
  TopRest gs ss ts = (i : Items) × (us : Lexemes) × DerivesItems i ts us × IsPunctuation m.End us [] × (all_items gs ss i ≡ tree)

  abbrev pub TopNext : List Function → List StatementIs → Lexemes → Type 0
  TopNext gs ss ts = NextIn (TopRest gs) ss ts

  -- further statements, and what ends them
  abbrev pub Rest : Levels → List StatementIs → Lexemes → Type 0
  Rest (top gs) ss ts = TopRest gs ss ts
  Rest (in_function y ps line before gs) ss ts =
      (b : Block) × (us : Lexemes) × DerivesAll b ts us × ((vs : Lexemes) × IsPunctuation m.RightBrace us vs × TopNext (gs ++ function_with y ps line (all_block ss b) ∷ []) before vs)
  Rest (level o line before ls) ss ts =
      (b : Block) × (us : Lexemes) × DerivesAll b ts us
      × ((vs : Lexemes) × IsPunctuation m.RightBrace us vs × OwnedIn (λ ss' ws. NextIn (λ ss'' xs. Rest ls ss'' xs) ss' ws) o line before (all_block ss b) vs)

  abbrev pub Next : Levels → List StatementIs → Lexemes → Type 0
  Next ls ss ts = NextIn (λ ss' us. Rest ls ss' us) ss ts

  -- after the statements of a block
  abbrev pub Closed : Levels → Block → Lexemes → Type 0
  Closed (top gs) b ts = IsPunctuation m.End ts [] × (record { functions = gs; statements = b } ≡ tree)
  Closed (in_function y ps line before gs) b ts = (us : Lexemes) × IsPunctuation m.RightBrace ts us × TopNext (gs ++ function_with y ps line b ∷ []) before us
  Closed (level o line before ls) b ts = (us : Lexemes) × IsPunctuation m.RightBrace ts us × OwnedIn (Next ls) o line before b us

  -- after a statement that ended without a brace
  abbrev pub Done : Levels → List StatementIs → Kind → ℕ → Lexemes → Type 0
  Done ls ss kind line ts = (us : Lexemes) × Separates false ts us × Rest ls (ss ++ (kind, line) ∷ []) us

  -- braces
  abbrev pub Bodied : Levels → List StatementIs → ℕ → Owner → Lexemes → Type 0
  Bodied ls ss line o ts = (us vs : Lexemes) × Newlines ts us × IsPunctuation m.LeftBrace us vs × Next (level o line ss ls) [] vs

  -- `=`, where the expression is a name so far
  abbrev pub Assigns : Levels → List StatementIs → ℕ → Expr → Lexemes → Type 0
  Assigns ls ss line (t.name y l) ts = (us vs : Lexemes) × (f : Expr) × IsPunctuation m.Assign ts us × Derives 8 f us vs × Done ls ss (assign y f) line vs
  Assigns ls ss line _ ts = ⊥

  -- a right parenthesis and the braces of a `for`
  abbrev pub ForBodied : Levels → List StatementIs → ℕ → Text → Expr → Expr → Option Expr → Lexemes → Type 0
  ForBodied ls ss line y a b c ts = (us : Lexemes) × IsPunctuation m.RightParen ts us × Bodied ls ss line (for_of y a b c) us

  -- the step of a `for`, or none
  abbrev pub Stepped : Levels → List StatementIs → ℕ → Text → Expr → Expr → Lexemes → Type 0
  Stepped ls ss line y a b ts = (c : Option Expr) × (us : Lexemes) × ForStep c ts us × ForBodied ls ss line y a b c us

  -- after a whole expression
  abbrev pub Used : Levels → List StatementIs → ℕ → Use → Expr → Lexemes → Type 0
  Used ls ss line to_value e ts = Done ls ss (value e) line ts ⊎ Assigns ls ss line e ts
  Used ls ss line (to_global y) e ts = Done ls ss (global y e) line ts
  Used ls ss line (to_assign y) e ts = Done ls ss (assign y e) line ts
  Used ls ss line to_return e ts = Done ls ss (return e) line ts
  Used ls ss line (to_arm arms) e ts = (us : Lexemes) × IsPunctuation m.RightParen ts us × Bodied ls ss line (arm_of arms e) us
  Used ls ss line to_while e ts = (us : Lexemes) × IsPunctuation m.RightParen ts us × Bodied ls ss line (while_of e) us
  Used ls ss line (to_first y) e ts = (us vs : Lexemes) × (b : Expr) × IsPunctuation m.Comma ts us × Derives 8 b us vs × Stepped ls ss line y e b vs
  Used ls ss line (to_last y a) e ts = Stepped ls ss line y a e ts
  Used ls ss line (to_step y a b) e ts = ForBodied ls ss line y a b (Some e) ts

  abbrev pub OperandNext : Levels → List StatementIs → ℕ → Use → Lexemes → Type 0
  OperandNext ls ss line use_ ts = Meaning (Used ls ss line use_) operand_next [] ts

  abbrev pub Conditioned : Levels → List StatementIs → ℕ → Use → Lexemes → Type 0
  Conditioned ls ss line use_ ts = (us : Lexemes) × IsPunctuation m.LeftParen ts us × OperandNext ls ss line use_ us

  -- `=` and what is assigned
  abbrev pub Equals : Levels → List StatementIs → ℕ → Use → Lexemes → Type 0
  Equals ls ss line use_ ts = (us : Lexemes) × IsPunctuation m.Assign ts us × OperandNext ls ss line use_ us

  -- the name of a `for`
  abbrev pub ForNamed : Levels → List StatementIs → ℕ → Lexemes → Type 0
  ForNamed ls ss line ts = (y : Text) × (us : Lexemes) × IsName y ts us × Equals ls ss line (to_first y) us

  abbrev pub Statement : StatementState → ℕ → List StatementIs → Levels → Lexemes → Type 0
  Statement statement_next line ss ls ts = Next ls ss ts
  Statement (in_expression use_ now fs) line ss ls ts = Meaning (Used ls ss line use_) now fs ts
  Statement (parenthesis_next use_) line ss ls ts = Conditioned ls ss line use_ ts
  Statement (braces_next o) line ss ls ts = Bodied ls ss line o ts
  Statement (after_arm arms) line ss ls ts = ArmsIn (Next ls) line ss arms ts
  Statement (after_else arms) line ss ls ts = ((us : Lexemes) × IsKeyword w.If ts us × Conditioned ls ss line (to_arm arms) us) ⊎ Bodied ls ss line (else_of arms) ts
  Statement after_global line ss ls ts = (y : Text) × (us : Lexemes) × IsName y ts us × Equals ls ss line (to_global y) us
  Statement (after_global_name y) line ss ls ts = Equals ls ss line (to_global y) ts
  Statement after_for line ss ls ts = (us : Lexemes) × IsPunctuation m.LeftParen ts us × ForNamed ls ss line us
  Statement for_opened line ss ls ts = ForNamed ls ss line ts
  Statement (after_for_name y) line ss ls ts = Equals ls ss line (to_first y) ts

  -- ---- the head of a function

  -- its braces
  abbrev pub FunctionBodied : List Function → List StatementIs → ℕ → Text → List Parameter → Lexemes → Type 0
  FunctionBodied gs ss line y ps ts = (us vs : Lexemes) × Newlines ts us × IsPunctuation m.LeftBrace us vs × Next (in_function y ps line ss gs) [] vs

  -- its right parenthesis and its braces
  abbrev pub HeadEnds : List Function → List StatementIs → ℕ → Text → List Parameter → Lexemes → Type 0
  HeadEnds gs ss line y ps ts = (us : Lexemes) × IsPunctuation m.RightParen ts us × FunctionBodied gs ss line y ps us

  -- after a parameter
  abbrev pub ParametersEnd : List Function → List StatementIs → ℕ → Text → List Parameter → Bool → Lexemes → Type 0
  ParametersEnd gs ss line y ps must ts = (rest : List Parameter) × (us : Lexemes) × MoreParameters must rest ts us × HeadEnds gs ss line y (ps ++ rest) us

  -- after the type of a parameter
  abbrev pub Typed : List Function → List StatementIs → ℕ → Text → List Parameter → Bool → TypeWord → Lexemes → Type 0
  Typed gs ss line y ps must word ts =
      (optional : Bool) × (z : Text) × (us : Lexemes) × (IsTrue must → IsTrue optional) × ParameterName optional z ts us
      × ParametersEnd gs ss line y (ps ++ record { name = z; word = word; optional = optional } ∷ []) optional us

  -- a parameter
  abbrev pub ParameterNext : List Function → List StatementIs → ℕ → Text → List Parameter → Bool → Lexemes → Type 0
  ParameterNext gs ss line y ps must ts = (x : Text) × (word : TypeWord) × (us : Lexemes) × IsName x ts us × (type_word_of x ≡ Some word) × Typed gs ss line y ps must word us

  -- the parameters
  abbrev pub HeadOpened : List Function → List StatementIs → ℕ → Text → Lexemes → Type 0
  HeadOpened gs ss line y ts = HeadEnds gs ss line y [] ts ⊎ ParameterNext gs ss line y [] false ts

  abbrev pub HeadNamed : List Function → List StatementIs → ℕ → Text → Lexemes → Type 0
  HeadNamed gs ss line y ts = (us : Lexemes) × IsPunctuation m.LeftParen ts us × HeadOpened gs ss line y us

  abbrev pub Head : HeadState → ℕ → List StatementIs → List Function → Lexemes → Type 0
  Head after_function line ss gs ts = (y : Text) × (us : Lexemes) × IsName y ts us × HeadNamed gs ss line y us
  Head (after_function_name y) line ss gs ts = HeadNamed gs ss line y ts
  Head (head_opened y) line ss gs ts = HeadOpened gs ss line y ts
  Head (after_type y ps must word) line ss gs ts = Typed gs ss line y ps must word ts
  Head (after_parameter y ps must) line ss gs ts = ParametersEnd gs ss line y ps must ts
  Head (parameter_next y ps must) line ss gs ts = ParameterNext gs ss line y ps must ts
  Head (function_braces_next y ps) line ss gs ts = FunctionBodied gs ss line y ps ts

  -- ---- all states

  -- After what the state holds, these tokens complete the script.
  abbrev pub Completion : State → Lexemes → Type 0
  Completion (at here line ss ls) ts = Statement here line ss ls ts
  Completion (at_head here line ss gs) ts = Head here line ss gs ts

  -- what may come where a token was taken
  abbrev pub AfterStep : Step → Lexemes → Type 0
  AfterStep stuck ts = ⊥
  AfterStep (goes state) ts = Completion state (tail ts)
  AfterStep (whole b) ts = (tail ts ≡ []) × (b ≡ tree)
