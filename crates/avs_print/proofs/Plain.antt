-- Trees whose names are names, whose strings can be quoted, whose numbers can be written, and whose operands have the
-- precedences that they need: what is known of a tree that was read from tokens.
use Rattle.std.specs.Prelude.{◌≡◌, ◌≤◌, ℕ, ◌-◌, ℤ, Bool, true, false, IsTrue, List, [], ◌∷◌, Option, Some, None}
use Rattle.avs_lex.specs.declared.token.TokenKind.{TokenKind}
use Rattle.avs_lex.specs.declared.token.TokenKind.TheVariants as k
use Rattle.avs_lex.specs.Spelling.{IsName, IsQuoted, Text}
use Rattle.avs_lex.specs.Spelling as l
use Rattle.avs_tree.specs.Lexeme.{Lexeme, Lexemes, precedence_of, unquoted, said, symbol_by, is_name, keyword_of}
use Rattle.avs_tree.specs.Tree.{Expr, int, bool, str, name, call, method_calls, minus, not_, chain, compare, conditional, group, Args, no_args, arg, MethodCalls, no_method_calls, method, method_call, Steps, no_steps, step, Kind, global, assign, return, if_, while, for, value, Arms, no_arms, arm, Else, no_else, else_, Block, no_more, then_, Function, Script}
use Rattle.avs_tree.specs.Grammar.{Chains, precedence_of_steps, HasMethodCall}
use Rattle.avs_tree.specs.declared.tree.Parameter.{Parameter}
use Rattle.avs_print.specs.Printed.{number, quoted}

-- ---- what the grammar sees is that of a token

pub record Fit (t : Lexeme) : Type 0 where
  pub kind : TokenKind
  pub bytes : Text
  pub spelled : l.Spells kind bytes
  pub symbol : t.0 ≡ symbol_by kind (said kind bytes)
  pub content : t.1 ≡ said kind bytes

abbrev pub AllFit : Lexemes → Type 0
AllFit [] = Unit {0}
AllFit (t ∷ ts) = Fit t × AllFit ts

-- ---- single words

-- a name that is no reserved word
pub record IsNamed (x : Text) : Type 0 where
  pub spelled : IsName x
  pub free : keyword_of x ≡ None

-- a string that its quotes can hold
pub record IsSaid (x : Text) : Type 0 where
  pub spelled : IsQuoted (quoted x)
  pub inside : unquoted (quoted x) ≡ x

-- a number that its digits write
abbrev pub IsNumber : ℤ → Type 0
IsNumber n = l.Spells (k.Int n) (number n)

-- ---- expressions

abbrev pub PlainLabel : Option Text → Type 0
PlainLabel None = Unit {0}
PlainLabel (Some x) = IsNamed x

abbrev mutual
  pub Plain : ℕ → Expr → Type 0
  Plain r (int n) = IsNumber n
  Plain r (bool b) = Unit {0}
  Plain r (str x) = IsSaid x
  Plain r (name x line) = IsNamed x
  Plain r (call x es line) = IsNamed x × PlainArgs es
  Plain r (method_calls e ds) = (1 ≤ r) × HasMethodCall ds × Plain 0 e × PlainMethodCalls ds
  Plain r (minus e line) = (2 ≤ r) × Plain 2 e
  Plain r (not_ e line) = (2 ≤ r) × Plain 2 e
  Plain r (chain e ss) = (precedence_of_steps ss ≤ r) × Chains ss × Plain (precedence_of_steps ss - 1) e × PlainSteps (precedence_of_steps ss) ss
  Plain r (compare op a b line) = (5 ≤ r) × (precedence_of op ≡ 5) × Plain 4 a × Plain 4 b
  Plain r (conditional c a b line) = (8 ≤ r) × Plain 7 c × Plain 8 a × Plain 8 b
  Plain r (group e) = Plain 8 e

  pub PlainSteps : ℕ → Steps → Type 0
  PlainSteps r no_steps = Unit {0}
  PlainSteps r (step op e line ss) = (precedence_of op ≡ r) × Plain (r - 1) e × PlainSteps r ss

  pub PlainMethodCalls : MethodCalls → Type 0
  PlainMethodCalls no_method_calls = Unit {0}
  PlainMethodCalls (method x line ds) = IsNamed x × PlainMethodCalls ds
  PlainMethodCalls (method_call x es line ds) = IsNamed x × PlainArgs es × PlainMethodCalls ds

  pub PlainArgs : Args → Type 0
  PlainArgs no_args = Unit {0}
  PlainArgs (arg x e es) = PlainLabel x × Plain 8 e × PlainArgs es

-- ---- statements

abbrev pub PlainStep : Option Expr → Type 0
PlainStep None = Unit {0}
PlainStep (Some e) = Plain 8 e

abbrev mutual
  pub PlainKind : Kind → Type 0
  PlainKind (global x e) = IsNamed x × Plain 8 e
  PlainKind (assign x e) = IsNamed x × Plain 8 e
  PlainKind (return e) = Plain 8 e
  PlainKind (if_ no_arms other) = ⊥
  PlainKind (if_ (arm e b rest) other) = Plain 8 e × PlainBlock b × PlainArms rest × PlainElse other
  PlainKind (while e b) = Plain 8 e × PlainBlock b
  PlainKind (for x a b c d) = IsNamed x × Plain 8 a × Plain 8 b × PlainStep c × PlainBlock d
  PlainKind (value e) = Plain 8 e

  pub PlainArms : Arms → Type 0
  PlainArms no_arms = Unit {0}
  PlainArms (arm e b rest) = Plain 8 e × PlainBlock b × PlainArms rest

  pub PlainElse : Else → Type 0
  PlainElse no_else = Unit {0}
  PlainElse (else_ b) = PlainBlock b

  pub PlainBlock : Block → Type 0
  PlainBlock no_more = Unit {0}
  PlainBlock (then_ k line rest) = PlainKind k × PlainBlock rest

-- ---- functions and scripts

abbrev pub PlainName : Bool → Text → Type 0
PlainName false x = IsNamed x
PlainName true x = IsTrue (is_name x) × IsSaid x

-- After an optional parameter all are optional.
abbrev pub PlainParams : Bool → List Parameter → Type 0
PlainParams must [] = Unit {0}
PlainParams must (p ∷ ps) = (IsTrue must → IsTrue p.optional) × PlainName p.optional p.name × PlainParams p.optional ps

pub record PlainFunction (f : Function) : Type 0 where
  pub name : IsNamed f.name
  pub params : PlainParams false f.params
  pub body : PlainBlock f.body

abbrev pub PlainFunctions : List Function → Type 0
PlainFunctions [] = Unit {0}
PlainFunctions (f ∷ fs) = PlainFunction f × PlainFunctions fs

pub record PlainScript (tree : Script) : Type 0 where
  pub functions : PlainFunctions tree.functions
  pub statements : PlainBlock tree.statements
