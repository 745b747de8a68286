-- The trees of scripts, and what a text is as a script.
use Rattle.std.specs.Prelude.{ℕ, ℤ, Bool, true, false, List, Option}
use Rattle.avs_lex.specs.Spelling.{Text}
use Rattle.avs_lex.specs.declared.fault.LexKind.{LexKind}
use Rattle.avs_tree.specs.declared.tree.Operator.{Operator}
use Rattle.avs_tree.specs.declared.tree.Parameter.{Parameter}

-- ==== The trees of scripts. Each list is a type of its own.

-- A number is the line of a name, an operator or a `?`.
mutual
  pub data Expr : Type 0 where
    int : ℤ → Expr
    bool : Bool → Expr
    str : Text → Expr
    name : Text → ℕ → Expr
    call : Text → Args → ℕ → Expr
    method_calls : Expr → MethodCalls → Expr
    minus : Expr → ℕ → Expr
    not_ : Expr → ℕ → Expr
    chain : Expr → Steps → Expr
    compare : Operator → Expr → Expr → ℕ → Expr
    conditional : Expr → Expr → Expr → ℕ → Expr
    group : Expr → Expr

  pub data Args : Type 0 where
    no_args : Args
    arg : Option Text → Expr → Args → Args

  pub data MethodCalls : Type 0 where
    no_method_calls : MethodCalls
    -- without arguments
    method : Text → ℕ → MethodCalls → MethodCalls
    method_call : Text → Args → ℕ → MethodCalls → MethodCalls

  pub data Steps : Type 0 where
    no_steps : Steps
    step : Operator → Expr → ℕ → Steps → Steps

-- what a statement does
mutual
  pub data Kind : Type 0 where
    global : Text → Expr → Kind
    assign : Text → Expr → Kind
    return : Expr → Kind
    if_ : Arms → Else → Kind
    while : Expr → Block → Kind
    for : Text → Expr → Expr → Option Expr → Block → Kind
    value : Expr → Kind

  pub data Arms : Type 0 where
    no_arms : Arms
    arm : Expr → Block → Arms → Arms

  pub data Else : Type 0 where
    no_else : Else
    else_ : Block → Else

  -- statements, each with the line of its first token
  pub data Block : Type 0 where
    no_more : Block
    then_ : Kind → ℕ → Block → Block

-- the statement ends with a brace
abbrev pub ends_with_brace : Kind → Bool
ends_with_brace (if_ arms other) = true
ends_with_brace (while c b) = true
ends_with_brace (for x a b c d) = true
ends_with_brace _ = false

pub record Function : Type 0 where
  pub name : Text
  pub params : List Parameter
  pub body : Block
  pub line : ℕ

pub record Script : Type 0 where
  pub functions : List Function
  pub statements : Block

-- ==== What a text is as a script: its tree, or why there is none.

-- a tree, and the line of the end of its script
pub record Loaded : Type 0 where
  pub tree : Script
  pub last_line : ℕ

-- Why a text has no tree: its first lexical fault, or the token at which no script goes on or the nesting becomes too deep.
-- Each with the line.
pub data NoTree : Type 0 where
  lexical : LexKind → ℕ → NoTree
  syntax : ℕ → NoTree
  nests : ℕ → NoTree
