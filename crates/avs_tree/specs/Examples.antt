-- Scripts with a fault, each as its lexemes, and the place of the fault, with tokens counted from 0. The table is this project's
-- own; what a place is stands in Place.
use Rattle.std.specs.Prelude.{ℕ, ◌-◌, pos, List, [], ◌∷◌, ◌++◌, length, replicate, codes}
use Rattle.avs_lex.specs.Spelling.{Text}
use Rattle.avs_tree.specs.Lexeme.{Lexeme, Lexemes}
use Rattle.avs_tree.specs.declared.symbol.Symbol.{Symbol}
use Rattle.avs_tree.specs.declared.symbol.Symbol.TheVariants as s
use Rattle.avs_tree.specs.declared.words.Keyword.TheVariants as w
use Rattle.avs_tree.specs.declared.symbol.Punctuation.TheVariants as m
use Rattle.avs_tree.specs.declared.tree.Operator.TheVariants as o
use Rattle.avs_tree.specs.Place.{StopsAt, DeepAt}

-- The kind of a fault, and its token, counted from 0.
pub data Fault : Type 0 where
  syntax : ℕ → Fault
  nest_limit : ℕ → Fault

-- The tokens of a script, and its fault.
pub record Example : Type 0 where
  pub tokens : Lexemes
  pub fault : Fault

-- The fault is at this token, by the grammar.
abbrev pub IsPlace : Lexemes → Fault → Type 0
IsPlace ts (syntax n) = StopsAt ts (length ts - n)
IsPlace ts (nest_limit n) = DeepAt ts (length ts - n)

-- Each example holds.
abbrev pub Hold : List Example → Type 0
Hold [] = Unit {0}
Hold (e ∷ es) = IsPlace e.tokens e.fault × Hold es

abbrev pub ident : Text → Lexeme
ident x = (s.Name, x, 1)

abbrev pub token : Symbol → Lexeme
token symbol = (symbol, [], 1)

abbrev pub number : ℕ → Lexeme
number n = token (s.Int (pos n))

abbrev pub end : Lexeme
end = token (s.Punctuation m.End)

abbrev pub assign : Lexeme
assign = token (s.Punctuation m.Assign)

abbrev pub left : Lexeme
left = token (s.Punctuation m.LeftParen)

abbrev pub right : Lexeme
right = token (s.Punctuation m.RightParen)

abbrev pub table : List Example
table =
    -- `x = (1 + )`
    record { tokens = ident (codes "x") ∷ assign ∷ left ∷ number 1 ∷ token (s.Operator o.Plus) ∷ right ∷ end ∷ []; fault = syntax 5 }
    -- `function F(int a {`
    ∷ record {
      tokens = token (s.Keyword w.Function) ∷ ident (codes "F") ∷ left ∷ ident (codes "int") ∷ ident (codes "a") ∷ token (s.Punctuation m.LeftBrace) ∷ end ∷ [];
      fault = syntax 5;
    }
    -- `function F(float x) {}`
    ∷ record {
      tokens =
          token (s.Keyword w.Function) ∷ ident (codes "F") ∷ left ∷ ident (codes "float") ∷ ident (codes "x") ∷ right ∷ token (s.Punctuation m.LeftBrace) ∷ token (s.Punctuation m.RightBrace) ∷ end ∷ [];
      fault = syntax 3;
    }
    -- `if (true) x = 1`
    ∷ record { tokens = token (s.Keyword w.If) ∷ left ∷ token (s.Keyword w.True) ∷ right ∷ ident (codes "x") ∷ assign ∷ number 1 ∷ end ∷ []; fault = syntax 4 }
    -- `a == b == c`
    ∷ record { tokens = ident (codes "a") ∷ token (s.Operator o.Equal) ∷ ident (codes "b") ∷ token (s.Operator o.Equal) ∷ ident (codes "c") ∷ end ∷ []; fault = syntax 3 }
    -- `x = 1 y = 2`
    ∷ record { tokens = ident (codes "x") ∷ assign ∷ number 1 ∷ ident (codes "y") ∷ assign ∷ number 2 ∷ end ∷ []; fault = syntax 3 }
    -- `Trim(1`
    ∷ record { tokens = ident (codes "Trim") ∷ left ∷ number 1 ∷ end ∷ []; fault = syntax 3 }
    -- `x = ` and 33 times `(`
    ∷ record { tokens = ident (codes "x") ∷ assign ∷ replicate 33 left ++ end ∷ []; fault = nest_limit 34 }
    -- `x = ` and 32 times `(`
    ∷ record { tokens = ident (codes "x") ∷ assign ∷ replicate 32 left ++ end ∷ []; fault = syntax 34 }
    ∷ []

abbrev pub Examples : Type 0
Examples = Hold table
