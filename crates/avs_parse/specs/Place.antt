-- What a fault of the parser says, in the words of the grammar. Tokens are counted from 0, and out of memory says nothing.
use Rattle.std.specs.Prelude.{◌≡◌, ◌-◌, length, drop, ⊤}
use Rattle.avs_tree.specs.Lexeme.{Lexemes, line_of}
use Rattle.avs_tree.specs.Tree.{Script}
use Rattle.avs_tree.specs.Grammar.{HasTree}
use Rattle.avs_tree.specs.Place.{StopsAt, DeepAt}
use Rattle.avs_parse.specs.declared.fault.ParseError.{ParseError}
use Rattle.avs_parse.specs.declared.fault.ParseError.TheVariants.{Syntax, NestLimit, Memory}

-- The token is the first one such that no script begins with the tokens up to it, or the first one up to which each script
-- nests too deep.
abbrev pub TellsPlace : Lexemes → ParseError → Type 0
TellsPlace ts (Syntax token line) = StopsAt ts (length ts - token)
TellsPlace ts (NestLimit token line) = DeepAt ts (length ts - token)
TellsPlace ts Memory = ⊤

-- the line is that of the token
abbrev pub TellsLine : Lexemes → ParseError → Type 0
TellsLine ts (Syntax token line) = line ≡ line_of (drop token ts)
TellsLine ts (NestLimit token line) = line ≡ line_of (drop token ts)
TellsLine ts Memory = ⊤

-- the tokens have no tree within the limit of nesting
abbrev pub HasNoTree : Lexemes → ParseError → Type 0
HasNoTree ts (Syntax token line) = (tree : Script) → HasTree ts tree → ⊥
HasNoTree ts (NestLimit token line) = (tree : Script) → HasTree ts tree → ⊥
HasNoTree ts Memory = ⊤

-- a fault of the tokens, and not out of memory
abbrev pub IsNamed : ParseError → Type 0
IsNamed Memory = ⊥
IsNamed _ = ⊤
