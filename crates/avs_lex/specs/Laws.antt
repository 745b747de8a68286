-- What the definition of tokens determines.
use Rattle.std.specs.Prelude.{◌≡◌, ◌⊎◌, ◌↔◌, ℕ, ◌+◌, ◌<◌, ◌≤◌, List, ◌∷◌, Some, drop, length, slice_range, slice_index_or, IsUtf8}
use Rattle.avs_lex.specs.declared.fault.LexKind.{LexKind}
use Rattle.avs_lex.specs.declared.fault.LexKind.TheVariants.{BadChar}
use Rattle.avs_lex.specs.declared.token.Token.{Token}
use Rattle.avs_lex.specs.declared.token.TokenKind.{TokenKind}
use Rattle.avs_lex.specs.BeginsNothing.{BeginsNothing}
use Rattle.avs_lex.specs.Spelling.{Text, star, left_bracket, Spells}
use Rattle.avs_lex.specs.NestedComment.{IsNestedComment}
use Rattle.avs_lex.specs.Piece.{nested_end}
use Rattle.avs_lex.specs.Tokens.{Tokens, LexFault, IsTokenList}

-- a text has tokens, or a first fault, and only one of the two
pub record HasOneReading (text : Text) : Type 0 where
  pub some : ((tokens : List Token) × Tokens text tokens) ⊎ ((kind : LexKind) × (line : ℕ) × LexFault text kind line)
  pub one_list : (tokens others : List Token) → Tokens text tokens → Tokens text others → tokens ≡ others
  pub one_fault : (kind other : LexKind) (line line' : ℕ) → LexFault text kind line → LexFault text other line' → (kind ≡ other) × (line ≡ line')
  pub never_both : (tokens : List Token) (kind : LexKind) (line : ℕ) → Tokens text tokens → LexFault text kind line → ⊥

abbrev pub EachTextHasOneReading : Type 0
EachTextHasOneReading = (text : Text) → HasOneReading text

abbrev pub TokensAreListed : Type 0
TokensAreListed = (text : Text) (tokens : List Token) → IsUtf8 text → Tokens text tokens → IsTokenList text tokens

-- no longer piece from the token's start is spelled as a token
pub record IsLongest (text : Text) (token : Token) : Type 0 where
  pub none_longer : (kind : TokenKind) (end : ℕ) → token.end < end → end ≤ length text → Spells kind (slice_range text token.start end) → ⊥

-- each token but the end is the longest at its offset
abbrev pub TokensAreLongest : Type 0
TokensAreLongest = (text : Text) (tokens : List Token) → Tokens text tokens → (k : ℕ) (d : Token) → k + 1 < length tokens → IsLongest text (slice_index_or tokens k d)

-- where the first fault is a BadChar, nothing of the language begins
abbrev pub BadCharBeginsNothing : Type 0
BadCharBeginsNothing = (text : Text) (line : ℕ) (fault : LexFault text BadChar line) → BeginsNothing (drop fault.offset text)

-- A comment that `[*` begins is read up to an offset exactly where it is a nested comment of that size.
abbrev pub NestedCommentsEnd : Type 0
NestedCommentsEnd = (inside : Text) (size : ℕ) → (nested_end 0 2 inside ≡ Some size) ↔ IsNestedComment (left_bracket ∷ star ∷ inside) size
