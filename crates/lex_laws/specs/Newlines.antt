-- What the newlines of a text are.
use Rattle.std.specs.Prelude.{◌≡◌, ◌≢◌, ◌⊎◌, ℕ, ◌+◌, ◌<◌, ◌≤◌, List, [], ◌∷◌, ◌++◌, length, drop, slice_index, ⊤}
use Rattle.avs_lex.specs.declared.token.Token.{Token}
use Rattle.avs_lex.specs.declared.token.TokenKind.TheVariants.{Str, Newline}
use Rattle.avs_lex.specs.Spelling.{Text, newline, backslash}
use Rattle.avs_lex.specs.Piece.{without_blanks}
use Rattle.avs_lex.specs.Tokens.{start_of, open_parentheses_after, Tokens}
use Rattle.lex_laws.specs.Gaps.{IsFilling}

-- This holds of each token and of how many parentheses are open before it.
abbrev pub EachOpen : (ℕ → Token → Type 0) → ℕ → List Token → Type 0
EachOpen P open_parentheses [] = ⊤
EachOpen P open_parentheses (token ∷ tokens) = P open_parentheses token × EachOpen P (open_parentheses_after token.kind open_parentheses) tokens

-- one newline outside parentheses, and what follows it and blanks is no `\`
pub record IsNewline (text : Text) (open_parentheses : ℕ) (token : Token) : Type 0 where
  pub is : slice_index text token.start ≡ newline
  pub one : token.end ≡ token.start + 1
  pub outside : open_parentheses ≡ 0
  pub apart : slice_index (without_blanks (drop token.end text)) 0 ≢ backslash

abbrev pub NewlineTokens : Type 0
NewlineTokens = (text : Text) (tokens : List Token) → Tokens text tokens → EachOpen (λ n token. token.kind ≡ Newline → IsNewline text n token) 0 tokens

-- The offset is in a piece that is no token. Of these only comments, joined lines and newlines inside parentheses have newlines.
pub record IsSkipped (text : Text) (open_parentheses i : ℕ) : Type 0 where
  pub before : Text
  pub piece : Text
  pub after : Text
  pub is : text ≡ before ++ (piece ++ after)
  pub filling : IsFilling open_parentheses piece after
  pub low : length before ≤ i
  pub high : i < length before + length piece

-- the offset is in the token, which is a string, or this newline and nothing else
pub record IsTaken (i : ℕ) (token : Token) : Type 0 where
  pub low : token.start ≤ i
  pub high : i < token.end
  pub kind : (token.kind ≡ Str) ⊎ ((token.kind ≡ Newline) × (token.start ≡ i) × (token.end ≡ i + 1))

-- The newline at this offset is in a token, or in a gap. The gaps begin at this first offset and at the ends of the tokens.
abbrev pub IsPlaced : Text → ℕ → ℕ → List Token → ℕ → Type 0
IsPlaced text open_parentheses first [] i = (first ≤ i) × IsSkipped text open_parentheses i
IsPlaced text open_parentheses first (token ∷ tokens) i =
    ((first ≤ i) × (i < token.start) × IsSkipped text open_parentheses i) ⊎ (IsTaken i token ⊎ IsPlaced text (open_parentheses_after token.kind open_parentheses) token.end tokens i)

abbrev pub EachNewlineIsPlaced : Type 0
EachNewlineIsPlaced = (text : Text) (tokens : List Token) (are : Tokens text tokens) (i : ℕ) → start_of text ≤ i → i < are.offset → slice_index text i ≡ newline → IsPlaced text 0 (start_of text) tokens i
