-- A script that is written word by word, with a blank after each word, or a newline where its line ends.
use Rattle.std.specs.Prelude.{◌≡◌, ◌≢◌, ℕ, List, [], ◌∷◌, ◌++◌, map, codes, Bool, if◌then◌else◌, IsTrue, ⊤}
use Rattle.avs_lex.specs.declared.token.Token.{Token}
use Rattle.avs_lex.specs.declared.token.TokenKind.{TokenKind}
use Rattle.avs_lex.specs.declared.token.TokenKind.TheVariants.{Newline, End}
use Rattle.avs_lex.specs.Spelling.{Text, newline, Spells}
use Rattle.avs_lex.specs.Tokens.{Tokens, open_parentheses_after, bytes_of}

pub record Word : Type 0 where
  pub kind : TokenKind
  pub bytes : Text
  pub ends_line : Bool

abbrev pub written : List Word → Text
written [] = []
written (word ∷ words) = word.bytes ++ (if word.ends_line then newline else 32) ∷ written words

-- a word that is a token wherever a blank or a newline follows it
pub record IsWord (word : Word) : Type 0 where
  pub spelled : Spells word.kind word.bytes
  pub no_newline : word.kind ≢ Newline
  pub no_end : word.kind ≢ End
  pub no_end_line : word.bytes ≢ codes "__END__"

-- lines end outside parentheses
abbrev pub AreWords : ℕ → List Word → Type 0
AreWords open_parentheses [] = ⊤
AreWords open_parentheses (word ∷ words) = IsWord word × (IsTrue word.ends_line → open_parentheses_after word.kind open_parentheses ≡ 0) × AreWords (open_parentheses_after word.kind open_parentheses) words

-- the kinds and the bytes of the tokens that are to be read
abbrev pub spelled_of : List Word → List (TokenKind × Text)
spelled_of [] = (End, []) ∷ []
spelled_of (word ∷ words) = (word.kind, word.bytes) ∷ (if word.ends_line then (Newline, newline ∷ []) ∷ spelled_of words else spelled_of words)

-- the tokens have these kinds and bytes
pub record ReadsAs (text : Text) (spelled : List (TokenKind × Text)) : Type 0 where
  pub tokens : List Token
  pub are : Tokens text tokens
  pub same : map (λ token. (token.kind, bytes_of text token)) tokens ≡ spelled

-- what is written word by word is read word by word
abbrev pub WrittenIsRead : Type 0
WrittenIsRead = (words : List Word) → AreWords 0 words → ReadsAs (written words) (spelled_of words)
