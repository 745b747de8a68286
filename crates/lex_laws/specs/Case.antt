-- The case of letters.
use Rattle.std.specs.Prelude.{◌≡◌, ℕ, List, drop, codes, nat_eq}
use Rattle.std.specs.List.{starts_with}
use Rattle.std.specs.Str.{str_to_ascii_lowercase}
use Rattle.avs_lex.specs.declared.fault.LexKind.{LexKind}
use Rattle.avs_lex.specs.declared.token.Token.{Token}
use Rattle.avs_lex.specs.Spelling.{Text}
use Rattle.avs_lex.specs.Tokens.{bytes_of, Tokens, LexFault}

-- the texts differ in nothing but the case of letters, and have the word `__END__`, in this case, at the same offsets
pub record DifferInCase (text other : Text) : Type 0 where
  pub letters : str_to_ascii_lowercase text ≡ str_to_ascii_lowercase other
  pub ends : (k : ℕ) → starts_with nat_eq (drop k text) (codes "__END__") ≡ starts_with nat_eq (drop k other) (codes "__END__")

-- they have the same tokens
abbrev pub CaseKeepsTokens : Type 0
CaseKeepsTokens = (text other : Text) (tokens : List Token) → DifferInCase text other → Tokens text tokens → Tokens other tokens

-- or the same fault
abbrev pub CaseKeepsFaults : Type 0
CaseKeepsFaults = (text other : Text) (kind : LexKind) (line : ℕ) → DifferInCase text other → LexFault text kind line → LexFault other kind line

-- and the bytes of a token differ in nothing but the case of letters
abbrev pub CaseKeepsBytes : Type 0
CaseKeepsBytes = (text other : Text) (token : Token) → DifferInCase text other → str_to_ascii_lowercase (bytes_of text token) ≡ str_to_ascii_lowercase (bytes_of other token)
