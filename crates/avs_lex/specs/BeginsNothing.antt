-- Where nothing of the language begins.
use Rattle.std.specs.Prelude.{◌≡◌, ◌≢◌, ℕ, ◌<◌, ◌≤◌, ◌∷◌, ◌++◌, length, take, slice_index, codes, nat_eq, false, IsTrue}
use Rattle.std.specs.List.{list_all, starts_with}
use Rattle.avs_lex.specs.declared.token.TokenKind.{TokenKind}
use Rattle.avs_lex.specs.Spelling.{Text, hash, backslash, is_blank, Spells}
use Rattle.avs_lex.specs.Piece.{ends_line}

-- the text begins with a joined line: `\`, blanks, and a newline or the end of the text
pub record IsJoined (text : Text) : Type 0 where
  pub blanks : Text
  pub after : Text
  pub is : text ≡ backslash ∷ (blanks ++ after)
  pub all : IsTrue (list_all is_blank blanks)
  pub ends : IsTrue (ends_line after)

-- no token, blank, comment or joined line begins the text
pub record BeginsNothing (text : Text) : Type 0 where
  pub some : 0 < length text
  pub no_token : (kind : TokenKind) (size : ℕ) → 0 < size → size ≤ length text → Spells kind (take size text) → ⊥
  pub no_blank : is_blank (slice_index text 0) ≡ false
  pub no_line_comment : slice_index text 0 ≢ hash
  pub no_block_comment : starts_with nat_eq text (codes "/*") ≡ false
  pub no_nested_comment : starts_with nat_eq text (codes "[*") ≡ false
  pub no_joined_line : IsJoined text → ⊥
