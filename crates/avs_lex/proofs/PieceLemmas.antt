-- Where no other case fits, the front is punctuation or a fault.
use Rattle.std.proofs.Common.{◌≡◌, ℕ, get_or, false, ◌==◌}
use Rattle.std.specs.Char.{is_ascii_digit}
use Rattle.avs_lex.specs.Spelling.{Text, begins_name}
use Rattle.avs_lex.specs.Piece.{front, punctuation}

-- a character that begins nothing else
pub record IsOther (first : ℕ) : Type 0 where
  pub name : begins_name first ≡ false
  pub digit : is_ascii_digit first ≡ false
  pub space : (first == 32) ≡ false
  pub tab : (first == 9) ≡ false
  pub return : (first == 13) ≡ false
  pub newline : (first == 10) ≡ false
  pub backslash : (first == 92) ≡ false
  pub hash : (first == 35) ≡ false
  pub slash : (first == 47) ≡ false
  pub bracket : (first == 91) ≡ false
  pub quote : (first == 34) ≡ false
  pub dollar : (first == 36) ≡ false
  pub dot : (first == 46) ≡ false

pub front_punctuation : (open_parentheses : ℕ) (rest : Text) → IsOther (get_or rest 0 0) → front open_parentheses rest ≡ punctuation rest
unfolding front
front_punctuation open_parentheses rest other =
    rw (other.name, other.digit, other.space, other.tab, other.return, other.newline, other.backslash, other.hash, other.slash, other.bracket, other.quote, other.dollar, other.dot)
