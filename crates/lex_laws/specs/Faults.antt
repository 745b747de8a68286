-- Why a text has no tokens, by what it has where it can't be read on.
use Rattle.std.specs.Prelude.{◌≡◌, ◌≢◌, ◌⊎◌, ◌↔◌, ℕ, ◌<◌, ◌≤◌, ◌^◌, List, [], ◌∷◌, ◌++◌, length, drop, slice_index, codes, nat_eq, false, IsTrue}
use Rattle.std.specs.List.{list_all, starts_with}
use Rattle.std.specs.Char.{is_ascii_digit, is_ascii_hexdigit}
use Rattle.avs_lex.specs.declared.fault.LexKind.{LexKind}
use Rattle.avs_lex.specs.declared.fault.LexKind.TheVariants.{FloatLiteral, IntRange, OpenString, OpenComment, BadChar}
use Rattle.avs_lex.specs.declared.token.Token.{Token}
use Rattle.avs_lex.specs.BeginsNothing.{BeginsNothing}
use Rattle.avs_lex.specs.Spelling.{Text, quote, dollar, star, dot, slash, left_bracket, value, triple, hexadecimal_digits}
use Rattle.avs_lex.specs.NestedComment.{IsNestedComment}
use Rattle.avs_lex.specs.Tokens.{line_at, ReadTo, Tokens, LexFault}

-- the word is nowhere in the text
abbrev pub Lacks : Text → Text → Type 0
Lacks text word = (k : ℕ) → starts_with nat_eq (drop k text) word ≡ false

-- digits and a `.`, or a `.` and a digit
pub record IsFloat (text : Text) : Type 0 where
  pub digits : Text
  pub after : Text
  pub is : text ≡ digits ++ dot ∷ after
  pub all : IsTrue (list_all is_ascii_digit digits)
  pub some : (0 < length digits) ⊎ IsTrue (is_ascii_digit (slice_index after 0))

-- digits for a number that is too large, and neither a digit nor a `.` after them
pub record IsLargeDecimal (text : Text) : Type 0 where
  pub digits : Text
  pub after : Text
  pub is : text ≡ digits ++ after
  pub all : IsTrue (list_all is_ascii_digit digits)
  pub large : 2 ^ 63 ≤ value 10 digits
  pub whole : is_ascii_digit (slice_index after 0) ≡ false
  pub no_dot : slice_index after 0 ≢ dot

-- `$` and more hexadecimal digits than 64 bits have
pub record IsLongHexadecimal (text : Text) : Type 0 where
  pub digits : Text
  pub after : Text
  pub is : text ≡ dollar ∷ (digits ++ after)
  pub all : IsTrue (list_all is_ascii_hexdigit digits)
  pub long : hexadecimal_digits < length digits

-- `"""` without a `"""` after it, or `"` without a `"` after it
pub data IsOpenString : Text → Type 0 where
  of_three : (inside : Text) → Lacks inside triple → IsOpenString (triple ++ inside)
  of_one : (inside : Text) → Lacks inside (quote ∷ []) → IsOpenString (quote ∷ inside)

-- `/*` without a `*/` after it, or `[*` that begins no nested comment
pub data IsOpenComment : Text → Type 0 where
  block : (inside : Text) → Lacks inside (codes "*/") → IsOpenComment (slash ∷ star ∷ inside)
  nested : (inside : Text) → ((size : ℕ) → IsNestedComment (left_bracket ∷ star ∷ inside) size → ⊥) → IsOpenComment (left_bracket ∷ star ∷ inside)

-- the text begins with a fault of this kind
abbrev pub FaultBegins : LexKind → Text → Type 0
FaultBegins FloatLiteral text = IsFloat text
FaultBegins IntRange text = IsLargeDecimal text ⊎ IsLongHexadecimal text
FaultBegins OpenString text = IsOpenString text
FaultBegins OpenComment text = IsOpenComment text
FaultBegins BadChar text = BeginsNothing text × (slice_index text 0 ≢ quote)

-- the script is read up to an offset, and there a fault begins, on this line
pub record FailsAt (text : Text) (kind : LexKind) (line : ℕ) : Type 0 where
  pub offset : ℕ
  pub open_parentheses : ℕ
  pub before : List Token
  pub read : ReadTo text offset open_parentheses before
  pub begins : FaultBegins kind (drop offset text)
  pub is : line ≡ line_at text offset

abbrev pub FaultsAreKnown : Type 0
FaultsAreKnown = (text : Text) (kind : LexKind) (line : ℕ) → LexFault text kind line ↔ FailsAt text kind line

-- at most one fault begins a text
abbrev pub FaultsExclude : Type 0
FaultsExclude = (text : Text) (kind other : LexKind) → FaultBegins kind text → FaultBegins other text → kind ≡ other

-- a text has tokens, or fails at one place in one way, and never both
pub record FailsOrNot (text : Text) : Type 0 where
  pub some : ((tokens : List Token) × Tokens text tokens) ⊎ ((kind : LexKind) × (line : ℕ) × FailsAt text kind line)
  pub one : (kind other : LexKind) (line line' : ℕ) → FailsAt text kind line → FailsAt text other line' → (kind ≡ other) × (line ≡ line')
  pub never_both : (tokens : List Token) (kind : LexKind) (line : ℕ) → Tokens text tokens → FailsAt text kind line → ⊥

abbrev pub EachTextFailsOrNot : Type 0
EachTextFailsOrNot = (text : Text) → FailsOrNot text
