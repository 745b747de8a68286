-- What stands between the tokens of a text.
use Rattle.std.specs.Prelude.{◌≡◌, ◌⊎◌, ℕ, ◌<◌, List, [], ◌∷◌, ◌++◌, length, drop, codes, Some, IsTrue, not, ◌+◌}
use Rattle.std.specs.List.{list_all}
use Rattle.avs_lex.specs.declared.fault.LexKind.{LexKind}
use Rattle.avs_lex.specs.declared.token.Token.{Token}
use Rattle.avs_lex.specs.Spelling.{Text, newline, hash, star, slash, left_bracket, backslash, is_newline, is_blank, through}
use Rattle.avs_lex.specs.NestedComment.{ClosesComment}
use Rattle.avs_lex.specs.Piece.{ends_line, is_end_line}
use Rattle.avs_lex.specs.Tokens.{start_of, begins_line, open_parentheses_after, Tokens, LexFault}

-- A piece that is no token, where this many parentheses are open, and what follows it.
pub data IsFilling (open_parentheses : ℕ) : Text → Text → Type 0 where
  blank : {rest : Text} (c : ℕ) → IsTrue (is_blank c) → IsFilling open_parentheses (c ∷ []) rest
  -- `#` up to the end of its line
  line_comment : {rest : Text} (words : Text) → IsTrue (list_all (λ c. not (is_newline c)) words) → IsTrue (ends_line rest) → IsFilling open_parentheses (hash ∷ words) rest
  -- `/*` up to the first `*/`
  block_comment : {rest : Text} (words : Text) → through (codes "*/") 2 words ≡ Some (2 + length words) → IsFilling open_parentheses (slash ∷ star ∷ words) rest
  -- `[*` up to the `*]` that closes it
  nested_comment : {rest : Text} (words : Text) → ClosesComment (words ++ rest) rest → IsFilling open_parentheses (left_bracket ∷ star ∷ words) rest
  -- `\`, blanks and a newline, or `\` and blanks at the end of the text
  joined_after : {rest : Text} (blanks : Text) → IsTrue (list_all is_blank blanks) → IsFilling open_parentheses (backslash ∷ (blanks ++ newline ∷ [])) rest
  joined_at_end : (blanks : Text) → IsTrue (list_all is_blank blanks) → IsFilling open_parentheses (backslash ∷ blanks) []
  -- a newline, blanks and `\`
  joined_before : {rest : Text} (blanks : Text) → IsTrue (list_all is_blank blanks) → IsFilling open_parentheses (newline ∷ (blanks ++ backslash ∷ [])) rest
  newline_inside : {rest : Text} → 0 < open_parentheses → IsFilling open_parentheses (newline ∷ []) rest

-- Up to this rest the text has only such pieces.
pub data IsGap (open_parentheses : ℕ) (text : Text) : Text → Type 0 where
  none : IsGap open_parentheses text text
  more : (piece rest : Text) → IsGap open_parentheses text (piece ++ rest) → IsFilling open_parentheses piece rest → IsGap open_parentheses text rest

-- From this first offset a gap goes up to the first token, from the end of each token one goes up to the next, and from the
-- end of the last token one goes up to this last offset.
abbrev pub StandApart : Text → ℕ → ℕ → List Token → ℕ → Type 0
StandApart text open_parentheses first [] last = IsGap open_parentheses (drop first text) (drop last text)
StandApart text open_parentheses first (token ∷ tokens) last = IsGap open_parentheses (drop first text) (drop token.start text) × StandApart text (open_parentheses_after token.kind open_parentheses) token.end tokens last

-- the script ends at this offset: at the end of the text, or before a line `__END__`
abbrev pub ScriptEndsAt : Text → ℕ → Type 0
ScriptEndsAt text offset = (offset ≡ length text) ⊎ (IsTrue (begins_line text offset) × IsTrue (is_end_line (drop offset text)))

abbrev pub OnlyGaps : Type 0
OnlyGaps = (text : Text) (tokens : List Token) (are : Tokens text tokens) → StandApart text 0 (start_of text) tokens are.offset

abbrev pub EndIsTheEnd : Type 0
EndIsTheEnd = (text : Text) (tokens : List Token) (are : Tokens text tokens) → ScriptEndsAt text are.offset

abbrev pub OnlyGapsBeforeFault : Type 0
OnlyGapsBeforeFault = (text : Text) (kind : LexKind) (line : ℕ) (fault : LexFault text kind line) → StandApart text 0 (start_of text) fault.before fault.offset
