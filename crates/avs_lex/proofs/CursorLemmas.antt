-- A cursor that moves on stays in its text.
use Rattle.std.proofs.Common.{◌≡◌, ◌∙◌, ℕ, ◌+◌, ◌-◌, ◌<◌, ◌≤◌, ap, sym, arith, length, take, drop, get_or, false, ◌==◌, cond, length-drop, length-take, count_by, List, [], ◌∷◌, ◌++◌, refl}
use Rattle.std.proofs.Math.Seq.{take-add}
use Rattle.std.proofs.lemmas.List.{drop-drop, get_or-drop}
use Rattle.std.proofs.lemmas.List.Sums.{sum_by-append, count_by-le-length}
use Rattle.std.proofs.lemmas.Bool.Decides.{nat_tests}
use Rattle.avs_lex.specs.declared.cursor.Cursor.{Cursor}
use Rattle.avs_lex.specs.Spelling.{Text, newline, is_newline}
use Rattle.avs_lex.specs.declared.piece.Piece.{Piece}
use Rattle.avs_lex.specs.declared.piece.Piece.TheVariants.{Blank, One, EndOfScript}
use Rattle.avs_lex.specs.declared.token.Token.{Token}
use Rattle.avs_lex.specs.declared.token.TokenKind.{TokenKind}
use Rattle.avs_lex.specs.declared.token.TokenKind.TheVariants.{End}
use Rattle.avs_lex.specs.Piece.{piece}
use Rattle.avs_lex.specs.Tokens.{start_of, line_at, begins_line, piece_at, open_parentheses_after, ReadTo, blank, token, Tokens}
use Rattle.avs_lex.specs.Cursor.{IsIn, Steps}

-- the lines that a piece adds
pub line_at_further : (text : Text) (offset size : ℕ) → line_at text (offset + size) ≡ line_at text offset + count_by is_newline (take size (drop offset text))
line_at_further text offset size = rw take-add (omega (arith, sum_by-append {X = ℕ} (λ c. cond (is_newline c) 1 0) (take offset text) (take size (drop offset text))))

begins_line_further : (text : Text) (offset size : ℕ) → start_of text ≤ offset → 0 < size → begins_line text (offset + size) ≡ (get_or (drop offset text) (size - 1) 0 == newline)
begins_line_further text offset size after some =
    let later : (offset + size == start_of text) ≡ false = grind (arith, nat_tests) in
    let last : offset + (size - 1) ≡ offset + size - 1 = omega arith in
    rw (later, get_or-drop offset text (size - 1) 0, last)

pub IsIn_steps : (text : Text) (old new : Cursor) (size : ℕ) → IsIn text old → Steps old size new → 0 < size → size ≤ length old.rest.now → IsIn text new
IsIn_steps text old new size before step some within = record {
  after = omega (arith, before.after, step.offset);
  within = omega (arith, step.offset, before.within, ap length before.rest, length-drop old.offset text);
  rest = step.rest ∙ ap (drop size) before.rest ∙ drop-drop size old.offset text ∙ ap (λ n. drop n text) (sym step.offset);
  line = step.line ∙ rw (before.line, before.rest) (sym (line_at_further text old.offset size)) ∙ ap (line_at text) (sym step.offset);
  line_start = step.line_start ∙ rw before.rest (sym (begins_line_further text old.offset size before.after some)) ∙ ap (begins_line text) (sym step.offset);
}

lines_few : (text : Text) (offset : ℕ) → line_at text offset ≤ offset + 1
lines_few text offset = omega (arith, count_by-le-length is_newline (take offset text), length-take offset text)

pub few_lines : (text : Text) (cursor : Cursor) → IsIn text cursor → cursor.line ≤ cursor.offset + 1
few_lines text cursor here = omega (arith, here.line, lines_few text cursor.offset)

piece_here : (text : Text) (cursor : Cursor) (open_parentheses : ℕ) (found : Piece) → IsIn text cursor → found ≡ piece cursor.begins_line open_parentheses cursor.rest.now → piece_at text open_parentheses cursor.offset ≡ found
piece_here text cursor open_parentheses found here is = sym (is ∙ rw (here.line_start, here.rest) refl)

-- a step over a blank, and one over a token
pub read_blank : (text : Text) (old new : Cursor) (size open_parentheses : ℕ) (tokens : List Token) → IsIn text old → Steps old size new → Blank size ≡ piece old.begins_line open_parentheses old.rest.now
    → ReadTo text old.offset open_parentheses tokens → ReadTo text new.offset open_parentheses tokens
read_blank text old new size open_parentheses tokens here step is read = rw step.offset (blank size read (piece_here text old open_parentheses (Blank size) here is))

pub read_token : (text : Text) (old new : Cursor) (kind : TokenKind) (size open_parentheses open_parentheses' : ℕ) (tokens tokens' : List Token) (one : Token) → IsIn text old → Steps old size new
    → One kind size ≡ piece old.begins_line open_parentheses old.rest.now → open_parentheses' ≡ open_parentheses_after kind open_parentheses → one ≡ record { kind = kind; start = old.offset; end = old.offset + size; line = old.line } → tokens' ≡ tokens ++ one ∷ []
    → ReadTo text old.offset open_parentheses tokens → ReadTo text new.offset open_parentheses' tokens'
read_token text old new kind size open_parentheses open_parentheses' tokens tokens' one here step is opened made pushed read =
    rw (step.offset, opened, pushed, made, here.line) (token kind size read (piece_here text old open_parentheses (One kind size) here is))

-- the end
pub read_end : (text : Text) (cursor : Cursor) (open_parentheses : ℕ) (tokens tokens' : List Token) (one : Token) → IsIn text cursor → EndOfScript ≡ piece cursor.begins_line open_parentheses cursor.rest.now
    → one ≡ record { kind = End; start = cursor.offset; end = cursor.offset + 0; line = cursor.line } → tokens' ≡ tokens ++ one ∷ [] → ReadTo text cursor.offset open_parentheses tokens → Tokens text tokens'
read_end text cursor open_parentheses tokens tokens' one here is made pushed read = record {
  offset = cursor.offset;
  open_parentheses = open_parentheses;
  before = tokens;
  read = read;
  ends = piece_here text cursor open_parentheses EndOfScript here is;
  are = rw (pushed, made, here.line) refl;
}
