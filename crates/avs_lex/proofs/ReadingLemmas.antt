-- Each text has one reading.
use Rattle.std.proofs.Common.{◌≡◌, ◌∙◌, ◌⊎◌, inl, inr, ℕ, zero, suc, ◌+◌, ◌-◌, ◌<◌, ◌≤◌, ap, sym, refl, arith, List, [], ◌∷◌, ◌++◌, length, drop, Option, Some, None, Result, Ok, Err, append_assoc, length-drop, nat_eq}
use Rattle.std.specs.List.{starts_with}
use Rattle.avs_lex.specs.declared.piece.Piece.{Piece}
use Rattle.avs_lex.specs.declared.piece.Piece.TheVariants.{Blank, One, EndOfScript, Fault}
use Rattle.avs_lex.specs.declared.fault.LexKind.{LexKind}
use Rattle.avs_lex.specs.declared.token.Token.{Token}
use Rattle.avs_lex.specs.declared.token.TokenKind.TheVariants.{End}
use Rattle.avs_lex.specs.Spelling.{Text}
use Rattle.avs_lex.specs.Piece.{IsWithin}
use Rattle.avs_lex.specs.Tokens.{start_of, line_at, begins_line, piece_at, token_at, open_parentheses_after, ReadTo, begin, blank, token, Tokens, LexFault}
use Rattle.avs_lex.specs.Laws.{HasOneReading}
use Rattle.avs_lex.proofs.TestLemmas.{either}
use Rattle.avs_lex.proofs.WordLemmas.{starts_with_long}
use Rattle.avs_lex.proofs.FitLemmas.{piece_within}

-- what reading on from an offset gives, in n steps at most: tokens, or a kind of fault and a line
abbrev pub Outcome : Type 0
Outcome = Option (Result (List Token) (LexKind × ℕ))

abbrev pub with_all : List Token → Result (List Token) (LexKind × ℕ) → Result (List Token) (LexKind × ℕ)
with_all tokens (Ok more) = Ok (tokens ++ more)
with_all tokens (Err fault) = Err fault

abbrev pub after : List Token → Outcome → Outcome
after tokens None = None
after tokens (Some result) = Some (with_all tokens result)

with_two : (tokens others : List Token) (result : Result (List Token) (LexKind × ℕ)) → with_all tokens (with_all others result) ≡ with_all (tokens ++ others) result
with_two tokens others (Ok more) = ap Ok (sym (append_assoc tokens others more))
with_two tokens others (Err fault) = refl

with_none : (result : Result (List Token) (LexKind × ℕ)) → with_all [] result ≡ result
with_none (Ok more) = refl
with_none (Err fault) = refl

after_more : (tokens : List Token) (one other : Outcome) (result : Result (List Token) (LexKind × ℕ)) → ((r : Result (List Token) (LexKind × ℕ)) → one ≡ Some r → other ≡ Some r) → after tokens one ≡ Some result → after tokens other ≡ Some result
after_more tokens None other result same is = cc
after_more tokens (Some r) other result same is = rw (same r refl) is

abbrev fault_of : LexKind → ℕ → Result (List Token) (LexKind × ℕ)
fault_of kind line = Err (kind, line)

same_fault : (kind other : LexKind) (line line' : ℕ) → fault_of kind line ≡ fault_of other line' → (kind ≡ other) × (line ≡ line')
same_fault kind other line line' same = let pair : (kind, line) ≡ (other, line') = cc in (ap (λ (p : LexKind × ℕ). p.0) pair, ap (λ (p : LexKind × ℕ). p.1) pair)

module _ (text : Text) where
  abbrev pub go_on : Piece → ℕ → ℕ → (ℕ → ℕ → Outcome) → Outcome
  go_on (Blank size) offset open_parentheses rest = rest (offset + size) open_parentheses
  go_on (One kind size) offset open_parentheses rest = after (token_at text kind size offset ∷ []) (rest (offset + size) (open_parentheses_after kind open_parentheses))
  go_on EndOfScript offset open_parentheses rest = Some (Ok (token_at text End 0 offset ∷ []))
  go_on (Fault kind) offset open_parentheses rest = Some (Err (kind, line_at text offset))

  abbrev pub outcome : ℕ → ℕ → ℕ → Outcome
  outcome zero offset open_parentheses = None
  outcome (suc n) offset open_parentheses = go_on (piece_at text open_parentheses offset) offset open_parentheses (outcome n)

  go_on_more : (p : Piece) (offset open_parentheses : ℕ) (one other : ℕ → ℕ → Outcome) (result : Result (List Token) (LexKind × ℕ))
      → ((offset open_parentheses : ℕ) (r : Result (List Token) (LexKind × ℕ)) → one offset open_parentheses ≡ Some r → other offset open_parentheses ≡ Some r) → go_on p offset open_parentheses one ≡ Some result → go_on p offset open_parentheses other ≡ Some result
  go_on_more (Blank size) offset open_parentheses one other result same is = same (offset + size) open_parentheses result is
  go_on_more (One kind size) offset open_parentheses one other result same is =
      after_more (token_at text kind size offset ∷ []) (one (offset + size) (open_parentheses_after kind open_parentheses)) (other (offset + size) (open_parentheses_after kind open_parentheses)) result (same (offset + size) (open_parentheses_after kind open_parentheses)) is
  go_on_more EndOfScript offset open_parentheses one other result same is = is
  go_on_more (Fault kind) offset open_parentheses one other result same is = is

  -- more steps change nothing
  more_steps : (n k offset open_parentheses : ℕ) (result : Result (List Token) (LexKind × ℕ)) → outcome n offset open_parentheses ≡ Some result → outcome (n + k) offset open_parentheses ≡ Some result
  more_steps zero k offset open_parentheses result is = cc
  more_steps (suc n) k offset open_parentheses result is =
      let e : suc n + k ≡ suc (n + k) = omega arith in
      rw e (go_on_more (piece_at text open_parentheses offset) offset open_parentheses (outcome n) (outcome (n + k)) result (more_steps n k) is)

  same_result : (n m offset open_parentheses : ℕ) (one other : Result (List Token) (LexKind × ℕ)) → outcome n offset open_parentheses ≡ Some one → outcome m offset open_parentheses ≡ Some other → one ≡ other
  same_result n m offset open_parentheses one other is also =
      let e : n + m ≡ m + n = omega arith in
      let first = more_steps n m offset open_parentheses one is in
      let second = more_steps m n offset open_parentheses other also in
      let swapped = rw e at first in
      cc (swapped, second)

  -- what is read up to an offset, and what reading on from there gives
  whole : (offset open_parentheses : ℕ) (tokens : List Token) → ReadTo text offset open_parentheses tokens → (n : ℕ) (result : Result (List Token) (LexKind × ℕ)) → outcome n offset open_parentheses ≡ Some result
      → (m : ℕ) × (outcome m (start_of text) 0 ≡ Some (with_all tokens result))
  whole offset open_parentheses tokens begin n result is = (n, rw with_none is)
  whole offset open_parentheses tokens (blank {offset = old} size read piece) n result is = whole old open_parentheses tokens read (suc n) result (rw piece is)
  whole offset open_parentheses tokens (token {offset = old} {open_parentheses = outside} {tokens = before} kind size read piece) n result is =
      let one = token_at text kind size old in
      let found = whole old outside before read (suc n) (with_all (one ∷ []) result) (rw piece (ap (after (one ∷ [])) is)) in
      (found.0, found.1 ∙ ap Some (with_two before (one ∷ []) result))

  whole_tokens : (tokens : List Token) → Tokens text tokens → (m : ℕ) × (outcome m (start_of text) 0 ≡ Some (Ok tokens))
  whole_tokens tokens are =
      let found = whole are.offset are.open_parentheses are.before are.read 1 (Ok (token_at text End 0 are.offset ∷ [])) (rw are.ends refl) in
      (found.0, found.1 ∙ ap (λ ts. Some (Ok ts)) (sym are.are))

  whole_fault : (kind : LexKind) (line : ℕ) → LexFault text kind line → (m : ℕ) × (outcome m (start_of text) 0 ≡ Some (Err (kind, line)))
  whole_fault kind line fault =
      let found = whole fault.offset fault.open_parentheses fault.before fault.read 1 (Err (kind, line_at text fault.offset)) (rw fault.fails refl) in
      (found.0, found.1 ∙ ap (λ l. Some (Err (kind, l))) (sym fault.is))

  abbrev Reading : Type 0
  Reading = ((tokens : List Token) × Tokens text tokens) ⊎ ((kind : LexKind) × (line : ℕ) × LexFault text kind line)

  -- from each offset that is reached, the text is read to its end or to a fault
  ends : (n offset open_parentheses : ℕ) (tokens : List Token) → ReadTo text offset open_parentheses tokens → offset ≤ length text → length text - offset < n → Reading
  ends zero offset open_parentheses tokens read within few = absurd (omega arith)
  ends (suc n) offset open_parentheses tokens read within few =
      elim (piece_at text open_parentheses offset) as (λ p. piece_at text open_parentheses offset ≡ p → IsWithin (drop offset text) p → Reading) [
        | Blank size ↦ λ is fits. ends n (offset + size) open_parentheses tokens (blank size read is) (omega (arith, fits.1, length-drop offset text)) (omega (arith, fits.0, fits.1, length-drop offset text))
        | One kind size ↦ λ is fits. ends n (offset + size) (open_parentheses_after kind open_parentheses) (tokens ++ token_at text kind size offset ∷ []) (token kind size read is) (omega (arith, fits.1, length-drop offset text)) (omega (arith, fits.0, fits.1, length-drop offset text))
        | EndOfScript ↦ λ is fits. inl (tokens ++ token_at text End 0 offset ∷ [], record { offset = offset; open_parentheses = open_parentheses; before = tokens; read = read; ends = is; are = refl })
        | Fault kind ↦ λ is fits. inr (kind, line_at text offset, record { offset = offset; open_parentheses = open_parentheses; before = tokens; read = read; fails = is; is = refl })
      ] refl (piece_within (begins_line text offset) open_parentheses (drop offset text))

pub start_within : (text : Text) → start_of text ≤ length text
start_within text = either (starts_with nat_eq text (239 ∷ 187 ∷ 191 ∷ [])) (start_of text ≤ length text)
    (λ e. let long = starts_with_long text (239 ∷ 187 ∷ 191 ∷ []) e in rw e long) (λ e. rw e (omega arith))

pub one_reading : (text : Text) → HasOneReading text
one_reading text = record {
  some = ends text (length text + 1) (start_of text) 0 [] begin (start_within text) (omega arith);
  one_list = λ tokens others are also.
      let one = whole_tokens text tokens are in
      let other = whole_tokens text others also in
      let same = same_result text one.0 other.0 (start_of text) 0 (Ok tokens) (Ok others) one.1 other.1 in cc same;
  one_fault = λ kind other line line' is also.
      let one = whole_fault text kind line is in
      let two = whole_fault text other line' also in
      let same = same_result text one.0 two.0 (start_of text) 0 (Err (kind, line)) (Err (other, line')) one.1 two.1 in same_fault kind other line line' same;
  never_both = λ tokens kind line are is.
      let one = whole_tokens text tokens are in
      let other = whole_fault text kind line is in
      let same = same_result text one.0 other.0 (start_of text) 0 (Ok tokens) (Err (kind, line)) one.1 other.1 in cc same;
}
