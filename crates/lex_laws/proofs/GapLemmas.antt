-- Between the tokens of a text are gaps.
use Rattle.std.proofs.Common.{◌≡◌, ◌∙◌, ◌⊎◌, inl, inr, ℕ, ◌+◌, ◌≤◌, ap, sym, subst, refl, arith, List, [], ◌∷◌, ◌++◌, length, take, drop, Bool, true, false, ◌&&◌, ◌==◌, length-drop}
use Rattle.std.proofs.lemmas.Bool.Decides.{nat_tests}
use Rattle.std.proofs.lemmas.List.{take-append-drop, drop-drop}
use Rattle.avs_lex.specs.declared.piece.Piece.{Piece}
use Rattle.avs_lex.specs.declared.piece.Piece.TheVariants.{Blank, One, EndOfScript}
use Rattle.avs_lex.specs.declared.token.Token.{Token}
use Rattle.avs_lex.specs.declared.token.TokenKind.{TokenKind}
use Rattle.avs_lex.specs.declared.token.TokenKind.TheVariants.{End}
use Rattle.avs_lex.specs.Spelling.{Text}
use Rattle.avs_lex.specs.Piece.{front, is_end_line, IsWithin}
use Rattle.avs_lex.specs.Tokens.{start_of, begins_line, piece_at, token_at, open_parentheses_after, ReadTo, begin, blank, token}
use Rattle.avs_lex.proofs.TestLemmas.{either}
use Rattle.avs_lex.proofs.FitLemmas.{piece_within}
use Rattle.avs_lex.proofs.ReadingLemmas.{start_within}
use Rattle.lex_laws.specs.Gaps.{IsFilling, IsGap, none, more, StandApart, ScriptEndsAt, OnlyGaps, EndIsTheEnd, OnlyGapsBeforeFault}
use Rattle.lex_laws.proofs.FillingLemmas.{piece_fills, front_goes_on}

-- how many parentheses are open after tokens
abbrev pub open_after : ℕ → List Token → ℕ
open_after n [] = n
open_after n (t ∷ ts) = open_after (open_parentheses_after t.kind n) ts

pub open_after_more : (n : ℕ) (ts : List Token) (one : Token) → open_after n (ts ++ one ∷ []) ≡ open_parentheses_after one.kind (open_after n ts)
open_after_more n [] one = refl
open_after_more n (t ∷ ts) one = open_after_more (open_parentheses_after t.kind n) ts one

-- the last gap goes on, or a token ends it
gap_on : (text : Text) (n first : ℕ) (ts : List Token) (last next : ℕ) → StandApart text n first ts last
    → ((from : Text) → IsGap (open_after n ts) from (drop last text) → IsGap (open_after n ts) from (drop next text)) → StandApart text n first ts next
gap_on text n first [] last next gap longer = longer (drop first text) gap
gap_on text n first (t ∷ ts) last next (here, later) longer = (here, gap_on text (open_parentheses_after t.kind n) t.end ts last next later longer)

one_more : (text : Text) (n first : ℕ) (ts : List Token) (one : Token) → StandApart text n first ts one.start → StandApart text n first (ts ++ one ∷ []) one.end
one_more text n first [] one gap = (gap, none)
one_more text n first (t ∷ ts) one (here, later) = (here, one_more text (open_parentheses_after t.kind n) t.end ts one later)

-- what is read up to an offset stands apart
pub record ReadApart (text : Text) (offset open_parentheses : ℕ) (tokens : List Token) : Type 0 where
  pub within : offset ≤ length text
  pub apart : StandApart text 0 (start_of text) tokens offset
  pub opened : open_after 0 tokens ≡ open_parentheses

within_at : (text : Text) (offset open_parentheses : ℕ) (found : Piece) → piece_at text open_parentheses offset ≡ found → IsWithin (drop offset text) found
within_at text offset open_parentheses found is = subst (IsWithin (drop offset text)) is (piece_within (begins_line text offset) open_parentheses (drop offset text))

further : (text : Text) (offset size : ℕ) → offset ≤ length text → size ≤ length (drop offset text) → offset + size ≤ length text
further text offset size within fits = omega (arith, fits, length-drop offset text)

fill : (text : Text) (offset size n : ℕ) → IsFilling n (take size (drop offset text)) (drop size (drop offset text)) → (from : Text) → IsGap n from (drop offset text) → IsGap n from (drop (offset + size) text)
fill text offset size n filling from gap =
    let rest = drop offset text in
    let split : IsGap n from (take size rest ++ drop size rest) = subst (IsGap n from) (sym (take-append-drop size rest)) gap in
    subst (IsGap n from) (drop-drop size offset text) (more (take size rest) (drop size rest) split filling)

blank_on : (text : Text) (old size open_parentheses : ℕ) (tokens : List Token) → ReadApart text old open_parentheses tokens → piece_at text open_parentheses old ≡ Blank size → ReadApart text (old + size) open_parentheses tokens
blank_on text old size open_parentheses tokens so_far is =
    let fits : IsWithin (drop old text) (Blank size) = within_at text old open_parentheses (Blank size) is in
    let rest = drop old text in
    let filling = piece_fills (begins_line text old) open_parentheses rest size is in
    let here = subst (λ n. IsFilling n (take size rest) (drop size rest)) (sym so_far.opened) filling in
    record {
      within = further text old size so_far.within fits.1;
      apart = gap_on text 0 (start_of text) tokens old (old + size) so_far.apart (fill text old size (open_after 0 tokens) here);
      opened = so_far.opened;
    }

token_on : (text : Text) (old size open_parentheses : ℕ) (kind : TokenKind) (tokens : List Token) → ReadApart text old open_parentheses tokens → piece_at text open_parentheses old ≡ One kind size
    → ReadApart text (old + size) (open_parentheses_after kind open_parentheses) (tokens ++ token_at text kind size old ∷ [])
token_on text old size open_parentheses kind tokens so_far is =
    let fits : IsWithin (drop old text) (One kind size) = within_at text old open_parentheses (One kind size) is in
    let one = token_at text kind size old in
    record {
      within = further text old size so_far.within fits.1;
      apart = one_more text 0 (start_of text) tokens one so_far.apart;
      opened = open_after_more 0 tokens one ∙ ap (open_parentheses_after kind) so_far.opened;
    }

pub read_apart : (text : Text) (offset open_parentheses : ℕ) (tokens : List Token) → ReadTo text offset open_parentheses tokens → ReadApart text offset open_parentheses tokens
read_apart text offset open_parentheses tokens begin = record { within = start_within text; apart = none; opened = refl }
read_apart text offset open_parentheses tokens (blank {offset = old} size read is) = blank_on text old size open_parentheses tokens (read_apart text old open_parentheses tokens read) is
read_apart text offset open_parentheses tokens (token {offset = old} {open_parentheses = outside} {tokens = before} kind size read is) = token_on text old size outside kind before (read_apart text old outside before read) is

pub ends_at : (text : Text) (offset open_parentheses : ℕ) → offset ≤ length text → piece_at text open_parentheses offset ≡ EndOfScript → ScriptEndsAt text offset
ends_at text offset open_parentheses within is =
    let rest = drop offset text in
    let begins = begins_line text offset in
    either (length rest == 0) (ScriptEndsAt text offset)
    (λ e. let past : length rest ≡ 0 = grind (arith, nat_tests) in inl (omega (arith, past, within, length-drop offset text)))
    (λ e. either (begins && is_end_line rest) (ScriptEndsAt text offset)
    (λ f. both begins (is_end_line rest) f)
    (λ f.
    let here : front open_parentheses rest ≡ EndOfScript = rw (e, f) at is in
    absurd (front_goes_on open_parentheses rest here)))
  where
    both : {offset : ℕ} (a b : Bool) → (a && b) ≡ true → (offset ≡ length text) ⊎ ((a ≡ true) × (b ≡ true))
    both true true e = inr (refl, refl)
    both true false e = absurd (cc (e))
    both false b e = absurd (cc (e))

pub only_gaps : OnlyGaps
only_gaps text tokens are =
    let so_far = read_apart text are.offset are.open_parentheses are.before are.read in
    let none_between : are.offset + 0 ≡ are.offset = omega arith in
    let apart = one_more text 0 (start_of text) are.before (token_at text End 0 are.offset) so_far.apart in
    rw are.are (subst (StandApart text 0 (start_of text) (are.before ++ token_at text End 0 are.offset ∷ [])) none_between apart)

pub end_is_the_end : EndIsTheEnd
end_is_the_end text tokens are = ends_at text are.offset are.open_parentheses (read_apart text are.offset are.open_parentheses are.before are.read).within are.ends

pub only_gaps_before_fault : OnlyGapsBeforeFault
only_gaps_before_fault text kind line fault = (read_apart text fault.offset fault.open_parentheses fault.before fault.read).apart
