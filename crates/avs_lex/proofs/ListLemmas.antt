-- The tokens of a text follow one another in it.
use Rattle.std.proofs.Common.{◌≡◌, ◌∙◌, ◌⊎◌, inl, inr, ◌↔◌, ℕ, ◌+◌, ◌-◌, ◌<◌, ◌≤◌, ap, sym, refl, arith, List, [], ◌∷◌, ◌++◌, length, take, drop, get_or, nat_lt, nat_eq, length-drop, length-take, count_by, IsUtf8, All, cond, subst}
use lib.Utf8.{encode}
use Rattle.std.specs.List.{AllAdjacentBelow, starts_with}
use Rattle.std.specs.Str.{IsCharBoundary}
use Rattle.std.proofs.lemmas.Bool.Decides.{nat_tests}
use Rattle.std.proofs.lemmas.List.{get_or-append_right, get_or_append_left, get_or-drop, length_push}
use Rattle.std.proofs.lemmas.List.Sums.{sum_by-take-le}
use Rattle.std.proofs.lemmas.Str.{IsCharBoundary-start, IsCharBoundary-end, IsCharBoundary-before_ascii, IsCharBoundary-after_ascii, IsCharBoundary-from_take}
use Rattle.avs_lex.specs.declared.piece.Piece.{Piece}
use Rattle.avs_lex.specs.declared.piece.Piece.TheVariants.{Blank, One}
use Rattle.avs_lex.specs.declared.token.Token.{Token}
use Rattle.avs_lex.specs.declared.token.TokenKind.{TokenKind}
use Rattle.avs_lex.specs.declared.token.TokenKind.TheVariants.{End}
use Rattle.avs_lex.specs.Spelling.{Text, is_newline, Spells}
use Rattle.avs_lex.specs.Tokens.{start_of, line_at, begins_line, piece_at, token_at, ReadTo, begin, blank, token, Tokens, IsTokenOf, IsTokenList}
use Rattle.avs_lex.proofs.TestLemmas.{either}
use Rattle.avs_lex.proofs.WordLemmas.{starts_with_take, starts_with_long}
use Rattle.avs_lex.proofs.CursorLemmas.{line_at_further}
use Rattle.avs_lex.proofs.FitLemmas.{Ends, Fits, piece_fits}
use Rattle.avs_lex.proofs.ReadingLemmas.{start_within}

-- an element of a list with one more is one of the list, or that one
pub record IsOld (tokens : List Token) (one : Token) (k : ℕ) (d : Token) : Type 0 where
  pub low : k < length tokens
  pub same : get_or (tokens ++ one ∷ []) k d ≡ get_or tokens k d

pub record IsNew (tokens : List Token) (one : Token) (k : ℕ) (d : Token) : Type 0 where
  pub last : k ≡ length tokens
  pub same : get_or (tokens ++ one ∷ []) k d ≡ one

pub old_or_new : (tokens : List Token) (one : Token) (k : ℕ) (d : Token) → k < length (tokens ++ one ∷ []) → IsOld tokens one k d ⊎ IsNew tokens one k d
old_or_new tokens one k d within =
    either (nat_lt k (length tokens)) (IsOld tokens one k d ⊎ IsNew tokens one k d)
    (λ e. let low : k < length tokens = grind (arith, nat_tests) in inl (record { low = low; same = get_or_append_left tokens (one ∷ []) d k low }))
    (λ e.
    let past : length tokens ≤ k = grind (arith, nat_tests) in
    let last : k ≡ length tokens = omega (arith, length_push tokens one) in
    let none : k - length tokens ≡ 0 = omega arith in
    inr (record { last = last; same = get_or-append_right tokens (one ∷ []) (length tokens) k d refl past ∙ ap (λ i. get_or (one ∷ []) i d) none }))

-- a later offset is on no earlier line
pub line_at_rises : (text : Text) (offset size : ℕ) → line_at text offset ≤ line_at text (offset + size)
line_at_rises text offset size = omega (arith, line_at_further text offset size)

pub line_at_within : (text : Text) (offset : ℕ) → line_at text offset ≤ 1 + count_by is_newline text
line_at_within text offset = omega (arith, sum_by-take-le {X = ℕ} (λ c. cond (is_newline c) 1 0) text offset)

-- U+FEFF is one character
byte_order_mark_utf8 : IsUtf8 (239 ∷ 187 ∷ 191 ∷ [])
unfolding encode
byte_order_mark_utf8 = (65279 ∷ [], (refl, refl))

start_whole : (text : Text) → IsUtf8 text → IsCharBoundary text (start_of text)
start_whole text utf8 =
    either (starts_with nat_eq text (239 ∷ 187 ∷ 191 ∷ [])) (IsCharBoundary text (start_of text))
    (λ e.
    let three : IsUtf8 (take 3 text) = rw (starts_with_take text (239 ∷ 187 ∷ 191 ∷ []) e) byte_order_mark_utf8 in
    rw e (IsCharBoundary-from_take text 3 utf8 (starts_with_long text (239 ∷ 187 ∷ 191 ∷ []) e) three))
    (λ e. rw e (IsCharBoundary-start text utf8))

-- a piece ends where a character ends
piece_whole : (text : Text) (offset size : ℕ) → IsUtf8 text → offset ≤ length text → Ends (drop offset text) size → IsCharBoundary text (offset + size)
piece_whole text offset size utf8 inside ends =
    let fits : offset + size ≤ length text = omega (arith, ends.within, length-drop offset text) in
    elim ends.whole as (λ _. IsCharBoundary text (offset + size)) [
      | inl low ↦
          let last : get_or text (offset + (size - 1)) 0 < 128 = rw (get_or-drop offset text (size - 1) 0) at low in
          let next : offset + (size - 1) + 1 ≡ offset + size = omega (arith, ends.some) in
          subst (IsCharBoundary text) next (IsCharBoundary-after_ascii text (offset + (size - 1)) utf8 (omega (arith, ends.some)) last)
      | inr low ↦
          either (nat_lt (offset + size) (length text)) (IsCharBoundary text (offset + size))
          (λ e. IsCharBoundary-before_ascii text (offset + size) (grind (arith, nat_tests)) (rw (get_or-drop offset text size 0) at low))
          (λ e. let all : length text ≡ offset + size = grind (arith, nat_tests) in subst (IsCharBoundary text) all (IsCharBoundary-end text))
    ]

-- the token at an offset
token_is : (text : Text) (offset size : ℕ) (kind : TokenKind) → IsUtf8 text → offset ≤ length text → IsCharBoundary text offset → Ends (drop offset text) size → Spells kind (take size (drop offset text))
    → IsTokenOf text (token_at text kind size offset)
token_is text offset size kind utf8 inside whole ends spelled = record {
  ordered = omega arith;
  inside = omega (arith, ends.within, length-drop offset text);
  starts_whole = whole;
  ends_whole = piece_whole text offset size utf8 inside ends;
  spelled = let e : offset + size - offset ≡ size = omega arith in rw e spelled;
  line = refl;
  first_line = omega arith;
  last_line = line_at_within text offset;
}

end_is : (text : Text) (offset : ℕ) → offset ≤ length text → IsCharBoundary text offset → IsTokenOf text (token_at text End 0 offset)
end_is text offset inside whole =
    let e : offset + 0 ≡ offset = omega arith in
    let none : offset - offset ≡ 0 = omega arith in
    record {
      ordered = omega arith;
      inside = omega arith;
      starts_whole = whole;
      ends_whole = rw e whole;
      spelled = rw (e, none) refl;
      line = refl;
      first_line = omega arith;
      last_line = line_at_within text offset;
    }

-- what the tokens are that were read up to an offset
pub record IsListTo (text : Text) (offset : ℕ) (tokens : List Token) : Type 0 where
  pub within : offset ≤ length text
  pub whole : IsCharBoundary text offset
  pub each : All (IsTokenOf text) tokens
  pub before : (k : ℕ) (d : Token) → k < length tokens → (get_or tokens k d).end ≤ offset
  pub lines_before : (k : ℕ) (d : Token) → k < length tokens → (get_or tokens k d).line ≤ line_at text offset
  pub open_ : (k : ℕ) (d : Token) → k < length tokens → (get_or tokens k d).kind ≡ End → ⊥
  pub apart : AllAdjacentBelow (λ one next. one.end ≤ next.start) tokens (length tokens)
  pub lines_rise : AllAdjacentBelow (λ one next. one.line ≤ next.line) tokens (length tokens)

fits_at : (text : Text) (offset open_parentheses : ℕ) (found : Piece) → piece_at text open_parentheses offset ≡ found → Fits (drop offset text) found
fits_at text offset open_parentheses found is = subst (Fits (drop offset text)) is (piece_fits (begins_line text offset) open_parentheses (drop offset text)).fits

blank_ends : (text : Text) (offset open_parentheses size : ℕ) → piece_at text open_parentheses offset ≡ Blank size → Ends (drop offset text) size
blank_ends text offset open_parentheses size is = fits_at text offset open_parentheses (Blank size) is

pub token_fits : (text : Text) (offset open_parentheses : ℕ) (kind : TokenKind) (size : ℕ) → piece_at text open_parentheses offset ≡ One kind size → Ends (drop offset text) size × Spells kind (take size (drop offset text))
token_fits text offset open_parentheses kind size is = fits_at text offset open_parentheses (One kind size) is

-- a token that has characters is not the end
not_end : (rest : Text) (size : ℕ) (kind : TokenKind) → Ends rest size → Spells kind (take size rest) → kind ≡ End → ⊥
not_end rest size kind ends spelled is =
    let none : take size rest ≡ [] = subst (λ kind. Spells kind (take size rest)) is spelled in
    absurd (omega (arith, ap length none, length-take size rest, ends.some, ends.within))

-- the list with one more token, which begins at this offset
all_more : (text : Text) (tokens : List Token) (one : Token) → All (IsTokenOf text) tokens → IsTokenOf text one → All (IsTokenOf text) (tokens ++ one ∷ [])
all_more text tokens one each is k d within =
    elim (old_or_new tokens one k d within) as (λ _. IsTokenOf text (get_or (tokens ++ one ∷ []) k d)) [
      | inl old ↦ rw old.same (each k d old.low)
      | inr new ↦ rw new.same is
    ]

apart_more : (tokens : List Token) (one : Token) (R : Token → Token → Type 0) → AllAdjacentBelow R tokens (length tokens) → ((k : ℕ) (d : Token) → k < length tokens → R (get_or tokens k d) one)
    → AllAdjacentBelow R (tokens ++ one ∷ []) (length (tokens ++ one ∷ []))
apart_more tokens one R adjacent last k d within =
    let low : k < length tokens = omega (arith, length_push tokens one) in
    let here : get_or (tokens ++ one ∷ []) k d ≡ get_or tokens k d = get_or_append_left tokens (one ∷ []) d k low in
    elim (old_or_new tokens one (k + 1) d within) as (λ _. R (get_or (tokens ++ one ∷ []) k d) (get_or (tokens ++ one ∷ []) (k + 1) d)) [
      | inl old ↦ rw (here, old.same) (adjacent k d old.low)
      | inr new ↦ rw (here, new.same) (last k d low)
    ]

list_more : (text : Text) (offset size : ℕ) (tokens : List Token) (kind : TokenKind) → IsUtf8 text → IsListTo text offset tokens → Ends (drop offset text) size → Spells kind (take size (drop offset text))
    → IsListTo text (offset + size) (tokens ++ token_at text kind size offset ∷ [])
list_more text offset size tokens kind utf8 list ends spelled =
    let one = token_at text kind size offset in
    record {
      within = omega (arith, ends.within, length-drop offset text, list.within);
      whole = piece_whole text offset size utf8 list.within ends;
      each = all_more text tokens one list.each (token_is text offset size kind utf8 list.within list.whole ends spelled);
      before = λ k d low. elim (old_or_new tokens one k d low) as (λ _. (get_or (tokens ++ one ∷ []) k d).end ≤ offset + size) [
        | inl old ↦ rw old.same (omega (arith, list.before k d old.low))
        | inr new ↦ rw new.same (omega arith)
      ];
      lines_before = λ k d low. elim (old_or_new tokens one k d low) as (λ _. (get_or (tokens ++ one ∷ []) k d).line ≤ line_at text (offset + size)) [
        | inl old ↦ rw old.same (omega (arith, list.lines_before k d old.low, line_at_rises text offset size))
        | inr new ↦ rw new.same (line_at_rises text offset size)
      ];
      open_ = λ k d low is. elim (old_or_new tokens one k d low) as (λ _. (get_or (tokens ++ one ∷ []) k d).kind ≡ End → ⊥) [
        | inl old ↦ λ is. list.open_ k d old.low (ap (λ (t : Token). t.kind) (sym old.same) ∙ is)
        | inr new ↦ λ is. not_end (drop offset text) size kind ends spelled (ap (λ (t : Token). t.kind) (sym new.same) ∙ is)
      ] is;
      apart = apart_more tokens one (λ one next. one.end ≤ next.start) list.apart list.before;
      lines_rise = apart_more tokens one (λ one next. one.line ≤ next.line) list.lines_rise list.lines_before;
    }

list_to : (text : Text) (offset open_parentheses : ℕ) (tokens : List Token) → IsUtf8 text → ReadTo text offset open_parentheses tokens → IsListTo text offset tokens
list_to text offset open_parentheses tokens utf8 begin = record {
  within = start_within text;
  whole = start_whole text utf8;
  each = λ k d low. absurd (omega arith);
  before = λ k d low. absurd (omega arith);
  lines_before = λ k d low. absurd (omega arith);
  open_ = λ k d low is. absurd (omega arith);
  apart = λ k d low. absurd (omega arith);
  lines_rise = λ k d low. absurd (omega arith);
}
list_to text offset open_parentheses tokens utf8 (blank {offset = old} size read piece) =
    let list = list_to text old open_parentheses tokens utf8 read in
    let ends = blank_ends text old open_parentheses size piece in
    record {
      within = omega (arith, ends.within, length-drop old text, list.within);
      whole = piece_whole text old size utf8 list.within ends;
      each = list.each;
      before = λ k d low. omega (arith, list.before k d low);
      lines_before = λ k d low. omega (arith, list.lines_before k d low, line_at_rises text old size);
      open_ = list.open_;
      apart = list.apart;
      lines_rise = list.lines_rise;
    }
list_to text offset open_parentheses tokens utf8 (token {offset = old} {open_parentheses = outside} {tokens = before} kind size read piece) =
    let fits = token_fits text old outside kind size piece in
    list_more text old size before kind utf8 (list_to text old outside before utf8 read) fits.0 fits.1

pub is_listed : (text : Text) (tokens : List Token) → IsUtf8 text → Tokens text tokens → IsTokenList text tokens
is_listed text tokens utf8 are =
    let list = list_to text are.offset are.open_parentheses are.before utf8 are.read in
    let one = token_at text End 0 are.offset in
    rw are.are (record {
      some = omega (arith, length_push are.before one);
      ended = λ k d low. elim (old_or_new are.before one k d low) as (λ _. ((get_or (are.before ++ one ∷ []) k d).kind ≡ End) ↔ (k + 1 ≡ length (are.before ++ one ∷ []))) [
        | inl old ↦ (λ is. absurd (list.open_ k d old.low (ap (λ (t : Token). t.kind) (sym old.same) ∙ is)), λ last. absurd (omega (arith, old.low, length_push are.before one)))
        | inr new ↦ (λ _. omega (arith, new.last, length_push are.before one), λ _. ap (λ (t : Token). t.kind) new.same)
      ];
      each = all_more text are.before one list.each (end_is text are.offset list.within list.whole);
      apart = apart_more are.before one (λ one next. one.end ≤ next.start) list.apart list.before;
      lines_rise = apart_more are.before one (λ one next. one.line ≤ next.line) list.lines_rise list.lines_before;
    })
