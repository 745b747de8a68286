-- What the newlines of a text are.
use Rattle.std.proofs.Common.{◌≡◌, ◌≢◌, ◌∙◌, ◌⊎◌, inl, inr, ℕ, zero, suc, ◌+◌, ◌-◌, ◌<◌, ◌≤◌, ap, sym, subst, refl, arith, List, [], ◌∷◌, ◌++◌, length, take, drop, get_or, Bool, true, not, ◌==◌, nat_lt, lit<, length-drop, length-append, length-take-le, get_or-take, append_assoc}
use Rattle.std.specs.List.{list_all, prefix_len}
use Rattle.std.specs.Char.{is_ascii_digit, is_ascii_hexdigit}
use Rattle.std.proofs.lemmas.Bool.Decides.{nat_tests}
use Rattle.std.proofs.lemmas.List.{get_or-drop, take-append-drop, drop-drop}
use Rattle.avs_lex.specs.declared.piece.Piece.TheVariants.{Blank, One}
use Rattle.avs_lex.specs.declared.token.Token.{Token}
use Rattle.avs_lex.specs.declared.token.TokenKind.{TokenKind}
use Rattle.avs_lex.specs.declared.token.TokenKind.TheVariants as k
use Rattle.avs_lex.specs.Spelling.{Text, newline, dollar, backslash, is_newline, is_blank, continues_name, Spells}
use Rattle.avs_lex.specs.Piece.{front, piece, line_end, without_blanks}
use Rattle.avs_lex.specs.Tokens.{start_of, begins_line, piece_at, token_at, open_parentheses_after, ReadTo, begin, blank, token, Tokens}
use Rattle.avs_lex.proofs.TestLemmas.{either}
use Rattle.avs_lex.proofs.FitLemmas.{inside}
use Rattle.avs_lex.proofs.ListLemmas.{token_fits}
use Rattle.avs_lex.proofs.LongestLemmas.{first_of_take}
use Rattle.lex_laws.specs.Gaps.{IsGap, none, more, StandApart}
use Rattle.lex_laws.specs.Newlines.{EachOpen, IsNewline, NewlineTokens, IsSkipped, IsPlaced, EachNewlineIsPlaced}
use Rattle.lex_laws.proofs.FillingLemmas.{front_of}
use Rattle.lex_laws.proofs.FaultLemmas.{drop_first}
use Rattle.lex_laws.proofs.GapLemmas.{open_after, read_apart, only_gaps}

-- ---- which tokens have a newline

abbrev is_other : ℕ → Bool
is_other c = not (is_newline c)

all_other : (p : ℕ → Bool) (bytes : Text) → ((c : ℕ) → p c ≡ true → is_other c ≡ true) → list_all p bytes ≡ true → list_all is_other bytes ≡ true
all_other p [] each all = refl
all_other p (c ∷ bytes) each all =
    let here : p c ≡ true = grind arith in
    let later : list_all p bytes ≡ true = grind arith in
    rw (each c here, all_other p bytes each later) refl

all_at : (bytes : Text) (i : ℕ) → list_all is_other bytes ≡ true → get_or bytes i 0 ≡ newline → ⊥
all_at [] i all is = cc
all_at (c ∷ bytes) zero all is = let here : is_other c ≡ true = grind arith in grind (arith, nat_tests)
all_at (c ∷ bytes) (suc i) all is = let later : list_all is_other bytes ≡ true = grind arith in all_at bytes i later is

name_other : (c : ℕ) → continues_name c ≡ true → is_other c ≡ true
name_other c is = grind (arith, nat_tests)

digit_other : (c : ℕ) → is_ascii_digit c ≡ true → is_other c ≡ true
digit_other c is = grind (arith, nat_tests)

hexdigit_other : (c : ℕ) → is_ascii_hexdigit c ≡ true → is_other c ≡ true
hexdigit_other c is = grind (arith, nat_tests)

dollar_other : (bytes : Text) → get_or bytes 0 0 ≡ dollar → list_all is_ascii_hexdigit (drop 1 bytes) ≡ true → list_all is_other bytes ≡ true
dollar_other [] first all = refl
dollar_other (c ∷ bytes) first all = rw first (all_other is_ascii_hexdigit bytes hexdigit_other all)

-- only strings and newlines have newlines
abbrev Clear : TokenKind → Text → Type 0
Clear k.Str bytes = Unit {0}
Clear k.Newline bytes = bytes ≡ newline ∷ []
Clear k.End bytes = bytes ≡ []
Clear kind bytes = list_all is_other bytes ≡ true

clear : (kind : TokenKind) (bytes : Text) → Spells kind bytes → Clear kind bytes
clear k.Ident bytes name = all_other continues_name bytes name_other name.continues
clear (k.Int n) bytes spelled = elim spelled as (λ _. list_all is_other bytes ≡ true) [
  | inl number ↦ all_other is_ascii_digit bytes digit_other number.digits
  | inr number ↦ dollar_other bytes number.opens number.digits
]
clear k.Str bytes spelled = tt
clear k.Newline bytes spelled = spelled
clear k.End bytes spelled = spelled
clear kind bytes spelled = rw spelled refl

abbrev May : TokenKind → ℕ → Type 0
May kind at = (kind ≡ k.Str) ⊎ ((kind ≡ k.Newline) × (at ≡ 0))

may : (kind : TokenKind) (bytes : Text) (i : ℕ) → Clear kind bytes → get_or bytes i 0 ≡ newline → May kind i
may k.Str bytes i is at = inl refl
may k.Newline bytes i is at = inr (refl, first i (ap (λ t. get_or t i 0) (sym is) ∙ at))
  where
    first : (i : ℕ) → get_or (newline ∷ []) i 0 ≡ newline → i ≡ 0
    first zero at = refl
    first (suc i) at = cc
may k.End bytes i is at = let none : get_or [] i 0 ≡ newline = ap (λ t. get_or t i 0) (sym is) ∙ at in cc
may kind bytes i is at = absurd (all_at bytes i is at)

-- ---- newline tokens

line_end_newline : (n : ℕ) (t : Text) (size : ℕ) → line_end n (newline ∷ t) ≡ One k.Newline size → (n ≡ 0) × (get_or t (prefix_len is_blank t) 0 ≢ backslash)
line_end_newline n t size is =
    let blanks = prefix_len is_blank t in
    let next : 1 + blanks ≡ suc blanks = omega arith in
    let at = rw next at is in
    either (get_or t blanks 0 == backslash) ((n ≡ 0) × (get_or t blanks 0 ≢ backslash))
    (λ e. let other : Blank (2 + blanks) ≡ One k.Newline size = rw e at at in absurd (cc (other)))
    (λ e. either (n == 0) ((n ≡ 0) × (get_or t blanks 0 ≢ backslash))
    (λ f. (grind (arith, nat_tests), λ b. grind (arith, nat_tests)))
    (λ f. let other : Blank 1 ≡ One k.Newline size = rw (e, f) at at in absurd (cc (other))))

front_newline : (n : ℕ) (t : Text) → front n (newline ∷ t) ≡ line_end n (newline ∷ t)
unfolding front
front_newline n t = refl

-- a newline token at the front of a text
pub record IsLine (n size : ℕ) (rest : Text) : Type 0 where
  pub is : get_or rest 0 0 ≡ newline
  pub one : size ≡ 1
  pub outside : n ≡ 0
  pub apart : get_or (without_blanks (drop 1 rest)) 0 0 ≢ backslash

is_line : (n size : ℕ) (rest : Text) → front n rest ≡ One k.Newline size → size ≤ length rest → take size rest ≡ newline ∷ [] → IsLine n size rest
is_line n size [] is within spelled = absurd (omega (arith, ap length spelled, length-take-le {A = ℕ} size [] within))
is_line n size (c ∷ t) is within spelled =
    let one : size ≡ 1 = omega (arith, ap length spelled, length-take-le size (c ∷ t) within) in
    let first : c ≡ newline = sym (first_of_take (c ∷ t) size (omega arith)) ∙ ap (λ t. get_or t 0 0) spelled in
    let here : front n (newline ∷ t) ≡ One k.Newline size = ap (λ c. front n (c ∷ t)) (sym first) ∙ is in
    let facts = line_end_newline n t size (sym (front_newline n t) ∙ here) in
    record { is = first; one = one; outside = facts.0; apart = λ b. facts.1 (sym (drop_first (prefix_len is_blank t) t) ∙ b) }

-- what holds of a token
pub record IsRight (text : Text) (n : ℕ) (token : Token) : Type 0 where
  pub line : token.kind ≡ k.Newline → IsNewline text n token
  pub taken : (i : ℕ) → token.start ≤ i → i < token.end → get_or text i 0 ≡ newline → (token.kind ≡ k.Str) ⊎ ((token.kind ≡ k.Newline) × (token.start ≡ i))

newline_at : (text : Text) (offset n size : ℕ) → piece_at text n offset ≡ One k.Newline size → IsNewline text n (token_at text k.Newline size offset)
newline_at text offset n size is =
    let fits = token_fits text offset n k.Newline size is in
    let line = is_line n size (drop offset text) (front_of (begins_line text offset) n (drop offset text) (One k.Newline size) is (λ is. absurd (cc (is)))) fits.0.within fits.1 in
    let after : drop 1 (drop offset text) ≡ drop (offset + size) text = drop-drop 1 offset text ∙ ap (λ n. drop (offset + n) text) (sym line.one) in
    record {
      is = sym (drop_first offset text) ∙ line.is;
      one = ap (λ n. offset + n) line.one;
      outside = line.outside;
      apart = λ b. line.apart (ap (λ t. get_or (without_blanks t) 0 0) after ∙ b);
    }

newline_of : (text : Text) (offset n size : ℕ) (kind : TokenKind) → kind ≡ k.Newline → piece_at text n offset ≡ One kind size → IsNewline text n (token_at text kind size offset)
newline_of text offset n size kind line is = subst (λ kind. piece_at text n offset ≡ One kind size → IsNewline text n (token_at text kind size offset)) (sym line) (newline_at text offset n size) is

in_token : (text : Text) (offset size i : ℕ) → offset ≤ i → i < offset + size → get_or (take size (drop offset text)) (i - offset) 0 ≡ get_or text i 0
in_token text offset size i low high =
    let back : offset + (i - offset) ≡ i = omega (arith, low) in
    get_or-take size (drop offset text) (i - offset) 0 (omega (arith, low, high)) ∙ get_or-drop offset text (i - offset) 0 ∙ ap (λ i. get_or text i 0) back

right_at : (text : Text) (offset n : ℕ) (kind : TokenKind) (size : ℕ) → piece_at text n offset ≡ One kind size → IsRight text n (token_at text kind size offset)
right_at text offset n kind size is =
    let fits = token_fits text offset n kind size is in
    let bytes = take size (drop offset text) in
    record {
      line = λ line. newline_of text offset n size kind line is;
      taken = λ i low high at. elim (may kind bytes (i - offset) (clear kind bytes fits.1) (in_token text offset size i low high ∙ at)) as (λ _. (kind ≡ k.Str) ⊎ ((kind ≡ k.Newline) × (offset ≡ i))) [
        | inl string ↦ inl string
        | inr line ↦ inr (line.0, omega (arith, line.1, low))
      ];
    }

end_right : (text : Text) (n offset : ℕ) → IsRight text n (token_at text k.End 0 offset)
end_right text n offset = record {
  line = λ (line : k.End ≡ k.Newline). absurd (cc (line));
  taken = λ i low high at. absurd (omega (arith, low, high));
}

each_more : (text : Text) (n : ℕ) (ts : List Token) (one : Token) → EachOpen (IsRight text) n ts → IsRight text (open_after n ts) one → EachOpen (IsRight text) n (ts ++ one ∷ [])
each_more text n [] one each is = (is, tt)
each_more text n (t ∷ ts) one (here, later) is = (here, each_more text (open_parentheses_after t.kind n) ts one later is)

each_read : (text : Text) (offset n : ℕ) (tokens : List Token) → ReadTo text offset n tokens → EachOpen (IsRight text) 0 tokens
each_read text offset n tokens begin = tt
each_read text offset n tokens (blank {offset = old} size read is) = each_read text old n tokens read
each_read text offset n tokens (token {offset = old} {open_parentheses = outside} {tokens = before} kind size read is) =
    let right = subst (λ n. IsRight text n (token_at text kind size old)) (sym (read_apart text old outside before read).opened) (right_at text old outside kind size is) in
    each_more text 0 before (token_at text kind size old) (each_read text old outside before read) right

each_right : (text : Text) (tokens : List Token) → Tokens text tokens → EachOpen (IsRight text) 0 tokens
each_right text tokens are =
    let last = token_at text k.End 0 are.offset in
    rw are.are (each_more text 0 are.before last (each_read text are.offset are.open_parentheses are.before are.read) (end_right text (open_after 0 are.before) are.offset))

lines : (text : Text) (n : ℕ) (ts : List Token) → EachOpen (IsRight text) n ts → EachOpen (λ n token. token.kind ≡ k.Newline → IsNewline text n token) n ts
lines text n [] each = tt
lines text n (t ∷ ts) (here, later) = (here.line, lines text (open_parentheses_after t.kind n) ts later)

pub newline_tokens : NewlineTokens
newline_tokens text tokens are = lines text 0 tokens (each_right text tokens are)

-- ---- newlines in gaps

-- a gap is a beginning of its text
gap_front : (n : ℕ) (text rest : Text) → IsGap n text rest → (before : Text) × (text ≡ before ++ rest)
gap_front n text rest none = ([], refl)
gap_front n text rest (more piece _ gap filling) =
    let front = gap_front n text (piece ++ rest) gap in
    (front.0 ++ piece, front.1 ∙ sym (append_assoc front.0 piece rest))

-- each offset of a gap is in a piece
in_gap : (n : ℕ) (text rest : Text) → IsGap n text rest → (i : ℕ) → i + length rest < length text → IsSkipped text n i
in_gap n text rest none i low = absurd (omega (arith, low))
in_gap n text rest (more piece _ gap filling) i low =
    let front = gap_front n text (piece ++ rest) gap in
    let long : length text ≡ length front.0 + (length piece + length rest) = omega (arith, ap length front.1, length-append front.0 (piece ++ rest), length-append piece rest) in
    either (nat_lt i (length front.0)) (IsSkipped text n i)
    (λ e. let less : i < length front.0 = grind (arith, nat_tests) in in_gap n text (piece ++ rest) gap i (omega (arith, less, long, length-append piece rest)))
    (λ e.
    let past : length front.0 ≤ i = grind (arith, nat_tests) in
    record { before = front.0; piece = piece; after = rest; is = front.1; filling = filling; low = past; high = omega (arith, low, long) })

-- the same in a text of which the gap's is the end
skipped_on : (text : Text) (first n i : ℕ) → first ≤ i → first ≤ length text → IsSkipped (drop first text) n (i - first) → IsSkipped text n i
skipped_on text first n i low within skipped =
    let long : length (take first text ++ skipped.before) ≡ first + length skipped.before = omega (arith, length-append (take first text) skipped.before, length-take-le first text within) in
    record {
      before = take first text ++ skipped.before;
      piece = skipped.piece;
      after = skipped.after;
      is = sym (take-append-drop first text) ∙ ap (λ t. take first text ++ t) skipped.is ∙ sym (append_assoc (take first text) skipped.before (skipped.piece ++ skipped.after));
      filling = skipped.filling;
      low = omega (arith, long, skipped.low, low);
      high = omega (arith, long, skipped.high, low);
    }

skipped_between : (text : Text) (n first last i : ℕ) → IsGap n (drop first text) (drop last text) → first ≤ i → i < last → get_or text i 0 ≡ newline → IsSkipped text n i
skipped_between text n first last i gap low high at =
    let there : i < length text = inside text i newline at (lit< tt) in
    let near : (i - first) + length (drop last text) < length (drop first text) = omega (arith, low, high, there, length-drop first text, length-drop last text) in
    skipped_on text first n i low (omega (arith, low, there)) (in_gap n (drop first text) (drop last text) gap (i - first) near)

taken_by : (text : Text) (n : ℕ) (t : Token) (i : ℕ) → IsRight text n t → t.start ≤ i → i < t.end → get_or text i 0 ≡ newline → (t.kind ≡ k.Str) ⊎ ((t.kind ≡ k.Newline) × (t.start ≡ i) × (t.end ≡ i + 1))
taken_by text n t i right from less at = elim (right.taken i from less at) as (λ _. (t.kind ≡ k.Str) ⊎ ((t.kind ≡ k.Newline) × (t.start ≡ i) × (t.end ≡ i + 1))) [
  | inl string ↦ inl string
  | inr line ↦ inr (line.0, line.1, (right.line line.0).one ∙ ap (λ n. n + 1) line.1)
]

placed : (text : Text) (n first last : ℕ) (ts : List Token) (i : ℕ) → StandApart text n first ts last → EachOpen (IsRight text) n ts → first ≤ i → i < last → get_or text i 0 ≡ newline → IsPlaced text n first ts i
placed text n first last [] i gap each low high at = let skipped = skipped_between text n first last i gap low high at in (low, skipped)
placed text n first last (t ∷ ts) i (gap, apart) (here, later) low high at =
    either (nat_lt i t.start) (IsPlaced text n first (t ∷ ts) i)
    (λ e. let less : i < t.start = grind (arith, nat_tests) in inl (low, less, skipped_between text n first t.start i gap low less at))
    (λ e. either (nat_lt i t.end) (IsPlaced text n first (t ∷ ts) i)
    (λ f.
    let from : t.start ≤ i = grind (arith, nat_tests) in
    let less : i < t.end = grind (arith, nat_tests) in
    inr (inl (record { low = from; high = less; kind = taken_by text n t i here from less at })))
    (λ f.
    let past : t.end ≤ i = grind (arith, nat_tests) in
    inr (inr (placed text (open_parentheses_after t.kind n) t.end last ts i apart later past high at))))

pub each_newline_is_placed : EachNewlineIsPlaced
each_newline_is_placed text tokens are i low high at = placed text 0 (start_of text) are.offset tokens i (only_gaps text tokens are) (each_right text tokens are) low high at
