-- What is no token is a filling of a gap.
use Rattle.std.proofs.Common.{◌≡◌, ◌∙◌, ℕ, zero, suc, ◌+◌, ◌-◌, ◌<◌, ◌≤◌, ap, sym, subst, refl, arith, [], ◌∷◌, ◌++◌, length, take, drop, get_or, Bool, true, false, not, ◌&&◌, ◌||◌, ◌==◌, nat_eq, nat_le, Option, Some, None, codes, lit<, pos, length-take-le}
use Rattle.std.specs.List.{starts_with, prefix_len, position_or_len}
use Rattle.std.specs.Char.{is_ascii_digit, is_ascii_hexdigit}
use Rattle.std.proofs.lemmas.Bool.Decides.{nat_tests}
use Rattle.std.proofs.lemmas.List.{take-append-drop, drop_all}
use Rattle.avs_lex.specs.declared.piece.Piece.{Piece}
use Rattle.avs_lex.specs.declared.piece.Piece.TheVariants.{Blank, One, EndOfScript, Fault}
use Rattle.avs_lex.specs.declared.token.TokenKind.{TokenKind}
use Rattle.avs_lex.specs.Spelling.{Text, newline, quote, hash, dollar, star, dot, slash, left_bracket, backslash, is_newline, is_blank, begins_name, is_number, hexadecimal_digits, pairs, singles, first_of, through, value, triple}
use Rattle.avs_lex.specs.NestedComment.{ClosesComment}
use Rattle.avs_lex.specs.Piece.{front, piece, is_end_line, ends_line, decimal, hexadecimal, string, string_to, comment_to, nested_end, line_end, joined, punctuation_of}
use Rattle.avs_lex.proofs.TestLemmas.{either}
use Rattle.avs_lex.proofs.NumberLemmas.{list_all-taken}
use Rattle.avs_lex.proofs.WordLemmas.{through_found, through_cut}
use Rattle.avs_lex.proofs.CommentLemmas.{nested_found}
use Rattle.avs_lex.proofs.NestedLemmas.{nested_comment_ends}
use Rattle.lex_laws.specs.Gaps.{IsFilling, blank, line_comment, block_comment, nested_comment, joined_after, joined_at_end, joined_before, newline_inside}

-- what the front of a text says of a gap: a blank is a filling, and it is never the end
abbrev pub Fills : ℕ → Text → Piece → Type 0
Fills open_parentheses rest (Blank size) = IsFilling open_parentheses (take size rest) (drop size rest)
Fills open_parentheses rest (One kind size) = Unit {0}
Fills open_parentheses rest EndOfScript = ⊥
Fills open_parentheses rest (Fault kind) = Unit {0}

pub record IsFilled (open_parentheses : ℕ) (rest : Text) (piece : Piece) : Type 0 where
  pub fills : Fills open_parentheses rest piece

other_one : {open_parentheses : ℕ} {rest : Text} {kind : TokenKind} {size : ℕ} → IsFilled open_parentheses rest (One kind size)
other_one = record { fills = tt }

-- the beginning up to a character
take_through : (t : Text) (n c : ℕ) → get_or t n 0 ≡ c → 0 < c → take (suc n) t ≡ take n t ++ c ∷ []
take_through [] n c is some = absurd (omega arith)
take_through (d ∷ t) zero c is some = rw is refl
take_through (d ∷ t) (suc n) c is some = ap (λ u. d ∷ u) (take_through t n c is some)

line_ends : (t : Text) → ends_line (drop (position_or_len is_newline t) t) ≡ true
line_ends [] = refl
line_ends (c ∷ t) =
    either (is_newline c) (ends_line (drop (position_or_len is_newline (c ∷ t)) (c ∷ t)) ≡ true)
    (λ e. let line : c ≡ newline = grind (arith, nat_tests) in let long : (suc (length t) == 0) ≡ false = grind (arith, nat_tests) in rw (line, long) refl)
    (λ e. let next : 1 + position_or_len is_newline t ≡ suc (position_or_len is_newline t) = omega arith in rw (e, next) (line_ends t))

line_comment_fills : (open_parentheses : ℕ) (t : Text) → IsFilled open_parentheses (hash ∷ t) (Blank (position_or_len is_newline (hash ∷ t)))
line_comment_fills open_parentheses t =
    let next : 1 + position_or_len is_newline t ≡ suc (position_or_len is_newline t) = omega arith in
    record { fills = rw next (line_comment (take (position_or_len is_newline t) t) (list_all-taken (λ c. not (is_newline c)) t) (line_ends t)) }

comment_to_fills : (open_parentheses : ℕ) (rest : Text) (end : Option ℕ) → ((size : ℕ) → end ≡ Some size → IsFilling open_parentheses (take size rest) (drop size rest)) → IsFilled open_parentheses rest (comment_to end)
comment_to_fills open_parentheses rest None ends = record { fills = tt }
comment_to_fills open_parentheses rest (Some size) ends = record { fills = ends size refl }

block_fills : (open_parentheses : ℕ) (t : Text) → IsFilled open_parentheses (slash ∷ star ∷ t) (comment_to (through (codes "*/") 2 t))
block_fills open_parentheses t = comment_to_fills open_parentheses (slash ∷ star ∷ t) (through (codes "*/") 2 t) (λ size is.
    let found = through_found (codes "*/") 2 t size is in
    let next : size ≡ suc (suc (size - 2)) = omega (arith, found.after) in
    let long : length (take (size - 2) t) ≡ size - 2 = length-take-le (size - 2) t (omega (arith, found.within)) in
    let cut : through (codes "*/") 2 (take (size - 2) t) ≡ Some size = through_cut (codes "*/") 2 t size (size - 2) is (lit< tt) (omega (arith, found.after)) in
    let whole : size ≡ 2 + length (take (size - 2) t) = omega (arith, long, found.after) in
    subst (λ n. IsFilling open_parentheses (take n (slash ∷ star ∷ t)) (drop n (slash ∷ star ∷ t))) (sym next) (block_comment (take (size - 2) t) (cut ∙ ap Some whole)))

nested_fills : (open_parentheses : ℕ) (t : Text) → IsFilled open_parentheses (left_bracket ∷ star ∷ t) (comment_to (nested_end 0 2 t))
nested_fills open_parentheses t = comment_to_fills open_parentheses (left_bracket ∷ star ∷ t) (nested_end 0 2 t) (λ size is.
    let found = nested_found 0 2 t size is in
    let next : size ≡ suc (suc (size - 2)) = omega (arith, found.after) in
    let h = (nested_comment_ends t size).0 is in
    let same : h.inside ≡ t = cc (h.opens) in
    let closes : ClosesComment t (drop size (left_bracket ∷ star ∷ t)) = subst (λ u. ClosesComment u (drop size (left_bracket ∷ star ∷ t))) same h.closes in
    let at : drop size (left_bracket ∷ star ∷ t) ≡ drop (size - 2) t = ap (λ n. drop n (left_bracket ∷ star ∷ t)) next in
    let there : ClosesComment t (drop (size - 2) t) = subst (ClosesComment t) at closes in
    let parts : ClosesComment (take (size - 2) t ++ drop (size - 2) t) (drop (size - 2) t) = subst (λ u. ClosesComment u (drop (size - 2) t)) (sym (take-append-drop (size - 2) t)) there in
    subst (λ n. IsFilling open_parentheses (take n (left_bracket ∷ star ∷ t)) (drop n (left_bracket ∷ star ∷ t))) (sym next) (nested_comment (take (size - 2) t) parts))

line_end_fills : (open_parentheses : ℕ) (t : Text) → IsFilled open_parentheses (newline ∷ t) (line_end open_parentheses (newline ∷ t))
line_end_fills open_parentheses t =
    let blanks = prefix_len is_blank t in
    let next : 1 + blanks ≡ suc blanks = omega arith in
    let two : 2 + blanks ≡ suc (suc blanks) = omega arith in
    let goal = IsFilled open_parentheses (newline ∷ t) (line_end open_parentheses (newline ∷ t)) in
    either (get_or t blanks 0 == backslash) goal
    (λ e.
    let found : get_or t blanks 0 ≡ backslash = grind (arith, nat_tests) in
    let cut = take_through t blanks backslash found (lit< tt) in
    let filling : IsFilling open_parentheses (newline ∷ take (suc blanks) t) (drop (suc blanks) t) = rw cut (joined_before (take blanks t) (list_all-taken is_blank t)) in
    rw (next, e, two) (record { fills = filling }))
    (λ e. either (open_parentheses == 0) goal
    (λ f. rw (next, e, f) (record { fills = tt }))
    (λ f. let inside : 0 < open_parentheses = grind (arith, nat_tests) in rw (next, e, f) (record { fills = newline_inside inside })))

joined_fills : (open_parentheses : ℕ) (t : Text) → IsFilled open_parentheses (backslash ∷ t) (joined (backslash ∷ t))
joined_fills open_parentheses t =
    let blanks = prefix_len is_blank t in
    let next : 1 + blanks ≡ suc blanks = omega arith in
    let two : 2 + blanks ≡ suc (suc blanks) = omega arith in
    let goal = IsFilled open_parentheses (backslash ∷ t) (joined (backslash ∷ t)) in
    either (length (backslash ∷ t) == suc blanks) goal
    (λ e.
    let whole : length t ≤ blanks = grind (arith, nat_tests) in
    let filling : IsFilling open_parentheses (backslash ∷ take blanks t) (drop blanks t) = rw (drop_all blanks t whole) (joined_at_end (take blanks t) (list_all-taken is_blank t)) in
    rw (next, e) (record { fills = filling }))
    (λ e. either (get_or t blanks 0 == newline) goal
    (λ f.
    let found : get_or t blanks 0 ≡ newline = grind (arith, nat_tests) in
    let cut = take_through t blanks newline found (lit< tt) in
    let filling : IsFilling open_parentheses (backslash ∷ take (suc blanks) t) (drop (suc blanks) t) = rw cut (joined_after (take blanks t) (list_all-taken is_blank t)) in
    rw (next, e, f, two) (record { fills = filling }))
    (λ f. rw (next, e, f) (record { fills = tt })))

decimal_fills : (open_parentheses : ℕ) (rest : Text) → IsFilled open_parentheses rest (decimal rest)
decimal_fills open_parentheses rest =
    let size = prefix_len is_ascii_digit rest in
    let goal = IsFilled open_parentheses rest (decimal rest) in
    either (get_or rest size 0 == dot) goal
    (λ e. rw e (record { fills = tt }))
    (λ e. either (is_number (pos (value 10 (take size rest)))) goal (λ f. rw (e, f) (record { fills = tt })) (λ f. rw (e, f) (record { fills = tt })))

hexadecimal_fills : (open_parentheses : ℕ) (rest : Text) → IsFilled open_parentheses rest (hexadecimal rest)
hexadecimal_fills open_parentheses rest =
    let size = prefix_len is_ascii_hexdigit (drop 1 rest) in
    let goal = IsFilled open_parentheses rest (hexadecimal rest) in
    either (size == 0) goal
    (λ e. rw e (record { fills = tt }))
    (λ e. either (nat_le size hexadecimal_digits) goal (λ f. rw (e, f) (record { fills = tt })) (λ f. rw (e, f) (record { fills = tt })))

string_to_fills : (open_parentheses : ℕ) (rest : Text) (end : Option ℕ) → IsFilled open_parentheses rest (string_to end)
string_to_fills open_parentheses rest None = record { fills = tt }
string_to_fills open_parentheses rest (Some size) = record { fills = tt }

string_fills : (open_parentheses : ℕ) (rest : Text) → IsFilled open_parentheses rest (string rest)
string_fills open_parentheses rest =
    either (starts_with nat_eq rest triple) (IsFilled open_parentheses rest (string rest))
    (λ e. rw e (string_to_fills open_parentheses rest (through triple 3 (drop 3 rest))))
    (λ e. rw e (string_to_fills open_parentheses rest (through (quote ∷ []) 1 (drop 1 rest))))

punctuation_fills : (open_parentheses : ℕ) (rest : Text) (found : Option TokenKind) → IsFilled open_parentheses rest (punctuation_of found)
punctuation_fills open_parentheses rest None = record { fills = tt }
punctuation_fills open_parentheses rest (Some kind) = record { fills = tt }

-- where a text begins with one character, or with two
line_end_here : (open_parentheses : ℕ) (rest : Text) → get_or rest 0 0 ≡ newline → IsFilled open_parentheses rest (line_end open_parentheses rest)
line_end_here open_parentheses [] first = cc
line_end_here open_parentheses (c ∷ t) first = rw first (line_end_fills open_parentheses t)

joined_here : (open_parentheses : ℕ) (rest : Text) → get_or rest 0 0 ≡ backslash → IsFilled open_parentheses rest (joined rest)
joined_here open_parentheses [] first = cc
joined_here open_parentheses (c ∷ t) first = rw first (joined_fills open_parentheses t)

line_comment_here : (open_parentheses : ℕ) (rest : Text) → get_or rest 0 0 ≡ hash → IsFilled open_parentheses rest (Blank (position_or_len is_newline rest))
line_comment_here open_parentheses [] first = cc
line_comment_here open_parentheses (c ∷ t) first = rw first (line_comment_fills open_parentheses t)

blank_here : (open_parentheses : ℕ) (rest : Text) → is_blank (get_or rest 0 0) ≡ true → IsFilled open_parentheses rest (Blank 1)
blank_here open_parentheses [] first = cc
blank_here open_parentheses (c ∷ t) first = record { fills = blank c first }

block_here : (open_parentheses : ℕ) (rest : Text) → get_or rest 0 0 ≡ slash → get_or rest 1 0 ≡ star → IsFilled open_parentheses rest (comment_to (through (codes "*/") 2 (drop 2 rest)))
block_here open_parentheses [] first second = cc
block_here open_parentheses (c ∷ []) first second = cc
block_here open_parentheses (c ∷ d ∷ t) first second = rw (first, second) (block_fills open_parentheses t)

nested_here : (open_parentheses : ℕ) (rest : Text) → get_or rest 0 0 ≡ left_bracket → get_or rest 1 0 ≡ star → IsFilled open_parentheses rest (comment_to (nested_end 0 2 (drop 2 rest)))
nested_here open_parentheses [] first second = cc
nested_here open_parentheses (c ∷ []) first second = cc
nested_here open_parentheses (c ∷ d ∷ t) first second = rw (first, second) (nested_fills open_parentheses t)

pub front_fills : (open_parentheses : ℕ) (rest : Text) → IsFilled open_parentheses rest (front open_parentheses rest)
unfolding front
front_fills open_parentheses rest =
    let first = get_or rest 0 0 in
    let second = get_or rest 1 0 in
    let goal = IsFilled open_parentheses rest (front open_parentheses rest) in
    either (begins_name first) goal (λ e1. rw e1 (record { fills = tt }))
    (λ e1. either (is_ascii_digit first) goal (λ e2. rw (e1, e2) (decimal_fills open_parentheses rest))
    (λ e2. either (is_blank first) goal (λ e3. rw (e1, e2, e3) (blank_here open_parentheses rest e3))
    (λ e3. either (first == newline) goal (λ e4. rw (e1, e2, e3, e4) (line_end_here open_parentheses rest (grind (arith, nat_tests))))
    (λ e4. either (first == backslash) goal (λ e5. rw (e1, e2, e3, e4, e5) (joined_here open_parentheses rest (grind (arith, nat_tests))))
    (λ e5. either (first == hash) goal (λ e6. rw (e1, e2, e3, e4, e5, e6) (line_comment_here open_parentheses rest (grind (arith, nat_tests))))
    (λ e6. either (first == slash && second == star) goal
    (λ e7. rw (e1, e2, e3, e4, e5, e6, e7) (block_here open_parentheses rest (grind (arith, nat_tests)) (grind (arith, nat_tests))))
    (λ e7. either (first == left_bracket && second == star) goal
    (λ e8. rw (e1, e2, e3, e4, e5, e6, e7, e8) (nested_here open_parentheses rest (grind (arith, nat_tests)) (grind (arith, nat_tests))))
    (λ e8. either (first == quote) goal (λ e9. rw (e1, e2, e3, e4, e5, e6, e7, e8, e9) (string_fills open_parentheses rest))
    (λ e9. either (first == dollar) goal (λ e10. rw (e1, e2, e3, e4, e5, e6, e7, e8, e9, e10) (hexadecimal_fills open_parentheses rest))
    (λ e10. either (first == dot && is_ascii_digit second) goal (λ e11. rw (e1, e2, e3, e4, e5, e6, e7, e8, e9, e10, e11) (record { fills = tt }))
    (λ e11. rw (e1, e2, e3, e4, e5, e6, e7, e8, e9, e10, e11) (punctuation_fills open_parentheses rest (first_of (pairs ++ singles) rest)))))))))))))

-- a piece that is not the end is the front of its text
pub front_of : (begins : Bool) (n : ℕ) (rest : Text) (found : Piece) → piece begins n rest ≡ found → (EndOfScript ≡ found → ⊥) → front n rest ≡ found
front_of begins n rest found is more =
    either (length rest == 0 || (begins && is_end_line rest)) (front n rest ≡ found)
    (λ e. let end : EndOfScript ≡ found = rw e at is in absurd (more end))
    (λ e. rw e at is)

pub piece_fills : (begins : Bool) (n : ℕ) (rest : Text) (size : ℕ) → piece begins n rest ≡ Blank size → IsFilling n (take size rest) (drop size rest)
piece_fills begins n rest size is =
    let here = front_of begins n rest (Blank size) is (λ is. absurd (cc (is))) in
    (subst (IsFilled n rest) here (front_fills n rest)).fills

pub front_goes_on : (n : ℕ) (rest : Text) → front n rest ≡ EndOfScript → ⊥
front_goes_on n rest is = (subst (IsFilled n rest) is (front_fills n rest)).fills
