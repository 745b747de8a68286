-- Texts that agree up to a newline have the same pieces before it.
use Rattle.std.proofs.Common.{◌≡◌, ◌∙◌, ℕ, zero, suc, ◌+◌, ◌-◌, ◌<◌, ◌≤◌, ap, sym, subst, refl, arith, [], ◌∷◌, ◌++◌, length, take, drop, get_or, Bool, true, false, not, ◌&&◌, ◌||◌, ◌==◌, nat_eq, nat_le, nat_lt, Option, Some, None, codes, lit<, length-drop, length-append, append_assoc, if◌then◌else◌}
use Rattle.std.specs.List.{starts_with, prefix_len}
use Rattle.std.specs.Char.{is_ascii_digit, is_ascii_hexdigit}
use Rattle.std.proofs.lemmas.Bool.Decides.{nat_tests}
use Rattle.std.proofs.lemmas.List.{take-append-drop, take-append-le, drop-append-le}
use Rattle.std.proofs.lemmas.List.Sums.{prefix_len-le-length}
use Rattle.avs_lex.specs.declared.piece.Piece.{Piece}
use Rattle.avs_lex.specs.declared.piece.Piece.TheVariants.{Blank, One, EndOfScript, Fault}
use Rattle.avs_lex.specs.declared.fault.LexKind.TheVariants.{FloatLiteral}
use Rattle.avs_lex.specs.declared.token.TokenKind.{TokenKind}
use Rattle.avs_lex.specs.declared.token.TokenKind.TheVariants as k
use Rattle.avs_lex.specs.Spelling.{Text, newline, quote, hash, dollar, star, dot, slash, left_bracket, right_bracket, backslash, is_newline, is_blank, begins_name, continues_name, pairs, singles, spelling, through, triple}
use Rattle.avs_lex.specs.Piece.{front, piece, is_end_line, ends_line, without_blanks, decimal, hexadecimal, string, string_to, comment_to, nested_end, line_end, joined, punctuation, punctuation_of}
use Rattle.avs_lex.proofs.TestLemmas.{either, by_test}
use Rattle.avs_lex.proofs.WordLemmas.{through_found, through_cut, through_more, starts_with_more, starts_with_at}
use Rattle.avs_lex.proofs.CommentLemmas.{nested_found}
use Rattle.lex_laws.proofs.SameLemmas.{both_same, either_same, find_same, at_length}

-- ---- runs and characters

-- a run that no newline continues
pub runs : (p : ℕ → Bool) (v t : Text) → p newline ≡ false → prefix_len p (v ++ newline ∷ t) ≡ prefix_len p v
runs p [] t stop = rw stop refl
runs p (c ∷ v) t stop = rw (runs p v t stop) refl

pub same_at : (v t t' : Text) (i : ℕ) → i ≤ length v → get_or (v ++ newline ∷ t) i 0 ≡ get_or (v ++ newline ∷ t') i 0
same_at [] t t' zero low = refl
same_at [] t t' (suc i) low = absurd (omega arith)
same_at (c ∷ v) t t' zero low = refl
same_at (c ∷ v) t t' (suc i) low = same_at v t t' i (omega arith)

-- ---- what is found before the newline is found in both

through_keeps : (word : Text) (n : ℕ) (v t t' : Text) (end : ℕ) → through word n (v ++ t) ≡ Some end → 0 < length word → end ≤ n + length v → through word n (v ++ t') ≡ Some end
through_keeps word n v t t' end is some near =
    let found = through_found word n (v ++ t) end is in
    let size = end - n in
    let cut : through word n (take size (v ++ t)) ≡ Some end = through_cut word n (v ++ t) end size is some (omega (arith, found.after)) in
    let inside : take size (v ++ t) ≡ take size v = take-append-le size v t (omega (arith, found.after)) in
    let split : take size v ++ (drop size v ++ t') ≡ v ++ t' = sym (append_assoc (take size v) (drop size v) t') ∙ ap (λ u. u ++ t') (take-append-drop size v) in
    ap (through word n) (sym split) ∙ through_more word n (take size v) (drop size v ++ t') end (ap (through word n) (sym inside) ∙ cut)

nested_keeps : (inner n : ℕ) (v t t' : Text) (end : ℕ) → nested_end inner n (v ++ t) ≡ Some end → end ≤ n + length v → nested_end inner n (v ++ t') ≡ Some end
nested_keeps inner n [] t t' end is near = absurd (omega (arith, (nested_found inner n t end is).after))
nested_keeps inner n (c ∷ []) t t' end is near = absurd (omega (arith, (nested_found inner n (c ∷ t) end is).after))
nested_keeps inner n (c ∷ d ∷ v) t t' end is near =
    by_test (c == left_bracket && d == star)
    (λ b. (if b then nested_end (inner + 1) (n + 2) (v ++ t) else (if c == star && d == right_bracket then (if inner == 0 then Some (n + 2) else nested_end (inner - 1) (n + 2) (v ++ t)) else nested_end inner (n + 1) (d ∷ (v ++ t)))) ≡ Some end
    → (if b then nested_end (inner + 1) (n + 2) (v ++ t') else (if c == star && d == right_bracket then (if inner == 0 then Some (n + 2) else nested_end (inner - 1) (n + 2) (v ++ t')) else nested_end inner (n + 1) (d ∷ (v ++ t')))) ≡ Some end)
    (λ _ is. nested_keeps (inner + 1) (n + 2) v t t' end is (omega arith))
    (λ _. by_test (c == star && d == right_bracket)
    (λ b. (if b then (if inner == 0 then Some (n + 2) else nested_end (inner - 1) (n + 2) (v ++ t)) else nested_end inner (n + 1) (d ∷ (v ++ t))) ≡ Some end
    → (if b then (if inner == 0 then Some (n + 2) else nested_end (inner - 1) (n + 2) (v ++ t')) else nested_end inner (n + 1) (d ∷ (v ++ t'))) ≡ Some end)
    (λ _. by_test (inner == 0)
    (λ b. (if b then Some (n + 2) else nested_end (inner - 1) (n + 2) (v ++ t)) ≡ Some end → (if b then Some (n + 2) else nested_end (inner - 1) (n + 2) (v ++ t')) ≡ Some end)
    (λ _ is. is)
    (λ _ is. nested_keeps (inner - 1) (n + 2) v t t' end is (omega arith)))
    (λ _ is. nested_keeps inner (n + 1) (d ∷ v) t t' end is (omega arith)))
    is

-- ---- pieces

-- a piece that ends within this size, or the end
abbrev pub Reaches : ℕ → Piece → Type 0
Reaches m (Blank size) = size ≤ m
Reaches m (One kind size) = size ≤ m
Reaches m EndOfScript = Unit {0}
Reaches m (Fault kind) = ⊥

-- such a piece of one text is one of the other
pub record Keeps (m : ℕ) (one other : Piece) : Type 0 where
  pub keeps : (p : Piece) → one ≡ p → Reaches m p → other ≡ p

same : {m : ℕ} (one other : Piece) → one ≡ other → Keeps m one other
same one other is = record { keeps = λ p at near. sym is ∙ at }

option_keeps : (m : ℕ) (to : Option ℕ → Piece) (one other : Option ℕ) → (Reaches m (to None) → ⊥) → ((size : ℕ) → Reaches m (to (Some size)) → size ≤ m) → ((size : ℕ) → one ≡ Some size → size ≤ m → other ≡ Some size) → Keeps m (to one) (to other)
option_keeps m to None other none some found = record { keeps = λ p at near. absurd (none (subst (Reaches m) (sym at) near)) }
option_keeps m to (Some size) other none some found = record { keeps = λ p at near. ap to (found size refl (some size (subst (Reaches m) (sym at) near))) ∙ at }

comment_keeps : (m : ℕ) (one other : Option ℕ) → ((size : ℕ) → one ≡ Some size → size ≤ m → other ≡ Some size) → Keeps m (comment_to one) (comment_to other)
comment_keeps m one other found = option_keeps m comment_to one other (λ h. h) (λ size h. h) found

string_to_keeps : (m : ℕ) (one other : Option ℕ) → ((size : ℕ) → one ≡ Some size → size ≤ m → other ≡ Some size) → Keeps m (string_to one) (string_to other)
string_to_keeps m one other found = option_keeps m string_to one other (λ h. h) (λ size h. h) found

decimal_same : (v t t' : Text) → decimal (v ++ newline ∷ t) ≡ decimal (v ++ newline ∷ t')
decimal_same v t t' =
    let size = prefix_len is_ascii_digit v in
    let low = prefix_len-le-length is_ascii_digit v in
    rw (runs is_ascii_digit v t refl, runs is_ascii_digit v t' refl, same_at v t t' size low, take-append-le size v (newline ∷ t) low, take-append-le size v (newline ∷ t') low) refl

hexadecimal_same : (c : ℕ) (v t t' : Text) → hexadecimal (c ∷ (v ++ newline ∷ t)) ≡ hexadecimal (c ∷ (v ++ newline ∷ t'))
hexadecimal_same c v t t' =
    let size = prefix_len is_ascii_hexdigit v in
    let low = prefix_len-le-length is_ascii_hexdigit v in
    rw (runs is_ascii_hexdigit v t refl, runs is_ascii_hexdigit v t' refl, take-append-le size v (newline ∷ t) low, take-append-le size v (newline ∷ t') low) refl

line_end_same : (n c : ℕ) (v t t' : Text) → line_end n (c ∷ (v ++ newline ∷ t)) ≡ line_end n (c ∷ (v ++ newline ∷ t'))
line_end_same n c v t t' =
    let blanks = prefix_len is_blank v in
    let low = prefix_len-le-length is_blank v in
    rw (runs is_blank v t refl, runs is_blank v t' refl, same_at (c ∷ v) t t' (1 + blanks) (omega (arith, low))) refl

not_all : (c : ℕ) (v t : Text) → (length (c ∷ (v ++ newline ∷ t)) == 1 + prefix_len is_blank v) ≡ false
not_all c v t =
    let low = prefix_len-le-length is_blank v in
    let long = length-append v (newline ∷ t) in
    grind (arith, nat_tests)

joined_same : (c : ℕ) (v t t' : Text) → joined (c ∷ (v ++ newline ∷ t)) ≡ joined (c ∷ (v ++ newline ∷ t'))
joined_same c v t t' =
    let blanks = prefix_len is_blank v in
    let low = prefix_len-le-length is_blank v in
    rw (runs is_blank v t refl, runs is_blank v t' refl, not_all c v t, not_all c v t', same_at (c ∷ v) t t' (1 + blanks) (omega (arith, low))) refl

-- ---- punctuation

abbrev is_short : TokenKind → Bool
is_short kind = nat_le (length (spelling kind)) 2

punctuation_same : (v t t' : Text) → 2 ≤ length v → punctuation (v ++ newline ∷ t) ≡ punctuation (v ++ newline ∷ t')
punctuation_same v t t' long =
    ap punctuation_of (find_same (λ kind. starts_with nat_eq (v ++ newline ∷ t) (spelling kind)) (λ kind. starts_with nat_eq (v ++ newline ∷ t') (spelling kind)) is_short (pairs ++ singles)
    (λ kind short. let few : length (spelling kind) ≤ length v = grind (arith, nat_tests) in starts_with_more v (spelling kind) (newline ∷ t) few ∙ sym (starts_with_more v (spelling kind) (newline ∷ t') few)) refl)

string_keeps : (v t t' : Text) → 3 ≤ length v → Keeps (length v) (string (v ++ newline ∷ t)) (string (v ++ newline ∷ t'))
string_keeps v t t' long =
    let one = newline ∷ t in
    let other = newline ∷ t' in
    let here = starts_with_more v triple one long in
    let there = starts_with_more v triple other long in
    let three = drop-append-le 3 v one long in
    let three' = drop-append-le 3 v other long in
    let first = drop-append-le 1 v one (omega arith) in
    let first' = drop-append-le 1 v other (omega arith) in
    either (starts_with nat_eq v triple) (Keeps (length v) (string (v ++ one)) (string (v ++ other)))
    (λ e. rw (here, there, e, three, three') (string_to_keeps (length v) (through triple 3 (drop 3 v ++ one)) (through triple 3 (drop 3 v ++ other))
    (λ size is near. through_keeps triple 3 (drop 3 v) one other size is (lit< tt) (omega (arith, length-drop 3 v)))))
    (λ e. rw (here, there, e, first, first') (string_to_keeps (length v) (through (quote ∷ []) 1 (drop 1 v ++ one)) (through (quote ∷ []) 1 (drop 1 v ++ other))
    (λ size is near. through_keeps (quote ∷ []) 1 (drop 1 v) one other size is (lit< tt) (omega (arith, length-drop 1 v)))))

block_keeps : (v t t' : Text) → 2 ≤ length v → Keeps (length v) (comment_to (through (codes "*/") 2 (drop 2 (v ++ newline ∷ t)))) (comment_to (through (codes "*/") 2 (drop 2 (v ++ newline ∷ t'))))
block_keeps v t t' long =
    rw (drop-append-le 2 v (newline ∷ t) long, drop-append-le 2 v (newline ∷ t') long) (comment_keeps (length v) (through (codes "*/") 2 (drop 2 v ++ newline ∷ t)) (through (codes "*/") 2 (drop 2 v ++ newline ∷ t'))
    (λ size is near. through_keeps (codes "*/") 2 (drop 2 v) (newline ∷ t) (newline ∷ t') size is (lit< tt) (omega (arith, length-drop 2 v))))

comments_keep : (v t t' : Text) → 2 ≤ length v → Keeps (length v) (comment_to (nested_end 0 2 (drop 2 (v ++ newline ∷ t)))) (comment_to (nested_end 0 2 (drop 2 (v ++ newline ∷ t'))))
comments_keep v t t' long =
    rw (drop-append-le 2 v (newline ∷ t) long, drop-append-le 2 v (newline ∷ t') long) (comment_keeps (length v) (nested_end 0 2 (drop 2 v ++ newline ∷ t)) (nested_end 0 2 (drop 2 v ++ newline ∷ t'))
    (λ size is near. nested_keeps 0 2 (drop 2 v) (newline ∷ t) (newline ∷ t') size is (omega (arith, length-drop 2 v))))

-- those that leave out the first character
some_first : (P : Text → Type 0) (v : Text) → 0 < length v → ((c : ℕ) (u : Text) → P (c ∷ u)) → P v
some_first P [] some each = absurd (omega arith)
some_first P (c ∷ u) some each = each c u

front_keeps : (n : ℕ) (v t t' : Text) → 3 ≤ length v → Keeps (length v) (front n (v ++ newline ∷ t)) (front n (v ++ newline ∷ t'))
unfolding front
front_keeps n v t t' long =
    let x = v ++ newline ∷ t in
    let y = v ++ newline ∷ t' in
    let first = get_or y 0 0 in
    let second = get_or y 1 0 in
    let same_first : get_or x 0 0 ≡ first = same_at v t t' 0 (omega arith) in
    let same_second : get_or x 1 0 ≡ second = same_at v t t' 1 (omega arith) in
    let goal = Keeps (length v) (front n x) (front n y) in
    let s = same_first in
    let name = ap (One k.Ident) (runs continues_name v t refl ∙ sym (runs continues_name v t' refl)) in
    let comment = ap Blank (runs (λ c. not (is_newline c)) v t refl ∙ sym (runs (λ c. not (is_newline c)) v t' refl)) in
    let lines = some_first (λ v. line_end n (v ++ newline ∷ t) ≡ line_end n (v ++ newline ∷ t')) v (omega arith) (λ c u. line_end_same n c u t t') in
    let joins = some_first (λ v. joined (v ++ newline ∷ t) ≡ joined (v ++ newline ∷ t')) v (omega arith) (λ c u. joined_same c u t t') in
    let hexadecimals = some_first (λ v. hexadecimal (v ++ newline ∷ t) ≡ hexadecimal (v ++ newline ∷ t')) v (omega arith) (λ c u. hexadecimal_same c u t t') in
    either (begins_name first) goal (λ e1. rw (s, e1) (same _ _ name))
    (λ e1. either (is_ascii_digit first) goal (λ e2. rw (s, e1, e2) (same (decimal x) (decimal y) (decimal_same v t t')))
    (λ e2. either (is_blank first) goal (λ e3. rw (s, e1, e2, e3) (same (Blank 1) (Blank 1) refl))
    (λ e3. either (first == newline) goal (λ e4. rw (s, e1, e2, e3, e4) (same (line_end n x) (line_end n y) lines))
    (λ e4. either (first == backslash) goal (λ e5. rw (s, e1, e2, e3, e4, e5) (same (joined x) (joined y) joins))
    (λ e5. either (first == hash) goal (λ e6. rw (s, e1, e2, e3, e4, e5, e6) (same _ _ comment))
    (λ e6. either (first == slash && second == star) goal (λ e7. rw (s, same_second, e1, e2, e3, e4, e5, e6, e7) (block_keeps v t t' (omega arith)))
    (λ e7. either (first == left_bracket && second == star) goal (λ e8. rw (s, same_second, e1, e2, e3, e4, e5, e6, e7, e8) (comments_keep v t t' (omega arith)))
    (λ e8. either (first == quote) goal (λ e9. rw (s, same_second, e1, e2, e3, e4, e5, e6, e7, e8, e9) (string_keeps v t t' long))
    (λ e9. either (first == dollar) goal (λ e10. rw (s, same_second, e1, e2, e3, e4, e5, e6, e7, e8, e9, e10) (same (hexadecimal x) (hexadecimal y) hexadecimals))
    (λ e10. either (first == dot && is_ascii_digit second) goal (λ e11. rw (s, same_second, e1, e2, e3, e4, e5, e6, e7, e8, e9, e10, e11) (same (Fault FloatLiteral) (Fault FloatLiteral) refl))
    (λ e11. rw (s, same_second, e1, e2, e3, e4, e5, e6, e7, e8, e9, e10, e11) (same (punctuation x) (punctuation y) (punctuation_same v t t' (omega arith))))))))))))))

-- ---- end lines

not_none : (v t : Text) → (length (v ++ newline ∷ t) == 0) ≡ false
not_none v t = let long = length-append v (newline ∷ t) in grind (arith, nat_tests)

ends_line_same : (v t t' : Text) → ends_line (v ++ newline ∷ t) ≡ ends_line (v ++ newline ∷ t')
ends_line_same v t t' =
    let some : (length (v ++ newline ∷ t) == 0) ≡ false = not_none v t in
    let some' : (length (v ++ newline ∷ t') == 0) ≡ false = not_none v t' in
    rw (some, some', same_at v t t' 0 (omega arith)) refl

blanks_same : (v t t' : Text) → ends_line (without_blanks (v ++ newline ∷ t)) ≡ ends_line (without_blanks (v ++ newline ∷ t'))
blanks_same v t t' =
    let size = prefix_len is_blank v in
    let low = prefix_len-le-length is_blank v in
    let here : without_blanks (v ++ newline ∷ t) ≡ drop size v ++ newline ∷ t = ap (λ n. drop n (v ++ newline ∷ t)) (runs is_blank v t refl) ∙ drop-append-le size v (newline ∷ t) low in
    let there : without_blanks (v ++ newline ∷ t') ≡ drop size v ++ newline ∷ t' = ap (λ n. drop n (v ++ newline ∷ t')) (runs is_blank v t' refl) ∙ drop-append-le size v (newline ∷ t') low in
    ap ends_line here ∙ ends_line_same (drop size v) t t' ∙ ap ends_line (sym there)

no_line : (k : ℕ) → k < 7 → (get_or (codes "__END__") k 0 == newline) ≡ false
no_line zero low = refl
no_line (suc zero) low = refl
no_line (suc (suc zero)) low = refl
no_line (suc (suc (suc zero))) low = refl
no_line (suc (suc (suc (suc zero)))) low = refl
no_line (suc (suc (suc (suc (suc zero))))) low = refl
no_line (suc (suc (suc (suc (suc (suc zero)))))) low = refl
no_line (suc (suc (suc (suc (suc (suc (suc k))))))) low = absurd (omega arith)

too_short : (v t : Text) → length v < 7 → starts_with nat_eq (v ++ newline ∷ t) (codes "__END__") ≡ false
too_short v t short =
    either (starts_with nat_eq (v ++ newline ∷ t) (codes "__END__")) (starts_with nat_eq (v ++ newline ∷ t) (codes "__END__") ≡ false)
    (λ e.
    let found : get_or (codes "__END__") (length v) 0 ≡ newline = sym (starts_with_at (v ++ newline ∷ t) (codes "__END__") (length v) e short) ∙ at_length v (newline ∷ t) in
    let never = no_line (length v) short in
    let yes : (get_or (codes "__END__") (length v) 0 == newline) ≡ true = rw found refl in
    absurd (cc (yes, never)))
    (λ e. e)

none_same : (a b c d : Bool) → a ≡ false → b ≡ false → (a && c) ≡ (b && d)
none_same a b c d one two = rw (one, two) refl

abbrev ends_script : Text → Bool
ends_script word = starts_with nat_eq word (codes "__END__") && ends_line (without_blanks (drop 7 word))

word_same : (v t t' : Text) → ends_script (v ++ newline ∷ t) ≡ ends_script (v ++ newline ∷ t')
word_same v t t' =
    let x = v ++ newline ∷ t in
    let y = v ++ newline ∷ t' in
    either (nat_lt (length v) 7) (ends_script x ≡ ends_script y)
    (λ e.
    let short : length v < 7 = grind (arith, nat_tests) in
    none_same (starts_with nat_eq x (codes "__END__")) (starts_with nat_eq y (codes "__END__")) (ends_line (without_blanks (drop 7 x))) (ends_line (without_blanks (drop 7 y))) (too_short v t short) (too_short v t' short))
    (λ e.
    let long : 7 ≤ length v = grind (arith, nat_tests) in
    let starts = starts_with_more v (codes "__END__") (newline ∷ t) long ∙ sym (starts_with_more v (codes "__END__") (newline ∷ t') long) in
    let ends = ap (λ u. ends_line (without_blanks u)) (drop-append-le 7 v (newline ∷ t) long) ∙ blanks_same (drop 7 v) t t' ∙ ap (λ u. ends_line (without_blanks u)) (sym (drop-append-le 7 v (newline ∷ t') long)) in
    both_same (starts_with nat_eq x (codes "__END__")) (starts_with nat_eq y (codes "__END__")) (ends_line (without_blanks (drop 7 x))) (ends_line (without_blanks (drop 7 y))) starts ends)

end_line_same : (v t t' : Text) → is_end_line (v ++ newline ∷ t) ≡ is_end_line (v ++ newline ∷ t')
end_line_same v t t' =
    let size = prefix_len is_blank v in
    let low = prefix_len-le-length is_blank v in
    let here : without_blanks (v ++ newline ∷ t) ≡ drop size v ++ newline ∷ t = ap (λ n. drop n (v ++ newline ∷ t)) (runs is_blank v t refl) ∙ drop-append-le size v (newline ∷ t) low in
    let there : without_blanks (v ++ newline ∷ t') ≡ drop size v ++ newline ∷ t' = ap (λ n. drop n (v ++ newline ∷ t')) (runs is_blank v t' refl) ∙ drop-append-le size v (newline ∷ t') low in
    ap ends_script here ∙ word_same (drop size v) t t' ∙ ap ends_script (sym there)

choose : (m : ℕ) (a b : Bool) (one other : Piece) → a ≡ b → Keeps m one other → Keeps m (if a then EndOfScript else one) (if b then EndOfScript else other)
choose m true b one other is keeps = rw (sym is) (same EndOfScript EndOfScript refl)
choose m false b one other is keeps = rw (sym is) keeps

pub piece_keeps : (begins : Bool) (n : ℕ) (v t t' : Text) → 3 ≤ length v → Keeps (length v) (piece begins n (v ++ newline ∷ t)) (piece begins n (v ++ newline ∷ t'))
piece_keeps begins n v t t' long =
    let x = v ++ newline ∷ t in
    let y = v ++ newline ∷ t' in
    let empty : (length x == 0) ≡ (length y == 0) = not_none v t ∙ sym (not_none v t') in
    let ends = both_same begins begins (is_end_line x) (is_end_line y) refl (end_line_same v t t') in
    choose (length v) (length x == 0 || (begins && is_end_line x)) (length y == 0 || (begins && is_end_line y)) (front n x) (front n y)
    (either_same (length x == 0) (length y == 0) (begins && is_end_line x) (begins && is_end_line y) empty ends) (front_keeps n v t t' long)
