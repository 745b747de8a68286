-- The characters of a text and the bytes that spell them.
use Rattle.std.proofs.Common.{◌≡◌, ℕ, suc, zero, ◌+◌, ◌-◌, ◌≤◌, List, [], ◌∷◌, ◌++◌, length, take, drop, reverse, arith, refl, ap, sym, ◌∙◌, append_assoc, take-append-drop, length-append, length-drop, IsUtf8, slice_range}
use Rattle.std.specs.Char.{encode_utf8}
use Rattle.std.specs.Str.{chars, encode_utf8_all, IsCharBoundary}
use Rattle.std.proofs.Math.ListN.{drop_of_length-le}
use Rattle.std.proofs.lemmas.List.{reverse-append, reverse-reverse, take_at, append-nil}
use Rattle.std.proofs.lemmas.Str.{chars_from_encodes, cons_from_encodes, encodes-append, encodes-chars, length-le-encodes, IsCharBoundary-at_seam}
use Rattle.avs_values.specs.Functions.{first, after}
use Rattle.avs_values.specs.Values.{Text}

-- ---- a text in two parts

-- one character further on
drop_one : (cs es : List ℕ) (k c : ℕ) → drop k cs ≡ c ∷ es → drop (k + 1) cs ≡ es
drop_one [] es zero c is = absurd (cc)
drop_one [] es (suc k) c is = absurd (cc)
drop_one (x ∷ cs) es zero c is = cc
drop_one (x ∷ cs) es (suc k) c is = let more : suc k + 1 ≡ suc (k + 1) = omega arith in rw more (drop_one cs es k c is)

pub one_more : (cs rest : Text) (k c : ℕ) → encode_utf8_all (drop k cs) ≡ encode_utf8 c ++ rest → rest ≡ encode_utf8_all (drop (k + 1) cs)
one_more cs rest k c is = let split = cons_from_encodes (drop k cs) rest c is in rw (drop_one cs split.0 k c split.1) (sym split.2)

empty_from_length : (cs : List ℕ) → length cs ≡ 0 → cs ≡ []
empty_from_length [] none = refl
empty_from_length (c ∷ cs) none = absurd (omega arith)

pub whole : (t rest : Text) → IsUtf8 t → rest ≡ t → rest ≡ encode_utf8_all (chars t)
whole t rest utf8 is = is ∙ sym (encodes-chars t utf8)

-- no characters are left
pub none_left : (cs : List ℕ) (k n : ℕ) → length (encode_utf8_all (drop k cs)) ≡ 0 → k ≤ n → encode_utf8_all (drop n cs) ≡ []
none_left cs k n none le =
    let few : length cs ≤ n = omega (arith, length-le-encodes (drop k cs), length-drop k cs) in
    rw (drop_of_length-le cs few)

pub parts : (t : Text) (n : ℕ) → IsUtf8 t → t ≡ first n t ++ after n t
parts t n utf8 = sym (sym (encodes-append (take n (chars t)) (drop n (chars t))) ∙ ap encode_utf8_all (take-append-drop n (chars t)) ∙ encodes-chars t utf8)

first_size : (t : Text) (n : ℕ) → IsUtf8 t → length t - length (after n t) ≡ length (first n t)
first_size t n utf8 = omega (arith, length-append (first n t) (after n t), ap length (parts t n utf8))

-- the first characters end where the others begin
pub ends_first : (t rest : Text) (n : ℕ) → IsUtf8 t → IsUtf8 rest → rest ≡ after n t → IsCharBoundary t (length t - length rest)
ends_first t rest n utf8 rest_utf8 is = rw (is, first_size t n utf8) (IsCharBoundary-at_seam t (first n t) (after n t) (parts t n utf8) (rw is at rest_utf8))

pub takes_first : (t rest : Text) (n : ℕ) → IsUtf8 t → rest ≡ after n t → slice_range t 0 (length t - length rest) ≡ first n t
takes_first t rest n utf8 is =
    let size : length t - length rest - 0 ≡ length (first n t) = omega (arith, first_size t n utf8, ap length is) in
    rw size (ap (take (length (first n t))) (parts t n utf8) ∙ take_at (first n t) (after n t) (length (first n t)) refl)

pub is_part : (t rest : Text) (n : ℕ) → IsUtf8 t → rest ≡ after n t → length rest ≤ length t
is_part t rest n utf8 is = omega (arith, length-append (first n t) (after n t), ap length (parts t n utf8), ap length is)

-- ---- a text from its end

pub one_back : (rest front t : Text) (cs : List ℕ) (c : ℕ) → rest ++ encode_utf8_all (reverse cs) ≡ t → rest ≡ front ++ encode_utf8 c → front ++ encode_utf8_all (reverse (cs ++ c ∷ [])) ≡ t
one_back rest front t cs c is split = rw (reverse-append cs (c ∷ []), ← append_assoc, ← split) is

-- with one character more at its end
pub one_pushed : (made : Text) (cs : List ℕ) (c : ℕ) → made ≡ encode_utf8_all cs ++ encode_utf8 c → made ≡ encode_utf8_all (cs ++ c ∷ [])
one_pushed made cs c is = rw (encodes-append cs (c ∷ []), append-nil (encode_utf8 c)) is

pub all_back : (rest t : Text) (cs : List ℕ) → IsUtf8 t → length rest ≡ 0 → rest ++ encode_utf8_all (reverse cs) ≡ t → encode_utf8_all cs ≡ encode_utf8_all (reverse (chars t))
all_back rest t cs utf8 none is =
    let whole : encode_utf8_all (reverse cs) ≡ t = rw (empty_from_length rest none) at is in
    let back : reverse cs ≡ chars t = chars_from_encodes (reverse cs) t utf8 whole in
    ap encode_utf8_all (sym (reverse-reverse cs) ∙ ap reverse back)
