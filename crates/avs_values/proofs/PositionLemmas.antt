-- The place of a text in another, by its bytes and by its characters.
use Rattle.std.proofs.Common.{◌≡◌, ℕ, suc, ◌+◌, ◌<◌, ◌≤◌, List, [], ◌∷◌, ◌++◌, length, take, drop, Bool, true, false, arith, refl, ap, sym, ◌∙◌, take-append-drop, length-append, length-drop, length-take, nat_eq, IsUtf8, None}
use Rattle.std.specs.List.{starts_with}
use Rattle.std.specs.Str.{chars, encode_utf8_all}
use Rattle.std.specs.Str.Pattern.{FindsText, LacksTextAt, MatchBeginsAt}
use Rattle.std.proofs.lemmas.Bool.Decides.{Decides-eqb, nat_tests}
use Rattle.std.proofs.lemmas.List.{take-append-le, drop_at}
use Rattle.std.proofs.lemmas.Slice.Eq.{starts_is}
use Rattle.std.proofs.lemmas.Str.{chars-append, encodes-append, encodes-chars, length-le-encodes, IsUtf8-take}
use Rattle.avs_values.proofs.CharacterLemmas.{parts}
use Rattle.avs_values.specs.Functions.{first, after, position_from}
use Rattle.avs_values.specs.Values.{Text}

begins : (cs ws : List ℕ) → (starts_with nat_eq cs ws ≡ true → cs ≡ ws ++ drop (length ws) cs) × ((rest : List ℕ) → cs ≡ ws ++ rest → starts_with nat_eq cs ws ≡ true)
begins cs ws = starts_is {A = ℕ} {E = nat_eq} Decides-eqb cs ws (starts_with nat_eq cs ws) refl

false_unless : (b : Bool) → (b ≡ true → ⊥) → b ≡ false
false_unless true never = absurd (never refl)
false_unless false never = refl

-- a text has no more characters than bytes
pub few_characters : (t : Text) → IsUtf8 t → length (chars t) ≤ length t
few_characters t utf8 = omega (arith, length-le-encodes (chars t), ap length (encodes-chars t utf8))

-- ---- characters among others

nowhere : (ws cs : List ℕ) (k : ℕ) → ((i : ℕ) → i ≤ length cs → starts_with nat_eq (drop i cs) ws ≡ false) → position_from k ws cs ≡ 0
nowhere [] [] k never = let wrong : true ≡ false = never 0 (omega arith) in absurd (cc)
nowhere (w ∷ ws) [] k never = grind (arith, nat_tests)
nowhere ws (c ∷ cs) k never = rw (never 0 (omega arith)) (nowhere ws cs (k + 1) (λ i le. never (suc i) (omega arith)))

somewhere : (ws xs ys : List ℕ) (k : ℕ) → ((i : ℕ) → i < length xs → starts_with nat_eq (drop i (xs ++ ys)) ws ≡ false) → starts_with nat_eq ys ws ≡ true → position_from k ws (xs ++ ys) ≡ k + length xs
somewhere [] [] [] k never at = omega arith
somewhere (w ∷ ws) [] [] k never at = absurd (cc)
somewhere ws [] (c ∷ cs) k never at = rw at (omega arith)
somewhere ws (x ∷ xs) ys k never at = rw (never 0 (omega arith)) (somewhere ws xs ys (k + 1) (λ i le. never (suc i) (omega arith)) at ∙ omega arith)

-- ---- the same by bytes

-- Where characters of the text stand, their bytes stand.
bytes_at : (t w : Text) (i : ℕ) → IsUtf8 t → IsUtf8 w → starts_with nat_eq (drop i (chars t)) (chars w) ≡ true
    → drop (length (first i t)) t ≡ w ++ encode_utf8_all (drop (length (chars w)) (drop i (chars t)))
bytes_at t w i utf8 w_utf8 at =
    let rest = drop (length (chars w)) (drop i (chars t)) in
    let split : drop i (chars t) ≡ chars w ++ rest = (begins (drop i (chars t)) (chars w)).0 at in
    let cut : drop (length (first i t)) t ≡ after i t = ap (drop (length (first i t))) (parts t i utf8) ∙ drop_at (first i t) (after i t) (length (first i t)) refl in
    let spelled : encode_utf8_all (chars w ++ rest) ≡ w ++ encode_utf8_all rest = encodes-append (chars w) rest ∙ ap (λ (x : Text). x ++ encode_utf8_all rest) (encodes-chars w w_utf8) in
    cut ∙ ap encode_utf8_all split ∙ spelled

lacks : (t w : Text) (i : ℕ) → IsUtf8 t → IsUtf8 w → LacksTextAt w t (length (first i t)) → starts_with nat_eq (drop i (chars t)) (chars w) ≡ false
lacks t w i utf8 w_utf8 lacking = false_unless (starts_with nat_eq (drop i (chars t)) (chars w)) (λ at. lacking (encode_utf8_all (drop (length (chars w)) (drop i (chars t)))) (bytes_at t w i utf8 w_utf8 at))

within : (t : Text) (i : ℕ) → IsUtf8 t → length (first i t) ≤ length t
within t i utf8 = omega (arith, length-append (first i t) (after i t), ap length (parts t i utf8))

pub not_found : (t w : Text) → IsUtf8 t → IsUtf8 w → FindsText w t None → 0 ≡ position_from 1 (chars w) (chars t)
not_found t w utf8 w_utf8 never = sym (nowhere (chars w) (chars t) 1 (λ i le. lacks t w i utf8 w_utf8 (never (length (first i t)) (within t i utf8))))

shorter : (xs : List ℕ) (i : ℕ) → i < length xs → length (encode_utf8_all (take i xs)) < length (encode_utf8_all xs)
shorter xs i inside =
    let whole : encode_utf8_all (take i xs) ++ encode_utf8_all (drop i xs) ≡ encode_utf8_all xs = sym (encodes-append (take i xs) (drop i xs)) ∙ ap encode_utf8_all (take-append-drop i xs) in
    omega (arith, ap length whole, length-append (encode_utf8_all (take i xs)) (encode_utf8_all (drop i xs)), length-le-encodes (drop i xs), length-drop i xs)

-- The first place by bytes is the first by characters.
pub found : (t w : Text) (start : ℕ) → IsUtf8 t → IsUtf8 w → MatchBeginsAt (FindsText w) t start → length (chars (take start t)) + 1 ≡ position_from 1 (chars w) (chars t)
found t w start utf8 w_utf8 match =
    let front : IsUtf8 (take start t) = IsUtf8-take t start utf8 match.3 in
    let xs = chars (take start t) in
    let ys = chars (drop start t) in
    let split : chars t ≡ xs ++ ys = ap chars (sym (take-append-drop start t)) ∙ chars-append (take start t) (drop start t) front in
    let at : ys ≡ chars w ++ chars (drop match.0 t) = ap chars match.1.1.split ∙ chars-append w (drop match.0 t) w_utf8 in
    let size : length (encode_utf8_all xs) ≡ start = ap length (encodes-chars (take start t) front) ∙ omega (arith, length-take start t, match.3.0) in
    let before : (i : ℕ) → i < length xs → length (first i t) < start = λ i inside.
    let same : first i t ≡ encode_utf8_all (take i xs) = ap (λ (cs : List ℕ). encode_utf8_all (take i cs)) split ∙ ap encode_utf8_all (take-append-le i xs ys (omega arith)) in
    omega (arith, ap length same, shorter xs i inside, size) in
    let never : (i : ℕ) → i < length xs → starts_with nat_eq (drop i (xs ++ ys)) (chars w) ≡ false = λ i inside.
    rw split at (lacks t w i utf8 w_utf8 (match.1.0 (length (first i t)) (before i inside))) in
    rw split (omega (arith, somewhere (chars w) xs ys 1 never ((begins ys (chars w)).1 (chars (drop match.0 t)) at)))
