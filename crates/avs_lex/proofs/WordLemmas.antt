-- Words in a text.
use Rattle.std.proofs.Common.{◌≡◌, ◌∙◌, ℕ, zero, suc, ◌+◌, ◌-◌, ◌<◌, ◌≤◌, ap, refl, arith, [], ◌∷◌, ◌++◌, length, take, drop, get_or, Some, None, true, false, nat_eq, if◌then◌else◌, length-append}
use Rattle.std.specs.List.{starts_with}
use Rattle.std.specs.Cmp.Lexicographic.{pointwise}
use Rattle.std.proofs.lemmas.Bool.Decides.{Decides-eqb}
use Rattle.std.proofs.lemmas.Slice.Eq.{starts_is}
use Rattle.std.proofs.lemmas.List.{take-take, take-append-le, drop_more, drop_all, get_or_append_left, take_at}
use Rattle.avs_lex.proofs.TestLemmas.{by_test}
use Rattle.avs_lex.specs.Spelling.{Text, through}

pub through_here : (word rest : Text) (offset : ℕ) → offset < length rest → starts_with nat_eq (drop offset rest) word ≡ true → through word offset (drop offset rest) ≡ Some (offset + length word)
through_here word rest offset more is =
    let here : drop offset rest ≡ get_or rest offset 0 ∷ drop (offset + 1) rest = drop_more rest offset 0 more in
    let found = rw here at is in
    rw (here, found)

pub through_next : (word rest : Text) (offset : ℕ) → offset < length rest → starts_with nat_eq (drop offset rest) word ≡ false → through word offset (drop offset rest) ≡ through word (offset + 1) (drop (offset + 1) rest)
through_next word rest offset more is =
    let here : drop offset rest ≡ get_or rest offset 0 ∷ drop (offset + 1) rest = drop_more rest offset 0 more in
    let missed = rw here at is in
    rw (here, missed)

pub through_over : (word rest : Text) (offset : ℕ) → length rest ≤ offset → through word offset (drop offset rest) ≡ None
through_over word rest offset over = let none : drop offset rest ≡ [] = drop_all offset rest over in rw none

pub ruleset steps = (through_here, through_next, through_over)

-- what a text that begins with a word is
pub starts_with_is : (rest word : Text) → starts_with nat_eq rest word ≡ true → rest ≡ word ++ drop (length word) rest
starts_with_is rest word is = (starts_is Decides-eqb rest word (starts_with nat_eq rest word) refl).0 is

pub starts_with_from : (rest word after : Text) → rest ≡ word ++ after → starts_with nat_eq rest word ≡ true
starts_with_from rest word after is = (starts_is Decides-eqb rest word (starts_with nat_eq rest word) refl).1 after is

pub starts_with_long : (rest word : Text) → starts_with nat_eq rest word ≡ true → length word ≤ length rest
starts_with_long rest word is = omega (arith, ap length (starts_with_is rest word is), length-append word (drop (length word) rest))

pub starts_with_at : (rest word : Text) (k : ℕ) → starts_with nat_eq rest word ≡ true → k < length word → get_or rest k 0 ≡ get_or word k 0
starts_with_at rest word k is low = ap (λ t. get_or t k 0) (starts_with_is rest word is) ∙ get_or_append_left word (drop (length word) rest) 0 k low

pub starts_with_take : (rest word : Text) → starts_with nat_eq rest word ≡ true → take (length word) rest ≡ word
starts_with_take rest word is = ap (take (length word)) (starts_with_is rest word is) ∙ take_at word (drop (length word) rest) (length word) refl

-- the word ends at an offset, and begins at or after another one
pub record EndsAt (word : Text) (from : ℕ) (rest : Text) (end : ℕ) : Type 0 where
  pub after : from + length word ≤ end
  pub within : end ≤ from + length rest
  pub starts : starts_with nat_eq (drop (end - from - length word) rest) word ≡ true

pub through_found : (word : Text) (from : ℕ) (rest : Text) (end : ℕ) → through word from rest ≡ Some end → EndsAt word from rest end
through_found word from [] end is = cc
through_found word from (c ∷ rest) end is =
    by_test (starts_with nat_eq (c ∷ rest) word) (λ b. (if b then Some (from + length word) else through word (from + 1) rest) ≡ Some end → EndsAt word from (c ∷ rest) end)
    (λ found is.
    let e : from + length word ≡ end = cc in
    let none : end - from - length word ≡ 0 = omega arith in
    record { after = omega arith; within = omega (arith, starts_with_long (c ∷ rest) word found); starts = rw none found })
    (λ missed is.
    let next = through_found word (from + 1) rest end is in
    let later : end - from - length word ≡ suc (end - (from + 1) - length word) = omega (arith, next.after) in
    record { after = omega (arith, next.after); within = omega (arith, next.within); starts = rw later next.starts })
    is

-- a text that begins with a word also begins with it where the text is cut after the word, or is longer
pub starts_with_cut : (text word : Text) (size : ℕ) → length word ≤ size → starts_with nat_eq (take size text) word ≡ starts_with nat_eq text word
starts_with_cut text word size long = ap (λ t. pointwise nat_eq word t) (take-take (length word) size text long)

pub starts_with_more : (text word rest : Text) → length word ≤ length text → starts_with nat_eq (text ++ rest) word ≡ starts_with nat_eq text word
starts_with_more text word rest long = ap (λ t. pointwise nat_eq word t) (take-append-le (length word) text rest long)

pub through_cut : (word : Text) (from : ℕ) (text : Text) (end size : ℕ) → through word from text ≡ Some end → 0 < length word → from + size ≡ end → through word from (take size text) ≡ Some end
through_cut word from [] end size is some at = cc
through_cut word from (c ∷ text) end zero is some at = absurd (omega (arith, (through_found word from (c ∷ text) end is).after))
through_cut word from (c ∷ text) end (suc size) is some at =
    let found = through_found word from (c ∷ text) end is in
    let same : starts_with nat_eq (c ∷ take size text) word ≡ starts_with nat_eq (c ∷ text) word = starts_with_cut (c ∷ text) word (suc size) (omega (arith, found.after)) in
    rw same (by_test (starts_with nat_eq (c ∷ text) word)
    (λ b. (if b then Some (from + length word) else through word (from + 1) text) ≡ Some end → (if b then Some (from + length word) else through word (from + 1) (take size text)) ≡ Some end)
    (λ _ is. is)
    (λ _ is. through_cut word (from + 1) text end size is some (omega arith)) is)

-- what follows changes nothing where the word is found
pub through_more : (word : Text) (from : ℕ) (text rest : Text) (end : ℕ) → through word from text ≡ Some end → through word from (text ++ rest) ≡ Some end
through_more word from [] rest end is = cc
through_more word from (c ∷ text) rest end is =
    let found = through_found word from (c ∷ text) end is in
    let same : starts_with nat_eq (c ∷ (text ++ rest)) word ≡ starts_with nat_eq (c ∷ text) word = starts_with_more (c ∷ text) word rest (omega (arith, found.after, found.within)) in
    rw same (by_test (starts_with nat_eq (c ∷ text) word)
    (λ b. (if b then Some (from + length word) else through word (from + 1) text) ≡ Some end → (if b then Some (from + length word) else through word (from + 1) (text ++ rest)) ≡ Some end)
    (λ _ is. is)
    (λ _ is. through_more word (from + 1) text rest end is) is)
