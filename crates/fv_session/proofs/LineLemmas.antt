-- The first newline of bytes, of a prefix of them and of longer bytes.
use Rattle.std.proofs.Common.{◌≡◌, ℕ, zero, suc, ◌+◌, ◌<◌, ◌≤◌, min, List, [], ◌∷◌, ◌++◌, length, take, Some, None, Bool, true, false, not, cond, inl, inr, refl, sym, ◌∙◌, ap, arith}
use Rattle.std.specs.List.{position, position_or_len}
use Rattle.std.proofs.lemmas.List.{length-take, take-append-le}
use Rattle.std.proofs.lemmas.List.Sums.{position_or_len_is}
use Rattle.std.proofs.lemmas.List.Quantifiers.{position-Some}
use Rattle.std.proofs.lemmas.Bool.{cases_lt, lt-ltb}

module _ (p : ℕ → Bool) where
  pub position_or_len-take : (n : ℕ) (xs : List ℕ) → position_or_len p (take n xs) ≡ min n (position_or_len p xs)
  position_or_len-take zero xs = omega arith
  position_or_len-take (suc n) [] = omega arith
  position_or_len-take (suc n) (x ∷ xs) = by_test (p x) (position_or_len-take n xs)
    where
      by_test : (test : Bool) → position_or_len p (take n xs) ≡ min n (position_or_len p xs) → cond (not test) (1 + position_or_len p (take n xs)) 0 ≡ min (suc n) (cond (not test) (1 + position_or_len p xs) 0)
      by_test true rest = omega arith
      by_test false rest = omega arith

  pub position_or_len-append : (xs ys : List ℕ) → position_or_len p xs < length xs → position_or_len p (xs ++ ys) ≡ position_or_len p xs
  position_or_len-append [] ys inside = absurd (omega arith)
  position_or_len-append (x ∷ xs) ys inside = by_test (p x) inside (position_or_len-append xs ys)
    where
      by_test : (test : Bool) → cond (not test) (1 + position_or_len p xs) 0 < suc (length xs) → (position_or_len p xs < length xs → position_or_len p (xs ++ ys) ≡ position_or_len p xs)
          → cond (not test) (1 + position_or_len p (xs ++ ys)) 0 ≡ cond (not test) (1 + position_or_len p xs) 0
      by_test true inside rest = refl
      by_test false inside rest = let same = rest (omega arith) in omega arith

  pub position_or_len-most : (xs : List ℕ) → position_or_len p xs ≤ length xs
  position_or_len-most [] = omega arith
  position_or_len-most (x ∷ xs) = by_test (p x) (position_or_len-most xs)
    where
      by_test : (test : Bool) → position_or_len p xs ≤ length xs → cond (not test) (1 + position_or_len p xs) 0 ≤ suc (length xs)
      by_test true rest = omega arith
      by_test false rest = omega arith

  some_at : (xs : List ℕ) (end : ℕ) → position p xs ≡ Some end → (end ≡ position_or_len p xs) × (end < length xs)
  some_at xs end is =
      let found = position-Some p xs end 0 is in
      (sym (position_or_len_is p xs end 0 (omega (arith, found.0)) found.2 (λ inside. found.1)), found.0)

  none_at : (xs : List ℕ) → position p xs ≡ None → length xs ≤ position_or_len p xs
  none_at xs is = elim (cases_lt (position_or_len p xs) (length xs)) [
    | inl inside ↦ absurd (let found = rw (lt-ltb (position_or_len p xs) (length xs) inside) at is in let no : ⊥ = cc in no)
    | inr past ↦ past
  ]

  -- the first place is found among the first n
  pub found_early : (n : ℕ) (xs more : List ℕ) (end : ℕ) → position p (take n xs) ≡ Some end → (position_or_len p (xs ++ more) ≡ end) × (end < length xs) × (end < n)
  found_early n xs more end is =
      let found = some_at (take n xs) end is in
      let front = position_or_len-take n xs in
      let size = length-take n xs in
      let here : position_or_len p xs ≡ end = omega (arith, found.0, found.1, front, size) in
      let inside : end < length xs = omega (arith, found.1, size) in
      (position_or_len-append xs more (omega (arith, here, inside)) ∙ here, inside, omega (arith, found.1, size))

  -- there is none among the first n of many
  pub none_early : (n : ℕ) (xs more : List ℕ) → position p (take n xs) ≡ None → n ≤ length xs → n ≤ position_or_len p (xs ++ more)
  none_early n xs more is many =
      let past = none_at (take n xs) is in
      let size = length-take n xs in
      let all = position_or_len-take n (xs ++ more) in
      let same : position_or_len p (take n (xs ++ more)) ≡ position_or_len p (take n xs) = ap (position_or_len p) (take-append-le n xs more many) in
      omega (arith, past, size, all, same)

  -- there is none in few
  pub none_in_few : (n : ℕ) (xs : List ℕ) → position p (take n xs) ≡ None → length xs ≤ n → position_or_len p xs ≡ length xs
  none_in_few n xs is few =
      let past = none_at (take n xs) is in
      let size = length-take n xs in
      let all = position_or_len-take n xs in
      let most = position_or_len-most xs in
      omega (arith, past, size, all, most)
