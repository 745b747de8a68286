-- The first newline of bytes, of a prefix of them and of longer bytes.
use Rattle.std.proofs.Common.{◌≡◌, ℕ, zero, suc, ◌+◌, ◌<◌, ◌≤◌, min, List, [], ◌∷◌, ◌++◌, length, take, Some, None, Bool, true, false, not, cond, inl, inr, refl, sym, ◌∙◌, ap, arith}
use Rattle.std.specs.List.{position, position_or_len, before_first}
use Rattle.std.proofs.lemmas.List.{length-take, take-append-le}
use Rattle.std.proofs.lemmas.List.Sums.{position_or_len_is}
use Rattle.std.proofs.lemmas.List.Quantifiers.{position-Some}
use Rattle.std.proofs.lemmas.Bool.{cases_lt, lt-ltb}
use Rattle.y4m_stream.specs.Stream.{is_newline}

module _ (p : ℕ → Bool) where
  -- the first place in a prefix
  pub position_or_len-take : (n : ℕ) (xs : List ℕ) → position_or_len p (take n xs) ≡ min n (position_or_len p xs)
  position_or_len-take zero xs = omega arith
  position_or_len-take (suc n) [] = omega arith
  position_or_len-take (suc n) (x ∷ xs) = by_test (p x) (position_or_len-take n xs)
    where
      by_test : (test : Bool) → position_or_len p (take n xs) ≡ min n (position_or_len p xs) → cond (not test) (1 + position_or_len p (take n xs)) 0 ≡ min (suc n) (cond (not test) (1 + position_or_len p xs) 0)
      by_test true rest = omega arith
      by_test false rest = omega arith

  -- the first place in longer bytes
  pub position_or_len-append : (xs ys : List ℕ) → position_or_len p xs < length xs → position_or_len p (xs ++ ys) ≡ position_or_len p xs
  position_or_len-append [] ys inside = absurd (omega arith)
  position_or_len-append (x ∷ xs) ys inside = by_test (p x) inside (position_or_len-append xs ys)
    where
      by_test : (test : Bool) → cond (not test) (1 + position_or_len p xs) 0 < suc (length xs) → (position_or_len p xs < length xs → position_or_len p (xs ++ ys) ≡ position_or_len p xs)
          → cond (not test) (1 + position_or_len p (xs ++ ys)) 0 ≡ cond (not test) (1 + position_or_len p xs) 0
      by_test true inside rest = refl
      by_test false inside rest = let same = rest (omega arith) in omega arith

  pub some_at : (xs : List ℕ) (end : ℕ) → position p xs ≡ Some end → (end ≡ position_or_len p xs) × (end < length xs)
  some_at xs end is =
      let found = position-Some p xs end 0 is in
      (sym (position_or_len_is p xs end 0 (omega (arith, found.0)) found.2 (λ inside. found.1)), found.0)

  pub none_at : (xs : List ℕ) → position p xs ≡ None → length xs ≤ position_or_len p xs
  none_at xs is = elim (cases_lt (position_or_len p xs) (length xs)) [
    | inl inside ↦ absurd (let found = rw (lt-ltb (position_or_len p xs) (length xs) inside) at is in let no : ⊥ = cc in no)
    | inr past ↦ past
  ]

-- the first newline is found where it is early enough for a head
pub line_found : (bytes : List ℕ) (end : ℕ) → position is_newline (take 4096 bytes) ≡ Some end → (end ≡ position_or_len is_newline bytes) × (end < length bytes) × (end < 4096)
line_found bytes end is =
    let found = some_at is_newline (take 4096 bytes) end is in
    let front = position_or_len-take is_newline 4096 bytes in
    let size = length-take 4096 bytes in
    (omega (arith, found.0, found.1, front, size), omega (arith, found.1, size), omega (arith, found.1, size))

-- the first line of longer bytes
pub same_line : (told bytes rest : List ℕ) → told ≡ bytes ++ rest → position_or_len is_newline bytes < length bytes → (position_or_len is_newline told ≡ position_or_len is_newline bytes) × (before_first is_newline told ≡ before_first is_newline bytes)
same_line told bytes rest is inside =
    let same : position_or_len is_newline told ≡ position_or_len is_newline bytes = ap (position_or_len is_newline) is ∙ position_or_len-append is_newline bytes rest inside in
    (same, ap (λ n. take n told) same ∙ ap (λ (l : List ℕ). take (position_or_len is_newline bytes) l) is ∙ take-append-le (position_or_len is_newline bytes) bytes rest (omega arith))
