-- The number that digits write.
use Rattle.std.proofs.Common.{nat_lt, false, length, get_or, drop, drop-cons, ◌≡◌, ℕ, ◌+◌, ◌*◌, ◌<◌, ◌≤◌, ◌^◌, [], ◌∷◌, fold, Some, None, pos, arith, true, take, if◌then◌else◌, suc, refl, Bool, cond, lit<}
use Rattle.avs_lex.proofs.TestLemmas.{by_test}
use Rattle.std.specs.List.{list_all, prefix_len}
use Rattle.std.proofs.Math.Nat.{pow-le-pow_right}
use Rattle.std.specs.Char.{digit_value, is_ascii_hexdigit}
use Rattle.std.proofs.lemmas.Grind.{common_steps}
use Rattle.std.proofs.lemmas.Bool.Decides.{nat_tests}
use Rattle.avs_lex.specs.Spelling.{Text, is_number, hexadecimal_digits}

-- more digits write no smaller number
pub grows : (n : ℕ) (digits : Text) → n ≤ fold (λ n c. 10 * n + digit_value c) n digits
grows n [] = omega arith
grows n (d ∷ digits) = omega (arith, grows (10 * n + digit_value d) digits)

-- the digit at a place is read into the number
pub further : (n : ℕ) (digits : Text) (i : ℕ) → i < length digits → 10 * n + digit_value (get_or digits i 0) ≤ fold (λ n c. 10 * n + digit_value c) n (drop i digits)
further n digits i inside = rw (drop-cons digits i 0) (grows (10 * n + digit_value (get_or digits i 0)) (drop (suc i) digits))

-- a number over the bound stays over it
pub too_large : (n number : ℕ) → ¬ (n < 2 ^ 64) → n ≤ number → (if is_number (pos number) then Some (pos number) else None) ≡ None
too_large n number past more = let large : 2 ^ 64 ≤ n = grind arith in let no : nat_lt number (2 ^ 63) ≡ false = grind (arith, nat_tests) in rw no

pub hexdigit_value : (c : ℕ) → is_ascii_hexdigit c ≡ true → digit_value c < 16
hexdigit_value c is = grind (arith, nat_tests)

pub list_all-taken : (p : ℕ → Bool) (rest : Text) → list_all p (take (prefix_len p rest) rest) ≡ true
list_all-taken p [] = refl
list_all-taken p (c ∷ rest) =
    by_test (p c) (λ b. list_all p (take (cond b (1 + prefix_len p rest) 0) (c ∷ rest)) ≡ true)
    (λ is. let e : 1 + prefix_len p rest ≡ suc (prefix_len p rest) = omega arith in rw (e, is) (list_all-taken p rest))
    (λ _. refl)

-- the bound of a number of n hexadecimal digits, and of one digit more
pub sixteen_times : (n d i : ℕ) → n < 16 ^ i → d < 16 → 16 * n + d < 16 ^ (i + 1)
sixteen_times n d i small digit = grind (arith, common_steps)

pub sixteen_digits : (n i : ℕ) → n < 16 ^ i → i ≤ hexadecimal_digits → n < 2 ^ 64
sixteen_digits n i small few = let most : 16 ^ i ≤ 16 ^ 16 = pow-le-pow_right (lit< tt) few in omega (arith, most)
