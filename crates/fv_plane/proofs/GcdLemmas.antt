-- The greatest common divisor, and a rate in lowest terms.
use Rattle.std.proofs.Common.{◌≡◌, ℕ, zero, suc, ◌+◌, ◌*◌, ◌/◌, ◌%◌, ◌^◌, ◌<◌, ◌≤◌, Bool, true, false, ◌&&◌, inl, inr, ◌==◌, if◌then◌else◌, refl, ◌∙◌, ap, arith, eq-eqb, eqb-true, subst}
use Rattle.std.specs.Prelude.{min}
use Rattle.std.specs.Int.{◌∣◌, IsGcd}
use Rattle.std.proofs.lemmas.Nat.Gcd.{IsGcd-from_zero, IsGcd-from_mod, le_from_IsGcd, le_of_dvd, dvd_of_mod-eq-zero, mod-eq-zero_of_dvd}
use Rattle.std.proofs.Math.Nat.{eq-zero_of_zero-dvd, mul-div_cancel', mul-dvd-mul_left, one-dvd}
use Rattle.std.proofs.lemmas.Bool.{and_parts, and_from, cases_lt}
use Rattle.std.proofs.lemmas.Nat.{mul-le}
use Rattle.fv_plane.specs.Info.{IsRate, common_divisor, gcd}

record Divisor (a b : ℕ) : Type 0 where
  pub value : ℕ
  pub is : IsGcd a b value

divisor_by : (steps a b : ℕ) → b < steps → Divisor a b
divisor_by zero a b h = absurd (omega arith)
divisor_by (suc steps) a b h = elim (cases_lt 0 b) [
  | inl more ↦ (let rest = divisor_by steps b (a % b) (omega arith) in record { value = rest.value; is = IsGcd-from_mod a b rest.value rest.is })
  | inr none ↦ record { value = a; is = IsGcd-from_zero a b (omega arith) }
]

module _ (a b g : ℕ) (is : IsGcd a b g) (some : 0 < a) (more : 0 < b) where
  pub positive : 0 < g
  positive = elim (cases_lt 0 g) [
    | inl more ↦ more
    | inr none ↦ absurd (let zero_is : g ≡ 0 = omega arith in let no : a ≡ 0 = eq-zero_of_zero-dvd (rw zero_is at is.0) in omega arith)
  ]

  abbrev divides : ℕ → Bool
  divides n = a % n == 0 && b % n == 0

  g_divides : divides g ≡ true
  g_divides = and_from (a % g == 0) (b % g == 0) (eq-eqb (a % g) 0 (mod-eq-zero_of_dvd g is.0)) (eq-eqb (b % g) 0 (mod-eq-zero_of_dvd g is.1))

  no_greater : (n : ℕ) → divides n ≡ true → n ≤ g
  no_greater n both =
      let parts = and_parts (a % n == 0) (b % n == 0) both in
      le_from_IsGcd a b g n is positive (dvd_of_mod-eq-zero n (eqb-true (a % n) 0 parts.0)) (dvd_of_mod-eq-zero n (eqb-true (b % n) 0 parts.1))

  by_test : (n : ℕ) (test : Bool) → divides (suc n) ≡ test → g ≤ suc n → (g ≤ n → common_divisor a b n ≡ g) → (if test then suc n else common_divisor a b n) ≡ g
  by_test n true both few less = (let most = no_greater (suc n) both in omega arith)
  by_test n false other few less = less (elim (cases_lt g (suc n)) [
    | inl before ↦ omega arith
    | inr past ↦ absurd (let same : g ≡ suc n = omega arith in let yes : divides (suc n) ≡ true = subst (λ (m : ℕ). divides m ≡ true) same g_divides in let no : ⊥ = cc in no)
  ])

  found : (n : ℕ) → g ≤ n → common_divisor a b n ≡ g
  found zero few = absurd (let more = positive in omega arith)
  found (suc n) few = by_test n (divides (suc n)) refl few (found n)

  pub gcd_found : gcd a b ≡ g
  unfolding gcd
  gcd_found = let e = le_of_dvd some is.0 in let f = le_of_dvd more is.1 in found (min a b) (omega arith)

  quotient : (n : ℕ) → g ∣ n → 0 < n → 0 < n / g
  quotient n whole more = elim (cases_lt 0 (n / g)) [
    | inl more ↦ more
    | inr none ↦ absurd (let zero_is : n / g ≡ 0 = omega arith in let same : g * (n / g) ≡ n = mul-div_cancel' g whole in let no : g * 0 ≡ n = rw zero_is at same in omega arith)
  ]

  coprime : (d : ℕ) → d ∣ a / g → d ∣ b / g → d ∣ 1
  coprime d first second =
      let whole : g * d ∣ g = is.2 (g * d) (rw (mul-div_cancel' g is.0) at (mul-dvd-mul_left d g first)) (rw (mul-div_cancel' g is.1) at (mul-dvd-mul_left d g second)) in
      let few : g * d ≤ g = le_of_dvd positive whole in
      let more = positive in
      elim (cases_lt 1 d) [
        | inl great ↦ absurd (let twice : g * 2 ≤ g * d = mul-le g 2 g d (omega arith) (omega arith) in omega arith)
        | inr small ↦ elim (cases_lt 0 d) [
          | inl some_d ↦ (let one : 1 ≡ d = omega arith in subst (λ (n : ℕ). n ∣ 1) one (one-dvd 1))
          | inr none ↦ absurd (let zero_d : d ≡ 0 = omega arith in let no : g ≡ 0 = eq-zero_of_zero-dvd (let none_is : g * d ≡ 0 = ap (λ n. g * n) zero_d ∙ omega arith in rw none_is at whole) in omega arith)
        ]
      ]

  reduced : a / g < 2 ^ 31 → b / g < 2 ^ 31 → IsRate (a / g) (b / g)
  reduced few small = record {
    some_num = quotient a is.0 some;
    some_den = quotient b is.1 more;
    most_num = few;
    most_den = small;
    lowest = (one-dvd (a / g), one-dvd (b / g), coprime);
  }

-- two parts over their greatest common divisor are a rate, where they are small
pub lowest_terms : (a b : ℕ) → 0 < a → 0 < b → a / gcd a b < 2 ^ 31 → b / gcd a b < 2 ^ 31 → IsRate (a / gcd a b) (b / gcd a b)
lowest_terms a b some more few small =
    let d = divisor_by (b + 1) a b (omega arith) in
    let e = gcd_found a b d.value d.is some more in
    rw e (reduced a b d.value d.is some more (rw e at few) (rw e at small))
