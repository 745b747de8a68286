-- A rate with a part of 0.
use Rattle.std.proofs.Common.{◌≡◌, ℕ, ◌/◌, ap, arith, refl, ◌⊎◌}
use Rattle.std.specs.Prelude.{min}
use Rattle.fv_plane.specs.Info.{Rate, common_divisor, gcd, lowest}

abbrev pub rate : ℕ → ℕ → Rate
rate num den = record { num = num; den = den }

none_common : (a b : ℕ) → min a b ≡ 0 → gcd a b ≡ 1
unfolding gcd
none_common a b e = ap (λ n. common_divisor a b n) e

by_one : (n : ℕ) → n / 1 ≡ n
by_one n = omega arith

divided : (n d : ℕ) → d ≡ 1 → n / d ≡ n
divided n d e = rw e (by_one n)

pub stays : (a b : ℕ) → a ≡ 0 ⊎ b ≡ 0 → rate a b ≡ lowest (rate a b)
stays a b e =
    let one = none_common a b (omega arith) in
    let num = divided a (gcd a b) one in
    let den = divided b (gcd a b) one in
    rw (num, den) refl
