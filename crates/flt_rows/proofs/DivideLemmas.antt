-- A division as a multiplication.
use Rattle.std.proofs.Common.{◌≡◌, ℕ, ◌+◌, ◌*◌, ◌-◌, ◌/◌, ◌%◌, ◌^◌, ◌<◌, ◌≤◌, ◌∙◌, sym, ap, arith, rules, ⊎_elim, true, false}
use Rattle.std.specs.Prelude.{ℤ, pos, negsuc, neg_ℤ, unsigned_abs, int_div, int_lt}
use Rattle.std.proofs.lemmas.Int.{ints}
use Rattle.std.proofs.lemmas.Nat.{div-add-mod', div-mul-add, pow-add, div_below, mod_below, mul-le}
use Rattle.std.proofs.lemmas.Bool.{cases_lt}
use Rattle.std.proofs.Math.Nat.{div-div-eq-div-mul, mod-eq_of_lt, pow-le-pow_right}
use Rattle.flt_rows.specs.Rows.{IsWithin, IsReciprocal}
use Rattle.flt_rows.specs.Squares.{IsNarrowReciprocal}
use mathlib.Core.Bool.{beq}

-- `times` is `power / by`, rounded up, and the power is great enough
pub div_by_times : (n times by power most : ℕ) → 0 < by → power ≤ times * by → times * by ≤ power + by → n < most → most * by ≤ power → (n * times) / power ≡ n / by
div_by_times n times by power most some low high small wide =
    let q : ℕ = n / by in
    let r : ℕ = n % by in
    let whole : q * by + r ≡ n = div-add-mod' n by in
    let rest : r < by = mod_below n by some in
    let nt : (q * by + r) * times ≡ n * times = ap (λ z. z * times) whole in
    let np : (q * by + r) * power ≡ n * power = ap (λ z. z * power) whole in
    let l1 : q * power ≤ q * (times * by) = mul-le q power q (times * by) (omega arith) low in
    let least : q * power ≤ n * times = omega (arith, nt, l1) in
    let f2 : n * (times * by) ≤ n * (power + by) = mul-le n (times * by) n (power + by) (omega arith) high in
    let f3 : (r + 1) * power ≤ by * power = mul-le (r + 1) power by power (omega arith) (omega arith) in
    let f4 : (n + 1) * by ≤ most * by = mul-le (n + 1) by most by (omega arith) (omega arith) in
    let most_of : n * times < q * power + power =
    ⊎_elim
    (λ (l : n * times < q * power + power). l)
    (λ (l : q * power + power ≤ n * times).
    let f1 : (q * power + power) * by ≤ n * times * by = mul-le (q * power + power) by (n * times) by l (omega arith) in
    omega (arith, f1, f2, f3, f4, np))
    (cases_lt (n * times) (q * power + power)) in
    let is : q * power + (n * times - q * power) ≡ n * times = omega arith in
    ap (λ z. z / power) (sym is) ∙ div-mul-add q power (n * times - q * power) (omega arith)

-- the quotient of numbers of the same sign, and of numbers of different signs, by that of their sizes
pub quotient_same : (n d : ℤ) (q : ℕ) → q ≡ unsigned_abs n / unsigned_abs d → beq (int_lt n (pos 0)) (int_lt d (pos 0)) ≡ true → int_div n d ≡ pos q
quotient_same (pos a) (pos b) q is same = ap pos (sym is)
quotient_same (pos a) (negsuc b) q is same = search rules
quotient_same (negsuc a) (pos b) q is same = search rules
quotient_same (negsuc a) (negsuc b) q is same = ap pos (sym is)

pub quotient_other : (n d : ℤ) (q : ℕ) → q ≡ unsigned_abs n / unsigned_abs d → beq (int_lt n (pos 0)) (int_lt d (pos 0)) ≡ false → int_div n d ≡ neg_ℤ (pos q)
quotient_other (pos a) (pos b) q is other = search rules
quotient_other (pos a) (negsuc b) q is other = ap (λ k. neg_ℤ (pos k)) (sym is)
quotient_other (negsuc a) (pos b) q is other = ap (λ k. neg_ℤ (pos k)) (sym is)
quotient_other (negsuc a) (negsuc b) q is other = search rules

pub size_within : (most : ℕ) (n : ℤ) → IsWithin most n → unsigned_abs n ≤ most
size_within most (pos a) within = omega (arith, ints, within.high)
size_within most (negsuc a) within = omega (arith, ints, within.low)

-- a quotient of a number within these bounds is no larger
pub quotient_within : (n d : ℤ) (q : ℕ) → q ≡ unsigned_abs n / unsigned_abs d → 0 < unsigned_abs d → IsWithin 1677696000 n → q < 1677696001
quotient_within n d q is some within =
    let few : unsigned_abs n < 1677696001 = omega (arith, size_within 1677696000 n within) in
    let below : unsigned_abs n / unsigned_abs d < 1677696001 = div_below (unsigned_abs n) (unsigned_abs d) 1677696001 some (omega (arith, few, some)) in
    omega (arith, below, is)

-- NUMBERS OF 31 BITS

-- a power of 2 that is divided and rounded up
rounded_up : (power d : ℕ) → 0 < d → (power ≤ (power + d - 1) / d * d) × ((power + d - 1) / d * d ≤ power + d)
rounded_up power d some =
    let whole = div-add-mod' (power + d - 1) d in
    let rest = mod_below (power + d - 1) d some in
    (omega (arith, whole, rest), omega (arith, whole, rest))

wide_power_small : (bits : ℕ) → bits ≤ 15 → 2 ^ bits ≤ 32768
wide_power_small bits few = pow-le-pow_right (omega arith) few

pub wide_power_whole : (bits : ℕ) → bits ≤ 15 → 1 * 2 ^ (31 + bits) % 18446744073709551616 ≡ 2 ^ (31 + bits)
wide_power_whole bits few =
    let power : 2 ^ (31 + bits) ≡ 2147483648 * 2 ^ bits = pow-add 2 31 bits in
    let same : 1 * 2 ^ (31 + bits) ≡ 2 ^ (31 + bits) = omega arith in
    ap (λ n. n % 18446744073709551616) same ∙ mod-eq_of_lt (omega (arith, power, wide_power_small bits few))

pub wide_factor_fits : (d bits : ℕ) → 0 < d → bits ≤ 15 → d ≤ 2 ^ bits → 2 ^ bits < 2 * d → (2 ^ (31 + bits) + d - 1) / d < 4294967296
wide_factor_fits d bits some few below above =
    let power : 2 ^ (31 + bits) ≡ 2147483648 * 2 ^ bits = pow-add 2 31 bits in
    div_below (2 ^ (31 + bits) + d - 1) d 4294967296 some (omega (arith, power, wide_power_small bits few, below, above))

pub wide_factor_is : (d bits : ℕ) → 0 < d → bits ≤ 15 → d ≤ 2 ^ bits → IsReciprocal d ((2 ^ (31 + bits) + d - 1) / d) (31 + bits)
wide_factor_is d bits some few below =
    let power : 2 ^ (31 + bits) ≡ 2147483648 * 2 ^ bits = pow-add 2 31 bits in
    let up = rounded_up (2 ^ (31 + bits)) d some in
    record {
      some = some;
      few = omega arith;
      low = up.0;
      high = up.1;
      wide = omega (arith, power, below);
    }

-- NUMBERS OF 16 BITS

-- the upper half of a product with twice a number, without its lowest bits
pub divide_by_upper : (n divisor factor bits : ℕ) → IsNarrowReciprocal divisor factor bits → n < 2 ^ 15 → 2 * n * factor / 65536 / 2 ^ bits ≡ n / divisor
divide_by_upper n divisor factor bits by small =
    let power : ℕ = 2 ^ (15 + bits) in
    let whole : 65536 * 2 ^ bits ≡ 2 * power = omega (arith, pow-add 2 15 bits) in
    let twice : 2 * n * factor ≡ 2 * (n * factor) = omega arith in
    div-div-eq-div-mul (2 * n * factor) 65536 (2 ^ bits)
    ∙ ap (λ p. 2 * n * factor / p) whole ∙ ap (λ m. m / (2 * power)) twice
    ∙ sym (div-div-eq-div-mul (2 * (n * factor)) 2 power) ∙ ap (λ m. m / power) (omega arith)
    ∙ div_by_times n factor divisor power (2 ^ 15) by.some by.low by.high small by.wide

power_small : (bits : ℕ) → bits ≤ 7 → 2 ^ bits ≤ 128
power_small bits few = pow-le-pow_right (omega arith) few

pub power_whole : (bits : ℕ) → bits ≤ 7 → 1 * 2 ^ (15 + bits) % 4294967296 ≡ 2 ^ (15 + bits)
power_whole bits few =
    let power : 2 ^ (15 + bits) ≡ 32768 * 2 ^ bits = pow-add 2 15 bits in
    let same : 1 * 2 ^ (15 + bits) ≡ 2 ^ (15 + bits) = omega arith in
    ap (λ n. n % 4294967296) same ∙ mod-eq_of_lt (omega (arith, power, power_small bits few))

pub factor_fits : (d bits : ℕ) → 0 < d → bits ≤ 7 → d ≤ 2 ^ bits → 2 ^ bits < 2 * d → (2 ^ (15 + bits) + d - 1) / d < 65536
factor_fits d bits some few below above =
    let power : 2 ^ (15 + bits) ≡ 32768 * 2 ^ bits = pow-add 2 15 bits in
    div_below (2 ^ (15 + bits) + d - 1) d 65536 some (omega (arith, power, power_small bits few, below, above))

pub factor_is : (d bits : ℕ) → 0 < d → bits ≤ 7 → d ≤ 2 ^ bits → IsNarrowReciprocal d ((2 ^ (15 + bits) + d - 1) / d) bits
factor_is d bits some few below =
    let power : 2 ^ (15 + bits) ≡ 32768 * 2 ^ bits = pow-add 2 15 bits in
    let up = rounded_up (2 ^ (15 + bits)) d some in
    record {
      some = some;
      few = omega arith;
      low = up.0;
      high = up.1;
      wide = omega (arith, power, below);
    }
