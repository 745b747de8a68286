-- The quotient of the sizes, with its sign.
use Rattle.std.proofs.Common.{◌≡◌, ◌/◌, sym, arith, w32}
use Rattle.std.specs.Prelude.{pos, neg_ℤ, ◌-ℤ◌, unsigned_abs}
use Rattle.std.proofs.lemmas.Int.{ints, to_z-of_z}
use Rattle.flt_rows.proofs.DivideLemmas.{quotient_same, quotient_other, quotient_within}
use Rattle.flt_rows.proofs.reciprocal.divide_signed.Goals as goal
use mir.Val.{to_z, of_z}

pub returns-then-n-divisor : goal.returns-then-n-divisor
returns-then-n-divisor c =
    let n = to_z-of_z w32 c.args.n c.ranges.n in
    let d = to_z-of_z w32 c.args.divisor c.ranges.divisor in
    let is : c.divide-size.result ≡ unsigned_abs c.args.n / unsigned_abs c.args.divisor = rw (c.unsigned_abs.ensures.value, c.unsigned_abs-2.ensures.value, n, d) at c.divide-size.ensures in
    let few = quotient_within c.args.n c.args.divisor c.divide-size.result is c.requires.by.some c.requires.size in
    let whole : to_z w32 c.divide-size.result ≡ pos c.divide-size.result = omega (arith, ints, few) in
    rw whole (record {
      value = sym (quotient_same c.args.n c.args.divisor c.divide-size.result is (rw (n, d) at c.if-n-divisor.true));
      size = record { low = omega (arith, ints); high = omega (arith, ints, few) };
    })

pub returns-else-n-divisor : goal.returns-else-n-divisor
returns-else-n-divisor c =
    let n = to_z-of_z w32 c.args.n c.ranges.n in
    let d = to_z-of_z w32 c.args.divisor c.ranges.divisor in
    let is : c.divide-size.result ≡ unsigned_abs c.args.n / unsigned_abs c.args.divisor = rw (c.unsigned_abs.ensures.value, c.unsigned_abs-2.ensures.value, n, d) at c.divide-size.ensures in
    let few = quotient_within c.args.n c.args.divisor c.divide-size.result is c.requires.by.some c.requires.size in
    let whole : to_z w32 (of_z w32 (pos 0 -ℤ to_z w32 c.divide-size.result)) ≡ neg_ℤ (pos c.divide-size.result) = omega (arith, ints, few) in
    rw whole (record {
      value = sym (quotient_other c.args.n c.args.divisor c.divide-size.result is (rw (n, d) at c.if-n-divisor.false));
      size = record { low = omega (arith, ints, few); high = omega (arith, ints, few) };
    })
