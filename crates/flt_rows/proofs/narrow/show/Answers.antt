use Rattle.std.proofs.Common.{◌≡◌, ℕ, ◌/◌, ◌∙◌, ◌+◌, sym, ap, arith, w32, pos, ◌+ℤ◌}
use Rattle.std.specs.Prelude.{◌-ℤ◌, neg_ℤ, unsigned_abs, int_div}
use Rattle.std.proofs.lemmas.Int.{ints, to_z-of_z, fits_signed_from_abs}
use Rattle.clip_term.specs.Soft.{sample_from}
use Rattle.flt_rows.proofs.DivideLemmas.{quotient_other}
use Rattle.flt_rows.proofs.narrow.show.Goals as goal
use mir.Syntax.{w16}

pub returns-else-sum-ending-clause-value : goal.returns-else-sum-ending-clause-value
returns-else-sum-ending-clause-value c =
    let ending = c.args.ending in
    let size : ℕ = c.divide-size.result in
    let n = to_z-of_z w16 c.args.sum c.ranges.sum in
    let d = to_z-of_z w32 ending.divisor (fits_signed_from_abs w32 ending.divisor (omega (arith, c.requires.ending.divisor))) in
    let is : size ≡ unsigned_abs c.args.sum / unsigned_abs ending.divisor = rw (c.unsigned_abs.ensures.value, c.unsigned_abs-2.ensures.value, n, d) at c.divide-size.ensures in
    let quotient : int_div c.args.sum ending.divisor ≡ neg_ℤ (pos size) = quotient_other c.args.sum ending.divisor size is (rw (n, d) at c.if-sum-ending.false) in
    let moved : pos ending.more -ℤ pos (size + ending.less) ≡ neg_ℤ (pos size) +ℤ (pos ending.more -ℤ pos ending.less) = omega (arith, ints) in
    c.sample_between-else-sum-ending.ensures.value ∙ ap (sample_from ending.largest) (moved ∙ ap (λ q. q +ℤ (pos ending.more -ℤ pos ending.less)) (sym quotient))
