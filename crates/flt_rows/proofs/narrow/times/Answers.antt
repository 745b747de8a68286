-- A product is as large as the product of the sizes.
use Rattle.std.proofs.Common.{◌≡◌, ◌∙◌, ap, arith, pos, ◌*ℤ◌}
use Rattle.std.specs.Prelude.{unsigned_abs}
use Rattle.std.proofs.lemmas.Int.{ints, to_z-of_z, fits_signed_mul, unsigned_abs-mul}
use Rattle.std.proofs.lemmas.Nat.{mul-le}
use Rattle.flt_rows.proofs.narrow.times.Goals as goal
use mir.Syntax.{w16}
use mir.Val.{to_z, of_z, SFits}

fits : (c : goal.Start) → SFits w16 (c.args.weight *ℤ pos c.args.sample)
fits c = fits_signed_mul w16 c.args.weight (pos c.args.sample) (unsigned_abs c.args.weight) c.args.largest (omega arith) c.requires.few c.requires.light

same : (c : goal.Start) → to_z w16 (of_z w16 c.args.weight) *ℤ to_z w16 c.args.sample ≡ c.args.weight *ℤ pos c.args.sample
same c =
    let weight : to_z w16 (of_z w16 c.args.weight) ≡ c.args.weight = to_z-of_z w16 c.args.weight c.ranges.weight in
    let sample : to_z w16 c.args.sample ≡ pos c.args.sample = omega (arith, ints, c.requires.few, c.requires.largest) in
    ap (λ z. z *ℤ to_z w16 c.args.sample) weight ∙ ap (λ z. c.args.weight *ℤ z) sample

pub returns-clause-value : goal.returns-clause-value
returns-clause-value c = rw (same c) (to_z-of_z w16 _ (fits c))

pub returns-clause-size : goal.returns-clause-size
returns-clause-size c =
    let few = mul-le (unsigned_abs c.args.weight) c.args.sample (unsigned_abs c.args.weight) c.args.largest (omega arith) c.requires.few in
    rw (same c, to_z-of_z w16 _ (fits c)) (omega (arith, unsigned_abs-mul c.args.weight (pos c.args.sample), few))
