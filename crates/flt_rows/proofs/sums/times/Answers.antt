-- A product stays within the product of the bounds.
use Rattle.std.proofs.Common.{◌≡◌, ◌∙◌, ap, refl, arith, w32, pos, ◌*ℤ◌}
use Rattle.std.proofs.lemmas.Int.{ints, to_z-of_z, fits_signed_mul}
use Rattle.flt_rows.proofs.WeightLemmas.{times_few, size_of_weight}
use Rattle.flt_rows.proofs.sums.times.Goals as goal
use mir.Syntax.{w16}
use mir.Val.{to_z, of_z, SFits}

same : (c : goal.Start) → to_z w32 (of_z w32 (to_z w16 (of_z w16 c.args.weight))) *ℤ to_z w32 c.args.sample ≡ c.args.weight *ℤ pos c.args.sample
same c =
    let weight : to_z w32 (of_z w32 (to_z w16 (of_z w16 c.args.weight))) ≡ c.args.weight = omega (arith, ints) in
    let sample : to_z w32 c.args.sample ≡ pos c.args.sample = omega (arith, ints) in
    ap (λ z. z *ℤ to_z w32 c.args.sample) weight ∙ ap (λ z. c.args.weight *ℤ z) sample

fits : (c : goal.Start) → SFits w32 (c.args.weight *ℤ pos c.args.sample)
fits c = fits_signed_mul w32 c.args.weight (pos c.args.sample) 1024 65535 (size_of_weight c.args.weight c.requires) (omega arith) (omega arith)

pub overflow_mul-result : goal.overflow_mul-result
overflow_mul-result c = rw (same c) (fits c)

pub returns : goal.returns
returns c =
    let few = times_few c.args.weight c.args.sample c.requires (omega arith) in
    rw (same c, to_z-of_z w32 _ (fits c)) (record { value = refl; size = few })
