-- A bias and a scale have a product that is far from the ends of its type.
use Rattle.std.proofs.Common.{◌≡◌, ◌≤◌, ap, arith, w32, pos, ◌*ℤ◌}
use Rattle.std.proofs.lemmas.Int.{to_z-of_z, fits_signed_mul}
use Rattle.std.proofs.lemmas.Grind.{common_steps}
use Rattle.flt_rows.proofs.WeightLemmas.{bias_within, size_of_bias}
use Rattle.flt_soft.proofs.convolve.scaled_bias.Goals as goal
use mir.Val.{to_z, of_z, SFits}

few : (c : goal.After-scale) → c.scale.result ≤ 256
few c = grind (arith, common_steps)

same : (c : goal.After-scale) → to_z w32 (of_z w32 c.args.bias) *ℤ to_z w32 c.scale.result ≡ c.args.bias *ℤ pos c.scale.result
same c = grind (arith, common_steps)

fits : (c : goal.After-scale) → SFits w32 (c.args.bias *ℤ pos c.scale.result)
fits c = fits_signed_mul w32 c.args.bias (pos c.scale.result) 255 256 (size_of_bias c.args.bias c.requires.bias) (few c) (omega arith)

pub overflow_mul-result : goal.overflow_mul-result
overflow_mul-result c = rw (same c) (fits c)

pub returns : goal.returns
returns c =
    rw (same c, to_z-of_z w32 _ (fits c)) (record { value = ap (λ s. c.args.bias *ℤ pos s) c.scale.ensures; size = bias_within c.args.bias c.scale.result c.requires.bias (few c) })
