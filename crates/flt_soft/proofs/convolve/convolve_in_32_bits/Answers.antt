use Rattle.std.proofs.Common.{◌≡◌, ◌<◌, ◌∙◌, length, ap, arith, w32, pos, ◌+ℤ◌, ◌*ℤ◌}
use Rattle.std.specs.Prelude.{ℤ, int_div}
use Rattle.std.proofs.lemmas.Int.{ints, to_z-of_z}
use Rattle.fv_plane.specs.declared.format.Shape.{Shape}
use Rattle.fv_plane.specs.Format.{largest_sample, scale}
use Rattle.fv_plane.specs.Picture.{look_in}
use Rattle.clip_term.specs.Soft.{side_of, weighed, divisor_of, sample_from}
use Rattle.flt_soft.proofs.convolve.convolve_in_32_bits.Goals as goal
use mir.Val.{to_z, of_z}

pub returns : goal.returns
returns g c =
    let weights = c.args.weights.now in
    let shape : Shape = c.args.input.now.shape in
    let same : c.shape-shape.result ≡ shape = c.shape-shape.ensures.shape in
    let divisor = to_z w32 (of_z w32 c.divisor_of-divisor.result) in
    let bias = to_z w32 (of_z w32 c.scaled_bias-bias.result) in
    let most = c.largest.result in
    let divisor_is : divisor ≡ divisor_of weights = omega (arith, ints, c.divisor_of-divisor.ensures.value) in
    let bias_is : bias ≡ c.args.bias *ℤ pos (scale shape)
    = to_z-of_z w32 c.scaled_bias-bias.result (record { sfits = c.scaled_bias-bias.type_inv }) ∙ c.scaled_bias-bias.ensures.value
    ∙ ap (λ b. b *ℤ pos (scale c.shape-shape.result)) (to_z-of_z w32 c.args.bias c.ranges.bias) ∙ ap (λ (s : Shape). c.args.bias *ℤ pos (scale s)) same in
    let most_is : most ≡ largest_sample shape = c.largest.ensures.value in
    λ x h.
    let inside : x < length c.sum_around.new.sums = omega arith in
    let sum : ℤ = weighed (side_of weights) 0 weights shape (look_in c.args.input.now) c.args.plane x c.args.y in
    c.show_row.ensures x h
    ∙ ap (λ s. sample_from most (int_div s divisor +ℤ bias)) (c.sum_around.ensures.sums x inside)
    ∙ ap (λ d. sample_from most (int_div sum d +ℤ bias)) divisor_is
    ∙ ap (λ b. sample_from most (int_div sum (divisor_of weights) +ℤ b)) bias_is
    ∙ ap (λ m. sample_from m (int_div sum (divisor_of weights) +ℤ c.args.bias *ℤ pos (scale shape))) most_is
