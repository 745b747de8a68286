use Rattle.std.proofs.Common.{arith, ◌≡◌, ◌∙◌, ap, refl}
use Rattle.std.specs.Prelude.{pos, ◌+ℤ◌, ◌*ℤ◌, int_div}
use Rattle.std.proofs.lemmas.Int.{ints}
use Rattle.fv_plane.specs.Format.{scale}
use Rattle.fv_plane.specs.Picture.{look_in}
use Rattle.clip_term.specs.Soft.{divisor_of, side_of, weighed}
use Rattle.clip_reference.proofs.soft.convolved.Goals as goal
use mir.Val.{to_z, of_z}
use mir.Syntax.{w32, w64}

pub returns : goal.returns
returns c =
    let shape = c.args.shape in
    let matrix = c.args.matrix.now in
    let all = weighed (side_of matrix) 0 matrix shape (look_in c.args.input.now) c.args.plane c.args.x c.args.y in
    let sum : to_z w64 (of_z w64 c.weighed-sum.result) ≡ all = omega (arith, ints, c.weighed-sum.ensures.value) in
    let divisor : to_z w64 (of_z w64 c.divisor_of.result) ≡ divisor_of matrix = omega (arith, ints, c.divisor_of.ensures.value) in
    let bias : to_z w32 (of_z w32 c.args.bias) ≡ c.args.bias = omega (arith, ints) in
    let whole : to_z w64 (of_z w64 (to_z w64 (of_z w64 c.mean.result) +ℤ to_z w64 (of_z w64 c.times.result))) ≡ c.mean.result +ℤ c.times.result = omega (arith, ints) in
    let divided : c.mean.result ≡ int_div all (divisor_of matrix)
    = c.mean.ensures.value ∙ ap (λ z. int_div z (to_z w64 (of_z w64 c.divisor_of.result))) sum ∙ ap (λ z. int_div all z) divisor in
    let scaled : c.times.result ≡ c.args.bias *ℤ pos (scale shape)
    = c.times.ensures.value ∙ ap (λ z. z *ℤ pos c.scale.result) bias ∙ ap (λ factor. c.args.bias *ℤ pos factor) c.scale.ensures in
    rw (c.sample_from.ensures, c.largest_sample.ensures, whole, divided, scaled) refl
