-- The samples around a place lie in three rows of the picture.
use Rattle.std.proofs.lemmas.Grind.{common_steps}
use Rattle.std.proofs.Common.{◌≡◌, ◌∙◌, ℕ, List, length, get_or, ap, sym, arith, w32, pos, ◌+ℤ◌, ◌*ℤ◌}
use Rattle.std.specs.Prelude.{ℤ, int_div, ◌-ℤ◌, ◌==◌, if◌then◌else◌}
use Rattle.std.proofs.lemmas.Int.{ints, to_z-of_z}
use Rattle.fv_plane.specs.declared.format.Shape.{Shape}
use Rattle.fv_plane.specs.Format.{largest_sample, plane_height, plane_width, scale}
use Rattle.fv_plane.specs.Picture.{look_in}
use Rattle.clip_term.specs.Soft.{place, side_of, weighed, divisor_of, sample_from}
use Rattle.flt_rows.specs.Squares.{shown, weighed_around}
use Rattle.flt_rows.proofs.NarrowLemmas.{divisor_size, square_is, square_size}
use Rattle.flt_soft.proofs.PictureLemmas.{light_weights, scaled_small}
use Rattle.flt_soft.proofs.convolve.convolve_in_16_bits.Goals as goal

pub ending_of-ending-requires-clause-small : goal.ending_of-ending-requires-clause-small
ending_of-ending-requires-clause-small g c = search (arith, light_weights, divisor_size, w32, ints)

pub ending_of-ending-requires-clause-bias : goal.ending_of-ending-requires-clause-bias
ending_of-ending-requires-clause-bias g c = search (arith, w32, to_z-of_z, scaled_small)

pub convolve_row-requires-clause-light : goal.convolve_row-requires-clause-light
convolve_row-requires-clause-light g c = search (arith, square_size)

pub returns : goal.returns
returns g c =
    let weights = c.args.weights.now in
    let input = c.args.input.now in
    let shape : Shape = input.shape in
    let p = c.args.plane in
    let y : ℕ = c.args.y in
    let ending = c.ending_of-ending.result in
    let height : ℕ = plane_height shape p in
    let same : c.shape-shape.result ≡ shape = c.shape-shape.ensures.shape in
    let high : c.plane_height-height.result ≡ height = c.plane_height-height.ensures ∙ ap (λ (s : Shape). plane_height s p) same in
    let above : c.place.result ≡ place y 0 1 height = c.place.ensures.place ∙ ap (λ h. place y 0 1 h) high in
    let middle : y ≡ place y 1 1 height = omega (arith, c.requires.inside) in
    let below : c.place-2.result ≡ place y 2 1 height = c.place-2.ensures.place ∙ ap (λ h. place y 2 1 h) high in
    let divisor : ending.divisor ≡ divisor_of weights = omega (arith, ints, c.ending_of-ending.ensures.divisor, c.divisor_of.ensures.value) in
    let bias : pos ending.more -ℤ pos ending.less ≡ c.args.bias *ℤ pos (scale shape)
    = c.ending_of-ending.ensures.bias ∙ to_z-of_z w32 c.scaled_bias-bias.result (record { sfits = c.scaled_bias-bias.type_inv }) ∙ c.scaled_bias-bias.ensures.value
    ∙ ap (λ b. b *ℤ pos (scale c.shape-shape.result)) (to_z-of_z w32 c.args.bias c.ranges.bias) ∙ ap (λ (s : Shape). c.args.bias *ℤ pos (scale s)) same in
    let most : ending.largest ≡ largest_sample shape = c.ending_of-ending.ensures.largest ∙ c.largest-largest.ensures.value in
    let side : 3 ≡ side_of weights = sym (ap (λ n. if n == 9 then 3 else 5) c.requires.nine) in
    let samples_above : List ℕ = g.T.Sample.of_bytes c.row-above.result.now in
    let samples : List ℕ = g.T.Sample.of_bytes c.row-row.result.now in
    let samples_below : List ℕ = g.T.Sample.of_bytes c.row-below.result.now in
    let long : length samples ≡ plane_width shape p = c.row-row.ensures.whole in
    λ x h.
    let sum : ℤ = weighed (side_of weights) 0 weights shape (look_in input) p x y in
    let is : weighed_around c.square_of.result samples_above samples samples_below x ≡ sum
    = square_is shape (look_in input) p x y c.square_of.result samples_above samples samples_below long
    (λ z. ap (λ l. get_or l z 0) c.row-above.ensures.row ∙ ap (λ r. look_in input p z r) above)
    (λ z. ap (λ l. get_or l z 0) c.row-row.ensures.row ∙ ap (λ r. look_in input p z r) middle)
    (λ z. ap (λ l. get_or l z 0) c.row-below.ensures.row ∙ ap (λ r. look_in input p z r) below)
    ∙ ap (λ ws. weighed 3 0 ws shape (look_in input) p x y) c.square_of.ensures
    ∙ ap (λ n. weighed n 0 weights shape (look_in input) p x y) side in
    c.convolve_row.ensures x h ∙ ap (shown ending) is
    ∙ ap (λ d. sample_from ending.largest (int_div sum d +ℤ (pos ending.more -ℤ pos ending.less))) divisor
    ∙ ap (λ b. sample_from ending.largest (int_div sum (divisor_of weights) +ℤ b)) bias
    ∙ ap (λ m. sample_from m (int_div sum (divisor_of weights) +ℤ c.args.bias *ℤ pos (scale shape))) most

pub convolve_row-requires-clause-some : goal.convolve_row-requires-clause-some
convolve_row-requires-clause-some g c = grind (arith, common_steps)

pub convolve_row-requires-clause-wide : goal.convolve_row-requires-clause-wide
convolve_row-requires-clause-wide g c = grind (arith, common_steps)

pub convolve_row-requires-clause-few_above : goal.convolve_row-requires-clause-few_above
convolve_row-requires-clause-few_above g c = grind (arith, common_steps)

pub convolve_row-requires-clause-few : goal.convolve_row-requires-clause-few
convolve_row-requires-clause-few g c = grind (arith, common_steps)

pub convolve_row-requires-clause-few_below : goal.convolve_row-requires-clause-few_below
convolve_row-requires-clause-few_below g c = grind (arith, common_steps)
