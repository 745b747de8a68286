use Rattle.std.proofs.Common.{◌≡◌, ◌<◌, ◌≤◌, ◌*◌, ◌+◌, ◌∙◌, ℕ, List, length, get_or, sym, ap, arith, rules, pos, ◌+ℤ◌}
use Rattle.std.proofs.lemmas.Int.{to_z-of_z}
use Rattle.std.proofs.lemmas.List.{take_all}
use Rattle.fv_plane.specs.declared.format.Shape.{Shape}
use Rattle.fv_plane.specs.Format.{plane_width, plane_height}
use Rattle.fv_plane.specs.Picture.{look_in, row_of}
use Rattle.clip_term.specs.Soft.{place, weighed}
use Rattle.flt_rows.specs.Rows.{extended, weighed_three}
use Rattle.fv_plane.proofs.CallerLemmas.{length-row}
use Rattle.flt_soft.proofs.PictureLemmas.{wide_few}
use Rattle.flt_rows.proofs.WeightLemmas.{nine_more, weighed_within, within_same, sums_within}
use Rattle.flt_soft.proofs.convolve.sum_nine.Goals as goal
use mir.Syntax.{w16}
use mir.Val.{to_z, of_z}

pub add_three-requires-clause-room : goal.add_three-requires-clause-room
add_three-requires-clause-room g c =
    let i = c.loop-i.i in
    let few : (a b : ℕ) → look_in c.args.input.now c.args.plane a b ≤ 65535 = wide_few c.args.input.now c.shape.ensures.sizes c.args.plane in
    sums_within c.loop-i.sums (67107840 * (3 * i)) 1342156800 (omega arith) (λ x h.
    within_same _ _ _ (c.loop-i.invariant x h) (weighed_within 3 0 (3 * i) c.args.weights.now c.args.input.now.shape (look_in c.args.input.now) c.args.plane x c.args.y c.requires.weights few))

pub loop-i-preserved : goal.loop-i-preserved
loop-i-preserved g c =
    let weights = c.args.weights.now in
    let input = c.args.input.now in
    let p = c.args.plane in
    let y = c.args.y in
    let i = c.loop-i.i in
    let row : List ℕ = row_of input.planes p c.place.result in
    let line : c.place.result ≡ place y i 1 (plane_height input.shape p)
    = c.place.ensures.place ∙ ap (λ h. place y i 1 h) (c.plane_height-height.ensures ∙ ap (λ (s : Shape). plane_height s p) c.shape.ensures.shape) in
    let seen : (z : ℕ) → get_or row z 0 ≡ look_in input p z (place y i 1 (plane_height input.shape p)) = λ z. ap (λ r. look_in input p z r) line in
    let long : length row ≡ plane_width input.shape p = length-row input p c.place.result c.shape.ensures.sizes c.requires.plane (search rules) in
    let a : to_z w16 (of_z w16 c.weight.result) ≡ get_or weights (3 * i) (pos 0) = to_z-of_z w16 c.weight.result (record { sfits = c.weight.type_inv }) ∙ c.weight.ensures.value in
    let b : to_z w16 (of_z w16 c.weight-in-loop-i.result) ≡ get_or weights (3 * i + 1) (pos 0) = to_z-of_z w16 c.weight-in-loop-i.result (record { sfits = c.weight-in-loop-i.type_inv }) ∙ c.weight-in-loop-i.ensures.value in
    let d : to_z w16 (of_z w16 c.weight-in-loop-i-2.result) ≡ get_or weights (3 * i + 2) (pos 0) = to_z-of_z w16 c.weight-in-loop-i-2.result (record { sfits = c.weight-in-loop-i-2.type_inv }) ∙ c.weight-in-loop-i-2.ensures.value in
    λ x h.
    let inside : x < length c.loop-i.sums = omega arith in
    let more = nine_more input.shape (look_in input) p x y i weights row c.requires.nine c.loop-i-test.true long (omega arith) seen in
    let put = rw (a, b, d, c.read_padded.ensures) at c.add_three.ensures x h in
    put ∙ ap (λ s. s +ℤ weighed_three (get_or weights (3 * i) (pos 0)) (get_or weights (3 * i + 1) (pos 0)) (get_or weights (3 * i + 2) (pos 0)) (extended 1 row) x) (c.loop-i.invariant x inside) ∙ sym more

pub returns : goal.returns
returns g c =
    let i = c.loop-i.i in
    let few : (a b : ℕ) → look_in c.args.input.now c.args.plane a b ≤ 65535 = wide_few c.args.input.now c.shape.ensures.sizes c.args.plane in
    record {
      sums = λ x h. c.loop-i.invariant x h
          ∙ ap (λ ws. weighed 3 0 ws c.args.input.now.shape (look_in c.args.input.now) c.args.plane x c.args.y) (take_all (3 * i) c.args.weights.now (omega arith));
      size = sums_within c.loop-i.sums (67107840 * (3 * i)) 1677696000 (omega arith) (λ x h.
          within_same _ _ _ (c.loop-i.invariant x h) (weighed_within 3 0 (3 * i) c.args.weights.now c.args.input.now.shape (look_in c.args.input.now) c.args.plane x c.args.y c.requires.weights few));
    }
