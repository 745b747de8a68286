use Rattle.std.proofs.Common.{◌≡◌, ◌==◌, ◌+◌, ◌*◌, ◌/◌, ◌∙◌, false, w32, map, ap, arith, ne_eqb}
use Rattle.std.specs.List.{sum}
use Rattle.std.proofs.lemmas.Int.{to_z-of_z}
use Rattle.std.proofs.lemmas.List.{take_all}
use Rattle.std.proofs.lemmas.Nat.{div_below}
use Rattle.std.proofs.lemmas.Grind.{common_steps}
use Rattle.fv_plane.specs.Format.{scale}
use Rattle.fv_plane.specs.Picture.{look_in, look_at}
use Rattle.clip_term.specs.Refusals.{nat_of}
use Rattle.clip_term.specs.Soft.{near, samples_at}
use Rattle.clip_reference.proofs.soft.softened.Goals as goal

radius_is : (c : goal.After-loop-frame) → c.unsigned_abs-radius.result ≡ nat_of c.args.radius
radius_is c = grind (arith, common_steps)

pub overflow_cast-result : goal.overflow_cast-result
overflow_cast-result c = search (arith, radius_is, div_below)

pub returns : goal.returns
returns c =
    let frames = c.args.frames.now in
    let p = c.args.plane in
    let x = c.args.x in
    let y = c.args.y in
    let r = c.unsigned_abs-radius.result in
    let threshold = c.unsigned_abs.result * c.scale.result in
    let middle = c.look_at-middle.result in
    let threshold_is : threshold ≡ nat_of c.args.threshold * scale c.args.shape
    = ap (λ n. n * c.scale.result) (c.unsigned_abs.ensures.value ∙ ap (λ z. nat_of z) (to_z-of_z w32 c.args.threshold c.ranges.threshold))
    ∙ ap (λ n. nat_of c.args.threshold * n) c.scale.ensures in
    let middle_is : middle ≡ look_at (map look_in frames) r p x y = c.look_at-middle.ensures in
    let some : (threshold == 0) ≡ false = ne_eqb threshold 0 c.if-threshold-eq0.false in
    let all : c.loop-frame.sum ≡ sum (map (near threshold middle) (samples_at (map look_in frames) p x y))
    = c.loop-frame.invariant.made ∙ ap (λ fs. sum (map (near threshold middle) (samples_at (map look_in fs) p x y))) (take_all c.loop-frame.frame-index frames c.loop-frame-test.false) in
    rw (← radius_is c, ← threshold_is, ← middle_is, some) (ap (λ n. (n + r) / (2 * r + 1)) all)
