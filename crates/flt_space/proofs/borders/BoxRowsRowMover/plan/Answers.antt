use Rattle.std.proofs.Common.{rules, ◌≡◌, ◌-◌, ◌∙◌, true, false, ap, sym, arith}
use Rattle.fv_plane.specs.Format.{plane_width, plane_height}
use Rattle.fv_plane.specs.Picture.{across, down}
use Rattle.clip_term.specs.Refusals.{nat_of}
use Rattle.clip_term.specs.Space.{is_within}
use Rattle.flt_space.proofs.BorderLemmas.{covers_less, fits_across}
use Rattle.flt_space.proofs.MoveLemmas.{box_plan, boxed_plan}
use Rattle.flt_space.proofs.borders.BoxRowsRowMover.plan.Goals as goal

pub overflow_sub-result : goal.overflow_sub-result
overflow_sub-result c =
    let shape = c.args.input.now.shape in
    let box = c.args.self.now in
    let p = c.args.plane in
    let left : c.across-left.result ≡ across shape p (nat_of box.x1) = search rules in
    let right : c.across-right.result ≡ across shape p (nat_of box.x2) = search rules in
    let wide : c.plane_width.result ≡ plane_width shape p = search rules in
    omega (arith, left, right, wide, fits_across shape p (nat_of box.x1) (nat_of box.x2) (covers_less shape box.top box.bottom box.x1 box.x2 box.color_yuv c.requires.accepted))

pub overflow_sub-result-then-is_within : goal.overflow_sub-result-then-is_within
overflow_sub-result-then-is_within c =
    let shape = c.args.input.now.shape in
    let box = c.args.self.now in
    let p = c.args.plane in
    let left : c.across-left.result ≡ across shape p (nat_of box.x1) = search rules in
    let right : c.across-right.result ≡ across shape p (nat_of box.x2) = search rules in
    let wide : c.plane_width.result ≡ plane_width shape p = search rules in
    omega (arith, left, right, wide, fits_across shape p (nat_of box.x1) (nat_of box.x2) (covers_less shape box.top box.bottom box.x1 box.x2 box.color_yuv c.requires.accepted))

pub returns-then-is_within-clause-fits : goal.returns-then-is_within-clause-fits
returns-then-is_within-clause-fits c =
    let shape = c.args.input.now.shape in
    let box = c.args.self.now in
    let p = c.args.plane in
    let left : c.across-left.result ≡ across shape p (nat_of box.x1) = search rules in
    let right : c.across-right.result ≡ across shape p (nat_of box.x2) = search rules in
    let wide : c.plane_width.result ≡ plane_width shape p = search rules in
    let room = fits_across shape p (nat_of box.x1) (nat_of box.x2) (covers_less shape box.top box.bottom box.x1 box.x2 box.color_yuv c.requires.accepted) in
    record { there = c.requires.plane; inside = c.requires.inside; part = omega (arith, left, right, wide, room); room = omega (arith, left, right, wide, room) }

pub returns-then-is_within-clause-row : goal.returns-then-is_within-clause-row
returns-then-is_within-clause-row c =
    let input = c.args.input.now in
    let shape = input.shape in
    let box = c.args.self.now in
    let p = c.args.plane in
    let left : c.across-left.result ≡ across shape p (nat_of box.x1) = search rules in
    let right : c.across-right.result ≡ across shape p (nat_of box.x2) = search rules in
    let top : c.down-top.result ≡ down shape p (nat_of box.top) = search rules in
    let end : c.saturating_sub-end.result ≡ plane_height shape p - down shape p (nat_of box.bottom) = search rules in
    let wide : c.plane_width.result ≡ plane_width shape p = search rules in
    let told : is_within c.down-top.result c.saturating_sub-end.result c.args.y ≡ true = sym c.is_within.ensures ∙ c.if-is_within.true in
    boxed_plan input box.top box.bottom box.x1 box.x2 box.color_yuv p c.args.y c.across-left.result c.across-right.result c.down-top.result c.saturating_sub-end.result (c.plane_width.result - c.across-right.result - c.across-left.result) c.shape-shape.ensures.sizes c.requires.plane left right top end
    (ap (λ n. n - c.across-right.result - c.across-left.result) wide) (fits_across shape p (nat_of box.x1) (nat_of box.x2) (covers_less shape box.top box.bottom box.x1 box.x2 box.color_yuv c.requires.accepted)) told

pub returns-else-is_within-clause-row : goal.returns-else-is_within-clause-row
returns-else-is_within-clause-row c =
    let input = c.args.input.now in
    let box = c.args.self.now in
    let p = c.args.plane in
    let top : c.down-top.result ≡ down input.shape p (nat_of box.top) = search rules in
    let end : c.saturating_sub-end.result ≡ plane_height input.shape p - down input.shape p (nat_of box.bottom) = search rules in
    let told : is_within c.down-top.result c.saturating_sub-end.result c.args.y ≡ false = sym c.is_within.ensures ∙ c.if-is_within.false in
    box_plan input box.top box.bottom box.x1 box.x2 box.color_yuv p c.args.y c.down-top.result c.saturating_sub-end.result _ top end told
