use Rattle.std.proofs.lemmas.Grind.{common_steps}
use Rattle.std.proofs.Common.{rules, ◌≡◌, ◌+◌, ◌∙◌, true, false, sym, arith}
use Rattle.fv_plane.specs.Format.{plane_width, plane_height}
use Rattle.fv_plane.specs.Picture.{across, down}
use Rattle.clip_term.specs.Refusals.{nat_of}
use Rattle.clip_term.specs.Space.{is_within}
use Rattle.flt_space.proofs.BorderLemmas.{below_start, fits_between}
use Rattle.flt_space.proofs.MoveLemmas.{border_plan, bordered_plan}
use Rattle.flt_space.proofs.borders.BorderRowsRowMover.plan.Goals as goal

pub returns-then-is_within-clause-fits : goal.returns-then-is_within-clause-fits
returns-then-is_within-clause-fits c =
    let shape = c.args.input.now.shape in
    let borders = c.args.self.now in
    let p = c.args.plane in
    let left : c.across-before.result ≡ across shape p (nat_of borders.left) = search rules in
    let high : c.plane_height.result ≡ plane_height shape p = search rules in
    let wide : c.plane_width.result ≡ plane_width shape p = search rules in
    let told : is_within c.down-top.result (c.down-top.result + c.plane_height.result) c.args.y ≡ true = sym c.is_within.ensures ∙ c.if-is_within.true in
    record {
      there = c.requires.plane;
      inside = below_start c.down-top.result c.plane_height.result _ c.args.y high told;
      part = omega (arith, wide);
      room = omega (arith, left, wide, fits_between shape p (nat_of borders.left) (nat_of borders.right) (shape.height + nat_of borders.top + nat_of borders.bottom));
    }

pub returns-then-is_within-clause-row : goal.returns-then-is_within-clause-row
returns-then-is_within-clause-row c =
    let input = c.args.input.now in
    let shape = input.shape in
    let borders = c.args.self.now in
    let p = c.args.plane in
    let left : c.across-before.result ≡ across shape p (nat_of borders.left) = search rules in
    let top : c.down-top.result ≡ down shape p (nat_of borders.top) = search rules in
    let high : c.plane_height.result ≡ plane_height shape p = search rules in
    let wide : c.plane_width.result ≡ plane_width shape p = search rules in
    let told : is_within c.down-top.result (c.down-top.result + c.plane_height.result) c.args.y ≡ true = sym c.is_within.ensures ∙ c.if-is_within.true in
    bordered_plan input borders.left borders.top borders.right borders.bottom borders.color_yuv p c.args.y c.across-before.result c.down-top.result c.plane_height.result c.plane_width.result _ c.shape-shape.ensures.sizes
    c.requires.plane left top high wide (fits_between shape p (nat_of borders.left) (nat_of borders.right) (shape.height + nat_of borders.top + nat_of borders.bottom)) told

pub returns-else-is_within-clause-row : goal.returns-else-is_within-clause-row
returns-else-is_within-clause-row c =
    let input = c.args.input.now in
    let borders = c.args.self.now in
    let p = c.args.plane in
    let top : c.down-top.result ≡ down input.shape p (nat_of borders.top) = search rules in
    let high : c.plane_height.result ≡ plane_height input.shape p = search rules in
    let told : is_within c.down-top.result (c.down-top.result + c.plane_height.result) c.args.y ≡ false = sym c.is_within.ensures ∙ c.if-is_within.false in
    border_plan input borders.left borders.top borders.right borders.bottom borders.color_yuv p c.args.y c.down-top.result c.plane_height.result _ top high told

pub returns-else-is_within-clause-fits : goal.returns-else-is_within-clause-fits
returns-else-is_within-clause-fits c = grind (arith, common_steps)
