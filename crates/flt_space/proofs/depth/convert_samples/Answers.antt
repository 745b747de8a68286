use Rattle.std.proofs.Common.{◌≡◌, ◌∙◌, ◌-◌, ◌^◌, ◌≤◌, map, get_or, ap, sym, arith}
use Rattle.fv_plane.specs.declared.format.Shape.{Shape}
use Rattle.fv_plane.specs.Picture.{wide_samples, row_of}
use Rattle.fv_plane.proofs.CallerLemmas.{bytes_of_narrow}
use Rattle.clip_term.specs.Space.{converted}
use Rattle.flt_space.proofs.DepthLemmas.{depth_of, scaled_row, rounded_row, raised_small, converted_fits}
use Rattle.flt_turn.proofs.PartLemmas.{narrow_bytes}
use Rattle.flt_space.proofs.depth.convert_samples.Goals as goal

pub returns-then-old-eq8-clause-row : goal.returns-then-old-eq8-clause-row
returns-then-old-eq8-clause-row c =
    let input = c.args.input.now in
    let old = input.shape.bits in
    let new = c.args.shape.bits in
    let is : c.shape-old.result.bits ≡ old = ap (λ (s : Shape). s.bits) c.shape-old.ensures.shape in
    let eight : old ≡ 8 = sym is ∙ c.if-old-eq8.true in
    let row : c.row.result.now ≡ row_of input.planes c.args.plane c.args.y = c.row.ensures.row ∙ bytes_of_narrow input.shape (row_of input.planes c.args.plane c.args.y) eight in
    let depth = depth_of c.args.shape c.requires.legal in
    let factor : c.factor.result ≡ 2 ^ (new - old) = c.factor.ensures ∙ ap (λ n. 2 ^ (new - n)) is in
    scaled_row old new c.factor.result c.row.result.now c.copy_scaled.new.out (omega (arith, eight, depth.least)) factor
    (c.copy_scaled.auto.out ∙ c.requires.whole ∙ sym (c.row.ensures.whole ∙ narrow_bytes input.shape c.args.plane eight)) c.copy_scaled.ensures
    ∙ ap (map (converted old new)) row

pub copy_scaled-requires-then-old-shape-clause-small :
    goal.copy_scaled-requires-then-old-shape-clause-small
copy_scaled-requires-then-old-shape-clause-small c = λ k.
    let input = c.args.input.now in
    let old = input.shape.bits in
    let new = c.args.shape.bits in
    let is : c.shape-old.result.bits ≡ old = ap (λ (s : Shape). s.bits) c.shape-old.ensures.shape in
    let factor : c.factor-then-old-shape.result ≡ 2 ^ (new - old) = c.factor-then-old-shape.ensures ∙ ap (λ n. 2 ^ (new - n)) is in
    let few : get_or (wide_samples c.wide_row-row.result.now) k 0 ≤ 2 ^ old - 1 = rw c.wide_row-row.ensures.row (c.shape-old.ensures.sizes.bounded c.args.plane k c.args.y) in
    rw factor (raised_small old new (get_or (wide_samples c.wide_row-row.result.now) k 0) (omega (arith, is, c.if-old-shape.true)) (depth_of c.args.shape c.requires.legal).most few)

pub returns-then-old-shape-clause-row : goal.returns-then-old-shape-clause-row
returns-then-old-shape-clause-row c =
    let input = c.args.input.now in
    let old = input.shape.bits in
    let new = c.args.shape.bits in
    let is : c.shape-old.result.bits ≡ old = ap (λ (s : Shape). s.bits) c.shape-old.ensures.shape in
    let factor : c.factor-then-old-shape.result ≡ 2 ^ (new - old) = c.factor-then-old-shape.ensures ∙ ap (λ n. 2 ^ (new - n)) is in
    scaled_row old new c.factor-then-old-shape.result (wide_samples c.wide_row-row.result.now) c.copy_scaled-then-old-shape.new.out (omega (arith, is, c.if-old-shape.true)) factor
    (c.copy_scaled-then-old-shape.auto.out ∙ c.requires.whole ∙ sym c.wide_row-row.ensures.long) c.copy_scaled-then-old-shape.ensures
    ∙ ap (map (converted old new)) c.wide_row-row.ensures.row

pub returns-else-old-shape-clause-row : goal.returns-else-old-shape-clause-row
returns-else-old-shape-clause-row c =
    let input = c.args.input.now in
    let old = input.shape.bits in
    let new = c.args.shape.bits in
    let is : c.shape-old.result.bits ≡ old = ap (λ (s : Shape). s.bits) c.shape-old.ensures.shape in
    rounded_row old new (c.shape-old.result.bits - new) c.largest_sample.result (wide_samples c.wide_row-row.result.now) c.copy_rounded.new.out (omega (arith, is, c.if-old-shape.false))
    (ap (λ n. n - new) is) c.largest_sample.ensures (c.copy_rounded.auto.out ∙ c.requires.whole ∙ sym c.wide_row-row.ensures.long) c.copy_rounded.ensures
    ∙ ap (map (converted old new)) c.wide_row-row.ensures.row

pub returns-then-old-eq8-clause-fits : goal.returns-then-old-eq8-clause-fits
returns-then-old-eq8-clause-fits c = search (arith, returns-then-old-eq8-clause-row, converted_fits)

pub returns-then-old-shape-clause-fits : goal.returns-then-old-shape-clause-fits
returns-then-old-shape-clause-fits c = search (arith, returns-then-old-shape-clause-row, converted_fits)
