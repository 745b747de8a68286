use Rattle.std.proofs.Common.{rules, ◌≡◌, ◌∙◌, ℕ, ◌+◌, ◌*◌, ◌-◌, ◌<◌, List, length, get_or, ap, refl, arith}
use Rattle.std.proofs.lemmas.List.Edits.{get_or-between}
use Rattle.fv_plane.specs.Format.{plane_height, sample_bytes}
use Rattle.fv_plane.proofs.CallerLemmas.{is_wide, wide_of_bytes}
use Rattle.fv_plane.proofs.WideLemmas.{wide_samples-at}
use Rattle.flt_turn.proofs.PartLemmas.{wide_place, part_fits, row_put, spot_of, turned_sample}
use Rattle.flt_turn.proofs.turn.turn_wide_block.Goals as goal

pub loop-k-preserved : goal.loop-k-preserved
loop-k-preserved g c =
    let input = c.args.input.now in
    let shape = input.shape in
    let p = c.args.plane in
    let k : ℕ = c.loop-k.k in
    let row : ℕ = c.args.top + k in
    let h : ℕ = plane_height shape p in
    let first : ℕ = c.first_column-first.result in
    let from : ℕ = c.start_in_block-from.result in
    let part : List ℕ = c.weave.new.out in
    let low : List ℕ = c.transpose.new.block in
    let high : List ℕ = c.transpose-2.new.block in
    let tall : c.plane_height-height.result ≡ h = search rules in
    let a : ℕ = 2 * (row * c.plane_height-height.result + c.args.x) in
    let at : a ≡ (row * h + c.args.x) * sample_bytes shape = wide_place shape row c.plane_height-height.result h c.args.x c.requires.wide tall in
    let n : ℕ = a + 32 - a in
    let size : n ≡ 16 * sample_bytes shape = omega (arith, c.requires.wide) in
    let inside : row < c.args.count = omega (arith, c.loop-k-test.true, c.requires.inside) in
    let spot = spot_of _ first from (c.first_column-first.ensures.low k c.loop-k-test.true) (c.first_column-first.ensures.high k c.loop-k-test.true) c.start_in_block-from.ensures in
    let column : first + spot.at ≡ g.T.Turn.column_of c.plane_width-width.result (c.args.y + row) = spot.is ∙ ap (g.T.Turn.column_of c.plane_width-width.result) (omega arith) in
    let even : (i : ℕ) → i < 16 → get_or part (2 * i) 0 ≡ get_or c.read_wide_block.new.low (16 * i + spot.at) 0 = λ i less.
    c.weave.ensures.even i less ∙ get_or-between low from (from + 16) i 0 (omega arith) ∙ ap (λ z. get_or low (z + i) 0) spot.begins ∙ c.transpose.ensures spot.at i spot.few less in
    let odd : (i : ℕ) → i < 16 → get_or part (2 * i + 1) 0 ≡ get_or c.read_wide_block.new.high (16 * i + spot.at) 0 = λ i less.
    c.weave.ensures.odd i less ∙ get_or-between high from (from + 16) i 0 (omega arith) ∙ ap (λ z. get_or high (z + i) 0) spot.begins ∙ c.transpose-2.ensures spot.at i spot.few less in
    row_put g.T.Turn.row_of g.T.Turn.column_of input p c.args.y c.args.count c.args.x row _ a n c.loop-k.out part c.loop-k.invariant.long inside c.requires.down (omega arith) at size
    (omega (arith, c.weave.ensures.whole))
    (λ i less.
    ap (λ l. get_or l i 0) (wide_of_bytes shape part (is_wide shape c.requires.wide)) ∙ wide_samples-at part i (omega (arith, c.weave.ensures.whole))
    ∙ ap (λ z. z + 256 * get_or part (2 * i + 1) 0) (even i less) ∙ ap (λ z. get_or c.read_wide_block.new.low (16 * i + spot.at) 0 + 256 * z) (odd i less)
    ∙ c.read_wide_block.ensures spot.at i spot.few less
    ∙ turned_sample g.T.Turn.row_of g.T.Turn.column_of input p (c.args.x + i) (c.args.y + row) h _ _ _ refl (search rules) refl column)
    c.loop-k.invariant.made

pub slice_bounds-weave-end-in-loop-k-2 : goal.slice_bounds-weave-end-in-loop-k-2
slice_bounds-weave-end-in-loop-k-2 g c =
    let shape = c.args.input.now.shape in
    let h : ℕ = plane_height shape c.args.plane in
    let row : ℕ = c.args.top + c.loop-k.k in
    let high : c.plane_height-height.result ≡ h = search rules in
    part_fits shape c.args.count h c.args.x row _ 32 (length c.loop-k.out) c.loop-k.invariant.long (omega (arith, c.loop-k-test.true, c.requires.inside)) c.requires.down
    (wide_place shape row c.plane_height-height.result h c.args.x c.requires.wide high) (omega (arith, c.requires.wide))
