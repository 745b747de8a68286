use Rattle.std.proofs.Common.{rules, ◌≡◌, ◌∙◌, ℕ, ◌+◌, ◌*◌, ◌-◌, ◌<◌, List, length, get_or, ap, refl, arith}
use Rattle.std.proofs.lemmas.List.Edits.{get_or-between}
use Rattle.fv_plane.specs.Format.{plane_height, plane_width, sample_bytes}
use Rattle.fv_plane.specs.Picture.{row_of}
use Rattle.fv_plane.proofs.CallerLemmas.{bytes_of_narrow, narrow_of_bytes}
use Rattle.flt_turn.proofs.BlockLemmas.{length_part}
use Rattle.flt_turn.proofs.PartLemmas.{narrow_bytes, narrow_place, one_byte, part_fits, row_put, spot_of, turned_sample}
use Rattle.flt_turn.proofs.turn.turn_block.Goals as goal

pub loop-k-preserved : goal.loop-k-preserved
loop-k-preserved g c =
    let input = c.args.input.now in
    let shape = input.shape in
    let p = c.args.plane in
    let k : ℕ = c.loop-k.k in
    let row : ℕ = c.args.top + k in
    let h : ℕ = plane_height shape p in
    let first : ℕ = c.first_column-first.result in
    let from : ℕ = c.start_in_block-from.result in
    let out : List ℕ = c.loop-k.out in
    let part : List ℕ = c.copy_16.new.out in
    let block : List ℕ = c.transpose.new.block in
    let high : c.plane_height-height.result ≡ h = search rules in
    let one : sample_bytes shape ≡ 1 = one_byte shape c.requires.narrow in
    let a : ℕ = row * c.plane_height-height.result + c.args.x in
    let at : a ≡ (row * h + c.args.x) * sample_bytes shape = narrow_place shape row c.plane_height-height.result h c.args.x one high in
    let n : ℕ = a + 16 - a in
    let size : n ≡ 16 * sample_bytes shape = omega (arith, one) in
    let inside : row < c.args.count = omega (arith, c.loop-k-test.true, c.requires.inside) in
    let spot = spot_of _ first from (c.first_column-first.ensures.low k c.loop-k-test.true) (c.first_column-first.ensures.high k c.loop-k-test.true) c.start_in_block-from.ensures in
    let column : first + spot.at ≡ g.T.Turn.column_of c.plane_width-width.result (c.args.y + row) = spot.is ∙ ap (g.T.Turn.column_of c.plane_width-width.result) (omega arith) in
    let long : length part ≡ n
    = c.copy_16.auto.out ∙ length_part a n out (part_fits shape c.args.count h c.args.x row a n (length out) c.loop-k.invariant.long inside c.requires.down at size) in
    row_put g.T.Turn.row_of g.T.Turn.column_of input p c.args.y c.args.count c.args.x row _ a n out part c.loop-k.invariant.long inside c.requires.down (omega arith) at size long
    (λ i less.
    ap (λ l. get_or l i 0) (narrow_of_bytes shape part c.requires.narrow ∙ c.copy_16.ensures) ∙ get_or-between block from (from + 16) i 0 (omega arith)
    ∙ ap (λ z. get_or block (z + i) 0) spot.begins ∙ c.transpose.ensures spot.at i spot.few less ∙ c.read_block.ensures spot.at i spot.few less
    ∙ ap (λ l. get_or l (first + spot.at) 0) (bytes_of_narrow shape (row_of input.planes p (g.T.Turn.row_of h (c.args.x + i))) c.requires.narrow)
    ∙ turned_sample g.T.Turn.row_of g.T.Turn.column_of input p (c.args.x + i) (c.args.y + row) h _ _ _ refl (search rules) refl column)
    c.loop-k.invariant.made

pub slice_bounds-copy_16-end-in-loop-k : goal.slice_bounds-copy_16-end-in-loop-k
slice_bounds-copy_16-end-in-loop-k g c =
    let shape = c.args.input.now.shape in
    let high : c.plane_height-height.result ≡ plane_height shape c.args.plane = search rules in
    let one : sample_bytes shape ≡ 1 = one_byte shape c.requires.narrow in
    let row : ℕ = c.args.top + c.loop-k.k in
    part_fits shape c.args.count (plane_height shape c.args.plane) c.args.x row _ 16 (length c.loop-k.out) c.loop-k.invariant.long (omega (arith, c.loop-k-test.true, c.requires.inside)) c.requires.down
    (narrow_place shape row c.plane_height-height.result (plane_height shape c.args.plane) c.args.x one high) (omega (arith, one))

pub read_block-requires-clause-across : goal.read_block-requires-clause-across
read_block-requires-clause-across g c =
    let wide : c.plane_width-width.result ≡ plane_width c.args.input.now.shape c.args.plane = search rules in
    omega (arith, wide, narrow_bytes c.args.input.now.shape c.args.plane c.requires.narrow, c.first_column-first.ensures.inside)
