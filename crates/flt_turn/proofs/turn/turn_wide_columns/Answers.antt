use Rattle.std.proofs.Common.{rules, ◌≡◌, ◌∙◌, ◌+◌, ◌*◌, ℕ, get_or, set, length, length-set}
use Rattle.fv_plane.specs.Picture.{wide_bytes, row_of}
use Rattle.fv_plane.specs.Format.{plane_height}
use Rattle.fv_plane.proofs.CallerLemmas.{bytes_of_wide, is_wide}
use Rattle.flt_turn.proofs.PartLemmas.{column_made, pair_inside, sample_put, turned_sample, wide-set}
use Rattle.flt_turn.proofs.TurnLemmas.{wide_value}
use Rattle.flt_turn.proofs.turn.turn_wide_columns.Goals as goal

pub loop-k-preserved : goal.loop-k-preserved
loop-k-preserved g c =
    let input = c.args.input.now in
    let p = c.args.plane in
    let wide = is_wide input.shape c.requires.wide in
    let read : c.row-row.result.now ≡ wide_bytes (row_of input.planes p c.row.result)
    = c.row-row.ensures.row ∙ bytes_of_wide input.shape (row_of input.planes p c.row.result) wide in
    let at : ℕ = 2 * c.place-at.result in
    let first : ℕ = get_or c.row-row.result.now (2 * c.column.result) 0 in
    let second : ℕ = get_or c.row-row.result.now (2 * c.column.result + 1) 0 in
    let high : c.plane_height-height.result ≡ plane_height input.shape p = search rules in
    let end = pair_inside input.shape c.args.count c.plane_height-height.result (plane_height input.shape p) c.place-at.result (length c.loop-k.out) c.requires.wide high c.place-at.ensures.inside c.loop-k.invariant.long in
    sample_put g.T.Turn.row_of g.T.Turn.column_of input p c.args.y c.args.count c.loop-x.x c.loop-k.k c.loop-k.out c.loop-k.invariant (set (set c.loop-k.out at first) (at + 1) second) c.place-at.result _
    (length-set (set c.loop-k.out at first) (at + 1) second ∙ length-set c.loop-k.out at first)
    (wide-set input.shape c.place-at.result first second c.loop-k.out wide end)
    (search rules) (search rules) (search rules)
    (wide_value (row_of input.planes p c.row.result) c.row-row.result.now c.column.result read
    ∙ turned_sample g.T.Turn.row_of g.T.Turn.column_of input p c.loop-x.x (c.args.y + c.loop-k.k) _ _ c.row.result c.column.result (search rules) (search rules) c.row.ensures.value c.column.ensures.value)

pub loop-x-preserved : goal.loop-x-preserved
loop-x-preserved g c =
    column_made g.T.Turn.row_of g.T.Turn.column_of c.args.input.now c.args.plane c.args.y c.args.count c.loop-x.x c.loop-k.k c.loop-k.out c.loop-k.invariant c.loop-k-test.false
