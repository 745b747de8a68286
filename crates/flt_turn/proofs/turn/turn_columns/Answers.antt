use Rattle.std.proofs.Common.{rules, ◌≡◌, ◌∙◌, ◌+◌, ap, get_or, length-set}
use Rattle.fv_plane.specs.Picture.{row_of}
use Rattle.fv_plane.proofs.CallerLemmas.{bytes_of_narrow}
use Rattle.flt_turn.proofs.PartLemmas.{column_made, narrow-set, sample_put, turned_sample}
use Rattle.flt_turn.proofs.turn.turn_columns.Goals as goal

pub loop-k-preserved : goal.loop-k-preserved
loop-k-preserved g c =
    let input = c.args.input.now in
    let p = c.args.plane in
    let read : c.row-row.result.now ≡ row_of input.planes p c.row.result
    = c.row-row.ensures.row ∙ bytes_of_narrow input.shape (row_of input.planes p c.row.result) c.requires.narrow in
    sample_put g.T.Turn.row_of g.T.Turn.column_of input p c.args.y c.args.count c.loop-x.x c.loop-k.k c.loop-k.out c.loop-k.invariant _ c.place-at.result _
    (length-set c.loop-k.out c.place-at.result _) (narrow-set input.shape c.place-at.result _ c.loop-k.out c.requires.narrow)
    (search rules) (search rules) (search rules)
    (ap (λ l. get_or l c.column.result 0) read
    ∙ turned_sample g.T.Turn.row_of g.T.Turn.column_of input p c.loop-x.x (c.args.y + c.loop-k.k) _ _ c.row.result c.column.result (search rules) (search rules) c.row.ensures.value c.column.ensures.value)

pub loop-x-preserved : goal.loop-x-preserved
loop-x-preserved g c =
    column_made g.T.Turn.row_of g.T.Turn.column_of c.args.input.now c.args.plane c.args.y c.args.count c.loop-x.x c.loop-k.k c.loop-k.out c.loop-k.invariant c.loop-k-test.false
