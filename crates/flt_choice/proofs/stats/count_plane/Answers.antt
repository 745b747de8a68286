use Rattle.std.proofs.Common.{List, ℕ, [], take, drop, get_or, sym, ap, ◌∙◌, subst, arith}
use Rattle.fv_rows.specs.Rows.{flat_rows}
use Rattle.fv_plane.specs.declared.format.Shape.{Shape}
use Rattle.fv_plane.specs.Picture.{row_of_bytes, bytes_of_rows}
use Rattle.flt_choice.specs.Counts.{AddsCounts}
use Rattle.flt_choice.proofs.CountLemmas.{counts_both, none_room}
use Rattle.flt_choice.proofs.SampleLemmas.{rows_fit, rows_room, rows_joined, whole_rows}
use Rattle.flt_choice.proofs.stats.count_plane.Goals as goal

pub count_in-requires-clause-whole : goal.count_in-requires-clause-whole
count_in-requires-clause-whole c = search (arith, whole_rows)

pub count_in-requires-clause-fits : goal.count_in-requires-clause-fits
count_in-requires-clause-fits c = search (arith, rows_fit)

pub count_in-requires-clause-room : goal.count_in-requires-clause-room
count_in-requires-clause-room c = search (arith, rows_room, none_room)

pub loop-y-preserved : goal.loop-y-preserved
loop-y-preserved c =
    let rows = get_or c.args.frame.now.planes c.args.plane [] in
    let count = c.rows_from-rows.result.1 in
    let bytes = c.rows_from-rows.result.0.now in
    let shape = c.shape-shape.result in
    let same = c.shape-shape.ensures.shape in
    let front = flat_rows (take c.loop-y.y rows) in
    record {
      so_far = subst (λ (l : List ℕ). AddsCounts c.args.size c.args.counts.now l c.count_in.new.counts)
          (sym (rows_joined shape rows c.loop-y.y count bytes (c.rows_from-rows.ensures.rows ∙ ap (λ (s : Shape). bytes_of_rows s (take count (drop c.loop-y.y rows))) (sym same))))
          (counts_both c.args.size c.args.counts.now c.loop-y.counts c.count_in.new.counts front (row_of_bytes shape bytes) c.loop-y.invariant.so_far c.count_in.ensures);
      inside = c.rows_from-rows.ensures.inside;
      shape = same;
    }
