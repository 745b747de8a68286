use Rattle.std.proofs.Common.{sym, ap, ◌∙◌, take, drop, get_or, [], arith}
use Rattle.std.specs.Prelude.{max}
use Rattle.std.specs.List.{fold}
use Rattle.fv_plane.specs.declared.format.Shape.{Shape}
use Rattle.fv_plane.specs.Picture.{row_of_bytes, bytes_of_rows}
use Rattle.flt_choice.proofs.SampleLemmas.{rows_step, whole_rows}
use Rattle.flt_choice.proofs.stats.greatest.Goals as goal

pub greatest_in-greatest-requires-clause-whole : goal.greatest_in-greatest-requires-clause-whole
greatest_in-greatest-requires-clause-whole c = search (arith, whole_rows)

pub loop-y-preserved : goal.loop-y-preserved
loop-y-preserved c =
    let rows = get_or c.args.frame.now.planes c.args.plane [] in
    let count = c.rows_from-count.result.1 in
    let bytes = c.rows_from-count.result.0.now in
    let shape = c.shape-shape.result in
    let same = c.shape-shape.ensures.shape in
    record {
      so_far = c.greatest_in-greatest.ensures.greatest ∙ ap (λ a. fold max a (row_of_bytes shape bytes)) c.loop-y.invariant.so_far
          ∙ sym (rows_step max 0 shape rows c.loop-y.y count bytes (c.rows_from-count.ensures.rows ∙ ap (λ (s : Shape). bytes_of_rows s (take count (drop c.loop-y.y rows))) (sym same)));
      few = λ eight. c.greatest_in-greatest.ensures.few (ap (λ (s : Shape). s.bits) same ∙ eight);
      inside = c.rows_from-count.ensures.inside;
      shape = same;
    }
