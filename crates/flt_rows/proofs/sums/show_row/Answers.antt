use Rattle.std.proofs.Common.{◌≡◌, ◌∙◌, ◌<◌, ℕ, List, length, get_or, ap, arith, pos, ◌+ℤ◌, w32}
use Rattle.std.specs.Prelude.{int_div}
use Rattle.std.proofs.lemmas.Int.{ints}
use Rattle.clip_term.specs.Soft.{sample_from}
use Rattle.flt_rows.specs.Rows.{IsWithin}
use Rattle.flt_rows.proofs.RowLemmas.{put_next}
use Rattle.flt_rows.proofs.sums.show_row.Goals as goal
use mir.Val.{to_z, of_z}

pub loop-x-preserved : goal.loop-x-preserved
loop-x-preserved g c =
    let sum = get_or c.args.sums.now c.loop-x.x (pos 0) in
    let small : IsWithin 1677696000 sum = c.requires.sums c.loop-x.x in
    let same : to_z w32 (of_z w32 sum) ≡ sum = omega (arith, ints, small.low, small.high) in
    let out : List ℕ = g.T.Sample.numbers c.loop-x.out in
    let inside : c.loop-x.x < length out = rw (g.met.T.Sample.long c.loop-x.out) (omega arith) in
    let by = to_z w32 (of_z w32 c.args.divisor) in
    let bias = to_z w32 (of_z w32 c.args.bias) in
    put_next (g.T.Sample.numbers c.put.new.row) out _ c.loop-x.x _ c.put.ensures inside (c.show.ensures.value ∙ ap (λ z. sample_from c.args.largest (int_div z by +ℤ bias)) same) c.loop-x.invariant
