use Rattle.std.proofs.Common.{ℕ, ◌<◌, List, length, arith}
use Rattle.flt_rows.proofs.RowLemmas.{put_next}
use Rattle.flt_rows.proofs.mean.mean_row.Goals as goal

pub loop-x-preserved : goal.loop-x-preserved
loop-x-preserved g c =
    let out : List ℕ = g.T.Sample.numbers c.loop-x.out in
    let inside : c.loop-x.x < length out = rw (g.met.T.Sample.long c.loop-x.out) (omega arith) in
    put_next (g.T.Sample.numbers c.put.new.row) out _ c.loop-x.x _ c.put.ensures inside c.mean.ensures.value c.loop-x.invariant
