use Rattle.std.proofs.Common.{rules, ◌*◌, w8, arith}
use Rattle.std.proofs.lemmas.Simd.{chunk-fits}
use Rattle.flt_merge.proofs.LaneLemmas.{sums_fit, raised_fit, means_fit, lanes_merged}
use Rattle.flt_merge.proofs.RowLemmas.{means_are}
use Rattle.flt_merge.proofs.kernels.merge_row.Goals as goal
use lib.Lanes.{chunk}

pub overflow_add-sums : goal.overflow_add-sums
overflow_add-sums c =
    let at = 32 * c.loop-k.k in
    sums_fit (chunk at 32 c.args.a.now) (chunk at 32 c.args.b.now) (chunk-fits w8 at 32 c.args.a.now c.type_inv.a) (chunk-fits w8 at 32 c.args.b.now c.type_inv.b)

pub overflow_add-sums-in-loop-k : goal.overflow_add-sums-in-loop-k
overflow_add-sums-in-loop-k c =
    let at = 32 * c.loop-k.k in
    raised_fit (chunk at 32 c.args.a.now) (chunk at 32 c.args.b.now) (chunk-fits w8 at 32 c.args.a.now c.type_inv.a) (chunk-fits w8 at 32 c.args.b.now c.type_inv.b)

pub overflow_cast-out : goal.overflow_cast-out
overflow_cast-out c =
    let at = 32 * c.loop-k.k in
    means_fit (chunk at 32 c.args.a.now) (chunk at 32 c.args.b.now) (chunk-fits w8 at 32 c.args.a.now c.type_inv.a) (chunk-fits w8 at 32 c.args.b.now c.type_inv.b)

pub loop-k-preserved : goal.loop-k-preserved
loop-k-preserved c = search (arith, lanes_merged)

pub returns : goal.returns
returns c = means_are c.args.a.now c.args.b.now c.loop-x.out (search rules) (search rules) (λ k h. c.loop-x.invariant k (omega arith))
