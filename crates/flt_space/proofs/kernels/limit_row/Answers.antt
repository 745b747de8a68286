use Rattle.std.proofs.Common.{rules, ◌*◌, ◌+◌, ◌≤◌, length, arith}
use Rattle.std.proofs.lemmas.Simd.{length-chunk}
use Rattle.clip_term.specs.Space.{limited}
use Rattle.flt_space.proofs.LaneLemmas.{lanes_changed, lanes_limited}
use Rattle.flt_space.proofs.MapLemmas.{mapped}
use Rattle.flt_space.proofs.kernels.limit_row.Goals as goal
use lib.Lanes.{chunk}

pub loop-k-preserved : goal.loop-k-preserved
loop-k-preserved c =
    let low = c.args.low in
    let high = c.args.high in
    let at = 32 * c.loop-k.k in
    let room : at + 32 ≤ length c.loop-k.row = omega (arith, c.loop-k-test.true, c.loop-k.auto.row) in
    let so = lanes_changed (limited low high) c.args.row.now c.loop-k.row _ c.loop-k.k
    (record { long = c.loop-k.auto.row; done = c.loop-k.invariant.done; left = c.loop-k.invariant.left }) room
    (lanes_limited low high (chunk at 32 c.loop-k.row) (length-chunk at 32 c.loop-k.row room)) in
    record { done = so.done; left = so.left }

pub returns : goal.returns
returns c = mapped (limited c.args.low c.args.high) c.args.row.now c.loop-x.row (search rules) (λ k within. c.loop-x.invariant.done k (omega arith))
