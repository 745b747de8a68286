use Rattle.std.proofs.Common.{rules, ◌-◌, arith, refl}
use Rattle.flt_space.proofs.LaneLemmas.{lanes_changed}
use Rattle.flt_space.proofs.MapLemmas.{mapped}
use Rattle.flt_space.proofs.kernels.invert_row.Goals as goal

pub loop-k-preserved : goal.loop-k-preserved
loop-k-preserved c =
    let so = lanes_changed (λ sample. 255 - sample) c.args.row.now c.loop-k.row _ c.loop-k.k
    (record { long = c.loop-k.auto.row; done = c.loop-k.invariant.done; left = c.loop-k.invariant.left }) (omega (arith, c.loop-k-test.true, c.loop-k.auto.row)) refl in
    record { done = so.done; left = so.left }

pub returns : goal.returns
returns c = mapped (λ sample. 255 - sample) c.args.row.now c.loop-x.row (search rules) (λ k within. c.loop-x.invariant.done k (omega arith))
