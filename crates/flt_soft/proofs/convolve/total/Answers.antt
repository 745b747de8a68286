use Rattle.std.proofs.Common.{arith}
use Rattle.std.specs.Prelude.{pos}
use Rattle.std.proofs.lemmas.Int.{ints}
use Rattle.flt_rows.proofs.WeightLemmas.{total_more}
use Rattle.flt_soft.proofs.convolve.total.Goals as goal

pub loop-weight-preserved : goal.loop-weight-preserved
loop-weight-preserved c =
    let i = c.loop-weight.weight-index in
    let more = total_more c.args.weights.now i (pos 0) c.loop-weight-test.true in
    let weight = c.requires.weights i in
    record {
      made = omega (arith, ints, more, c.loop-weight.invariant.made, weight.low, weight.high);
      low = omega (arith, ints, weight.low, weight.high);
      high = omega (arith, ints, weight.low, weight.high);
    }
