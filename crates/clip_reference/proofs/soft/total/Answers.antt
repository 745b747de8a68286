use Rattle.std.proofs.Common.{arith}
use Rattle.std.specs.Prelude.{pos}
use Rattle.std.proofs.lemmas.Int.{ints}
use Rattle.clip_reference.proofs.WeightLemmas.{total_more}
use Rattle.clip_reference.proofs.soft.total.Goals as goal

pub loop-entry-preserved : goal.loop-entry-preserved
loop-entry-preserved c =
    let more = total_more c.args.matrix.now c.loop-entry.entry-index (pos 0) c.loop-entry-test.true in
    record {
      made = omega (arith, ints, more, c.loop-entry.invariant.made);
      low = omega (arith, ints);
      high = omega (arith, ints);
    }
