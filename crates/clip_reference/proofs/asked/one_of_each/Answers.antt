use Rattle.std.proofs.Common.{arith}
use Rattle.clip_reference.proofs.AskedLemmas.{listed_more}
use Rattle.clip_reference.proofs.asked.one_of_each.Goals as goal

pub loop-i-preserved : goal.loop-i-preserved
loop-i-preserved c = search (arith, listed_more)
