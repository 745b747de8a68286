use Rattle.std.proofs.Common.{arith}
use Rattle.clip_reference.proofs.StackLemmas.{beside_next}
use Rattle.clip_reference.proofs.join.beside.Goals as goal

pub loop-i-preserved : goal.loop-i-preserved
loop-i-preserved c = search (arith, beside_next)
