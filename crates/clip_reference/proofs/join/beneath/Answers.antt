use Rattle.std.proofs.Common.{arith}
use Rattle.clip_reference.proofs.StackLemmas.{beneath_next}
use Rattle.clip_reference.proofs.join.beneath.Goals as goal

pub loop-i-preserved : goal.loop-i-preserved
loop-i-preserved c = search (arith, beneath_next)
