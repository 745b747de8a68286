-- What is read may be read.
use Rattle.std.proofs.Common.{Result, Ok, Err}
use Rattle.clip_term.specs.declared.op.Op.{Op}
use Rattle.avs_meaning.specs.Arguments.{Reading}
use Rattle.avs_calls.specs.Arguments.{MayRead, Reads}
use Rattle.avs_calls.specs.declared.refused.Refused.{Refused}
use Rattle.avs_calls.specs.declared.refused.Refused.TheVariants.{Fault, Memory}

pub may_read : (reading : Reading) (result : Result Op Refused) → Reads reading result → MayRead reading result
may_read reading (Ok op) read = read
may_read reading (Err (Fault kind)) read = read
may_read reading (Err Memory) read = tt
