use Rattle.std.proofs.Common.{rules}
use Rattle.flt_turn.proofs.BlockLemmas.{woven}
use Rattle.flt_turn.proofs.kernels.weave.Goals as goal

pub returns : goal.returns
returns c =
    let is = woven c.split_at_mut-start.result.0.now c.split_at_mut-start.result.1.now c.args.front.now c.args.back.now (search rules) (search rules) c.requires.front c.requires.back in
    record { whole = is.whole; even = is.even; odd = is.odd }
