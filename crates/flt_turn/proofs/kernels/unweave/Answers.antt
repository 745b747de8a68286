use Rattle.flt_turn.proofs.BlockLemmas.{unwoven}
use Rattle.flt_turn.proofs.kernels.unweave.Goals as goal

pub returns : goal.returns
returns c =
    let is = unwoven c.args.front.now c.args.back.now c.args.even.now c.args.odd.now c.requires.front c.requires.back c.requires.even c.requires.odd in
    record { even_whole = is.even_whole; odd_whole = is.odd_whole; even = is.even; odd = is.odd }
