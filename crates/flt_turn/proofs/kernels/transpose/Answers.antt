use Rattle.flt_turn.proofs.BlockLemmas.{transposed}
use Rattle.flt_turn.proofs.kernels.transpose.Goals as goal

pub returns : goal.returns
returns c =
    transposed c.args.block.now _ _ _ _ (record { even = c.interleave.ensures.even; odd = c.interleave.ensures.odd }) (record { even = c.interleave-2.ensures.even; odd = c.interleave-2.ensures.odd })
    (record { even = c.interleave-3.ensures.even; odd = c.interleave-3.ensures.odd }) (record { even = c.interleave-4.ensures.even; odd = c.interleave-4.ensures.odd })
