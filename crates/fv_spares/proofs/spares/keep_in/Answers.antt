use Rattle.std.proofs.Common.{arith}
use Rattle.fv_spares.proofs.SpareLemmas.{of_some, kept_one, kept_over}
use Rattle.fv_spares.proofs.spares.keep_in.Goals as goal

pub returns-then-len-most-clause-kept : goal.returns-then-len-most-clause-kept
returns-then-len-most-clause-kept c = λ bytes large. kept_over _ bytes _ c.push.new.self.items _ c.in-Some.piece c.requires.bounded c.in-Ok.ensures.items (omega (arith, c.if-len-most.true, c.len.ensures)) c.remove.ensures.items (of_some _ _ _ c.in-Some.is large)

pub returns-else-len-most-clause-kept : goal.returns-else-len-most-clause-kept
returns-else-len-most-clause-kept c = λ bytes large. kept_one _ bytes _ _ c.in-Some.piece c.in-Ok.ensures.items (omega (arith, c.if-len-most.false, c.len.ensures)) (of_some _ _ _ c.in-Some.is large)
