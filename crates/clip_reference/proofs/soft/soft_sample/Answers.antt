use Rattle.std.proofs.Common.{arith}
use Rattle.std.proofs.lemmas.Grind.{common_steps}
use Rattle.clip_reference.proofs.soft.soft_sample.Goals as goal

pub returns-in-GeneralConvolution : goal.returns-in-GeneralConvolution
returns-in-GeneralConvolution c = grind (arith, common_steps)
