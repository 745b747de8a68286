use Rattle.avs_runtime.proofs.FoundLemmas.{expression_found}
use Rattle.avs_runtime.proofs.laws.expression_is_found.Goals as goal

pub returns : goal.returns
returns c = expression_found
