use Rattle.avs_parse.proofs.TokenLemmas.{fault_found}
use Rattle.avs_parse.proofs.laws.first_fault_is_found.Goals as goal

pub returns : goal.returns
returns c = fault_found
