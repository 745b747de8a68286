use Rattle.avs_parse.proofs.LoadLemmas.{fault_told}
use Rattle.avs_parse.proofs.laws.first_fault_is_told.Goals as goal

pub returns : goal.returns
returns c = fault_told
