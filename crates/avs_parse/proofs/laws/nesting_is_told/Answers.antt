use Rattle.avs_parse.proofs.LoadLemmas.{nesting_told}
use Rattle.avs_parse.proofs.laws.nesting_is_told.Goals as goal

pub returns : goal.returns
returns c = nesting_told
