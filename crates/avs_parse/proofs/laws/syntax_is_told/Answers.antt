use Rattle.avs_parse.proofs.LoadLemmas.{syntax_told}
use Rattle.avs_parse.proofs.laws.syntax_is_told.Goals as goal

pub returns : goal.returns
returns c = syntax_told
