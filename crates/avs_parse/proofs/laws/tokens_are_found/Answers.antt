use Rattle.avs_parse.proofs.TokenLemmas.{tokens_found}
use Rattle.avs_parse.proofs.laws.tokens_are_found.Goals as goal

pub returns : goal.returns
returns c = tokens_found
