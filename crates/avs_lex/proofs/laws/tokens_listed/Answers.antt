use Rattle.avs_lex.proofs.ListLemmas.{is_listed}
use Rattle.avs_lex.proofs.laws.tokens_listed.Goals as goal

pub returns : goal.returns
returns c = is_listed
