use Rattle.lex_laws.proofs.EndLineLemmas.{rest_is_not_read}
use Rattle.lex_laws.proofs.rest_is_not_read.Goals as goal

pub returns : goal.returns
returns c = rest_is_not_read
