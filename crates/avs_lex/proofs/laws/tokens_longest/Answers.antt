use Rattle.avs_lex.proofs.LongestLemmas.{are_longest}
use Rattle.avs_lex.proofs.laws.tokens_longest.Goals as goal

pub returns : goal.returns
returns c = are_longest
