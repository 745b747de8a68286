use Rattle.avs_lex.proofs.ReadBackLemmas.{written_is_read}
use Rattle.avs_lex.proofs.laws.written_words_are_read.Goals as goal

pub returns : goal.returns
returns c = written_is_read
