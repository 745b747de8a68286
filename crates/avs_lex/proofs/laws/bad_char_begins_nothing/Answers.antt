use Rattle.avs_lex.proofs.BadCharLemmas.{bad_char}
use Rattle.avs_lex.proofs.laws.bad_char_begins_nothing.Goals as goal

pub returns : goal.returns
returns c = bad_char
