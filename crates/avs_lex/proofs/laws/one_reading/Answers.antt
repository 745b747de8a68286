use Rattle.avs_lex.proofs.ReadingLemmas.{one_reading}
use Rattle.avs_lex.proofs.laws.one_reading.Goals as goal

pub returns : goal.returns
returns c = one_reading
