use Rattle.run_agree.proofs.LawfulLemmas.{whole_closes}
use Rattle.run_agree.proofs.whole_closes.Goals as goal

pub returns : goal.returns
returns c = whole_closes
