use Rattle.clip_term.proofs.WeaveLemmas.{weaves_again}
use Rattle.clip_term.proofs.laws.weaves_again.Goals as goal

pub returns : goal.returns
returns c = weaves_again
