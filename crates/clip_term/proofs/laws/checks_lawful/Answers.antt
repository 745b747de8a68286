use Rattle.clip_term.proofs.LawfulLemmas.{checks_lawful}
use Rattle.clip_term.proofs.laws.checks_lawful.Goals as goal

pub returns : goal.returns
returns c = checks_lawful
