use Rattle.meaning_laws.proofs.MeansLemmas.{meaning_is}
use Rattle.meaning_laws.proofs.meaning_is_by_relations.Goals as goal

pub returns : goal.returns
returns c = meaning_is
