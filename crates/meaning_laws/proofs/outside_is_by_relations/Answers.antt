use Rattle.meaning_laws.proofs.FileLemmas.{tells_world}
use Rattle.meaning_laws.proofs.outside_is_by_relations.Goals as goal

pub returns : goal.returns
returns c = tells_world
