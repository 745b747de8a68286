use Rattle.avs_parse.proofs.LoadLemmas.{script_found}
use Rattle.avs_parse.proofs.laws.script_is_found.Goals as goal

pub returns : goal.returns
returns c = script_found
