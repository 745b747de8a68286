use Rattle.avs_tree.proofs.Ends.{end_is_told}
use Rattle.avs_tree.proofs.laws.end_is_told.Goals as goal

pub returns : goal.returns
returns c = end_is_told
