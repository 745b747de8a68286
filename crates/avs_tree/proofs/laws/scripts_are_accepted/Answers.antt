use Rattle.avs_tree.proofs.Places.{accepted}
use Rattle.avs_tree.proofs.laws.scripts_are_accepted.Goals as goal

pub returns : goal.returns
returns c = accepted
