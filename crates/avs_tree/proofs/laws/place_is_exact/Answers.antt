use Rattle.avs_tree.proofs.Places.{exact}
use Rattle.avs_tree.proofs.laws.place_is_exact.Goals as goal

pub returns : goal.returns
returns c = exact
