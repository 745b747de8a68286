use Rattle.avs_tree.proofs.Examples.{examples_hold}
use Rattle.avs_tree.proofs.laws.examples.Goals as goal

pub returns : goal.returns
returns c = examples_hold
