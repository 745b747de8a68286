use Rattle.avs_tree.proofs.OneToken.{same_advance}
use Rattle.avs_tree.proofs.laws.one_token.Goals as goal

pub returns : goal.returns
returns c = λ state token ts us. same_advance token ts us state
