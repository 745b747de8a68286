use Rattle.avs_tree.proofs.SizeLemmas.{script_fits}
use Rattle.avs_tree.proofs.laws.scripts_are_short.Goals as goal

pub returns : goal.returns
returns c = script_fits
