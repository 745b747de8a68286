use Rattle.avs_tree.proofs.OnePlace.{one_stop, one_deep, never_both}
use Rattle.avs_tree.proofs.laws.one_place.Goals as goal

pub returns : goal.returns
returns c = record { stop = one_stop; deep = one_deep; apart = never_both }
