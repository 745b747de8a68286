use Rattle.clip_graph.proofs.UnfoldingLemmas.{places_are_terms}
use Rattle.clip_graph.proofs.laws.places_are_terms.Goals as goal

pub returns : goal.returns
returns c = places_are_terms
