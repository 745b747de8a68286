use Rattle.serve_app.proofs.MeaningLemmas.{means_one_thing}
use Rattle.serve_app.proofs.laws.a_script_means_one_thing.Goals as goal

pub returns : goal.returns
returns c = means_one_thing
