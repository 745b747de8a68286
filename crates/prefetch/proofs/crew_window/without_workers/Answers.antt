-- The first worker failed, and no other did anything.
use Rattle.prefetch.proofs.CrewLemmas.{without_workers}
use Rattle.prefetch.proofs.crew_window.without_workers.Goals as goal

pub returns : goal.returns
returns g c = record { worked = without_workers g.I.Held c.args.core c.fail.new.self c.requires.fresh c.fail.ensures }
