-- What is known of the files is what they tell.
use Rattle.serve_app.proofs.PickLemmas.{picked}
use Rattle.serve_app.proofs.opening.open_script.Goals as goal

pub returns-clause-opened : goal.returns-clause-opened
returns-clause-opened g c = rw (picked (g.H.HeldFiles.world c.args.files)) c.open_in.ensures.opened

pub returns-clause-stop : goal.returns-clause-stop
returns-clause-stop g c = rw (picked (g.H.HeldFiles.world c.args.files)) c.open_in.ensures.stop

pub returns-clause-reads : goal.returns-clause-reads
returns-clause-reads g c = rw (picked (g.H.HeldFiles.world c.args.files)) c.open_in.ensures.reads
