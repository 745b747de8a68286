-- The last source is the one that went.
use Rattle.serve_worker.proofs.furnishing.move_last.Goals as goal

pub returns-in-Ok-clause-ok : goal.returns-in-Ok-clause-ok
returns-in-Ok-clause-ok g c = record { it = c.in-Some.source; from = c.in-Some.ensures.items; to = c.in-Ok.ensures.ok }
