-- The nodes from a number on are furnished.
use Rattle.serve_worker.proofs.FurnishingLemmas.{FurnishedFrom}
use Rattle.serve_worker.proofs.furnishing.furnish.Given as goal

abbrev pub invariant-nodes : goal.invariant-nodes
invariant-nodes g l = FurnishedFrom l.graph l.workers l.fn.sources.items l.i l.sources.items l.table

abbrev pub decreases-nodes : goal.decreases-nodes
decreases-nodes g l = l.i
