use Rattle.std.specs.Int.{w32}
use Rattle.std.proofs.lemmas.Int.{to_z-of_z}
use Rattle.avs_calls.proofs.filters.ranged.Goals as goal

pub returns-in-Clip-clause-memory : goal.returns-in-Clip-clause-memory
returns-in-Clip-clause-memory c = λ here.
    rw c.in-Clip.is
    (rw (to_z-of_z w32 c.args.first c.ranges.first, to_z-of_z w32 c.args.last c.ranges.last) at (c.make.ensures.memory here))
