use Rattle.std.proofs.Common.{◌≡◌, drop}
use Rattle.serve_machine.specs.Holdings.{claims_of}
use Rattle.serve_core.specs.Holds.{last_after, newest}
use Rattle.serve_core.proofs.claims.newest_of.Given as goal

abbrev pub invariant-loop-key : goal.invariant-loop-key
invariant-loop-key l =
    last_after l.found (claims_of l.worker (drop l.key-index l.claims)) ≡ newest (claims_of l.worker l.claims)
