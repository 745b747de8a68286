-- What is left to close closes the same.
use Rattle.std.proofs.Common.{◌≡◌, length}
use Rattle.frame_cache.specs.Cached.{Differ}
use Rattle.serve_machine.specs.Holdings.{claims_of}
use Rattle.serve_shared.specs.Steps.{closed}
use Rattle.serve_shared.proofs.steps.give_up.Given as goal

abbrev pub invariant-claims : goal.invariant-claims
invariant-claims g l = record {
  fixed : l.core.fixed ≡ l.fn.core.fixed;
  differ : Differ l.core.claims;
  closes : closed l.number l.core ≡ closed l.number l.fn.core;
}

abbrev pub decreases-claims : goal.decreases-claims
decreases-claims g l = length (claims_of l.number l.core.claims)
