use Rattle.std.proofs.Common.{◌≡◌, drop}
use Rattle.frame_cache.specs.Cached.{at_key}
use Rattle.serve_core.proofs.claims.claimant.Given as goal

abbrev pub invariant-loop-other : goal.invariant-loop-other
invariant-loop-other l = at_key l.key (drop l.other-index l.claims) ≡ at_key l.key l.claims
