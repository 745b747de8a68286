use Rattle.std.proofs.Common.{◌≡◌, ◌+◌, drop}
use Rattle.std.specs.List.{position_or_len}
use Rattle.frame_cache.specs.Cached.{same_key}
use Rattle.serve_core.proofs.claims.index_of.Given as goal

abbrev pub invariant-loop-other : goal.invariant-loop-other
invariant-loop-other l = (l.at ≡ l.other-index) × (l.at + position_or_len (λ e. same_key l.key e.0) (drop l.at l.claims) ≡ position_or_len (λ e. same_key l.key e.0) l.claims)
