use Rattle.std.proofs.Common.{inl, inr, ⊎_elim}
use Rattle.clip_check.proofs.RateLemmas.{stays}
use Rattle.clip_check.proofs.limits.lowest_terms.Goals as goal

pub returns-then-rate-eq0 : goal.returns-then-rate-eq0
returns-then-rate-eq0 c = stays c.args.rate.num c.args.rate.den (⊎_elim (λ num. inl num) (λ den. inr den.1) c.then-rate-eq0.either)
