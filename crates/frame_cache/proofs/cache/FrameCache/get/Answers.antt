use Rattle.std.proofs.Common.{◌∙◌, ap}
use Rattle.frame_cache.proofs.LruLemmas.{promoted_is}
use Rattle.frame_cache.proofs.cache.FrameCache.get.Goals as goal

pub returns-clause-pairs : goal.returns-clause-pairs
returns-clause-pairs c = rw (← c.self.view_is) (ap (λ s. s.entries) c.promote.ensures.entries ∙ promoted_is c.args.key c.self.inside.frames.entries)
