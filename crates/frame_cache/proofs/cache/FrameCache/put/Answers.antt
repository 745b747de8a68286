use Rattle.std.proofs.Common.{ap, ◌∙◌, sym}
use Rattle.std.specs.Prelude.{option_map}
use Rattle.frame_cache.proofs.LruLemmas.{put_is, displaced_is}
use Rattle.frame_cache.specs.Cached.{at_key}
use Rattle.frame_cache.proofs.cache.FrameCache.put.Goals as goal

pub returns-in-Ok-Some-clause-dropped : goal.returns-in-Ok-Some-clause-dropped
returns-in-Ok-Some-clause-dropped c =
    let absent = ap (λ v. at_key c.args.key v.pairs) c.self.view_is ∙ c.requires in
    rw (← c.self.view_is) (ap (option_map (λ p. p.0)) (sym c.in-Ok-Some.field-0-is) ∙ displaced_is c.self.inside.frames c.args.key c.args.frame c.in-Ok-Some.field-0 absent c.in-Ok-Some.ensures.old)

pub returns-in-Ok-Some-clause-pairs : goal.returns-in-Ok-Some-clause-pairs
returns-in-Ok-Some-clause-pairs c =
    let absent = ap (λ v. at_key c.args.key v.pairs) c.self.view_is ∙ c.requires in
    rw (← c.self.view_is) (ap (λ s. s.entries) c.in-Ok-Some.ensures.entries ∙ put_is c.self.inside.frames c.args.key c.args.frame absent)

pub returns-in-Ok-None-clause-dropped : goal.returns-in-Ok-None-clause-dropped
returns-in-Ok-None-clause-dropped c =
    let absent = ap (λ v. at_key c.args.key v.pairs) c.self.view_is ∙ c.requires in
    rw (← c.self.view_is) (ap (option_map (λ p. p.0)) (sym c.in-Ok-None.field-0-is) ∙ displaced_is c.self.inside.frames c.args.key c.args.frame c.in-Ok-None.field-0 absent c.in-Ok-None.ensures.old)

pub returns-in-Ok-None-clause-pairs : goal.returns-in-Ok-None-clause-pairs
returns-in-Ok-None-clause-pairs c =
    let absent = ap (λ v. at_key c.args.key v.pairs) c.self.view_is ∙ c.requires in
    rw (← c.self.view_is) (ap (λ s. s.entries) c.in-Ok-None.ensures.entries ∙ put_is c.self.inside.frames c.args.key c.args.frame absent)
