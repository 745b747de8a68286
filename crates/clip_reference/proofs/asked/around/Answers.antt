use Rattle.std.proofs.Common.{◌+◌, ◌-◌, ◌∙◌, ap}
use Rattle.clip_term.specs.Time.{from_input, in_range}
use Rattle.clip_reference.proofs.AskedLemmas.{listed_more}
use Rattle.clip_reference.proofs.asked.around.Goals as goal

pub loop-k-preserved : goal.loop-k-preserved
loop-k-preserved c =
    listed_more (λ k. in_range c.args.infos.now (from_input 0 (c.args.n + k - c.args.radius))) c.loop-k.origins.items c.push.new.self.items c.in_range.result c.loop-k.k
    c.in_ok-push.ensures.items (c.in_range.ensures ∙ ap (λ m. in_range c.args.infos.now (from_input 0 m)) c.saturating_sub-number.ensures) c.loop-k.invariant
