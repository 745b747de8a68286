use Rattle.std.proofs.Common.{◌≡◌, ◌-◌, ◌<◌, Some, sym, subst, arith}
use Rattle.serve_core.specs.CoreValue.{CoreValue}
use Rattle.frame_cache.specs.Cached.{at_key}
use Rattle.serve_core.proofs.Keeping.{claim_owed, abandoned_kept}
use Rattle.serve_core.proofs.state.Core.abandon.Goals as goal

pub invariant_of-self : goal.invariant_of-self
invariant_of-self g c =
    let at = subst (λ (v : CoreValue g.row.I.Denot). at_key c.args.key v.claims ≡ Some c.args.worker) (sym c.self.view_is) c.requires.claim in
    let few = subst (λ (v : CoreValue g.row.I.Denot). c.args.worker < v.fixed.workers) (sym c.self.view_is) c.requires.worker in
    let two = claim_owed c.self.invariant c.args.key c.args.worker at in
    abandoned_kept c.self.invariant c.args.worker c.args.key _ _ (c.self.inside.owed - 2) _ _ few at c.close.ensures c.push_reserved.ensures.items c.push_reserved.ensures.len (omega arith) c.push_reserved.ensures.capacity
