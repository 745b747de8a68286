use Rattle.std.proofs.Common.{◌≡◌, ◌+◌, ◌<◌, ◌≤◌, ◌++◌, [], ◌∷◌, Some, None, sym, ap, ◌∙◌, subst, arith}
use Rattle.std.specs.Vec.{vec_len, vec_capacity}
use Rattle.serve_core.specs.CoreValue.{CoreValue}
use Rattle.frame_cache.specs.Cached.{at_key}
use Rattle.serve_machine.specs.declared.event.Event.TheVariants.{Hit, Claim}
use Rattle.serve_machine.specs.Events.{IsKey}
use Rattle.serve_core.specs.Sources.{shape_at}
use Rattle.serve_core.proofs.Keeping.{hit_kept, claim_kept}
use Rattle.serve_core.proofs.state.Core.ask.Goals as goal

pub invariant_of-self-in-Some-2 : goal.invariant_of-self-in-Some-2
invariant_of-self-in-Some-2 g c =
    let window = subst (λ (v : CoreValue g.row.I.Denot). 0 < v.fixed.count) (sym c.self.view_is) c.requires.window in
    let room : vec_len c.self.inside.journal + (c.self.inside.owed + 3) ≤ vec_capacity c.push_reserved.new.self =
    omega (arith, c.in_ok-reserve.ensures.ok, c.in_ok-reserve.ensures.len, c.push_reserved.ensures.capacity) in
    let few = subst (λ (v : CoreValue g.row.I.Denot). c.args.worker < v.fixed.workers) (sym c.self.view_is) c.requires.worker in
    let other = subst (λ (v : CoreValue g.row.I.Denot). at_key c.args.key v.claims ≡ Some c.args.worker → ⊥) (sym c.self.view_is) c.requires.open in
    let at = sym c.in_ok-frame.ensures.found ∙ c.in-Some-2.is in
    hit_kept c.self.invariant c.args.worker c.args.key c.in-Some-2.frame _ _ _ _ _ window few other c.in_default.is at c.in_ok-frame.ensures.capacity c.in_ok-frame.ensures.pairs
    (c.push_reserved.ensures.items ∙ ap (λ es. es ++ Hit c.args.worker c.args.key ∷ []) c.in_ok-reserve.ensures.items) (omega (arith, c.push_reserved.ensures.len, c.in_ok-reserve.ensures.len)) room

pub returns-in-Some-2-clause-shape : goal.returns-in-Some-2-clause-shape
returns-in-Some-2-clause-shape g c =
    c.self.invariant.keys.shaped c.args.key c.in-Some-2.frame (sym c.in_ok-frame.ensures.found ∙ c.in-Some-2.is)
    ∙ ap (λ (v : CoreValue g.row.I.Denot). shape_at v.fixed.plan c.args.key.node) c.self.view_is

pub invariant_of-self-2 : goal.invariant_of-self-2
invariant_of-self-2 g c =
    let window = subst (λ (v : CoreValue g.row.I.Denot). 0 < v.fixed.count) (sym c.self.view_is) c.requires.window in
    let room : vec_len c.self.inside.journal + (c.self.inside.owed + 3) ≤ vec_capacity c.push_reserved-2.new.self =
    omega (arith, c.in_ok-reserve.ensures.ok, c.in_ok-reserve.ensures.len, c.push_reserved-2.ensures.capacity) in
    let absent : at_key c.args.key c.self.inside.cache.pairs ≡ None = sym c.in_ok-frame.ensures.found ∙ c.in_default-2.is in
    let unclaimed : at_key c.args.key c.self.inside.claims.items ≡ None =
    ap (at_key c.args.key) (sym c.deref.ensures.value) ∙ (sym c.claimant.ensures ∙ c.in_default-claimant.is) in
    let few = subst (λ (v : CoreValue g.row.I.Denot). c.args.worker < v.fixed.workers) (sym c.self.view_is) c.requires.worker in
    let key = subst (λ (v : CoreValue g.row.I.Denot). IsKey v.fixed.plan c.args.key) (sym c.self.view_is) c.requires.key in
    claim_kept c.self.invariant c.args.worker c.args.key _ _ _ _ _ _ window few key c.in_default.is absent unclaimed c.in_ok-frame.ensures.capacity c.in_ok-frame.ensures.pairs c.in_ok-push.ensures.items
    (c.push_reserved-2.ensures.items ∙ ap (λ es. es ++ Claim c.args.worker c.args.key ∷ []) c.in_ok-reserve.ensures.items) (omega (arith, c.push_reserved-2.ensures.len, c.in_ok-reserve.ensures.len)) room
