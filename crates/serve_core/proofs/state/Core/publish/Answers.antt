use Rattle.std.proofs.Common.{◌≡◌, ◌+◌, ◌-◌, ◌<◌, ◌≤◌, ◌++◌, [], ◌∷◌, true, Some, refl, sym, ap, ◌∙◌, subst, arith, append_assoc}
use Rattle.std.specs.Vec.{vec_len}
use Rattle.serve_core.specs.CoreValue.{CoreValue}
use Rattle.frame_cache.specs.Cached.{Cached, at_key}
use Rattle.clip_graph.specs.Plan.{input_keys}
use Rattle.serve_machine.specs.declared.event.Event.TheVariants.{Publish}
use Rattle.serve_machine.specs.Events.{has_got_all}
use Rattle.serve_machine.specs.SerialRun.{eviction}
use Rattle.serve_core.specs.Holds.{holds_none}
use Rattle.serve_core.specs.Sources.{shape_at}
use Rattle.serve_core.proofs.Keeping.{claim_owed, published_kept}
use Rattle.serve_core.proofs.state.Core.publish.Goals as goal

pub invariant_of-self-2 : goal.invariant_of-self-2
invariant_of-self-2 g c =
    let at = subst (λ (v : CoreValue g.row.I.Denot). at_key c.args.key v.claims ≡ Some c.args.worker) (sym c.self.view_is) c.requires.claim in
    let shape = subst (λ (v : CoreValue g.row.I.Denot). c.args.frame.shape ≡ shape_at v.fixed.plan c.args.key.node) (sym c.self.view_is) c.requires.shape in
    let few = subst (λ (v : CoreValue g.row.I.Denot). c.args.worker < v.fixed.workers) (sym c.self.view_is) c.requires.worker in
    let hands = subst (λ (v : CoreValue g.row.I.Denot). holds_none c.args.worker v.table ≡ true) (sym c.self.view_is) c.requires.hands in
    let got = subst (λ (v : CoreValue g.row.I.Denot). has_got_all c.args.worker (input_keys v.fixed.plan c.args.key) v.journal ≡ true) (sym c.self.view_is) c.requires.got in
    let two = claim_owed c.self.invariant c.args.key c.args.worker at in
    let len : vec_len c.push_reserved.new.self ≤ vec_len c.self.inside.journal + 2 = omega (arith, c.push_reserved.ensures.len, c.note_evicted.ensures.len) in
    let items = c.push_reserved.ensures.items
    ∙ (ap (λ es. es ++ Publish c.args.worker c.args.key ∷ []) c.note_evicted.ensures.items
    ∙ append_assoc c.self.inside.journal.items (eviction c.args.worker c.in_ok-dropped.dropped) (Publish c.args.worker c.args.key ∷ [])) in
    let capacity = ap (λ (v : Cached). v.capacity) c.keep_dropped.ensures ∙ c.in_ok-dropped.ensures.capacity in
    let pairs = ap (λ (v : Cached). v.pairs) c.keep_dropped.ensures ∙ c.in_ok-dropped.ensures.pairs in
    published_kept c.self.invariant c.args.worker c.args.key c.args.frame _ _ c.in_ok-dropped.dropped _ _ _ (c.self.inside.owed - 2) _ _ few at hands got c.len.ensures.bounded c.len.ensures.some capacity refl c.in_ok-dropped.ensures.dropped shape pairs c.close.ensures items len (omega arith)
    (c.push_reserved.ensures.capacity ∙ c.note_evicted.ensures.capacity)
