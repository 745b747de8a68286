use Rattle.std.proofs.Common.{◌≡◌, ◌≢◌, ◌+◌, ◌-◌, ◌<◌, ◌≤◌, ◌++◌, [], ◌∷◌, length, slice_get, Some, None, sym, ap, ◌∙◌, subst, arith}
use Rattle.std.specs.Vec.{vec_len, vec_capacity}
use Rattle.frame_cache.proofs.CallerLemmas.{absent}
use Rattle.serve_core.specs.CoreValue.{CoreValue}
use Rattle.serve_machine.specs.declared.event.Event.TheVariants.{Take}
use Rattle.serve_core.proofs.Keeping.{took_kept, next_undelivered}
use Rattle.serve_core.proofs.state.Core.take_output.Goals as goal

pub invariant_of-self-2 : goal.invariant_of-self-2
invariant_of-self-2 g c =
    let room : vec_len c.self.inside.journal + (c.self.inside.owed + 2) ≤ vec_capacity c.push_reserved.new.self =
    omega (arith, c.in_ok-reserve.ensures.ok, c.in_ok-reserve.ensures.len, c.push_reserved.ensures.capacity) in
    let ne : length c.self.inside.taken.items ≢ c.self.inside.count = omega (arith, c.self.inside.taken.ok.0, c.len-at.ensures, c.if-at-self.false) in
    let few = subst (λ (v : CoreValue g.row.I.Denot). c.args.worker < v.fixed.workers) (sym c.self.view_is) c.requires in
    let next : c.self.inside.first + c.len-at.result ≡ c.self.inside.first + length c.self.inside.taken.items = omega (arith, c.self.inside.taken.ok.0, c.len-at.ensures) in
    took_kept c.self.invariant c.args.worker (c.self.inside.first + c.len-at.result) _ _ _ _ few (absent c.self.inside.stop (sym c.is_some.ensures ∙ c.if-is_some.false)) next ne c.in_ok-push.ensures.items
    (c.push_reserved.ensures.items ∙ ap (λ es. es ++ Take c.args.worker (c.self.inside.first + c.len-at.result) ∷ []) c.in_ok-reserve.ensures.items) (omega (arith, c.push_reserved.ensures.len, c.in_ok-reserve.ensures.len)) room

pub returns-clause-undelivered : goal.returns-clause-undelivered
returns-clause-undelivered g c =
    let few = c.self.invariant.outputs.few in
    let less : length c.self.inside.taken.items < c.self.inside.count = omega (arith, few, c.self.inside.taken.ok.0, c.len-at.ensures, c.if-at-self.false) in
    let at : c.len-at.result ≡ length c.self.inside.taken.items = omega (arith, c.self.inside.taken.ok.0, c.len-at.ensures) in
    subst (λ (v : CoreValue g.row.I.Denot). slice_get v.outputs.frames (c.self.inside.first + c.len-at.result - v.fixed.first) ≡ Some None) c.self.view_is
    (next_undelivered c.self.invariant (c.self.inside.first + c.len-at.result) less (omega (arith, at)))
