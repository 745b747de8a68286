use Rattle.std.proofs.Common.{◌≡◌, ◌-◌, ◌<◌, slice_get, Some, true, false, refl, sym, ap, subst, arith}
use Rattle.serve_core.specs.CoreValue.{CoreValue}
use Rattle.serve_machine.specs.Events.{may_fail, names_source}
use Rattle.serve_core.proofs.Keeping.{fail_owed, failed_kept}
use Rattle.serve_core.proofs.state.Core.fail.Goals as goal

pub overflow_sub-self : goal.overflow_sub-self
overflow_sub-self g c =
    let at = subst (λ (v : CoreValue g.row.I.Denot). slice_get v.failed c.args.worker ≡ Some false) (sym c.self.view_is) c.requires.fresh in
    fail_owed c.self.invariant c.args.worker at

pub push_reserved-requires : goal.push_reserved-requires
push_reserved-requires g c =
    let at = subst (λ (v : CoreValue g.row.I.Denot). slice_get v.failed c.args.worker ≡ Some false) (sym c.self.view_is) c.requires.fresh in
    let one = fail_owed c.self.invariant c.args.worker at in
    let room = c.self.invariant.room_for in
    omega arith

pub invariant_of-self : goal.invariant_of-self
invariant_of-self g c =
    let at = subst (λ (v : CoreValue g.row.I.Denot). slice_get v.failed c.args.worker ≡ Some false) (sym c.self.view_is) c.requires.fresh in
    let few = subst (λ (v : CoreValue g.row.I.Denot). c.args.worker < v.fixed.workers) (sym c.self.view_is) c.requires.worker in
    let cause = subst (λ (v : CoreValue g.row.I.Denot). may_fail c.args.worker c.args.stop v.journal ≡ true) (sym c.self.view_is) c.requires.cause in
    let source = subst (λ (v : CoreValue g.row.I.Denot). names_source v.fixed.plan c.args.stop ≡ true) (sym c.self.view_is) c.requires.source in
    let one = fail_owed c.self.invariant c.args.worker at in
    failed_kept c.self.invariant c.args.worker c.args.stop _ _ _ (c.self.inside.owed - 1) _ _ few cause source at refl (ap Some c.first_of.ensures) c.push_reserved.ensures.items c.push_reserved.ensures.len (omega arith) c.push_reserved.ensures.capacity
