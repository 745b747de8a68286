use Rattle.std.proofs.Common.{◌≡◌, ◌-◌, ◌<◌, Some, sym, subst, arith}
use Rattle.serve_core.specs.CoreValue.{CoreValue}
use Rattle.inst_table.specs.Places.{slot_at}
use Rattle.inst_table.specs.declared.place.Slot.TheVariants.{Leased}
use Rattle.serve_core.specs.Sources.{opened_at}
use Rattle.serve_core.proofs.Keeping.{lease_owed, left_kept}
use Rattle.serve_core.proofs.state.Core.leave.Goals as goal

pub overflow_sub-self : goal.overflow_sub-self
overflow_sub-self g c =
    let at = subst (λ (v : CoreValue g.row.I.Denot). slot_at c.args.lease.place v.table ≡ Some (Leased c.args.worker)) (sym c.self.view_is) c.requires.lease in
    lease_owed c.self.invariant c.args.lease.place c.args.worker c.args.lease.value at

pub push_reserved-requires : goal.push_reserved-requires
push_reserved-requires g c =
    let at = subst (λ (v : CoreValue g.row.I.Denot). slot_at c.args.lease.place v.table ≡ Some (Leased c.args.worker)) (sym c.self.view_is) c.requires.lease in
    let one = lease_owed c.self.invariant c.args.lease.place c.args.worker c.args.lease.value at in
    let room = c.self.invariant.room_for in
    omega arith

pub invariant_of-self : goal.invariant_of-self
invariant_of-self g c =
    let at = subst (λ (v : CoreValue g.row.I.Denot). slot_at c.args.lease.place v.table ≡ Some (Leased c.args.worker)) (sym c.self.view_is) c.requires.lease in
    let source = subst (λ (v : CoreValue g.row.I.Denot). g.I.Held.holds c.args.lease.value ≡ opened_at v.fixed.plan c.args.lease.place.node) (sym c.self.view_is) c.requires.source in
    let one = lease_owed c.self.invariant c.args.lease.place c.args.worker c.args.lease.value at in
    let few = subst (λ (v : CoreValue g.row.I.Denot). c.args.worker < v.fixed.workers) (sym c.self.view_is) c.requires.worker in
    let items = rw (c.node-node.ensures, c.instance-instance.ensures) at c.push_reserved.ensures.items in
    left_kept c.self.invariant c.args.worker c.args.lease.place c.args.lease.value _ _ (c.self.inside.owed - 1) _ _ few at source c.leave.ensures items c.push_reserved.ensures.len (omega arith) c.push_reserved.ensures.capacity
