use Rattle.std.proofs.Common.{◌≡◌, ◌-◌, ◌<◌, ◌≤◌, true, slice_get, Some, None, refl, sym, subst, arith}
use Rattle.serve_core.specs.CoreValue.{CoreValue}
use Rattle.serve_machine.specs.Events.{frame_key, has_got}
use Rattle.serve_core.specs.Sources.{shape_at}
use Rattle.serve_core.proofs.Keeping.{output_owed, delivered_kept}
use Rattle.serve_core.proofs.state.Core.deliver.Goals as goal

pub overflow_sub-self : goal.overflow_sub-self
overflow_sub-self g c =
    let taken = subst (λ (v : CoreValue g.row.I.Denot). slice_get v.outputs.taken (c.args.n - v.fixed.first) ≡ Some c.args.worker) (sym c.self.view_is) c.requires.taken in
    let none = subst (λ (v : CoreValue g.row.I.Denot). slice_get v.outputs.frames (c.args.n - v.fixed.first) ≡ Some None) (sym c.self.view_is) c.requires.open in
    output_owed c.self.invariant _ c.args.worker c.args.frame taken none

pub push_reserved-requires : goal.push_reserved-requires
push_reserved-requires g c =
    let taken = subst (λ (v : CoreValue g.row.I.Denot). slice_get v.outputs.taken (c.args.n - v.fixed.first) ≡ Some c.args.worker) (sym c.self.view_is) c.requires.taken in
    let none = subst (λ (v : CoreValue g.row.I.Denot). slice_get v.outputs.frames (c.args.n - v.fixed.first) ≡ Some None) (sym c.self.view_is) c.requires.open in
    let one = output_owed c.self.invariant _ c.args.worker c.args.frame taken none in
    let room = c.self.invariant.room_for in
    omega arith

pub invariant_of-self : goal.invariant_of-self
invariant_of-self g c =
    let taken = subst (λ (v : CoreValue g.row.I.Denot). slice_get v.outputs.taken (c.args.n - v.fixed.first) ≡ Some c.args.worker) (sym c.self.view_is) c.requires.taken in
    let none = subst (λ (v : CoreValue g.row.I.Denot). slice_get v.outputs.frames (c.args.n - v.fixed.first) ≡ Some None) (sym c.self.view_is) c.requires.open in
    let shape = subst (λ (v : CoreValue g.row.I.Denot). c.args.frame.shape ≡ shape_at v.fixed.plan v.fixed.root) (sym c.self.view_is) c.requires.shape in
    let few = subst (λ (v : CoreValue g.row.I.Denot). c.args.worker < v.fixed.workers) (sym c.self.view_is) c.requires.worker in
    let low = subst (λ (v : CoreValue g.row.I.Denot). v.fixed.first ≤ c.args.n) (sym c.self.view_is) c.requires.low in
    let got = subst (λ (v : CoreValue g.row.I.Denot). has_got c.args.worker (frame_key v.fixed.root c.args.n) v.journal ≡ true) (sym c.self.view_is) c.requires.got in
    let one = output_owed c.self.invariant _ c.args.worker c.args.frame taken none in
    delivered_kept c.self.invariant c.args.worker c.args.n _ c.args.frame _ _ (c.self.inside.owed - 1) _ _ few low refl got taken none shape refl c.push_reserved.ensures.items c.push_reserved.ensures.len (omega arith) c.push_reserved.ensures.capacity
