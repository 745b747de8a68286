use Rattle.std.proofs.Common.{refl}
use Rattle.serve_core.proofs.Keeping.{made_kept}
use Rattle.serve_core.proofs.state.Core.new.Goals as goal

pub invariant_of-result : goal.invariant_of-result
invariant_of-result g c =
    let is = rw c.deref.ensures at c.len.ensures.plan in
    made_kept g.I.Held.holds _ _ _ _ _ _ _ _ _ _ (record { is = is; in_plan = c.requires.root; some = c.requires.some }) c.requires.empty c.requires.furnished c.requires.sources c.requires.leases
    refl refl c.new-2.ensures.items c.new-3.ensures.items c.new-4.ensures.items c.new-5.ensures.items c.new-6.ensures.items c.new-6.ensures.len
