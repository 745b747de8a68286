use Rattle.std.proofs.Common.{rules, ◌≡◌, ◌+◌, ◌<◌, ◌≤◌, ◌^◌, sym, subst, arith}
use Rattle.serve_core.specs.CoreValue.{CoreValue}
use Rattle.clip_graph.specs.Plan.{application_at}
use Rattle.clip_graph.proofs.UnfoldingLemmas.{lawful_is}
use Rattle.serve_core.proofs.Keeping.{begun_kept}
use Rattle.serve_core.proofs.state.Core.begin_window.Goals as goal

pub invariant_of-self : goal.invariant_of-self
invariant_of-self g c =
    let between = subst (λ (v : CoreValue g.row.I.Denot). v.fixed.count ≡ 0) (sym c.self.view_is) c.requires.between in
    let numbers = subst (λ (v : CoreValue g.row.I.Denot). c.args.first + c.args.count ≤ (application_at v.fixed.plan v.fixed.root).info.frames) (sym c.self.view_is) c.requires.numbers in
    let plan = c.self.invariant.plan in
    let most = (lawful_is _ plan.is _ plan.in_plan).most in
    let fits : c.args.first + c.args.count < 2 ^ 32 = omega (arith, numbers, most) in
    begun_kept c.self.invariant c.args.first c.args.count _ _ _ _ _ _ _ c.len.ensures.differ c.len.ensures.bounded c.in_ok-opening.ensures between c.requires.some fits c.new.ensures.items c.in_ok-frames.ensures (search rules) c.in_ok-journal.ensures.items
    c.in_ok-journal.ensures.len (omega (arith, c.in_ok-journal.ensures.exact))
