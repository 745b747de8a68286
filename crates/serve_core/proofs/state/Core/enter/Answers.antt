use Rattle.std.proofs.Common.{◌≡◌, ◌+◌, ◌<◌, ◌≤◌, ◌++◌, [], ◌∷◌, length, true, sym, ap, ◌∙◌, subst, arith}
use Rattle.std.specs.Vec.{vec_len, vec_capacity}
use Rattle.serve_core.specs.CoreValue.{CoreValue}
use Rattle.inst_table.specs.declared.place.Place.{Place}
use Rattle.inst_table.specs.Places.{place_meant}
use Rattle.inst_table.proofs.CallerLemmas.{is_there}
use Rattle.serve_machine.specs.declared.event.Event.TheVariants.{Enter}
use Rattle.serve_machine.specs.Events.{mode_at}
use Rattle.serve_core.specs.Holds.{claims_at, holds_none}
use Rattle.serve_core.proofs.Furnished.{meant_is, meant_there}
use Rattle.serve_core.proofs.Keeping.{entered_kept}
use Rattle.serve_core.proofs.state.Core.enter.Goals as goal

pub enter-requires : goal.enter-requires
enter-requires g c =
    let few = subst (λ (v : CoreValue g.row.I.Denot). c.args.worker < v.fixed.workers) (sym c.self.view_is) c.requires.worker in
    let less = subst (λ (v : CoreValue g.row.I.Denot). c.args.node < length v.fixed.plan) (sym c.self.view_is) c.requires.node in
    let mode = subst (λ (v : CoreValue g.row.I.Denot). mode_at v.fixed.plan c.args.node ≡ 1 → ⊥) (sym c.self.view_is) c.requires.mode in
    is_there _ (meant_there c.self.invariant.plan.is c.self.invariant.table.furnished c.args.worker c.args.node few less mode)

pub invariant_of-self-in-Leased : goal.invariant_of-self-in-Leased
invariant_of-self-in-Leased g c =
    let claim = subst (λ (v : CoreValue g.row.I.Denot). claims_at c.args.worker c.args.node v.claims ≡ true) (sym c.self.view_is) c.requires.claim in
    let few = subst (λ (v : CoreValue g.row.I.Denot). c.args.worker < v.fixed.workers) (sym c.self.view_is) c.requires.worker in
    let less = subst (λ (v : CoreValue g.row.I.Denot). c.args.node < length v.fixed.plan) (sym c.self.view_is) c.requires.node in
    let mode = subst (λ (v : CoreValue g.row.I.Denot). mode_at v.fixed.plan c.args.node ≡ 1 → ⊥) (sym c.self.view_is) c.requires.mode in
    let hands = subst (λ (v : CoreValue g.row.I.Denot). holds_none c.args.worker v.table ≡ true) (sym c.self.view_is) c.requires.hands in
    let meant = meant_is c.self.invariant.plan.is c.self.invariant.table.furnished c.args.worker c.args.node less in
    let room : vec_len c.self.inside.journal + (c.self.inside.owed + 2) ≤ vec_capacity c.push_reserved.new.self =
    omega (arith, c.in_ok-reserve.ensures.ok, c.in_ok-reserve.ensures.len, c.push_reserved.ensures.capacity) in
    let instance = c.instance-instance.ensures ∙ ap (λ (p : Place). p.instance) c.in-Leased.ensures.0 in
    let items = c.push_reserved.ensures.items
    ∙ (ap (λ es. es ++ Enter c.args.worker c.args.node c.instance-instance.result ∷ []) c.in_ok-reserve.ensures.items
    ∙ ap (λ j. c.self.inside.journal.items ++ Enter c.args.worker c.args.node j ∷ []) instance) in
    entered_kept c.self.invariant c.args.worker c.args.node (place_meant c.args.worker c.args.node c.self.inside.table) c.in-Leased.lease.value _ _ _ _ claim few mode hands c.in_default.is meant c.in-Leased.ensures.1 c.in-Leased.ensures.2 items
    (omega (arith, c.push_reserved.ensures.len, c.in_ok-reserve.ensures.len)) room
