use Rattle.std.proofs.Common.{◌≡◌, ◌≤◌, List, refl, ap, ◌∙◌, subst}
use Rattle.clip_graph.specs.Plan.{Application}
use Rattle.inst_table.specs.Lent.{Lent}
use Rattle.serve_core.specs.Works.{IsMade, MakeStops}
use Rattle.serve_machine.specs.declared.event.WindowStop.TheVariants.{Read}
use Rattle.serve_shared.proofs.MakeLemmas.{lent_again, has_stopped, has_made, not_made}
use Rattle.serve_shared.proofs.produce.lend.Goals as goal

pub leave_turn-requires-clause-lent : goal.leave_turn-requires-clause-lent
leave_turn-requires-clause-lent g c =
    let me = c.args.worker.now in
    let old = c.args.lease in
    let new : Lent g.row.I.Denot = record { place = old.place; value = c.make.new.self } in
    let value = c.value.ensures.value in
    let source = c.make.ensures.source ∙ ap g.I.Held.holds value in
    let feed = c.make.ensures.feed ∙ ap g.I.Held.feed value in
    let faults = subst (λ (v : g.row.I.Denot). g.I.Held.faults v ≤ g.I.Held.faults c.make.new.self) value c.make.ensures.faults in
    let steady = subst (λ (v : g.row.I.Denot). g.I.Held.faults c.make.new.self ≡ g.I.Held.faults v) value (c.in-Ok.ensures.steady (λ bad. absurd (cc))) in
    lent_again g.I.Held me c.args.seat c.args.key c.args.frames.now c.requires.sits c.requires.key c.requires.right old c.requires.lent new refl source feed faults steady

pub give_back_turn-requires-clause-stopped : goal.give_back_turn-requires-clause-stopped
give_back_turn-requires-clause-stopped g c =
    let me = c.args.worker.now in
    let old = c.args.lease in
    let new : Lent g.row.I.Denot = record { place = old.place; value = c.make.new.self } in
    let value = c.value.ensures.value in
    let source = c.make.ensures.source ∙ ap g.I.Held.holds value in
    let feed = c.make.ensures.feed ∙ ap g.I.Held.feed value in
    let faults = subst (λ (v : g.row.I.Denot). g.I.Held.faults v ≤ g.I.Held.faults c.make.new.self) value c.make.ensures.faults in
    let stops = subst (λ (z : List Application × g.row.I.Denot). MakeStops g.I.Held.feed g.I.Held.faults g.I.Held.ends z.0 c.args.key.node z.1 c.make.new.self c.in-Err.stop) (λ i. (c.graph.ensures i, value i)) c.in-Err.ensures.stop in
    let steady = λ (not : c.in-Err.stop ≡ Read c.args.key.node → ⊥). subst (λ (v : g.row.I.Denot). g.I.Held.faults c.make.new.self ≡ g.I.Held.faults v) value (c.in-Err.ensures.steady (λ bad. not (cc))) in
    has_stopped g.I.Held me c.args.seat c.args.key c.args.frames.now c.requires.sits c.requires.key c.requires.right old c.requires.lent new refl source feed faults c.in-Err.stop c.requires.entered steady stops

pub returns-in-Ok : goal.returns-in-Ok
returns-in-Ok g c =
    let me = c.args.worker.now in
    let old = c.args.lease in
    let made = subst (λ (z : List Application × g.row.I.Denot). IsMade z.0 c.args.key (g.I.Held.feed z.1) c.args.frames.now c.in-Ok.frame) (λ i. (c.graph.ensures i, c.value.ensures.value i)) c.in-Ok.ensures.made in
    has_made g.I.Held me c.args.seat c.args.key c.args.frames.now c.requires.sits c.requires.key c.requires.right old c.requires.lent c.in-Ok.frame c.leave_turn.result made c.leave_turn.ensures

pub returns-in-Err : goal.returns-in-Err
returns-in-Err g c =
    let me = c.args.worker.now in
    let old = c.args.lease in
    not_made g.I.Held me c.args.seat c.args.key c.args.frames.now c.requires.sits c.requires.key c.requires.right old c.requires.lent c.in-Err.stop c.give_back_turn.result c.give_back_turn.ensures
