-- An instance for each worker, or none.
use Rattle.std.proofs.Common.{◌∙◌, OnOk, sym, ap, subst, arith}
use Rattle.clip_graph.specs.Nodes.{application_of}
use Rattle.clip_graph.specs.Plan.{Application, application_at}
use Rattle.clip_term.specs.Terms.{source_info}
use Rattle.serve_worker.specs.Furnishing.{node_entries, Adds}
use Rattle.serve_worker.proofs.FurnishingLemmas.{each_adds, none_adds, opened_none}
use Rattle.serve_worker.proofs.furnishing.furnish_node.Goals as goal

pub returns-then-node-eq2-clause-ok : goal.returns-then-node-eq2-clause-ok
returns-then-node-eq2-clause-ok g c =
    let two = sym (ap (λ (a : Application). a.mode) c.node-node.ensures) ∙ c.if-node-eq2.true in
    let none = opened_none c.args.graph.now c.args.i c.len.ensures.plan c.requires.node (λ three. omega arith) in
    subst (λ (a : Application). OnOk c.give_each.result (Adds c.args.sources.now.items c.args.sources.now.items c.args.table.now c.give_each.new.table a.act (node_entries a.mode c.args.i c.args.workers))) c.node-node.ensures
    (each_adds c.args.sources.now.items c.args.table.now c.give_each.new.table (application_of c.node-node.result.now) c.args.i c.args.workers c.give_each.result c.if-node-eq2.true (ap (λ (a : Application). source_info a.act) c.node-node.ensures ∙ none) c.give_each.ensures.ok)

pub returns-clause-ok : goal.returns-clause-ok
returns-clause-ok g c =
    let mode = ap (λ (a : Application). a.mode) c.node-node.ensures in
    none_adds c.args.sources.now.items c.args.table.now (application_at c.args.graph.now c.args.i) c.args.i c.args.workers
    (λ three. c.if-node-eq3.false (mode ∙ three)) (λ two. c.if-node-eq2.false (mode ∙ two))
    (opened_none c.args.graph.now c.args.i c.len.ensures.plan c.requires.node (λ three. c.if-node-eq3.false (mode ∙ three)))
