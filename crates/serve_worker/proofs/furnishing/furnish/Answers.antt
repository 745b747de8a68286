-- From the last node to the first.
use Rattle.std.proofs.Common.{◌≡◌, ◌+◌, ◌-◌, subst, arith}
use Rattle.serve_worker.proofs.FurnishingLemmas.{FurnishedFrom, furnished_none, next_is, furnished_more}
use Rattle.serve_worker.proofs.furnishing.furnish.Goals as goal

pub nodes-init : goal.nodes-init
nodes-init g c = furnished_none c.args.graph.now c.args.workers c.args.sources.now.items c.len-i.ensures.plan c.requires.sources c.args.table.now c.len-i.result c.requires.empty c.len-i.ensures.len

pub furnish_node-requires-clause-next : goal.furnish_node-requires-clause-next
furnish_node-requires-clause-next g c =
    let next : c.nodes.i ≡ c.nodes.i - 1 + 1 = omega arith in
    next_is c.args.graph.now c.args.workers c.args.sources.now.items c.len-i.ensures.plan c.requires.sources (c.nodes.i - 1) c.nodes.sources.items c.nodes.table
    (subst (λ n. FurnishedFrom c.args.graph.now c.args.workers c.args.sources.now.items n c.nodes.sources.items c.nodes.table) next c.nodes.invariant)

pub nodes-preserved : goal.nodes-preserved
nodes-preserved g c =
    let next : c.nodes.i ≡ c.nodes.i - 1 + 1 = omega arith in
    furnished_more c.args.graph.now c.args.workers c.args.sources.now.items c.len-i.ensures.plan c.requires.sources (c.nodes.i - 1) c.nodes.sources.items c.nodes.table
    (subst (λ n. FurnishedFrom c.args.graph.now c.args.workers c.args.sources.now.items n c.nodes.sources.items c.nodes.table) next c.nodes.invariant)
    c.furnish_node.new.sources.items c.furnish_node.new.table c.in_ok-furnish_node.ensures.ok c.in_ok-furnish_node.ensures.kept c.in_ok-furnish_node.ensures.leases
