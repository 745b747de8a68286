-- Worker after worker.
use Rattle.std.proofs.Common.{◌∙◌}
use Rattle.clip_term.specs.Terms.{act_of}
use Rattle.serve_worker.specs.Furnishing.{filter_instance}
use Rattle.serve_worker.proofs.FurnishingLemmas.{own_new, given_sources, given_leases}
use Rattle.serve_worker.proofs.furnishing.give_each.Goals as goal

pub add_filter-requires-clause-new : goal.add_filter-requires-clause-new
add_filter-requires-clause-new g c = own_new c.args.node (filter_instance (act_of c.args.op.now)) c.args.table.now c.loop-worker.table c.loop-worker.worker c.loop-worker.invariant c.requires

pub returns-in_err-add_filter-clause-sources : goal.returns-in_err-add_filter-clause-sources
returns-in_err-add_filter-clause-sources g c =
    given_sources c.args.node (act_of c.args.op.now) c.args.table.now c.add_filter.new.table c.loop-worker.worker (c.in_err-add_filter.ensures.err ∙ c.loop-worker.invariant)

pub returns-in_err-add_filter-clause-leases : goal.returns-in_err-add_filter-clause-leases
returns-in_err-add_filter-clause-leases g c =
    given_leases c.args.node (act_of c.args.op.now) c.args.table.now c.add_filter.new.table c.loop-worker.worker (c.in_err-add_filter.ensures.err ∙ c.loop-worker.invariant)

pub returns-clause-sources : goal.returns-clause-sources
returns-clause-sources g c = given_sources c.args.node (act_of c.args.op.now) c.args.table.now c.loop-worker.table c.loop-worker.worker c.loop-worker.invariant

pub returns-clause-leases : goal.returns-clause-leases
returns-clause-leases g c = given_leases c.args.node (act_of c.args.op.now) c.args.table.now c.loop-worker.table c.loop-worker.worker c.loop-worker.invariant
