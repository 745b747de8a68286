use Rattle.std.proofs.Common.{◌≡◌, rules}
use Rattle.std.specs.Arc.{arc_value}
use Rattle.serve_core.proofs.Tables.{all_free}
use Rattle.prefetch.proofs.CoreLemmas.{core_of_new}
use Rattle.prefetch.proofs.table.open_core.Goals as goal

pub returns-in_default-clause-free : goal.returns-in_default-clause-free
returns-in_default-clause-free g c = all_free c.furnish.new.table c.furnish.ensures.leases

pub returns-in_default-new-clause-free : goal.returns-in_default-new-clause-free
returns-in_default-new-clause-free g c = all_free c.furnish.new.table c.furnish.ensures.leases

pub returns-in_default-new-2-clause-free : goal.returns-in_default-new-2-clause-free
returns-in_default-new-2-clause-free g c = all_free c.furnish.new.table c.furnish.ensures.leases

pub returns-in_default-try_clone-clause-free : goal.returns-in_default-try_clone-clause-free
returns-in_default-try_clone-clause-free g c = all_free c.furnish.new.table c.furnish.ensures.leases

pub returns-clause-core : goal.returns-clause-core
returns-clause-core g c =
    let value : arc_value c.in-Ok-new-2.graph ≡ c.args.graph = search rules in
    let new = rw value at c.new-core.ensures in
    core_of_new g.S.Source c.args.graph c.args.root c.args.cache c.args.pool c.args.sources.now.items c.in-Ok-new.frames c.furnish.new.table c.new-core.result
    new c.in-Ok-new.ensures.0 c.in-Ok-new.ensures.1 c.in-Ok.ensures.ok c.furnish.ensures.leases c.len.ensures.plan c.requires.sources

pub new-core-requires-clause-sources : goal.new-core-requires-clause-sources
new-core-requires-clause-sources g c =
    let value : arc_value c.in-Ok-new-2.graph ≡ c.args.graph = search rules in
    let furnished = c.in-Ok.ensures.ok in
    rw value furnished.theirs
