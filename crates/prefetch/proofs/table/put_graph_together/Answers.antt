use Rattle.std.proofs.Common.{◌∙◌, ◌+◌, length, ap, sym, length-append}
use Rattle.serve_worker.specs.Furnishing.{sources_in}
use Rattle.serve_core.proofs.Tables.{none_leased}
use Rattle.prefetch.proofs.CoreLemmas.{streamed_of_graph, sources_stay, counts_stay}
use Rattle.prefetch.proofs.table.put_graph_together.Goals as goal

pub into_table-requires-clause-leases : goal.into_table-requires-clause-leases
into_table-requires-clause-leases g c = none_leased c.put_clip_together-core.result.0.table c.put_clip_together-core.ensures.free

pub returns-clause-streamed : goal.returns-clause-streamed
returns-clause-streamed g c =
    rw c.into_table.ensures
    (streamed_of_graph g.S.Source c.args.graph c.args.root c.args.cache c.args.pool c.args.sources.now.items c.in-Ok.opened.0 c.in-Ok.ensures.core
    g.K.Sink c.args.out.now c.put_clip_together-core.new.out c.put_clip_together-core.new.journal c.put_clip_together-core.result.0.table c.put_clip_together-core.result.1
    c.put_clip_together-core.ensures.streamed)

pub returns-clause-all : goal.returns-clause-all
returns-clause-all g c =
    let same = sources_stay g.S.Source c.args.graph c.args.root c.args.cache c.args.pool c.args.sources.now.items c.in-Ok.opened.0 c.in-Ok.ensures.core
    c.put_clip_together-core.result.0.table c.put_clip_together-core.ensures.free c.put_clip_together-core.ensures.held in
    ap length c.in-Ok.ensures.all ∙ (length-append c.open_core.new.sources.items (sources_in c.in-Ok.opened.0.table) ∙ ap (λ n. length c.open_core.new.sources.items + n) (sym same ∙ ap (λ t. length (sources_in t)) (sym c.into_table.ensures)))

pub returns-clause-steady : goal.returns-clause-steady
returns-clause-steady g c =
    counts_stay g.S.Source c.args.graph c.args.root c.args.cache c.args.pool c.args.sources.now.items c.in-Ok.opened.0 c.in-Ok.ensures.core
    c.put_clip_together-core.result.0.table c.into_table.result c.open_core.new.sources.items c.put_clip_together-core.result.1 c.put_clip_together-core.ensures.free c.put_clip_together-core.ensures.held c.in-Ok.ensures.all c.into_table.ensures c.put_clip_together-core.ensures.steady

pub returns-clause-unfailed : goal.returns-clause-unfailed
returns-clause-unfailed g c = λ other. c.put_clip_together-core.ensures.unfailed other
