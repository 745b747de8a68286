-- What is put is the clip that the script means.
use Rattle.std.proofs.Common.{◌∙◌, arith, refl}
use Rattle.serve_worker.specs.Instances.{faults_of}
use Rattle.serve_app.specs.Journals.{IsPool}
use Rattle.serve_app.proofs.ClosingLemmas.{count_rose}
use Rattle.serve_app.proofs.OpeningLemmas.{not_read, before_render, opened_render, unfailed}
use Rattle.serve_app.proofs.PlayLemmas.{not_by_script}
use Rattle.serve_app.proofs.ReadsLemmas.{stream_reads}
use Rattle.serve_app.proofs.render.render_held_together.Goals as goal

pub returns-in-Err-clause-render : goal.returns-in-Err-clause-render
returns-in-Err-clause-render g c =
    rw c.requires.none
    (before_render (g.H.HeldFiles.world c.args.files) c.args.script.now g.K.Sink c.args.out.now _ c.args.cache c.args.pool_size c.in-Err.stop (rw c.in-Err.is at c.open_script-held.ensures.stop))

pub put_graph_together-table-requires-clause-sources : goal.put_graph_together-table-requires-clause-sources
put_graph_together-table-requires-clause-sources g c = λ lifetimes longer. rw c.in-Ok.is at c.open_script-held.ensures.sources

pub returns-clause-render : goal.returns-clause-render
returns-clause-render g c =
    let streamed = rw c.pool-pool.ensures.pool at c.put_graph_together-table.ensures.streamed in
    let of_pool = c.pool-pool.ensures in
    let few : IsPool c.pool-pool.result = record { some = of_pool.some; few = of_pool.most; some_outputs = of_pool.some_outputs; few_outputs = of_pool.few } in
    let is_pool = rw of_pool.pool at few in
    opened_render g.H.Src.Source (g.H.HeldFiles.world c.args.files) c.args.script.now c.in-Ok.found.opened c.in-Ok.found.sources.items (rw c.in-Ok.is at c.open_script-held.ensures.opened)
    g.K.Sink c.args.out.now c.put_graph_together-table.new.out (faults_of g.H.Src.Source) c.put_graph_together-table.result.0 _
    (count_rose g.H.Src.Source c.put_graph_together-table.result.0 c.put_graph_together-table.new.sources.items _ _ _ _ c.open_script-held.ensures.later c.close_table.ensures.faults c.close_all.ensures.faults)
    c.args.cache c.args.pool_size c.put_graph_together-table.new.journal c.put_graph_together-table.result.1 is_pool streamed

pub returns-clause-reads : goal.returns-clause-reads
returns-clause-reads g c =
    let is = rw c.in-Ok.is at c.open_script-held.ensures.opened in
    stream_reads g.H.Src.Source (g.H.HeldFiles.world c.args.files) c.args.script.now (g.H.HeldFiles.faults c.args.files) (g.H.HeldFiles.faults c.open_script-held.result.0)
    (g.H.HeldFiles.faults c.close_table.new.files) (g.H.HeldFiles.faults c.close_all.new.files) (g.H.HeldFiles.fetched c.args.files) (g.H.HeldFiles.fetched c.open_script-held.result.0)
    (g.H.HeldFiles.fetched c.close_all.new.files) c.in-Ok.found.sources.items c.put_graph_together-table.new.sources.items c.put_graph_together-table.result.0
    (unfailed g.H.Src.Source (g.H.HeldFiles.world c.args.files) c.args.script.now c.in-Ok.found.opened c.in-Ok.found.sources.items is) (rw c.in-Ok.is at c.open_script-held.ensures.reads)
    (c.close_all.ensures.fetched ∙ c.close_table.ensures.fetched) c.close_table.ensures.faults c.close_all.ensures.faults c.put_graph_together-table.result.1 c.put_graph_together-table.ensures.steady

pub returns-clause-later : goal.returns-clause-later
returns-clause-later g c = omega (arith, c.open_script-held.ensures.later, c.close_table.ensures.faults, c.close_all.ensures.faults)

pub returns-in-Err-clause-before : goal.returns-in-Err-clause-before
returns-in-Err-clause-before g c = λ by. c.open_script-held.ensures.steady (λ is. not_read c.in-Err.stop by (let same = c.in-Err.is in cc))

pub returns-clause-before : goal.returns-clause-before
returns-clause-before g c =
    let streamed = c.put_graph_together-table.ensures.streamed in
    not_by_script g.K.Sink _ _ _ c.args.out.now c.put_graph_together-table.new.out (faults_of g.H.Src.Source) c.put_graph_together-table.result.0 c.put_graph_together-table.result.1 _ streamed.stop

pub returns-in-Err-clause-unfailed : goal.returns-in-Err-clause-unfailed
returns-in-Err-clause-unfailed g c = λ other. refl

pub returns-clause-unfailed : goal.returns-clause-unfailed
returns-clause-unfailed g c = λ other. c.put_graph_together-table.ensures.unfailed other
