-- What is answered is what the list asks of the clip that the script means.
use Rattle.std.proofs.Common.{◌≡◌, ◌∙◌, ◌+◌, ◌≤◌, ap, refl, arith}
use Rattle.serve_worker.specs.Instances.{faults_of}
use Rattle.prefetch.specs.StreamClips.{book_told}
use Rattle.serve_app.specs.Sessions.{ended_with}
use Rattle.serve_app.proofs.ClosingLemmas.{count_rose, count_stays}
use Rattle.serve_app.proofs.OpeningLemmas.{not_read, clip_found, unfailed}
use Rattle.serve_app.proofs.SessionLemmas.{answered_before, no_fetch, session_of, unevaluated, unopened_list, all_well, on_some, list_rose, list_stays}
use Rattle.serve_app.proofs.session.answer_held.Goals as goal

pub returns-in-Err-clause-session : goal.returns-in-Err-clause-session
returns-in-Err-clause-session g c =
    rw c.requires.none
    (unevaluated (g.H.HeldFiles.world c.args.files) c.args.script.now c.args.list g.K.Sink c.args.out.now _ c.args.cache c.in-Err.stop (rw c.in-Err.is at c.open_script-held.ensures.stop))

pub returns-in-Err-fetch-clause-session : goal.returns-in-Err-fetch-clause-session
returns-in-Err-fetch-clause-session g c =
    rw (c.requires.none, c.unopened.ensures)
    (unopened_list (g.H.HeldFiles.world c.args.files) c.args.script.now c.args.list g.K.Sink c.args.out.now _ c.args.cache c.in-Err-fetch.fault
    (clip_found g.H.Src.Source (g.H.HeldFiles.world c.args.files) c.args.script.now c.in-Ok.found.opened c.in-Ok.found.sources.items (rw c.in-Ok.is at c.open_script-held.ensures.opened))
    (rw c.open_script-held.ensures.world at c.in-Err-fetch.ensures.not_there)
    (λ is. let rose = c.in-Err-fetch.ensures.failed is in omega (arith, c.open_script-held.ensures.later, rose, c.close_all.ensures.faults)))

pub answer_graph-table-requires-clause-sources : goal.answer_graph-table-requires-clause-sources
answer_graph-table-requires-clause-sources g c = rw c.in-Ok.is at c.open_script-held.ensures.sources

pub returns-clause-session : goal.returns-clause-session
returns-clause-session g c =
    let is = rw c.in-Ok.is at c.open_script-held.ensures.opened in
    let opens = is.opens in
    let start : g.H.HeldFiles.faults c.args.files ≤ g.H.HeldFiles.faults c.fetch.new.self = omega (arith, c.open_script-held.ensures.later, c.fetch.ensures.later) in
    let closed : g.H.HeldFiles.faults c.args.files ≤ g.H.HeldFiles.faults c.close.new.self = omega (arith, start, c.close.ensures.faults) in
    let more : g.H.HeldFiles.faults c.close.new.self ≤ g.H.HeldFiles.faults c.close_table.new.files = omega (arith, c.close_table.ensures.faults) in
    let last : g.H.HeldFiles.faults c.close_table.new.files ≤ g.H.HeldFiles.faults c.close_all-2.new.files = omega (arith, c.close_all-2.ensures.faults) in
    rw (c.ended.ensures, is.told_is)
    (session_of g.H.Src.Source is.known is.world c.args.script.now c.in-Ok.found.opened.graph c.in-Ok.found.opened.root c.in-Ok.found.opened.prefetch is.listed c.in-Ok.found.sources.items
    opens.sources is.are is.means g.H.Src.Source c.in-Ok-fetch.source c.answer_graph-table.new.list c.args.list c.in-Ok-fetch.ensures.start
    (rw (c.open_script-held.ensures.world, is.told_is) at c.in-Ok-fetch.ensures.told) (rw (c.open_script-held.ensures.world, is.told_is) at c.in-Ok-fetch.ensures.there)
    g.K.Sink c.args.out.now c.answer_graph-table.new.out c.args.cache (faults_of g.H.Src.Source) c.answer_graph-table.result.0 _
    (count_rose g.H.Src.Source c.answer_graph-table.result.0 c.answer_graph-table.new.sources.items _ _ _ _ closed c.close_table.ensures.faults c.close_all-2.ensures.faults)
    (λ failed. list_rose _ _ _ _ _ _ start c.close.ensures.faults more last (rw c.in-Ok-fetch.ensures.fresh at failed))
    c.answer_graph-table.new.journal c.answer_graph-table.result.1 opens.plan opens.root c.answer_graph-table.ensures.answered)

pub returns-clause-steady : goal.returns-clause-steady
returns-clause-steady g c =
    let is = rw c.in-Ok.is at c.open_script-held.ensures.opened in
    let reads = rw c.in-Ok.is at c.open_script-held.ensures.reads in
    let answered = c.answer_graph-table.ensures.answered in
    rw c.ended.ensures
    (all_well c.args.list c.answer_graph-table.result.1 _ _ _ answered.all c.answer_graph-table.ensures.steady
    (λ all steady.
    count_stays g.H.Src.Source c.answer_graph-table.result.0 c.answer_graph-table.new.sources.items c.in-Ok.found.sources.items _ _ _ steady
    (unfailed g.H.Src.Source (g.H.HeldFiles.world c.args.files) c.args.script.now c.in-Ok.found.opened c.in-Ok.found.sources.items is) c.close_table.ensures.faults c.close_all-2.ensures.faults
    ∙ list_stays _ _ _ c.close.ensures.faults (all.steady ∙ c.in-Ok-fetch.ensures.fresh) ∙ c.in-Ok-fetch.ensures.steady (λ failed. cc failed) ∙ reads.steady))

pub returns-clause-fetched : goal.returns-clause-fetched
returns-clause-fetched g c =
    let reads = rw c.in-Ok.is at c.open_script-held.ensures.reads in
    let fetched = c.in-Ok-fetch.ensures.fetched in
    on_some c.answer_graph-table.new.journal _
    (λ world there. let files = reads.fetched world there in omega (arith, files, fetched, c.close.ensures.fetched, c.close_table.ensures.fetched, c.close_all-2.ensures.fetched))

pub returns-in-Err-clause-before : goal.returns-in-Err-clause-before
returns-in-Err-clause-before g c = λ by. c.open_script-held.ensures.steady (λ is. not_read c.in-Err.stop by (let same = c.in-Err.is in cc))

pub returns-in-Err-fetch-clause-before : goal.returns-in-Err-fetch-clause-before
returns-in-Err-fetch-clause-before g c = λ by. absurd (no_fetch c.args.list c.in-Err-fetch.fault (rw c.unopened.ensures at by))

pub returns-clause-before : goal.returns-clause-before
returns-clause-before g c =
    let answered = c.answer_graph-table.ensures.answered in
    rw c.ended.ensures
    (answered_before c.in-Ok.found.opened.graph c.in-Ok.found.opened.root c.args.cache (faults_of g.H.Src.Source) (book_told g.H.Src.Source c.in-Ok.found.sources.items) g.H.Src.Source c.in-Ok-fetch.source
    c.answer_graph-table.new.list g.K.Sink c.args.out.now c.answer_graph-table.new.out c.answer_graph-table.result.0 c.answer_graph-table.new.journal c.answer_graph-table.result.1 c.args.list _ answered)

pub returns-in-Err-clause-unfailed : goal.returns-in-Err-clause-unfailed
returns-in-Err-clause-unfailed g c = λ other. refl

pub returns-in-Err-fetch-clause-unfailed : goal.returns-in-Err-fetch-clause-unfailed
returns-in-Err-fetch-clause-unfailed g c = λ other. refl

pub returns-clause-unfailed : goal.returns-clause-unfailed
returns-clause-unfailed g c = λ other. c.answer_graph-table.ensures.unfailed (λ is. other (c.ended.ensures ∙ ap (ended_with c.args.list) is))
