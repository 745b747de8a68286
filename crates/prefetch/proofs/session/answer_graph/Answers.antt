use Rattle.std.proofs.Common.{◌∙◌, ◌+◌, [], length, ap, sym, length-append, None, OnOk, IfErr, refl}
use Rattle.serve_session.specs.Serving.{ServesAll, ServesPart}
use Rattle.serve_core.specs.CoreValue.{CoreValue}
use Rattle.serve_core.specs.Kept.{leases_out}
use Rattle.serve_worker.specs.Furnishing.{sources_in}
use Rattle.serve_worker.specs.declared.instance.Instance.{Instance}
use Rattle.serve_core.proofs.Tables.{none_leased}
use Rattle.prefetch.specs.declared.pool_size.Pool.{Pool}
use Rattle.prefetch.specs.Sessions.{IsToldSession}
use Rattle.prefetch.proofs.CoreLemmas.{sources_stay, counts_stay}
use Rattle.prefetch.proofs.AnsweredLemmas.{played, fresh, stop_is_named, session_stays, session_steady, session_answered, not_written, nothing_answered}
use Rattle.prefetch.proofs.session.answer_graph.Goals as goal
use Rattle.prefetch.proofs.session.answer_graph.Given.{Over}
use Rattle.prefetch.proofs.session.answer_graph.Goals.{After-serve-done, After-told_session-told}

abbrev one : Pool
one = record { workers = 1; window = 1 }

ok : (g : Over) (c : After-serve-done g) → OnOk c.serve-done.result (ServesAll (played g.S.Source) g.K.Sink g.L.Source fresh (record { core = c.in-Ok.core; windows = []; stop = None }) c.serve-done.new.player c.args.list.now c.serve-done.new.source c.args.out.now c.serve-done.new.out)
ok g c = rw (c.new-reader.ensures, c.new-played.ensures) at c.serve-done.ensures.ok

part : (g : Over) (c : After-serve-done g) → IfErr c.serve-done.result (ServesPart (played g.S.Source) g.K.Sink g.L.Source fresh (record { core = c.in-Ok.core; windows = []; stop = None }) c.serve-done.new.player c.args.list.now c.serve-done.new.source c.args.out.now c.serve-done.new.out)
part g c = rw (c.new-reader.ensures, c.new-played.ensures) at c.serve-done.ensures.stop

told : (g : Over) (c : After-told_session-told g) → IsToldSession c.serve-done.new.player.core.fixed.plan c.serve-done.result c.serve-done.new.player.stop c.told_session-told.result
told g c = rw (c.into_parts-core.ensures.core, c.into_parts-core.ensures.stop) at c.told_session-told.ensures

pub told_session-told-requires : goal.told_session-told-requires
told_session-told-requires g c =
    let at = goal.at.told_session-told-requires g c in
    record {
      named = rw (c.into_parts-core.ensures.core, c.into_parts-core.ensures.stop)
          (stop_is_named g.S.Source g.L.Source g.K.Sink c.args.graph c.args.root c.args.cache one c.args.sources.now.items c.in-Ok.core c.in-Ok.ensures.core c.args.list.now c.serve-done.new.source c.args.out.now c.serve-done.new.out
          c.serve-done.new.player c.serve-done.result (ok g at.After-serve-done) (part g at.After-serve-done));
    }

pub into_table-requires-clause-claims : goal.into_table-requires-clause-claims
into_table-requires-clause-claims g c =
    let at = goal.at.into_table-requires-clause-claims g c in
    let stays = session_stays g.S.Source g.L.Source g.K.Sink c.args.graph c.args.root c.args.cache one c.args.sources.now.items c.in-Ok.core c.in-Ok.ensures.core c.args.list.now c.serve-done.new.source c.args.out.now c.serve-done.new.out
    c.serve-done.new.player c.serve-done.result (ok g at.After-serve-done) (part g at.After-serve-done) c.told_session-told.result (told g at.After-told_session-told) in
    ap (λ (d : CoreValue (Instance g.row.S.Denot)). d.claims) c.into_parts-core.ensures.core ∙ stays.unclaimed

pub into_table-requires-clause-leases : goal.into_table-requires-clause-leases
into_table-requires-clause-leases g c =
    let at = goal.at.into_table-requires-clause-leases g c in
    let stays = session_stays g.S.Source g.L.Source g.K.Sink c.args.graph c.args.root c.args.cache one c.args.sources.now.items c.in-Ok.core c.in-Ok.ensures.core c.args.list.now c.serve-done.new.source c.args.out.now c.serve-done.new.out
    c.serve-done.new.player c.serve-done.result (ok g at.After-serve-done) (part g at.After-serve-done) c.told_session-told.result (told g at.After-told_session-told) in
    ap (λ (d : CoreValue (Instance g.row.S.Denot)). leases_out d.table) c.into_parts-core.ensures.core ∙ none_leased c.serve-done.new.player.core.table stays.free

pub returns-clause-free : goal.returns-clause-free
returns-clause-free g c =
    let at = goal.at.returns-clause-free g c in
    let stays = session_stays g.S.Source g.L.Source g.K.Sink c.args.graph c.args.root c.args.cache one c.args.sources.now.items c.in-Ok.core c.in-Ok.ensures.core c.args.list.now c.serve-done.new.source c.args.out.now c.serve-done.new.out
    c.serve-done.new.player c.serve-done.result (ok g at.After-serve-done) (part g at.After-serve-done) c.told_session-told.result (told g at.After-told_session-told) in
    rw (c.into_table.ensures, c.into_parts-core.ensures.core) stays.free

pub returns-clause-answered : goal.returns-clause-answered
returns-clause-answered g c =
    let at = goal.at.returns-clause-answered g c in
    rw (c.into_table.ensures, c.into_parts-core.ensures.core)
    (session_answered g.S.Source g.L.Source g.K.Sink c.args.graph c.args.root c.args.cache one c.args.sources.now.items c.in-Ok.core c.in-Ok.ensures.core c.args.list.now c.serve-done.new.source c.args.out.now c.serve-done.new.out
    c.serve-done.new.player c.serve-done.result (ok g at.After-serve-done) (part g at.After-serve-done) c.told_session-told.result (told g at.After-told_session-told) c.into_parts-core.result.1 c.into_parts-core.ensures.journal)

pub returns-clause-all : goal.returns-clause-all
returns-clause-all g c =
    let at = goal.at.returns-clause-all g c in
    let stays = session_stays g.S.Source g.L.Source g.K.Sink c.args.graph c.args.root c.args.cache one c.args.sources.now.items c.in-Ok.core c.in-Ok.ensures.core c.args.list.now c.serve-done.new.source c.args.out.now c.serve-done.new.out
    c.serve-done.new.player c.serve-done.result (ok g at.After-serve-done) (part g at.After-serve-done) c.told_session-told.result (told g at.After-told_session-told) in
    let same = sources_stay g.S.Source c.args.graph c.args.root c.args.cache one c.args.sources.now.items c.in-Ok.core c.in-Ok.ensures.core c.serve-done.new.player.core.table stays.free stays.held in
    let table = c.into_table.ensures ∙ ap (λ (d : CoreValue (Instance g.row.S.Denot)). d.table) c.into_parts-core.ensures.core in
    ap length c.in-Ok.ensures.all ∙ (length-append c.open_core.new.sources.items (sources_in c.in-Ok.core.table) ∙ ap (λ n. length c.open_core.new.sources.items + n) (sym same ∙ ap (λ t. length (sources_in t)) (sym table)))

pub returns-clause-steady : goal.returns-clause-steady
returns-clause-steady g c =
    let at = goal.at.returns-clause-steady g c in
    let stays = session_stays g.S.Source g.L.Source g.K.Sink c.args.graph c.args.root c.args.cache one c.args.sources.now.items c.in-Ok.core c.in-Ok.ensures.core c.args.list.now c.serve-done.new.source c.args.out.now c.serve-done.new.out
    c.serve-done.new.player c.serve-done.result (ok g at.After-serve-done) (part g at.After-serve-done) c.told_session-told.result (told g at.After-told_session-told) in
    let table = c.into_table.ensures ∙ ap (λ (d : CoreValue (Instance g.row.S.Denot)). d.table) c.into_parts-core.ensures.core in
    counts_stay g.S.Source c.args.graph c.args.root c.args.cache one c.args.sources.now.items c.in-Ok.core c.in-Ok.ensures.core c.serve-done.new.player.core.table c.into_table.result c.open_core.new.sources.items c.told_session-told.result stays.free stays.held c.in-Ok.ensures.all table
    (session_steady g.S.Source g.L.Source g.K.Sink c.args.graph c.args.root c.args.cache one c.args.sources.now.items c.in-Ok.core c.in-Ok.ensures.core c.args.list.now c.serve-done.new.source c.args.out.now c.serve-done.new.out
    c.serve-done.new.player c.serve-done.result (ok g at.After-serve-done) (part g at.After-serve-done) c.told_session-told.result (told g at.After-told_session-told))

pub returns-in-Err-clause-answered : goal.returns-in-Err-clause-answered
returns-in-Err-clause-answered g c =
    nothing_answered g.S.Source g.L.Source g.K.Sink c.args.graph c.args.root c.args.cache c.args.sources.now.items c.args.list.now c.args.list.now c.args.out.now c.args.out.now c.new.result c.new.ensures c.in-Err.table refl

pub returns-clause-unfailed : goal.returns-clause-unfailed
returns-clause-unfailed g c = λ other.
    let at = goal.at.returns-clause-unfailed g c in
    c.serve-done.ensures.steady (not_written c.serve-done.new.player.core.fixed.plan c.serve-done.result c.serve-done.new.player.stop c.told_session-told.result (told g at.After-told_session-told) other)

pub returns-in-Err-clause-unfailed : goal.returns-in-Err-clause-unfailed
returns-in-Err-clause-unfailed g c = λ other. refl
