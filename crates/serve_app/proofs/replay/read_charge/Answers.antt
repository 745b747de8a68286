-- What is read is the text of the file, beside the plan that the script means.
use Rattle.std.proofs.Common.{◌≡◌, ◌∙◌, ◌+◌, ◌≤◌, Err, rules, arith}
use Rattle.serve_app.proofs.OpeningLemmas.{not_read}
use Rattle.serve_app.proofs.ReplayLemmas.{no_charge, unwritten, unopened_unwritten, opening_unwritten, before_reads, unopened_journal, charged, unread_journal, read_well, on_charge}
use Rattle.serve_app.proofs.SessionLemmas.{no_fetch, list_rose, list_stays}
use Rattle.serve_app.proofs.replay.read_charge.Goals as goal

pub returns-in_err-opened-clause-stop : goal.returns-in_err-opened-clause-stop
returns-in_err-opened-clause-stop g c =
    let stop = c.in_err-opened.field-0.0 in
    let is : c.from_residual.result ≡ Err stop = search rules in
    rw is (before_reads (g.F.Files.world c.args.files.now) c.args.script.now c.args.name _ stop c.in_err-opened.ensures.stop)

pub returns-in-Err-clause-stop : goal.returns-in-Err-clause-stop
returns-in-Err-clause-stop g c =
    let keeps = c.in_ok-opened.ensures.keeps in
    rw c.unopened.ensures
    (unopened_journal (g.F.Files.world c.args.files.now) c.args.script.now c.args.name _ c.in-Err.fault c.in_ok-opened.ensures.clip (rw keeps.world at c.in-Err.ensures.not_there)
    (λ is. let rose = c.in-Err.ensures.failed is in omega (arith, keeps.later, rose)))

pub returns-clause-charge : goal.returns-clause-charge
returns-clause-charge g c =
    let keeps = c.in_ok-opened.ensures.keeps in
    rw c.charge_of.ensures
    (charged (g.F.Files.world c.args.files.now) c.args.script.now c.args.name (Unit {0}) c.in_ok-opened.opened (g.F.Src.Source.bytes c.in-Ok.source) c.read_journal-done.result
    (rw keeps.world at c.in-Ok.ensures.told) (rw keeps.world at c.in-Ok.ensures.there)
    c.in_ok-opened.ensures.means c.in_ok-opened.ensures.root c.read_journal-done.ensures.told c.read_journal-done.ensures.short)

pub returns-clause-clip : goal.returns-clause-clip
returns-clause-clip g c = rw c.charge_of.ensures (on_charge c.in_ok-opened.opened c.args.name c.read_journal-done.result _ c.in_ok-opened.ensures.clip)

pub returns-clause-stop : goal.returns-clause-stop
returns-clause-stop g c =
    let keeps = c.in_ok-opened.ensures.keeps in
    let start : g.F.Files.faults c.args.files.now ≤ g.F.Files.faults c.fetch.new.self = omega (arith, keeps.later, c.fetch.ensures.later) in
    let same : g.F.Files.faults c.close.new.self ≤ g.F.Files.faults c.close.new.self = omega arith in
    rw c.charge_of.ensures
    (unread_journal (g.F.Files.world c.args.files.now) c.args.script.now c.args.name _ c.in_ok-opened.opened (g.F.Src.Source.bytes c.in-Ok.source) c.read_journal-done.result
    (rw keeps.world at c.in-Ok.ensures.told) c.in_ok-opened.ensures.clip c.read_journal-done.ensures.long
    (λ is. let failed = c.read_journal-done.ensures.read is in list_rose _ _ _ _ _ _ start c.close.ensures.faults same same (rw c.in-Ok.ensures.fresh at failed)))

pub returns-clause-steady : goal.returns-clause-steady
returns-clause-steady g c =
    let reads = c.in_ok-opened.ensures.reads in
    rw c.charge_of.ensures
    (read_well c.in_ok-opened.opened c.args.name c.read_journal-done.result _ _ c.read_journal-done.ensures.steady
    (λ steady. list_stays _ _ _ c.close.ensures.faults (steady ∙ c.in-Ok.ensures.fresh) ∙ c.in-Ok.ensures.steady (λ failed. cc failed) ∙ reads.steady))

pub returns-clause-fetched : goal.returns-clause-fetched
returns-clause-fetched g c =
    let reads = c.in_ok-opened.ensures.reads in
    let fetched = c.in-Ok.ensures.fetched in
    rw c.charge_of.ensures
    (on_charge c.in_ok-opened.opened c.args.name c.read_journal-done.result _
    (λ world there. let files = reads.fetched world there in omega (arith, files, fetched, c.close.ensures.fetched)))

pub returns-in_err-opened-clause-before : goal.returns-in_err-opened-clause-before
returns-in_err-opened-clause-before g c =
    let stop = c.in_err-opened.field-0.0 in
    let is : c.from_residual.result ≡ Err stop = search rules in
    rw is (λ by. c.in_err-opened.ensures.steady (λ e. not_read stop by (let same = e in cc)))

pub returns-in_err-opened-clause-unwritten : goal.returns-in_err-opened-clause-unwritten
returns-in_err-opened-clause-unwritten g c =
    let stop = c.in_err-opened.field-0.0 in
    let is : c.from_residual.result ≡ Err stop = search rules in
    rw is (opening_unwritten (g.F.Files.world c.args.files.now) c.args.script.now _ stop c.in_err-opened.ensures.stop)

pub returns-in-Err-clause-before : goal.returns-in-Err-clause-before
returns-in-Err-clause-before g c = λ by. absurd (no_fetch c.args.name c.in-Err.fault (rw c.unopened.ensures at by))

pub returns-in-Err-clause-unwritten : goal.returns-in-Err-clause-unwritten
returns-in-Err-clause-unwritten g c = rw c.unopened.ensures (unopened_unwritten c.args.name c.in-Err.fault)

pub returns-clause-before : goal.returns-clause-before
returns-clause-before g c = rw c.charge_of.ensures (no_charge c.in_ok-opened.opened c.args.name c.read_journal-done.result _)

pub returns-clause-unwritten : goal.returns-clause-unwritten
returns-clause-unwritten g c = rw c.charge_of.ensures (unwritten c.in_ok-opened.opened c.args.name c.read_journal-done.result)
