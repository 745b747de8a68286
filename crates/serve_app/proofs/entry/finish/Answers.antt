-- The report or the journal is put, or cut short.
use Rattle.serve_app.proofs.RunLemmas.{finishes_reported, finishes_printed}
use Rattle.serve_app.proofs.entry.finish.Goals as goal

pub returns-in-Some : goal.returns-in-Some
returns-in-Some g c =
    finishes_reported g.E.Sink c.args.err.now c.put_report_of.new.err c.args.done c.args.journal.now c.put_report_of.result c.in-Ok-Report.field-0 c.in-Ok-Report.shared c.in-Some.journal
    c.in-Ok-Report.is c.in-Ok-Report.field-0-is c.in-Some.is (rw c.graph.ensures at c.put_report_of.ensures)

pub returns-in-Some-journal : goal.returns-in-Some-journal
returns-in-Some-journal g c =
    finishes_printed g.E.Sink c.args.err.now c.put_journal_of.new.err c.args.done c.args.journal.now c.put_journal_of.result c.in-Ok-Journal.field-0 c.in-Ok-Journal.workers c.in-Some-journal.journal
    c.in-Ok-Journal.is c.in-Ok-Journal.field-0-is c.in-Some-journal.is (record { put = c.put_journal_of.ensures.put; fits = c.put_journal_of.ensures.fits })
