use Rattle.std.proofs.Common.{[]}
use Rattle.run_text.specs.declared.line.Line.TheVariants.{Workers}
use Rattle.run_text.proofs.PrintLemmas.{windows_text, on_ok, on_err, all_sent, cut_whole, events_put, events_cut}
use Rattle.run_text.proofs.print.print_journal.Goals as goal

pub returns-in-Err-add_windows-clause-cut : goal.returns-in-Err-add_windows-clause-cut
returns-in-Err-add_windows-clause-cut g c =
    events_cut g.K.Sink c.args.out.now c.add.new.out c.add_windows.new.out [] c.add.new.buf.bytes c.workers_line.result.bytes (windows_text c.args.journal.now.windows.items) (Workers c.args.workers) c.workers_line.ensures.text
    (rw c.new-buf.ensures at c.in-Ok.ensures.put) (rw c.deref.ensures.value at c.in-Err-add_windows.ensures.cut)

pub returns-clause-put : goal.returns-clause-put
returns-clause-put g c =
    let all = events_put g.K.Sink c.args.out.now c.add.new.out c.add_windows.new.out [] c.add.new.buf.bytes c.workers_line.result.bytes (windows_text c.args.journal.now.windows.items) c.add_windows.new.buf.bytes (Workers c.args.workers) c.workers_line.ensures.text
    (rw c.new-buf.ensures at c.in-Ok.ensures.put) (rw c.deref.ensures.value at c.in-Ok-add_windows.ensures.put) in
    on_ok c.put_all.result c.put_all.ensures.put (all_sent g.K.Sink c.args.out.now c.add_windows.new.out c.put_all.new.out _ c.add_windows.new.buf.bytes all)

pub returns-clause-cut : goal.returns-clause-cut
returns-clause-cut g c =
    let all = events_put g.K.Sink c.args.out.now c.add.new.out c.add_windows.new.out [] c.add.new.buf.bytes c.workers_line.result.bytes (windows_text c.args.journal.now.windows.items) c.add_windows.new.buf.bytes (Workers c.args.workers) c.workers_line.ensures.text
    (rw c.new-buf.ensures at c.in-Ok.ensures.put) (rw c.deref.ensures.value at c.in-Ok-add_windows.ensures.put) in
    on_err c.put_all.result c.put_all.ensures.cut (cut_whole g.K.Sink c.args.out.now c.add_windows.new.out c.put_all.new.out _ c.add_windows.new.buf.bytes all)
