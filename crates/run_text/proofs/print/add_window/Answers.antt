use Rattle.std.proofs.Common.{map}
use Rattle.run_text.specs.declared.line.Line.TheVariants.{Did, Window}
use Rattle.run_text.specs.Lines.{lines_text}
use Rattle.run_text.proofs.PrintLemmas.{on_ok, on_err, cut_first, events_put, events_cut}
use Rattle.run_text.proofs.print.add_window.Goals as goal

pub returns-in-Err-clause-cut : goal.returns-in-Err-clause-cut
returns-in-Err-clause-cut g c = cut_first g.K.Sink c.args.out.now c.add.new.out c.args.buf.now.bytes _ c.in-Err.ensures.cut

pub returns-clause-put : goal.returns-clause-put
returns-clause-put g c =
    let w = Window c.args.windowed.now.first c.args.windowed.now.count in
    on_ok c.add_events.result (rw c.deref.ensures.value at c.add_events.ensures.put)
    (events_put g.K.Sink c.args.out.now c.add.new.out c.add_events.new.out c.args.buf.now.bytes c.add.new.buf.bytes c.window_line.result.bytes (lines_text (map Did c.args.windowed.now.events.items)) c.add_events.new.buf.bytes w c.window_line.ensures.text c.in-Ok.ensures.put)

pub returns-clause-cut : goal.returns-clause-cut
returns-clause-cut g c =
    let w = Window c.args.windowed.now.first c.args.windowed.now.count in
    on_err c.add_events.result (rw c.deref.ensures.value at c.add_events.ensures.cut)
    (events_cut g.K.Sink c.args.out.now c.add.new.out c.add_events.new.out c.args.buf.now.bytes c.add.new.buf.bytes c.window_line.result.bytes (lines_text (map Did c.args.windowed.now.events.items)) w c.window_line.ensures.text c.in-Ok.ensures.put)
