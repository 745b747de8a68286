use Rattle.std.proofs.Common.{◌≡◌, ◌++◌, map, take}
use Rattle.std.specs.List.{AllByRecursion}
use Rattle.fv_io.specs.Sink.{IsLater}
use Rattle.run_text.specs.declared.line.Line.TheVariants.{Did}
use Rattle.run_text.specs.Lines.{LineFits, lines_text}
use Rattle.run_text.specs.Gathered.{PutsAllBut}
use Rattle.run_text.proofs.print.add_events.Given as goal

-- the lines of the events before were gathered
abbrev pub invariant-loop-event : goal.invariant-loop-event
invariant-loop-event g l =
    let sink = g.K.Sink in
    record {
      put : PutsAllBut sink l.fn.out l.out (l.fn.buf.bytes ++ lines_text (map Did (take l.event-index l.events))) l.buf.bytes;
      fits : AllByRecursion LineFits (map Did (take l.event-index l.events));
      steady : sink.faults l.out ≡ sink.faults l.fn.out;
      later : IsLater sink l.fn.out l.out;
    }
