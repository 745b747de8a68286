use Rattle.std.proofs.Common.{◌≡◌, ◌++◌, map, take}
use Rattle.std.specs.List.{flat_map, AllByRecursion}
use Rattle.fv_io.specs.Sink.{IsLater}
use Rattle.serve_machine.specs.Events.{window_of}
use Rattle.run_text.specs.Lines.{LineFits, lines_text, window_lines}
use Rattle.run_text.specs.Gathered.{PutsAllBut}
use Rattle.run_text.proofs.print.add_windows.Given as goal

-- the lines of the windows before were gathered
abbrev pub invariant-loop-windowed : goal.invariant-loop-windowed
invariant-loop-windowed g l =
    let sink = g.K.Sink in
    record {
      put : PutsAllBut sink l.fn.out l.out (l.fn.buf.bytes ++ lines_text (flat_map window_lines (map window_of (take l.windowed-index l.windows)))) l.buf.bytes;
      fits : AllByRecursion LineFits (flat_map window_lines (map window_of (take l.windowed-index l.windows)));
      steady : sink.faults l.out ≡ sink.faults l.fn.out;
      later : IsLater sink l.fn.out l.out;
    }
