use Rattle.std.proofs.Common.{◌≡◌}
use Rattle.fv_io.specs.Sink.{IsLater}
use Rattle.serve_machine.specs.Events.{windows_of}
use Rattle.serve_text.specs.Report.{lines_between, PutsUpTo}
use Rattle.serve_text.proofs.lines.put_lines.Given as goal

-- the lines of the nodes before were put
abbrev pub invariant-loop-i : goal.invariant-loop-i
invariant-loop-i g l =
    let sink = g.K.Sink in
    let windows = windows_of l.journal in
    record {
      put : PutsUpTo sink l.fn.out l.out (lines_between l.graph windows l.first l.end) (lines_between l.graph windows l.i l.end);
      steady : sink.faults l.out ≡ sink.faults l.fn.out;
      later : IsLater sink l.fn.out l.out;
    }
