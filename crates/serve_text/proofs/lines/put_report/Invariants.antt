use Rattle.std.proofs.Common.{◌≡◌, ◌≤◌, ◌-◌, length}
use Rattle.fv_io.specs.Sink.{IsLater}
use Rattle.serve_machine.specs.Events.{windows_of}
use Rattle.serve_text.specs.Report.{lines_between, PutsUpTo, report}
use Rattle.serve_text.proofs.lines.put_report.Given as goal

-- the lines of the nodes before were put
abbrev pub invariant-loop-first : goal.invariant-loop-first
invariant-loop-first g l =
    let sink = g.K.Sink in
    let windows = windows_of l.journal in
    record {
      put : PutsUpTo sink l.fn.out l.out (report l.graph windows) (lines_between l.graph windows l.first (length l.graph));
      inside : l.first ≤ length l.graph;
      steady : sink.faults l.out ≡ sink.faults l.fn.out;
      later : IsLater sink l.fn.out l.out;
    }

abbrev pub decreases-loop-first : goal.decreases-loop-first
decreases-loop-first g l = length l.graph - l.first
