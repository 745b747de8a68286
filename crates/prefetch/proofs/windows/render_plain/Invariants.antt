-- The windows before were rendered, and their frames put.
use Rattle.std.proofs.Common.{◌≡◌, ◌-◌, ◌≤◌}
use Rattle.fv_io.specs.Sink.{IsLater}
use Rattle.serve_machine.specs.Events.{windows_of}
use Rattle.prefetch.specs.Crew.{AreOfCrew}
use Rattle.prefetch.specs.Windows.{Keeps, PutsFirst}
use Rattle.prefetch.specs.SerialWindows.{AreSerial}
use Rattle.prefetch.proofs.windows.render_plain.Given as goal

abbrev pub invariant-loop-first : goal.invariant-loop-first
invariant-loop-first g l = record {
  inside : l.first ≤ l.total;
  worker : l.worker.plan ≡ l.fn.core.fixed.plan;
  keeps : Keeps g.I.Held l.fn.core l.core;
  serial : AreSerial l.fn.core l.window l.first (windows_of l.journal) l.core;
  crew : AreOfCrew l.fn.core l.window l.first (windows_of l.journal) l.core;
  put : PutsFirst g.I.Held l.fn.core g.K.Sink l.fn.out l.out l.first;
  later : IsLater g.K.Sink l.fn.out l.out;
}

abbrev pub decreases-loop-first : goal.decreases-loop-first
decreases-loop-first g l = l.total - l.first
