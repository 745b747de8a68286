-- The windows before were rendered. The frames of all but the last were put.
use Rattle.std.proofs.Common.{◌-◌, ◌≤◌}
use Rattle.fv_io.specs.Sink.{IsLater}
use Rattle.serve_machine.specs.Events.{windows_of}
use Rattle.prefetch.specs.Crew.{AreOfCrew}
use Rattle.prefetch.specs.Windows.{Keeps}
use Rattle.prefetch.proofs.RenderLemmas.{Waits}
use Rattle.prefetch.proofs.crew.render_crew.Given as goal

abbrev pub invariant-loop-first : goal.invariant-loop-first
invariant-loop-first g l = record {
  inside : l.first ≤ l.total;
  keeps : Keeps g.I.Held l.initial.core l.core;
  crew : AreOfCrew l.initial.core l.window l.first (windows_of l.journal) l.core;
  waits : Waits g.I.Held l.initial.core g.K.Sink l.fn.out l.out l.frames.items l.first;
  later : IsLater g.K.Sink l.fn.out l.out;
}

abbrev pub decreases-loop-first : goal.decreases-loop-first
decreases-loop-first g l = l.total - l.first
