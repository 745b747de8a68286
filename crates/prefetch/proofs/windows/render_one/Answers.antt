-- The window that ended.
use Rattle.std.proofs.Common.{◌≡◌, ◌∙◌, ap, map, refl}
use Rattle.serve_machine.specs.Events.{windows_of, window_of}
use Rattle.prefetch.specs.Windows.{with_window}
use Rattle.prefetch.specs.SerialWindows.{IsSerialWindow, IsCutSerial}
use Rattle.prefetch.proofs.RenderLemmas.{adds_window, cuts_window}
use Rattle.prefetch.proofs.SerialLemmas.{serial_ends}
use Rattle.prefetch.proofs.windows.render_one.Given.{Over}
use Rattle.prefetch.proofs.windows.render_one.Goals as goal
use Rattle.prefetch.proofs.windows.render_one.Goals.{After-keep_events}

log_is : (g : Over) (c : After-keep_events g) → windows_of c.keep_events.new.journal ≡ with_window (windows_of c.args.journal.now) c.args.n 1 c.in-Ok-run_window.finished.events.items
log_is g c = c.keep_events.ensures ∙ ap (λ items. with_window (map window_of items) c.args.n 1 c.in-Ok-run_window.finished.events.items) c.reserve.ensures.items

pub returns-in-None-clause-ok : goal.returns-in-None-clause-ok
returns-in-None-clause-ok g c =
    let at = goal.at.returns-in-None-clause-ok g c in
    let core = c.args.core.now in
    record {
      finished = c.in-Ok-run_window.finished;
      adds = adds_window g.I.Held core (IsSerialWindow core c.args.n 1) (IsCutSerial core) c.args.n 1 c.run_window.new.core c.in-Ok-run_window.finished
          (serial_ends g.I.Held core c.run_window.new.core c.args.n 1 c.in-Ok-run_window.finished c.in-Ok-run_window.finished.stop c.in-Ok-run_window.ensures.ends)
          (windows_of c.args.journal.now) (windows_of c.keep_events.new.journal) (log_is g at.After-keep_events) c.in-None.is;
      frames_are = refl;
    }

pub returns-in-Some-clause-stop : goal.returns-in-Some-clause-stop
returns-in-Some-clause-stop g c =
    let at = goal.at.returns-in-Some-clause-stop g c in
    let core = c.args.core.now in
    cuts_window g.I.Held core (IsSerialWindow core c.args.n 1) (IsCutSerial core) c.args.n 1 c.run_window.new.core c.in-Ok-run_window.finished
    (serial_ends g.I.Held core c.run_window.new.core c.args.n 1 c.in-Ok-run_window.finished c.in-Ok-run_window.finished.stop c.in-Ok-run_window.ensures.ends)
    (windows_of c.args.journal.now) (windows_of c.keep_events.new.journal) (log_is g at.After-keep_events) c.in-Some.stop c.in-Some.is
