-- The window that ended, and what was put of it.
use Rattle.std.proofs.Common.{◌≡◌, ◌∙◌, ap, map}
use Rattle.serve_machine.specs.Events.{windows_of, window_of}
use Rattle.prefetch.specs.Windows.{with_window}
use Rattle.prefetch.specs.SerialWindows.{IsAloneWindow, IsAloneCut}
use Rattle.prefetch.proofs.RenderLemmas.{window_put, window_not_put}
use Rattle.prefetch.proofs.windows.render_window.Given.{Over}
use Rattle.prefetch.proofs.windows.render_window.Goals as goal
use Rattle.prefetch.proofs.windows.render_window.Goals.{After-put_finished}

log_is : (g : Over) (c : After-put_finished g) → windows_of c.put_finished.new.journal ≡ with_window (windows_of c.args.journal.now) c.args.first c.args.count c.in-Ok-run_window.finished.events.items
log_is g c = c.put_finished.ensures.log ∙ ap (λ items. with_window (map window_of items) c.args.first c.args.count c.in-Ok-run_window.finished.events.items) c.reserve.ensures.items

pub returns-in-Ok-run_window-clause-ok : goal.returns-in-Ok-run_window-clause-ok
returns-in-Ok-run_window-clause-ok g c =
    let core = c.args.core.now in
    let made = c.in-Ok-run_window in
    rw c.put_finished.ensures.core (window_put g.I.Held core (IsAloneWindow core c.args.first c.args.count) (IsAloneCut core c.args.first c.args.count) c.args.first c.args.count c.run_window.new.core made.finished made.ensures.ends
    (windows_of c.args.journal.now) (windows_of c.put_finished.new.journal) (log_is g c) g.K.Sink c.args.out.now c.put_finished.new.out c.put_finished.result c.put_finished.ensures.ok)

pub returns-in-Ok-run_window-clause-stop : goal.returns-in-Ok-run_window-clause-stop
returns-in-Ok-run_window-clause-stop g c =
    let core = c.args.core.now in
    let made = c.in-Ok-run_window in
    rw c.put_finished.ensures.core (window_not_put g.I.Held core (IsAloneWindow core c.args.first c.args.count) (IsAloneCut core c.args.first c.args.count) c.args.first c.args.count c.run_window.new.core made.finished made.ensures.ends
    (windows_of c.args.journal.now) (windows_of c.put_finished.new.journal) (log_is g c) g.K.Sink c.args.out.now c.put_finished.new.out c.put_finished.result c.put_finished.ensures.stop)
