-- Windows of whole work are those of a journal.
use Rattle.std.proofs.Common.{ℕ, List, slice_get, Option, refl, ap, ◌∙◌}
use Rattle.clip_graph.specs.Plan.{Application}
use Rattle.serve_machine.specs.Events.{WindowEvents}
use Rattle.serve_machine.specs.Journals.{in_window}
use Rattle.run_text.specs.Journal.{KeyCache, AreFinished, AreWindows, machine_of, places, no_window, last, none, also}
use Rattle.run_agree.specs.Agrees.{WholeCloses, FinishedIsLawful}
use Rattle.run_agree.proofs.FinishLemmas.{work_finishes}
use Rattle.run_agree.proofs.PlaceLemmas.{places_serve}

pub whole_closes : WholeCloses
whole_closes plan root capacity workers some cache window s is_plan inside whole =
    let served = places_serve plan root capacity workers some cache window s is_plan whole.runs in
    let m = in_window (machine_of plan root capacity workers) cache window in
    record {
      state = served.state;
      runs = served.runs;
      cache_is = served.cache_is;
      finished = work_finishes m cache (places plan root capacity workers) window.events served.state is_plan inside served.runs (served.stop_is ∙ whole.running)
          (λ j less. ap (λ (fs : List (Option (Unit {0}))). slice_get fs j) served.frames_are ∙ whole.delivered j less) whole.work;
    }

-- finished windows are windows
windows_of : (plan : List Application) (root capacity workers : ℕ) {windows : List WindowEvents} {left : KeyCache} → AreFinished plan root capacity workers windows left → AreWindows plan root capacity workers windows
windows_of plan root capacity workers none = no_window
windows_of plan root capacity workers (also window s before run closed) = last window s before run

pub finished_is_lawful : FinishedIsLawful
finished_is_lawful plan root capacity workers windows left more few fits finished = record {
  workers = workers;
  some = more;
  most = few;
  windows = windows;
  fits = fits;
  text_is = refl;
  runs = windows_of plan root capacity workers finished;
}
