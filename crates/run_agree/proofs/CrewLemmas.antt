-- Whole windows of a crew are those of a journal.
use Rattle.std.proofs.Common.{◌≡◌, ℕ, ◌+◌, true, List, [], ◌∷◌, ◌++◌, subst, arith, refl}
use Rattle.std.proofs.lemmas.Bool.{lt-ltb, le-leb}
use Rattle.clip_graph.specs.Plan.{Application, application_at}
use Rattle.inst_table.specs.declared.place.Place.{Place}
use Rattle.serve_machine.specs.Events.{WindowEvents}
use Rattle.serve_machine.specs.Journals.{KeyCache, IsNext, AreWhole, none, also}
use Rattle.run_text.specs.Journal.{AreFinished, is_window, none as none_finished, also as also_finished}
use Rattle.run_agree.proofs.LawfulLemmas.{whole_closes, finished_is_lawful}
use Rattle.run_agree.specs.Crews.{IsCrew, CrewsFinish, CrewsAreLawful}

module _ (plan : List Application) (root capacity workers size : ℕ) (some : List Place) (crew : IsCrew plan root size) where
  bounds : (n : ℕ) (window : WindowEvents) → IsNext plan root capacity workers some size (application_at plan root).info.frames n window → is_window plan root capacity window.first window.count ≡ true
  bounds n window next =
      let a = next.some in
      let b = next.first in
      let c = next.count in
      let d = crew.some in
      let e = crew.few in
      rw (lt-ltb 0 window.count (omega arith), le-leb window.count 32 (omega arith), le-leb (window.first + window.count) (application_at plan root).info.frames (omega arith)) refl

  finished : {windows : List WindowEvents} {n : ℕ} {left : KeyCache} → AreWhole plan root capacity workers some size (application_at plan root).info.frames windows n left → AreFinished plan root capacity workers windows left
  finished none = none_finished
  finished (also {windows = windows} {window = window} {n = n} {cache = cache} s before next whole) =
      let closed = whole_closes plan root capacity workers some cache window s crew.plan_is crew.root_in
      (record { runs = whole.runs; running = whole.running; delivered = whole.delivered; work = whole.work }) in
      subst (AreFinished plan root capacity workers (windows ++ window ∷ [])) closed.cache_is
      (also_finished window closed.state (finished before) (record { bounds = bounds n window next; runs = closed.runs }) closed.finished)

pub crews_finish : CrewsFinish
crews_finish plan root capacity workers size n some windows left crew whole = finished plan root capacity workers size some crew whole

pub crews_are_lawful : CrewsAreLawful
crews_are_lawful plan root capacity workers size n some windows left crew more few fits whole =
    finished_is_lawful plan root capacity workers windows left more few fits (finished plan root capacity workers size some crew whole)
