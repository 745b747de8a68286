-- The windows of a journal, and what workers need to go on in them.
use Rattle.std.specs.Prelude.{◌≡◌, ℕ, ◌<◌, true, List, length}
use Rattle.clip_graph.specs.Plan.{Application, IsPlan}
use Rattle.serve_machine.specs.Events.{WindowEvents}
use Rattle.serve_machine.specs.Journals.{in_window}
use Rattle.run_text.specs.Journal.{KeyCache, places, machine_of, is_window, AreFinished}
use Rattle.run_moves.specs.Moving.{CanRender}

-- a window after finished windows, with the cache that these left, can be rendered
abbrev pub WindowsCanRender : Type 0
WindowsCanRender = (plan : List Application) (root capacity workers : ℕ) (windows : List WindowEvents) (cache : KeyCache)
    (window : WindowEvents) → IsPlan plan → root < length plan → 0 < workers → 0 < capacity
    → AreFinished plan root capacity workers windows cache
    → is_window plan root capacity window.first window.count ≡ true
    → CanRender (in_window (machine_of plan root capacity workers) cache window) cache (places plan root capacity workers)
