-- A window of one output, for callers.
use Rattle.std.proofs.Common.{◌≡◌, ℕ, List, [], ◌∷◌, ◌++◌, ap, ◌∙◌}
use Rattle.std.specs.Map.{keys_of}
use Rattle.inst_table.specs.declared.held.Held.{Ghosts as HeldGhosts}
use Rattle.serve_machine.specs.declared.event.Event.{Event}
use Rattle.serve_machine.specs.Events.{WindowEvents}
use Rattle.serve_core.specs.declared.answers.Finished.{Finished}
use Rattle.serve_core.specs.CoreValue.{CoreValue}
use Rattle.prefetch.specs.Windows.{window_asked, keys_left, AddsWindow}
use Rattle.prefetch.specs.SerialWindows.{IsSerialWindow, IsCutSerial}

-- the journal has the window of the output, and what is cached is what the serial run leaves
pub asked_one : {I : Type 0} (of : HeldGhosts I) (c d : CoreValue I) (n : ℕ) (log longer : List WindowEvents) (finished : Finished)
    → AddsWindow of c (IsSerialWindow c n 1) (IsCutSerial c) n 1 log longer d finished
    → (longer ≡ log ++ window_asked c.fixed.plan c.fixed.root c.fixed.capacity (keys_of c.cache) n ∷ []) × (keys_of d.cache ≡ keys_left c.fixed.plan c.fixed.root c.fixed.capacity (keys_of c.cache) n)
asked_one of c d n log longer finished adds =
    (adds.log_is ∙ ap (λ (es : List Event). log ++ record { first = n; count = 1; events = es } ∷ []) adds.whole.events_are, adds.whole.keys_are)
