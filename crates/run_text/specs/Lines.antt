-- The text of a journal: a line with the number of workers, and for each window a line and then one for each event.
use Rattle.std.specs.Prelude.{ℕ, ◌<◌, ◌^◌, List, [], ◌∷◌, ◌++◌, map, codes}
use Rattle.std.specs.Fmt.{decimal}
use Rattle.std.specs.List.{flat_map, AllByRecursion}
use Rattle.fv_plane.specs.declared.key.Key.{Key}
use Rattle.serve_machine.specs.declared.event.Event.{Event}
use Rattle.serve_machine.specs.declared.event.Event.TheVariants.{Hit, Claim, Enter, Leave, Evict, Publish, Abandon, Take, Deliver, Fail}
use Rattle.serve_machine.specs.declared.event.WindowStop.TheVariants.{Read, Changed, Memory}
use Rattle.serve_machine.specs.Events.{WindowEvents}
use Rattle.run_text.specs.declared.line.Line.{Line}
use Rattle.run_text.specs.declared.line.Line.TheVariants.{Workers, Window, Did}

-- numbers, each after a space
abbrev pub numbers : List ℕ → List ℕ
numbers [] = []
numbers (n ∷ ns) = codes " " ++ (decimal n ++ numbers ns)

-- the worker, the node and the number of a frame
abbrev pub of_key : ℕ → Key → List ℕ
of_key w k = numbers (w ∷ k.node ∷ k.n ∷ [])

abbrev pub event_text : Event → List ℕ
event_text (Hit w k) = codes "hit" ++ of_key w k
event_text (Claim w k) = codes "claim" ++ of_key w k
event_text (Evict w k) = codes "evict" ++ of_key w k
event_text (Publish w k) = codes "publish" ++ of_key w k
event_text (Abandon w k) = codes "abandon" ++ of_key w k
event_text (Enter w i j) = codes "enter" ++ numbers (w ∷ i ∷ j ∷ [])
event_text (Leave w i j) = codes "leave" ++ numbers (w ∷ i ∷ j ∷ [])
event_text (Take w n) = codes "take" ++ numbers (w ∷ n ∷ [])
event_text (Deliver w n) = codes "deliver" ++ numbers (w ∷ n ∷ [])
event_text (Fail w Memory) = codes "fail" ++ (numbers (w ∷ []) ++ codes " memory")
event_text (Fail w (Read i)) = codes "fail" ++ (numbers (w ∷ []) ++ (codes " read" ++ numbers (i ∷ [])))
event_text (Fail w (Changed i n want got)) =
    codes "fail" ++ (numbers (w ∷ []) ++ (codes " changed" ++ numbers (i ∷ n ∷ want ∷ got ∷ [])))

-- a line without its end
abbrev pub line_text : Line → List ℕ
line_text (Workers count) = codes "workers" ++ numbers (count ∷ [])
line_text (Window first count) = codes "window" ++ numbers (first ∷ count ∷ [])
line_text (Did event) = event_text event

-- lines, each with its end
abbrev pub lines_text : List Line → List ℕ
lines_text lines = flat_map (λ line. line_text line ++ codes "\n") lines

abbrev pub window_lines : WindowEvents → List Line
window_lines window = Window window.first window.count ∷ map Did window.events

abbrev pub journal_lines : ℕ → List WindowEvents → List Line
journal_lines workers windows = Workers workers ∷ flat_map window_lines windows

-- the text of a journal
abbrev pub journal_text : ℕ → List WindowEvents → List ℕ
journal_text workers windows = lines_text (journal_lines workers windows)

-- Numbers of lines are below 2 ^ 32, and the places in a file below 2 ^ 64.

abbrev pub IsSmall : ℕ → Type 0
IsSmall n = n < 2 ^ 32

abbrev pub AreSmall : List ℕ → Type 0
AreSmall ns = AllByRecursion IsSmall ns

abbrev pub EventFits : Event → Type 0
EventFits (Hit w k) = AreSmall (w ∷ k.node ∷ k.n ∷ [])
EventFits (Claim w k) = AreSmall (w ∷ k.node ∷ k.n ∷ [])
EventFits (Evict w k) = AreSmall (w ∷ k.node ∷ k.n ∷ [])
EventFits (Publish w k) = AreSmall (w ∷ k.node ∷ k.n ∷ [])
EventFits (Abandon w k) = AreSmall (w ∷ k.node ∷ k.n ∷ [])
EventFits (Enter w i j) = AreSmall (w ∷ i ∷ j ∷ [])
EventFits (Leave w i j) = AreSmall (w ∷ i ∷ j ∷ [])
EventFits (Take w n) = AreSmall (w ∷ n ∷ [])
EventFits (Deliver w n) = AreSmall (w ∷ n ∷ [])
EventFits (Fail w Memory) = AreSmall (w ∷ [])
EventFits (Fail w (Read i)) = AreSmall (w ∷ i ∷ [])
EventFits (Fail w (Changed i n want got)) = AreSmall (w ∷ i ∷ n ∷ []) × (want < 2 ^ 64) × (got < 2 ^ 64)

abbrev pub LineFits : Line → Type 0
LineFits (Workers count) = AreSmall (count ∷ [])
LineFits (Window first count) = AreSmall (first ∷ count ∷ [])
LineFits (Did event) = EventFits event
