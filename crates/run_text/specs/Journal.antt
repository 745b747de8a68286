-- Which texts are journals of a plan, with a cache of so many frames, and the first line at which one stops being such.
use Rattle.std.specs.Prelude.{◌≡◌, ℕ, ◌+◌, ◌==◌, ◌<◌, ◌≤◌, nat_lt, nat_le, Bool, true, ◌&&◌, if◌then◌else◌, List, [], ◌∷◌, ◌++◌, length, map, is_none, is_some, Some, zero, suc}
use Rattle.std.specs.List.{flat_map, range_with_len, list_all, AllByRecursion}
use Rattle.fv_plane.specs.declared.key.Key.{Key}
use Rattle.clip_graph.specs.Plan.{Application, application_at}
use Rattle.inst_table.specs.declared.place.Place.{Place}
use Rattle.inst_table.specs.Places.{shared_place, own_place}
use Rattle.serve_machine.specs.Events.{mode_at, WindowEvents}
use Rattle.serve_machine.specs.Machine.{State, is_open, is_running, Machine}
use Rattle.serve_machine.specs.Law.{keys_machine}
use Rattle.serve_machine.specs.Journals.{after_window}
use Rattle.run_text.specs.Lines.{LineFits, journal_lines, journal_text}
use Rattle.run_text.specs.declared.verdict.Verdict.{Verdict}
use Rattle.run_text.specs.declared.verdict.Verdict.TheVariants.{Yes, No}

-- keys without their frames, the most recently used first
abbrev pub KeyCache : Type 0
KeyCache = List (Key × Unit {0})

-- nothing is open: no claim, no instance, no publication that an eviction awaits, no stop, and no output
abbrev pub is_finished : State (Unit {0}) → Bool
is_finished s =
    length s.claims == 0 && list_all (λ e. is_open e.1) s.places && is_none s.awaits && is_running s
    && list_all is_some s.frames

module _ (plan : List Application) (root capacity : ℕ) where
  -- the instances that the mode of a node asks for
  abbrev pub places_at : ℕ → ℕ → List Place
  places_at workers i =
      if mode_at plan i == 3 then shared_place i ∷ []
      else if mode_at plan i == 2 then map (λ w. own_place w i) (range_with_len 0 workers)
      else []

  abbrev pub places : ℕ → List Place
  places workers = flat_map (places_at workers) (range_with_len 0 (length plan))

  -- the machine of each window, over keys alone
  abbrev pub machine_of : ℕ → Machine (Unit {0})
  machine_of workers = keys_machine (record {
    plan = plan;
    root = root;
    workers = workers;
    capacity = capacity;
    first = 0;
    count = 0;
    opening = [];
  })

  -- 1 to 32 frames of the root
  abbrev pub is_window : ℕ → ℕ → Bool
  is_window first count =
      nat_lt 0 count && nat_le count 32 && nat_le (first + count) (application_at plan root).info.frames

  module _ (workers : ℕ) where
    -- a window that begins with this cache is a run to this state
    pub record IsRunTo (cache : KeyCache) (window : WindowEvents) (s : State (Unit {0})) : Type 0 where
      pub bounds : is_window window.first window.count ≡ true
      pub runs : after_window (machine_of workers) (places workers) cache window ≡ Some s

    -- windows one after the other, from an empty cache, each finished: they left this cache
    pub data AreFinished : List WindowEvents → KeyCache → Type 0 where
      none : AreFinished [] []
      also : {windows : List WindowEvents} {cache : KeyCache} (window : WindowEvents) (s : State (Unit {0}))
          → AreFinished windows cache → IsRunTo cache window s → is_finished s ≡ true
          → AreFinished (windows ++ window ∷ []) s.cache

    -- and after them perhaps one more, which need not be finished
    pub data AreWindows : List WindowEvents → Type 0 where
      no_window : AreWindows []
      last : {windows : List WindowEvents} {cache : KeyCache} (window : WindowEvents) (s : State (Unit {0}))
          → AreFinished windows cache → IsRunTo cache window s → AreWindows (windows ++ window ∷ [])

  -- the text is that of 1 to 16 workers and of windows that are runs, and its numbers fit
  pub record IsJournal (text : List ℕ) : Type 0 where
    pub workers : ℕ
    pub some : 0 < workers
    pub most : workers ≤ 16
    pub windows : List WindowEvents
    pub fits : AllByRecursion LineFits (journal_lines workers windows)
    pub text_is : text ≡ journal_text workers windows
    pub runs : AreWindows workers windows

-- ---- The first line at which a text stops being a journal.

-- the first line of a text, with the newline at its end where it has one
abbrev pub first_line : List ℕ → List ℕ
first_line [] = []
first_line (byte ∷ text) = if byte == 10 then byte ∷ [] else byte ∷ first_line text

abbrev pub after_line : List ℕ → List ℕ
after_line [] = []
after_line (byte ∷ text) = if byte == 10 then text else after_line text

-- the first k lines
abbrev pub first_lines : ℕ → List ℕ → List ℕ
first_lines zero text = []
first_lines (suc k) text = first_line text ++ first_lines k (after_line text)

module _ (plan : List Application) (root capacity : ℕ) where
  -- the lines up to this one, counted from 1, are no journal, and those up to each line before it are
  pub record IsFirstWrong (text : List ℕ) (line : ℕ) : Type 0 where
    pub some : 0 < line
    pub wrong : IsJournal plan root capacity (first_lines line text) → ⊥
    pub before : (k : ℕ) → 0 < k → k < line → IsJournal plan root capacity (first_lines k text)

  abbrev pub Judges : List ℕ → Verdict → Type 0
  Judges text Yes = IsJournal plan root capacity text
  Judges text (No line) = IsFirstWrong text line

abbrev pub JudgedOnce : Type 0
JudgedOnce = (plan : List Application) (root capacity : ℕ) (text : List ℕ) (one other : Verdict)
    → Judges plan root capacity text one → Judges plan root capacity text other → one ≡ other
