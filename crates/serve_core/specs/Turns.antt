-- What a core keeps in a window from turn to turn, whoever has the turn. The window is named by the core that it began
-- with.
use Rattle.std.specs.Prelude.{◌≡◌, ℕ, ◌≤◌, List, Option, Some, Contains, None}
use Rattle.std.specs.Map.{keys_of}
use Rattle.fv_plane.specs.Picture.{Picture}
use Rattle.fv_plane.specs.declared.key.Key.{Key}
use Rattle.inst_table.specs.declared.place.Place.{Place}
use Rattle.inst_table.specs.declared.place.Slot.TheVariants.{Leased as LeasedTo, Free}
use Rattle.inst_table.specs.Places.{slot_at}
use Rattle.serve_machine.specs.declared.event.Event.TheVariants.{Fail}
use Rattle.serve_machine.specs.declared.event.WindowStop.{WindowStop}
use Rattle.serve_machine.specs.Events.{frame_key}
use Rattle.serve_core.specs.declared.answers.Ask.{Ask}
use Rattle.serve_core.specs.declared.answers.Admitted.{Admitted}
use Rattle.serve_core.specs.CoreValue.{CoreValue}
use Rattle.serve_core.specs.Calls.{Asked, Admits, after_leave, after_publish, after_abandon, TookOutput, after_deliver, after_fail}
use Rattle.serve_core.specs.Stands.{Book, IsRight, AnswerIsRight, Fits, AnswerFits, StopFits, EndShows, Stands}
use Rattle.serve_machine.specs.Machine.{first_stop}
use Rattle.inst_table.specs.declared.place.Slot.{Slot}
use Rattle.serve_core.specs.declared.answers.Admitted.TheVariants.{Leased, Busy, Stopped}
use Rattle.serve_core.specs.Sources.{faults_at}

module _ {I : Type 0} (feed : I → Option (List Picture)) (faults : I → ℕ) where
  -- what holds for each book and all counts for which the window's first core stood
  abbrev pub ForAllOf : CoreValue I → (Book → List ℕ → Type 0) → Type 0
  ForAllOf s P = (book : Book) (numbers : List ℕ) → Stands feed faults book numbers s → P book numbers

module _ {I : Type 0} (feed : I → Option (List Picture)) (faults : I → ℕ) (ends : I → ℕ → ℕ → ℕ → Type 0) where
  -- c is a core of the window that began with s: they differ in what workers did alone, and c stands for each book and
  -- for all counts of faults for which s stood
  pub record StandsFor (c s : CoreValue I) : Type 0 where
    pub fixed : c.fixed ≡ s.fixed
    pub places : keys_of c.table ≡ keys_of s.table
    pub right : (book : Book) (numbers : List ℕ) → Stands feed faults book numbers s → Stands feed faults book numbers c
    -- the source of each failure is in the table, and shows where its bytes ended
    pub ended : (w : ℕ) (why : WindowStop) → Contains c.journal (Fail w why) → EndShows ends c.table why

  -- each call leaves a core of the window, where what is handed in fits it, and what it hands out fits it too: c is the
  -- core before it, and d the core after it
  pub record TurnsStand : Type 0 where
    pub ask : (s c d : CoreValue I) (w : ℕ) (k : Key) (answer : Ask) → StandsFor c s → Asked c w k answer d
        → StandsFor d s × ForAllOf feed faults s (λ book numbers. AnswerIsRight book s.fixed.plan k answer)
    pub enter : (s c d : CoreValue I) (w i : ℕ) (answer : Admitted I)
        → StandsFor c s → c.stop ≡ first_stop c.journal → Admits c w i answer d
        → StandsFor d s × ForAllOf feed faults s (λ book numbers. AnswerFits feed faults book numbers s.fixed.plan answer)
    pub leave : (s c : CoreValue I) (w : ℕ) (p : Place) (x : I) → StandsFor c s → slot_at p c.table ≡ Some (LeasedTo w)
        → ForAllOf feed faults s (λ book numbers. Fits feed faults book numbers s.fixed.plan p x) → StandsFor (after_leave c w p x) s
    pub publish : (s c : CoreValue I) (w : ℕ) (k : Key) (x : Picture) → StandsFor c s
        → ForAllOf feed faults s (λ book numbers. IsRight book s.fixed.plan k x) → StandsFor (after_publish c w k x) s
    pub abandon : (s c : CoreValue I) (w : ℕ) (k : Key) → StandsFor c s → StandsFor (after_abandon c w k) s
    pub take_output : (s c d : CoreValue I) (w : ℕ) (taken : Option ℕ) → StandsFor c s → TookOutput c w taken d
        → StandsFor d s
    pub deliver : (s c : CoreValue I) (w n : ℕ) (x : Picture) → StandsFor c s → s.fixed.first ≤ n
        → ForAllOf feed faults s (λ book numbers. IsRight book s.fixed.plan (frame_key s.fixed.root n) x)
        → StandsFor (after_deliver c w n x) s
    pub fail : (s c : CoreValue I) (w : ℕ) (why : WindowStop) → StandsFor c s
        → ForAllOf feed faults s (λ book numbers. StopFits feed faults book numbers s.fixed.plan c.table why)
        → EndShows ends c.table why
        → StandsFor (after_fail c w why) s

-- ---- The counts of faults of the instances, from the start of a window on.

module _ {I : Type 0} (faults : I → ℕ) where
  -- an instance has failed as often as the one that stands at its place in this table
  abbrev pub HasCount : List (Place × Slot I) → Place → I → Type 0
  HasCount table p x = faults x ≡ faults_at faults (slot_at p table)

  abbrev pub AnswerHasCount : List (Place × Slot I) → Admitted I → Type 0
  AnswerHasCount table (Leased l) = HasCount table l.place l.value
  AnswerHasCount table (Busy v) = Unit {0}
  AnswerHasCount table (Stopped why) = Unit {0}

  -- c is a core of the window that began with s: where no stop is kept, each instance in the table has failed as often as
  -- it had at the start
  pub record IsSteady (c s : CoreValue I) : Type 0 where
    pub counts : c.stop ≡ None → (p : Place) (x : I) → slot_at p c.table ≡ Some (Free x) → HasCount s.table p x

  -- each call keeps that: c is the core before it, and d the core after it. An instance that is lent has the count of the
  -- start, and has to come back with it. One that failed comes back before its worker's failure, which is a stop
  pub record TurnsAreSteady : Type 0 where
    pub begin : (s : CoreValue I) → IsSteady s s
    pub ask : (s c d : CoreValue I) (w : ℕ) (k : Key) (answer : Ask) → IsSteady c s → Asked c w k answer d → IsSteady d s
    pub enter : (s c d : CoreValue I) (w i : ℕ) (answer : Admitted I) → IsSteady c s → Admits c w i answer d
        → IsSteady d s × AnswerHasCount s.table answer
    pub leave : (s c : CoreValue I) (w : ℕ) (p : Place) (x : I) → IsSteady c s → HasCount s.table p x
        → IsSteady (after_leave c w p x) s
    pub publish : (s c : CoreValue I) (w : ℕ) (k : Key) (x : Picture) → IsSteady c s → IsSteady (after_publish c w k x) s
    pub abandon : (s c : CoreValue I) (w : ℕ) (k : Key) → IsSteady c s → IsSteady (after_abandon c w k) s
    pub take_output : (s c d : CoreValue I) (w : ℕ) (taken : Option ℕ) → IsSteady c s → TookOutput c w taken d
        → IsSteady d s
    pub deliver : (s c : CoreValue I) (w n : ℕ) (x : Picture) → IsSteady c s → IsSteady (after_deliver c w n x) s
    pub fail : (s c : CoreValue I) (w : ℕ) (why : WindowStop) → IsSteady (after_fail c w why) s
