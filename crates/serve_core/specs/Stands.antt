-- What a core stands for: the book of its sources, where it is told, and a count of faults for each source.
use Rattle.std.specs.Prelude.{◌≡◌, ℕ, ◌+◌, ◌≤◌, true, List, [], Option, Some, None, IfSome, slice_get, slice_index_or}
use Rattle.fv_io.specs.Faults.{HasRisen}
use Rattle.fv_plane.specs.Picture.{Picture}
use Rattle.fv_plane.specs.declared.key.Key.{Key}
use Rattle.clip_term.specs.Terms.{Act, SourcePart, source_part}
use Rattle.clip_graph.specs.Plan.{Application, application_at, IsPlan, key_picture}
use Rattle.frame_cache.specs.Cached.{Cached, at_key}
use Rattle.inst_table.specs.declared.place.Place.{Place}
use Rattle.inst_table.specs.declared.place.Slot.{Slot}
use Rattle.inst_table.specs.declared.place.Slot.TheVariants.{Free, Leased as LeasedTo}
use Rattle.inst_table.specs.Places.{slot_at, shared_place}
use Rattle.serve_machine.specs.declared.event.WindowStop.{WindowStop}
use Rattle.serve_machine.specs.declared.event.WindowStop.TheVariants.{Read, Changed, Memory}
use Rattle.serve_machine.specs.Events.{frame_key}
use Rattle.serve_core.specs.declared.answers.Ask.{Ask}
use Rattle.serve_core.specs.declared.answers.Ask.TheVariants.{Hit as Found, Claimed, Taken, Stopped}
use Rattle.serve_core.specs.declared.answers.Admitted.{Admitted}
use Rattle.serve_core.specs.declared.answers.Admitted.TheVariants.{Leased, Busy, Stopped as Refused}
use Rattle.serve_core.specs.CoreValue.{CoreValue}
use Rattle.serve_core.specs.Calls.{Asked, Admits, after_leave, after_publish, after_abandon, TookOutput, after_deliver, after_fail, after_begin, after_end, made}
use Rattle.serve_core.specs.Sources.{book_of, faults_of}
use Rattle.serve_machine.specs.Machine.{first_stop, has_read, has_changed}

-- the frames of each source by its number, or none where they are not told
abbrev pub Book : Type 0
Book = Option (List (List Picture))

-- the frame is the one that a told book gives
abbrev pub IsRight : Book → List Application → Key → Picture → Type 0
IsRight book plan k x = (b : List (List Picture)) → book ≡ Some b → x ≡ key_picture b plan k

abbrev pub AnswerIsRight : Book → List Application → Key → Ask → Type 0
AnswerIsRight book plan k (Found x) = IsRight book plan k x
AnswerIsRight book plan k Claimed = Unit {0}
AnswerIsRight book plan k (Taken v) = Unit {0}
AnswerIsRight book plan k (Stopped why) = Unit {0}

-- the source of node i is in the table, and its bytes ended too early
pub record EndsThere {I : Type 0} (ends : I → ℕ → ℕ → ℕ → Type 0) (table : List (Place × Slot I))
    (i frame want got : ℕ) : Type 0 where
  pub instance : I
  pub there : slot_at (shared_place i) table ≡ Some (Free instance)
  pub early : ends instance frame want got

abbrev pub EndShows : {I : Type 0} → (I → ℕ → ℕ → ℕ → Type 0) → List (Place × Slot I) → WindowStop → Type 0
EndShows ends table (Read i) = Unit {0}
EndShows ends table (Changed i frame want got) = EndsThere ends table i frame want got
EndShows ends table Memory = Unit {0}

module _ {I : Type 0} (feed : I → Option (List Picture)) (faults : I → ℕ) (book : Book) (numbers : List ℕ) where
  -- a source's instance has its frames of a told book, and counts no fewer faults than its number
  abbrev pub FitsAct : Act → I → Type 0
  FitsAct act x = IfSome (source_part act) (λ (part : SourcePart).
      ((b : List (List Picture)) → book ≡ Some b → feed x ≡ Some (slice_index_or b part.number []))
      × (slice_index_or numbers part.number 0 ≤ faults x))

  -- an instance fits its place: a source has the one that all workers share
  abbrev pub Fits : List Application → Place → I → Type 0
  Fits plan p x = p ≡ shared_place p.node → FitsAct (application_at plan p.node).act x

  abbrev pub AnswerFits : List Application → Admitted I → Type 0
  AnswerFits plan (Leased l) = Fits plan l.place l.value
  AnswerFits plan (Busy v) = Unit {0}
  AnswerFits plan (Refused why) = Unit {0}

  -- the source of the node is in the table, and its count of faults rose above its number
  abbrev pub ExceedsAct : Act → I → Type 0
  ExceedsAct act x = IfSome (source_part act) (λ (part : SourcePart). HasRisen (slice_index_or numbers part.number 0) (faults x))

  pub record HasFailed (plan : List Application) (table : List (Place × Slot I)) (i : ℕ) : Type 0 where
    pub instance : I
    pub there : slot_at (shared_place i) table ≡ Some (Free instance)
    pub more : ExceedsAct (application_at plan i).act instance

  -- why a worker may fail: a read that failed, or over an untold book a file that ended too early
  abbrev pub StopFits : List Application → List (Place × Slot I) → WindowStop → Type 0
  StopFits plan table (Read i) = HasFailed plan table i
  StopFits plan table (Changed i n want got) = book ≡ None
  StopFits plan table Memory = Unit {0}

  -- each cached frame and each output is that of a told book, each source in the table fits it, a read that failed shows
  -- in the count of its source, and no book is told where a file ended too early
  pub record Stands (c : CoreValue I) : Type 0 where
    pub cached : (k : Key) (x : Picture) → at_key k c.cache ≡ Some x → IsRight book c.fixed.plan k x
    pub outputs : (j : ℕ) (x : Picture) → slice_get c.outputs.frames j ≡ Some (Some x)
        → IsRight book c.fixed.plan (frame_key c.fixed.root (c.fixed.first + j)) x
    pub sources : (p : Place) (x : I) → slot_at p c.table ≡ Some (Free x) → Fits c.fixed.plan p x
    pub failed : (i : ℕ) → has_read i c.journal ≡ true → HasFailed c.fixed.plan c.table i
    pub changed : has_changed c.journal ≡ true → book ≡ None

module _ {I : Type 0} (feed : I → Option (List Picture)) (faults : I → ℕ) where
  -- what each call keeps: c is the core before it, and d the core after it
  pub record CallsStand : Type 0 where
    pub ask : (book : Book) (numbers : List ℕ) (c d : CoreValue I) (w : ℕ) (k : Key) (answer : Ask)
        → Stands feed faults book numbers c → Asked c w k answer d
        → Stands feed faults book numbers d × AnswerIsRight book c.fixed.plan k answer
    pub enter : (book : Book) (numbers : List ℕ) (c d : CoreValue I) (w i : ℕ) (answer : Admitted I)
        → Stands feed faults book numbers c → c.stop ≡ first_stop c.journal → Admits c w i answer d
        → Stands feed faults book numbers d × AnswerFits feed faults book numbers c.fixed.plan answer
    pub leave : (book : Book) (numbers : List ℕ) (c : CoreValue I) (w : ℕ) (p : Place) (x : I)
        → Stands feed faults book numbers c → slot_at p c.table ≡ Some (LeasedTo w)
        → Fits feed faults book numbers c.fixed.plan p x → Stands feed faults book numbers (after_leave c w p x)
    pub publish : (book : Book) (numbers : List ℕ) (c : CoreValue I) (w : ℕ) (k : Key) (x : Picture)
        → Stands feed faults book numbers c → IsRight book c.fixed.plan k x
        → Stands feed faults book numbers (after_publish c w k x)
    pub abandon : (book : Book) (numbers : List ℕ) (c : CoreValue I) (w : ℕ) (k : Key)
        → Stands feed faults book numbers c → Stands feed faults book numbers (after_abandon c w k)
    pub take_output : (book : Book) (numbers : List ℕ) (c d : CoreValue I) (w : ℕ) (taken : Option ℕ)
        → Stands feed faults book numbers c → TookOutput c w taken d → Stands feed faults book numbers d
    pub deliver : (book : Book) (numbers : List ℕ) (c : CoreValue I) (w n : ℕ) (x : Picture)
        → Stands feed faults book numbers c → c.fixed.first ≤ n → IsRight book c.fixed.plan (frame_key c.fixed.root n) x
        → Stands feed faults book numbers (after_deliver c w n x)
    pub fail : (book : Book) (numbers : List ℕ) (c : CoreValue I) (w : ℕ) (why : WindowStop)
        → Stands feed faults book numbers c → StopFits feed faults book numbers c.fixed.plan c.table why
        → Stands feed faults book numbers (after_fail c w why)
    pub begin_window : (book : Book) (numbers : List ℕ) (c : CoreValue I) (first count : ℕ)
        → Stands feed faults book numbers c → IsPlan c.fixed.plan
        → Stands feed faults book (faults_of faults c.fixed.plan c.table) (after_begin c first count)
    pub end_window : (book : Book) (numbers : List ℕ) (c : CoreValue I)
        → Stands feed faults book numbers c → Stands feed faults book numbers (after_end c)
    -- a new core stands for the frames of its sources, where all are told, and for their faults
    pub new : (plan : List Application) (root workers : ℕ) (cache : Cached) (table : List (Place × Slot I))
        → IsPlan plan → cache.pairs ≡ []
        → Stands feed faults (book_of feed plan table) (faults_of faults plan table)
        (made plan root cache workers table)
