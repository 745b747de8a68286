-- What is true of every core.
use Rattle.std.specs.Prelude.{◌≡◌, ℕ, ◌+◌, ◌-◌, ◌*◌, ◌<◌, ◌≤◌, ◌^◌, Bool, true, false, not, if◌then◌else◌, List, [], ◌∷◌, length, take, drop, slice_get, Option, Some, None}
use Rattle.fv_plane.specs.declared.format.Info.{Info}
use Rattle.fv_plane.specs.declared.key.Key.{Key}
use Rattle.fv_plane.specs.Picture.{Picture}
use Rattle.clip_graph.specs.Plan.{Application, IsPlan}
use Rattle.frame_cache.specs.Cached.{at_key, has_key, Differ}
use Rattle.inst_table.specs.declared.place.Place.{Place}
use Rattle.inst_table.specs.declared.place.Slot.{Slot}
use Rattle.inst_table.specs.declared.place.Slot.TheVariants.{Free, Leased}
use Rattle.serve_machine.specs.declared.event.Event.{Event}
use Rattle.serve_machine.specs.declared.event.WindowStop.{WindowStop}
use Rattle.serve_machine.specs.Machine.{is_open, first_stop}
use Rattle.serve_core.specs.declared.answers.Ask.{Ask}
use Rattle.serve_core.specs.declared.answers.Ask.TheVariants.{Hit as Found, Claimed, Taken, Stopped}
use Rattle.serve_core.specs.declared.answers.Admitted.{Admitted}
use Rattle.serve_core.specs.declared.answers.Admitted.TheVariants.{Leased as Lends, Busy, Stopped as Refused}
use Rattle.serve_core.specs.CoreValue.{CoreValue}
use Rattle.serve_core.specs.Runs.{IsRun}
use Rattle.serve_core.specs.Sources.{shape_at, opened_at, IsFurnished, HoldTheirs}

abbrev pub count_of : {A : Type 0} → (A → Bool) → List A → ℕ
count_of p [] = 0
count_of p (x ∷ xs) = if p x then count_of p xs + 1 else count_of p xs

abbrev pub is_leased : {I : Type 0} → Place × Slot I → Bool
is_leased (p, Free x) = false
is_leased (p, Leased w) = true

-- the leases that are out
abbrev pub leases_out : {I : Type 0} → List (Place × Slot I) → ℕ
leases_out table = count_of is_leased table

-- a key that is claimed is not cached
abbrev pub Apart : List (Key × ℕ) → List (Key × Picture) → Type 0
Apart claims cache = (k : Key) → has_key k claims ≡ true → at_key k cache ≡ None

-- a cached frame has the shape of its node
abbrev pub CacheIsShaped : List Application → List (Key × Picture) → Type 0
CacheIsShaped plan cache = (k : Key) (x : Picture) → at_key k cache ≡ Some x → x.shape ≡ shape_at plan k.node

-- an output that is delivered has the shape of the root
abbrev pub OutputsAreShaped : List Application → ℕ → List (Option Picture) → Type 0
OutputsAreShaped plan root frames =
    (j : ℕ) (x : Picture) → slice_get frames j ≡ Some (Some x) → x.shape ≡ shape_at plan root

-- none of these was delivered
abbrev pub AreOpen : List (Option Picture) → Type 0
AreOpen [] = Unit {0}
AreOpen (None ∷ frames) = AreOpen frames
AreOpen (Some x ∷ frames) = ⊥

-- no key is claimed twice
pub record KeysKept (plan : List Application) (cache : List (Key × Picture)) (claims : List (Key × ℕ)) : Type 0 where
  pub apart : Apart claims cache
  pub once : Differ claims
  pub shaped : CacheIsShaped plan cache

-- one output after the other is taken, and none is delivered that is not taken
pub record OutputsKept (plan : List Application) (root first count : ℕ) (taken : List ℕ) (frames : List (Option Picture))
    : Type 0 where
  pub all : length frames ≡ count
  pub few : length taken ≤ count
  pub untaken : AreOpen (drop (length taken) frames)
  pub shaped : OutputsAreShaped plan root frames
  pub numbers : first + count < 2 ^ 32

pub record TableKept {I : Type 0} (holds : I → Option Info) (plan : List Application) (workers : ℕ)
    (table : List (Place × Slot I)) : Type 0 where
  pub furnished : IsFurnished plan workers table
  pub sources : HoldTheirs holds plan table

-- the plan is a graph's
pub record PlanKept (plan : List Application) (root workers : ℕ) : Type 0 where
  pub is : IsPlan plan
  pub in_plan : root < length plan
  pub some : 0 < workers

-- between windows nothing is open and the journal is empty
pub record IsBetween {I : Type 0} (claims : List (Key × ℕ)) (table : List (Place × Slot I)) (failed : List Bool)
    (stop : Option WindowStop) (journal : List Event) : Type 0 where
  pub unclaimed : claims ≡ []
  pub unlent : leases_out table ≡ 0
  pub unfailed : failed ≡ []
  pub running : stop ≡ None
  pub empty : journal ≡ []

-- the events that may still have to come: two for a claim, one for a lease, for an output that is taken and not
-- delivered, and for a worker that has not failed
abbrev pub owed_by : {I : Type 0} → List (Key × ℕ) → List (Place × Slot I) → List ℕ → List (Option Picture)
    → List Bool → ℕ
owed_by claims table taken frames failed =
    2 * length claims + leases_out table + count_of is_open (take (length taken) frames) + count_of not failed

-- the core, the events that are owed, and the length and the room of the journal
pub record Kept {I : Type 0} (holds : I → Option Info) (c : CoreValue I) (owed written room : ℕ) : Type 0 where
  pub plan : PlanKept c.fixed.plan c.fixed.root c.fixed.workers
  pub keys : KeysKept c.fixed.plan c.cache c.claims
  pub outputs : OutputsKept c.fixed.plan c.fixed.root c.fixed.first c.fixed.count c.outputs.taken c.outputs.frames
  pub table : TableKept holds c.fixed.plan c.fixed.workers c.table
  pub stopped : c.stop ≡ first_stop c.journal
  pub between : c.fixed.count ≡ 0 → IsBetween c.claims c.table c.failed c.stop c.journal
  pub run : 0 < c.fixed.count → IsRun c
  pub owed_is : owed_by c.claims c.table c.outputs.taken c.outputs.frames c.failed ≤ owed
  pub room_for : written + owed ≤ room

-- a frame that is handed out has the shape of its node
abbrev pub AnswerIsShaped : List Application → Key → Ask → Type 0
AnswerIsShaped plan k (Found x) = x.shape ≡ shape_at plan k.node
AnswerIsShaped plan k Claimed = Unit {0}
AnswerIsShaped plan k (Taken v) = Unit {0}
AnswerIsShaped plan k (Stopped why) = Unit {0}

-- an instance that is lent keeps the source of its node, or none
abbrev pub AnswerHolds : {I : Type 0} → (I → Option Info) → List Application → ℕ → Admitted I → Type 0
AnswerHolds holds plan i (Lends l) = holds l.value ≡ opened_at plan i
AnswerHolds holds plan i (Busy v) = Unit {0}
AnswerHolds holds plan i (Refused why) = Unit {0}

-- an output that is taken now was not delivered
abbrev pub IsUndelivered : {I : Type 0} → CoreValue I → Option ℕ → Type 0
IsUndelivered c None = Unit {0}
IsUndelivered c (Some n) = slice_get c.outputs.frames (n - c.fixed.first) ≡ Some None
