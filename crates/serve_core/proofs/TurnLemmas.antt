-- What a core keeps from turn to turn.
use Rattle.std.proofs.Common.{◌≡◌, ℕ, zero, suc, ◌≤◌, List, [], ◌∷◌, ◌++◌, Contains, Option, Some, None, sym, refl, ap, ◌∙◌, subst, ⊎_elim, arith}
use Rattle.std.specs.Map.{keys_of}
use Rattle.std.proofs.lemmas.List.Elements.{Contains-append_cases}
use Rattle.std.proofs.lemmas.Map.{keys-set_value}
use Rattle.fv_plane.specs.Picture.{Picture}
use Rattle.fv_plane.specs.declared.key.Key.{Key}
use Rattle.frame_cache.specs.Cached.{dropped_key}
use Rattle.inst_table.specs.declared.place.Place.{Place}
use Rattle.inst_table.specs.declared.place.Slot.{Slot}
use Rattle.inst_table.specs.declared.place.Slot.TheVariants.{Free, Leased as LeasedTo}
use Rattle.inst_table.specs.Places.{same_place, slot_at, with_slot, shared_place}
use Rattle.serve_machine.specs.declared.event.Event.{Event}
use Rattle.serve_machine.specs.declared.event.Event.TheVariants.{Hit, Claim, Enter, Leave, Evict, Publish, Abandon, Take, Deliver, Fail}
use Rattle.serve_machine.specs.declared.event.WindowStop.{WindowStop}
use Rattle.serve_machine.specs.declared.event.WindowStop.TheVariants.{Read, Changed, Memory}
use Rattle.serve_machine.specs.Events.{frame_key}
use Rattle.serve_machine.specs.SerialRun.{eviction}
use Rattle.serve_machine.specs.Machine.{stop_of, earlier, first_stop}
use Rattle.serve_core.specs.declared.answers.Ask.{Ask}
use Rattle.serve_core.specs.declared.answers.Ask.TheVariants.{Hit as Found, Claimed, Taken, Stopped}
use Rattle.serve_core.specs.declared.answers.Admitted.{Admitted}
use Rattle.serve_core.specs.declared.answers.Admitted.TheVariants.{Leased, Busy, Stopped as Refused}
use Rattle.serve_core.specs.CoreValue.{CoreValue}
use Rattle.serve_core.specs.Calls.{Asked, Admits, after_leave, after_publish, after_abandon, TookOutput, after_deliver, after_fail}
use Rattle.serve_core.specs.Sources.{place_of}
use Rattle.serve_core.specs.Stands.{Book, IsRight, AnswerIsRight, Fits, AnswerFits, StopFits, EndShows, Stands, CallsStand}
use Rattle.serve_core.specs.Turns.{ForAllOf, StandsFor, TurnsStand}
use Rattle.serve_core.proofs.Places.{some_same}
use Rattle.serve_core.proofs.Stopping.{AreQuiet, eviction_quiet}
use Rattle.serve_core.proofs.Standing.{still_there, calls_stand}

-- Failures in a journal.

-- where there is no stop, no worker failed
stop_after : (o : Option WindowStop) (es : List Event) → earlier o (first_stop es) ≡ None → (o ≡ None) × (first_stop es ≡ None)
stop_after None es h = (refl, h)
stop_after (Some why) es h = absurd (cc)

pub no_failure : (es : List Event) (w : ℕ) (why : WindowStop) → first_stop es ≡ None → Contains es (Fail w why) → ⊥
no_failure [] w why none has = let less = has.1 in absurd (omega arith)
no_failure (e ∷ es) w why none (zero, less, is) = let here : stop_of e ≡ Some why = ap stop_of is in let unstopped = (stop_after (stop_of e) es none).0 in absurd (cc)
no_failure (e ∷ es) w why none (suc j, less, is) = no_failure es w why (stop_after (stop_of e) es none).1 (j, omega arith, is)

later : (e : Event) (es : List Event) (why : WindowStop) → ((w : ℕ) × Contains es (Fail w why)) → (w : ℕ) × Contains (e ∷ es) (Fail w why)
later e es why has = let less = has.1.1 in (has.0, (suc has.1.0, omega arith, has.1.2))

-- and a stop is that of a failure
pub failure_of : (es : List Event) (why : WindowStop) → first_stop es ≡ Some why → (w : ℕ) × Contains es (Fail w why)
failure_of [] why h = absurd (cc)
failure_of (Fail w own ∷ es) why h = (w, (0, omega arith, λ z. Fail w (some_same h z)))
failure_of (Hit w k ∷ es) why h = later (Hit w k) es why (failure_of es why h)
failure_of (Claim w k ∷ es) why h = later (Claim w k) es why (failure_of es why h)
failure_of (Enter w i j ∷ es) why h = later (Enter w i j) es why (failure_of es why h)
failure_of (Leave w i j ∷ es) why h = later (Leave w i j) es why (failure_of es why h)
failure_of (Evict w k ∷ es) why h = later (Evict w k) es why (failure_of es why h)
failure_of (Publish w k ∷ es) why h = later (Publish w k) es why (failure_of es why h)
failure_of (Abandon w k ∷ es) why h = later (Abandon w k) es why (failure_of es why h)
failure_of (Take w n ∷ es) why h = later (Take w n) es why (failure_of es why h)
failure_of (Deliver w n ∷ es) why h = later (Deliver w n) es why (failure_of es why h)

first_of_quiet : (es : List Event) → AreQuiet es → first_stop es ≡ None
first_of_quiet [] q = refl
first_of_quiet (e ∷ es) q = ap (λ o. earlier o (first_stop es)) q.0 ∙ first_of_quiet es q.1

was_failure : (before es : List Event) → AreQuiet es → (w : ℕ) (why : WindowStop) → Contains (before ++ es) (Fail w why) → Contains before (Fail w why)
was_failure before es q w why has = ⊎_elim
    (λ (h : Contains before (Fail w why)). h)
    (λ (h : Contains es (Fail w why)). absurd (no_failure es w why (first_of_quiet es q) h)) (Contains-append_cases before es (Fail w why) has)

same_failure : (v w : ℕ) (other why : WindowStop) → Contains (Fail v other ∷ []) (Fail w why) → other ≡ why
same_failure v w other why (zero, less, is) = cc
same_failure v w other why (suc j, less, is) = absurd (omega arith)

-- Places: a call changes what stands at them, and not which there are.

module _ {I : Type 0} (c d : CoreValue I) where
  abbrev SamePlaces : Type 0
  SamePlaces = keys_of d.table ≡ keys_of c.table

  same_table : d ≡ c → SamePlaces
  same_table e = ap (λ (z : CoreValue I). keys_of z.table) e

  pub asked_places : (w : ℕ) (k : Key) (answer : Ask) → Asked c w k answer d → SamePlaces
  asked_places w k (Found x) a = ap (λ (z : CoreValue I). keys_of z.table) a.2
  asked_places w k Claimed a = ap (λ (z : CoreValue I). keys_of z.table) a.3
  asked_places w k (Taken v) a = same_table a.3
  asked_places w k (Stopped why) a = same_table a.1

  pub admitted_places : (w i : ℕ) (answer : Admitted I) → Admits c w i answer d → SamePlaces
  admitted_places w i (Leased l) a = ap (λ (z : CoreValue I). keys_of z.table) a.3 ∙ keys-set_value (same_place (place_of c.fixed.plan w i)) c.table (LeasedTo w)
  admitted_places w i (Busy v) a = same_table a.2
  admitted_places w i (Refused why) a = same_table a.1

  pub taken_places : (w : ℕ) (taken : Option ℕ) → TookOutput c w taken d → SamePlaces
  taken_places w None t = same_table t.1
  taken_places w (Some n) t = ap (λ (z : CoreValue I). keys_of z.table) t.3

pub left_places : {I : Type 0} → (c : CoreValue I) (w : ℕ) (p : Place) (x : I) → SamePlaces c (after_leave c w p x)
left_places c w p x = keys-set_value (same_place p) c.table (Free x)

-- What a call keeps.

module _ {I : Type 0} (ends : I → ℕ → ℕ → ℕ → Type 0) where
  -- each failure of the journal shows in the table
  abbrev AllShow : CoreValue I → Type 0
  AllShow c = (w : ℕ) (why : WindowStop) → Contains c.journal (Fail w why) → EndShows ends c.table why

  -- the end of a source still shows where an instance came back
  ends_still : (table : List (Place × Slot I)) (p : Place) (w : ℕ) (x : I) → slot_at p table ≡ Some (LeasedTo w) → (why : WindowStop) → EndShows ends table why → EndShows ends (with_slot p (Free x) table) why
  ends_still table p w x out (Read i) shows = tt
  ends_still table p w x out (Changed i n want got) shows = record {
    instance = shows.instance;
    there = still_there table p w out (shared_place i) shows.instance x shows.there;
    early = shows.early;
  }
  ends_still table p w x out Memory shows = tt

  -- what a call does to all but the frames: c is the core before it, and d the core after it
  record Goes (c d : CoreValue I) : Type 0 where
    fixed : d.fixed ≡ c.fixed
    places : keys_of d.table ≡ keys_of c.table
    ended : AllShow c → AllShow d

  -- one that changes no instance, and does not fail
  quiet : (c d : CoreValue I) (es : List Event) → AreQuiet es → d.fixed ≡ c.fixed → d.table ≡ c.table → d.journal ≡ c.journal ++ es → Goes c d
  quiet c d es q fixed table journal = record {
    fixed = fixed;
    places = ap keys_of table;
    ended = λ shows w why has.
        subst (λ t. EndShows ends t why) (sym table) (shows w why (was_failure c.journal es q w why (subst (λ l. Contains l (Fail w why)) journal has)));
  }

  same : (c d : CoreValue I) → d ≡ c → Goes c d
  same c d e = record { fixed = ap (λ (z : CoreValue I). z.fixed) e; places = ap (λ (z : CoreValue I). keys_of z.table) e; ended = λ shows. subst AllShow (sym e) shows }

  asked_goes : (c d : CoreValue I) (w : ℕ) (k : Key) (answer : Ask) → Asked c w k answer d → Goes c d
  asked_goes c d w k (Found x) a = subst (Goes c) (sym a.2) (quiet c _ (Hit w k ∷ []) (refl, tt) refl refl refl)
  asked_goes c d w k Claimed a = subst (Goes c) (sym a.3) (quiet c _ (Claim w k ∷ []) (refl, tt) refl refl refl)
  asked_goes c d w k (Taken v) a = same c d a.3
  asked_goes c d w k (Stopped why) a = same c d a.1

  admitted_goes : (c d : CoreValue I) (w i : ℕ) (answer : Admitted I) → c.stop ≡ first_stop c.journal → Admits c w i answer d → Goes c d
  admitted_goes c d w i (Leased l) first a = subst (Goes c) (sym a.3) record {
    fixed = refl;
    places = keys-set_value (same_place (place_of c.fixed.plan w i)) c.table (LeasedTo w);
    ended = λ shows v why has.
        absurd (no_failure c.journal v why (sym first ∙ a.0) (was_failure c.journal (Enter w i (place_of c.fixed.plan w i).instance ∷ []) (refl, tt) v why has));
  }
  admitted_goes c d w i (Busy v) first a = same c d a.2
  admitted_goes c d w i (Refused why) first a = same c d a.1

  left_goes : (c : CoreValue I) (w : ℕ) (p : Place) (x : I) → slot_at p c.table ≡ Some (LeasedTo w) → Goes c (after_leave c w p x)
  left_goes c w p x out = record {
    fixed = refl;
    places = keys-set_value (same_place p) c.table (Free x);
    ended = λ shows v why has. ends_still c.table p w x out why (shows v why (was_failure c.journal (Leave w p.node p.instance ∷ []) (refl, tt) v why has));
  }

  taken_goes : (c d : CoreValue I) (w : ℕ) (taken : Option ℕ) → TookOutput c w taken d → Goes c d
  taken_goes c d w None t = same c d t.1
  taken_goes c d w (Some n) t = subst (Goes c) (sym t.3) (quiet c _ (Take w n ∷ []) (refl, tt) refl refl refl)

  failing_goes : (c : CoreValue I) (w : ℕ) (why : WindowStop) → EndShows ends c.table why → Goes c (after_fail c w why)
  failing_goes c w why shows = record {
    fixed = refl;
    places = refl;
    ended = λ all v other has. ⊎_elim
        (λ (h : Contains c.journal (Fail v other)). all v other h)
        (λ (h : Contains (Fail w why ∷ []) (Fail v other)). subst (EndShows ends c.table) (same_failure w v why other h) shows)
        (Contains-append_cases c.journal (Fail w why ∷ []) (Fail v other) has);
  }

module _ {I : Type 0} (feed : I → Option (List Picture)) (faults : I → ℕ) (ends : I → ℕ → ℕ → ℕ → Type 0) where
  abbrev For : CoreValue I → CoreValue I → Type 0
  For c s = StandsFor feed faults ends c s

  abbrev ForAll : CoreValue I → (Book → List ℕ → Type 0) → Type 0
  ForAll s P = ForAllOf feed faults s P

  -- a core in which nothing happened yet is one of the window that begins with it
  pub stands_for_itself : (c : CoreValue I) → c.journal ≡ [] → For c c
  stands_for_itself c empty = record {
    fixed = refl;
    places = refl;
    right = λ book numbers v. v;
    ended = λ w why has. absurd (no_failure [] w why refl (subst (λ es. Contains es (Fail w why)) empty has));
  }

  abbrev AllStand : CoreValue I → CoreValue I → Type 0
  AllStand s d = (book : Book) (numbers : List ℕ) → Stands feed faults book numbers s → Stands feed faults book numbers d

  next : (s c d : CoreValue I) → For c s → Goes ends c d → AllStand s d → For d s
  next s c d v goes right = record { fixed = goes.fixed ∙ v.fixed; places = goes.places ∙ v.places; right = right; ended = goes.ended v.ended }

  calls : CallsStand feed faults
  calls = calls_stand feed faults

  module _ (s c : CoreValue I) (v : For c s) where
    asked : (d : CoreValue I) (w : ℕ) (k : Key) (answer : Ask) → Asked c w k answer d → For d s × ForAll s (λ book numbers. AnswerIsRight book s.fixed.plan k answer)
    asked d w k answer a = (
      next s c d v (asked_goes ends c d w k answer a) (λ book numbers st. (calls.ask book numbers c d w k answer (v.right book numbers st) a).0),
      λ book numbers st. subst (λ f. AnswerIsRight book f.plan k answer) v.fixed (calls.ask book numbers c d w k answer (v.right book numbers st) a).1,
    )

    admitted : (d : CoreValue I) (w i : ℕ) (answer : Admitted I) → c.stop ≡ first_stop c.journal → Admits c w i answer d
        → For d s × ForAll s (λ book numbers. AnswerFits feed faults book numbers s.fixed.plan answer)
    admitted d w i answer first a = (
      next s c d v (admitted_goes ends c d w i answer first a) (λ book numbers st. (calls.enter book numbers c d w i answer (v.right book numbers st) first a).0),
      λ book numbers st. subst (λ f. AnswerFits feed faults book numbers f.plan answer) v.fixed (calls.enter book numbers c d w i answer (v.right book numbers st) first a).1,
    )

    came_back : (w : ℕ) (p : Place) (x : I) → slot_at p c.table ≡ Some (LeasedTo w) → ForAll s (λ book numbers. Fits feed faults book numbers s.fixed.plan p x) → For (after_leave c w p x) s
    came_back w p x out fits = next s c (after_leave c w p x) v (left_goes ends c w p x out)
        (λ book numbers st. calls.leave book numbers c w p x (v.right book numbers st) out (subst (λ f. Fits feed faults book numbers f.plan p x) (sym v.fixed) (fits book numbers st)))

    publishes : (w : ℕ) (k : Key) (x : Picture) → ForAll s (λ book numbers. IsRight book s.fixed.plan k x) → For (after_publish c w k x) s
    publishes w k x is =
        let es = eviction w (dropped_key c.fixed.capacity c.cache) ++ Publish w k ∷ [] in
        next s c (after_publish c w k x) v (quiet ends c (after_publish c w k x) es (eviction_quiet w (dropped_key c.fixed.capacity c.cache) k) refl refl refl)
        (λ book numbers st. calls.publish book numbers c w k x (v.right book numbers st) (subst (λ f. IsRight book f.plan k x) (sym v.fixed) (is book numbers st)))

    abandons : (w : ℕ) (k : Key) → For (after_abandon c w k) s
    abandons w k = next s c (after_abandon c w k) v (quiet ends c (after_abandon c w k) (Abandon w k ∷ []) (refl, tt) refl refl refl)
        (λ book numbers st. calls.abandon book numbers c w k (v.right book numbers st))

    takes : (d : CoreValue I) (w : ℕ) (taken : Option ℕ) → TookOutput c w taken d → For d s
    takes d w taken t = next s c d v (taken_goes ends c d w taken t) (λ book numbers st. calls.take_output book numbers c d w taken (v.right book numbers st) t)

    delivers : (w n : ℕ) (x : Picture) → s.fixed.first ≤ n → ForAll s (λ book numbers. IsRight book s.fixed.plan (frame_key s.fixed.root n) x) → For (after_deliver c w n x) s
    delivers w n x low is = next s c (after_deliver c w n x) v (quiet ends c (after_deliver c w n x) (Deliver w n ∷ []) (refl, tt) refl refl refl)
        (λ book numbers st. calls.deliver book numbers c w n x (v.right book numbers st) (subst (λ f. f.first ≤ n) (sym v.fixed) low)
        (subst (λ f. IsRight book f.plan (frame_key f.root n) x) (sym v.fixed) (is book numbers st)))

    fails : (w : ℕ) (why : WindowStop) → ForAll s (λ book numbers. StopFits feed faults book numbers s.fixed.plan c.table why) → EndShows ends c.table why → For (after_fail c w why) s
    fails w why fits shows = next s c (after_fail c w why) v (failing_goes ends c w why shows)
        (λ book numbers st. calls.fail book numbers c w why (v.right book numbers st) (subst (λ f. StopFits feed faults book numbers f.plan c.table why) (sym v.fixed) (fits book numbers st)))

  pub turns_stand : TurnsStand feed faults ends
  turns_stand = record {
    ask = λ s c d w k answer v. asked s c v d w k answer;
    enter = λ s c d w i answer v. admitted s c v d w i answer;
    leave = λ s c w p x v. came_back s c v w p x;
    publish = λ s c w k x v. publishes s c v w k x;
    abandon = λ s c w k v. abandons s c v w k;
    take_output = λ s c d w taken v. takes s c v d w taken;
    deliver = λ s c w n x v. delivers s c v w n x;
    fail = λ s c w why v. fails s c v w why;
  }
