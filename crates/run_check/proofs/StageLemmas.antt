-- Lines that are read one after the other.
use Rattle.std.proofs.Common.{◌≡◌, ℕ, zero, suc, ◌+◌, ◌<◌, Bool, true, false, ◌&&◌, List, [], ◌∷◌, map, Option, Some, None, Result, IfOk, refl, sym, ap, ◌∙◌, subst, arith}
use Rattle.std.specs.Prelude.{◌==◌, is_some, nat_lt, nat_le, replicate, if◌then◌else◌}
use Rattle.std.specs.List.{list_all, list_any}
use Rattle.std.proofs.lemmas.Bool.{ltb-true, lt-ltb, ne_eqb}
use Rattle.lru.specs.LruCache.{LruCache}
use Rattle.fv_plane.specs.declared.key.Key.{Key}
use Rattle.clip_graph.specs.Plan.{Application, application_at, IsPlan}
use Rattle.frame_cache.proofs.CallerLemmas.{left_true, right_true}
use Rattle.inst_table.specs.declared.place.Place.{Place}
use Rattle.serve_machine.specs.declared.event.Event.{Event}
use Rattle.serve_machine.specs.Events.{worker_of}
use Rattle.serve_machine.specs.Law.{start_of}
use Rattle.serve_machine.specs.Machine.{Machine, in_turn, meets, allowed, change, State, is_open}
use Rattle.run_text.specs.declared.line.Line.TheVariants.{Workers, Window, Did}
use Rattle.run_text.specs.Journal.{KeyCache, places, is_window, is_finished}
use Rattle.run_text.specs.Progress.{Progress, unread, named, inside, begun, next}
use Rattle.run_text.proofs.PlaceLemmas.{named_there}
use Rattle.run_check.specs.declared.tracker.Tracker.{Tracker}
use Rattle.run_check.specs.Claims.{AreClaims}
use Rattle.run_check.specs.Leases.{AreLeases, free}
use Rattle.run_check.specs.Tallies.{same_seat}
use Rattle.run_check.specs.Mirrors.{same_got, Mirrors, Steps, IsMachineOf}
use Rattle.run_check.specs.Stages.{Goes, Keeps, may_act, opened, Opens, IsInside, StandsFor}
use Rattle.run_check.proofs.EnterLemmas.{if_ok_map}

-- TRUTH VALUES

there_if : (b : Bool) (q : Progress) → b ≡ is_some (if b then Some q else None)
there_if true q = refl
there_if false q = refl

goes_if : (b : Bool) (q : Progress) (Stands : Progress → Type 0) → is_some (if b then Some q else None) ≡ true → (b ≡ true → Stands q) → Goes Stands (if b then Some q else None) true
goes_if true q Stands there so = (q, refl, so refl)
goes_if false q Stands there so = absurd (cc)

goes_by : (b yes : Bool) (q : Progress) (Stands : Progress → Type 0) → yes ≡ b → (yes ≡ true → Stands q) → Goes Stands (if b then Some q else None) yes
goes_by true true q Stands same so = (q, refl, so refl)
goes_by true false q Stands same so = absurd (cc)
goes_by false true q Stands same so = absurd (cc)
goes_by false false q Stands same so = refl

none_if : (b : Bool) (q : Progress) → b ≡ false → (if b then Some q else None) ≡ None
none_if true q h = absurd (cc)
none_if false q h = refl

no_act : (a b c : Bool) → (a && b) ≡ false → (a && (b && c)) ≡ false
no_act true true c h = absurd (cc)
no_act true false c h = refl
no_act false b c h = refl

acts : (a b c : Bool) → (a && b) ≡ true → (a && (b && c)) ≡ c
acts true true c h = refl
acts true false c h = absurd (cc)
acts false b c h = absurd (cc)

free_open : (ps : List Place) → list_all (λ e. is_open e.1) (free ps) ≡ true
free_open [] = refl
free_open (p ∷ ps) = free_open ps

abbrev undelivered : ℕ → List (Option (Unit {0}))
undelivered n = replicate n None

unset_none : (n : ℕ) → replicate n false ≡ map is_some (undelivered n)
unset_none zero = refl
unset_none (suc n) = ap (λ l. false ∷ l) (unset_none n)

-- A WINDOW BEGINS

module _ (plan : List Application) (root capacity : ℕ) where
  pub window_opens : (old new : Tracker) (workers : ℕ) (cache : KeyCache) (first count : ℕ) → IsPlan plan → Keeps old capacity workers cache
      → new.workers ≡ old.workers → new.first ≡ first → new.count ≡ count → new.cache ≡ old.cache → AreClaims new.claims [] → AreLeases new.leases (free (places plan root capacity workers))
      → new.got.keys ≡ [] → new.taken.items ≡ [] → new.delivered.items ≡ replicate count false → new.failed.items ≡ replicate workers false → new.entered.keys ≡ [] → new.awaits ≡ None → new.stopped ≡ false
      → Opens plan root capacity workers cache first count new
  window_opens old new workers cache first count is_plan keeps workers_is first_is count_is cache_is claims leases got taken delivered failed entered awaits stopped = record {
    workers = workers_is ∙ keeps.workers_are;
    first = first_is;
    count = count_is;
    capacity = ap (λ (c : LruCache Key (Unit {0})). c.cap) cache_is ∙ keeps.capacity_is;
    cache = ap (λ (c : LruCache Key (Unit {0})). c.entries) cache_is ∙ keeps.cache_is;
    claims = claims;
    leases = leases;
    apart = λ k h. absurd (let no : ⊥ = cc in no);
    claimed = λ k h. absurd (let no : ⊥ = cc in no);
    instances = λ i w inside less other. ap is_some (named_there plan root capacity workers is_plan i w inside less other);
    got = λ w k. ap (list_any (same_got (record { worker = w; key = k }))) got;
    taken = taken;
    delivered = delivered ∙ unset_none count;
    failed = failed;
    entered = λ w i. ap (list_any (same_seat (record { worker = w; node = i }))) entered;
    awaits = awaits;
    stopped = stopped;
  }

  keeps_of : (t : Tracker) (workers : ℕ) (m : Machine (Unit {0})) (s : State (Unit {0})) → IsInside plan root capacity t workers m s → Keeps t capacity workers s.cache
  keeps_of t workers m s h = let is = h.mirrors in record {
    workers_are = is.workers ∙ ap (λ (x : Machine (Unit {0})). x.fixed.workers) h.machine_is;
    capacity_is = is.capacity ∙ ap (λ (x : Machine (Unit {0})). x.fixed.capacity) h.machine_is;
    cache_is = is.cache;
  }

  -- whether a window may begin
  pub window_test : (t : Tracker) (p : Progress) (first count : ℕ) (fin win : Bool) → StandsFor plan root capacity t p
      → ((m : Machine (Unit {0})) (s : State (Unit {0})) → Mirrors t m s → fin ≡ is_finished s) → win ≡ is_window plan root capacity first count
      → (nat_lt 0 t.workers && fin && win) ≡ is_some (next plan root capacity p (Window first count))
  window_test t unread first count fin win stands finished is = rw stands.workers_are refl
  window_test t (named w) first count fin win stands finished is =
      let m = opened plan root capacity w [] 0 0 in
      let s = start_of m [] (places plan root capacity w) in
      let mirrors = stands.opens in
      let done : fin ≡ true = finished m s mirrors ∙ ap (λ b. b && true && true && true) (free_open (places plan root capacity w)) in
      let some : nat_lt 0 t.workers ≡ true = lt-ltb 0 t.workers (subst (λ n. 0 < n) (sym mirrors.workers) stands.some) in
      rw (some, done, is) (there_if (is_window plan root capacity first count) (begun plan root capacity w [] first count))
  window_test t (inside w m s) first count fin win stands finished is =
      let keeps = keeps_of t w m s stands in
      let some : nat_lt 0 t.workers ≡ true = lt-ltb 0 t.workers (subst (λ n. 0 < n) (sym keeps.workers_are) stands.some) in
      rw (some, finished m s stands.mirrors, is) (there_if (is_finished s && is_window plan root capacity first count) (begun plan root capacity w s.cache first count))

  outputs_of : (first count : ℕ) → is_window plan root capacity first count ≡ true → 0 < count
  outputs_of first count h =
      ltb-true 0 count (left_true (nat_lt 0 count) (nat_le count 32) (left_true (nat_lt 0 count && nat_le count 32) (nat_le (first + count) (application_at plan root).info.frames) h))

  -- a window began
  pub window_goes : (old new : Tracker) (p : Progress) (first count : ℕ) → StandsFor plan root capacity old p → is_some (next plan root capacity p (Window first count)) ≡ true
      → ((workers : ℕ) (cache : KeyCache) → Keeps old capacity workers cache → Opens plan root capacity workers cache first count new)
      → Goes (StandsFor plan root capacity new) (next plan root capacity p (Window first count)) true
  window_goes old new unread first count stands there opens = absurd (cc)
  window_goes old new (named w) first count stands there opens =
      let is = stands.opens in
      goes_if (is_window plan root capacity first count) (begun plan root capacity w [] first count) (StandsFor plan root capacity new) there
      (λ e. record { some = stands.some; cache = []; first = first; count = count; outputs = outputs_of first count e; machine_is = refl; mirrors = opens w [] (record { workers_are = is.workers; capacity_is = is.capacity; cache_is = is.cache }) })
  window_goes old new (inside w m s) first count stands there opens =
      goes_if (is_finished s && is_window plan root capacity first count) (begun plan root capacity w s.cache first count) (StandsFor plan root capacity new) there
      (λ e. record {
        some = stands.some;
        cache = s.cache;
        first = first;
        count = count;
        outputs = outputs_of first count (right_true (is_finished s) (is_window plan root capacity first count) e);
        machine_is = refl;
        mirrors = opens w s.cache (keeps_of old w m s stands);
      })

  -- THE NUMBER OF THE WORKERS

  some_workers : (t w : ℕ) → t ≡ w → 0 < w → (t == 0) ≡ false
  some_workers t w is some = ne_eqb t 0 (λ e. omega arith)

  pub name_test : (t : Tracker) (p : Progress) (count : ℕ) → StandsFor plan root capacity t p
      → (t.workers == 0 && nat_lt 0 count && nat_le count 16) ≡ is_some (next plan root capacity p (Workers count))
  name_test t unread count stands = rw stands.workers_are (there_if (nat_lt 0 count && nat_le count 16) (named count))
  name_test t (named w) count stands = let is = stands.opens in rw (some_workers t.workers w is.workers stands.some) refl
  name_test t (inside w m s) count stands = let keeps = keeps_of t w m s stands in rw (some_workers t.workers w keeps.workers_are stands.some) refl

  pub name_goes : (old new : Tracker) (p : Progress) (count : ℕ) → StandsFor plan root capacity old p → is_some (next plan root capacity p (Workers count)) ≡ true
      → (old.cache.cap ≡ capacity → old.cache.entries ≡ [] → Opens plan root capacity count [] 0 0 new)
      → Goes (StandsFor plan root capacity new) (next plan root capacity p (Workers count)) true
  name_goes old new unread count stands there opens =
      goes_if (nat_lt 0 count && nat_le count 16) (named count) (StandsFor plan root capacity new) there
      (λ e. record { some = ltb-true 0 count (left_true (nat_lt 0 count) (nat_le count 16) e); opens = opens stands.capacity_is stands.cache_is })
  name_goes old new (named w) count stands there opens = absurd (cc)
  name_goes old new (inside w m s) count stands there opens = absurd (cc)

  -- EVENTS

  pub act_test : (t : Tracker) (p : Progress) (e : Event) (turn who : Bool) → StandsFor plan root capacity t p
      → ((m : Machine (Unit {0})) (s : State (Unit {0})) → Mirrors t m s → turn ≡ in_turn s.awaits e) → ((m : Machine (Unit {0})) (s : State (Unit {0})) → Mirrors t m s → who ≡ nat_lt (worker_of e) m.fixed.workers)
      → (nat_lt 0 t.count && turn && who) ≡ may_act p e
  act_test t unread e turn who stands turns whose = rw stands.count_is refl
  act_test t (named w) e turn who stands turns whose = let is = stands.opens in rw is.count refl
  act_test t (inside w m s) e turn who stands turns whose =
      let is = stands.mirrors in
      let count : t.count ≡ stands.count = is.count ∙ ap (λ (x : Machine (Unit {0})). x.fixed.count) stands.machine_is in
      let some : nat_lt 0 t.count ≡ true = lt-ltb 0 t.count (subst (λ n. 0 < n) (sym count) stands.outputs) in
      rw (some, turns m s is, whose m s is) refl

  pub act_refused : (p : Progress) (e : Event) → may_act p e ≡ false → next plan root capacity p (Did e) ≡ None
  act_refused unread e h = refl
  act_refused (named w) e h = refl
  act_refused (inside w m s) e h = none_if (allowed m s e) (inside w m (change m s e)) (no_act (in_turn s.awaits e) (nat_lt (worker_of e) m.fixed.workers) (meets m s e) h)

  pub act_goes : {E : Type 0} (old new : Tracker) (p : Progress) (e : Event) (r : Result Bool E) → StandsFor plan root capacity old p → may_act p e ≡ true
      → ((m : Machine (Unit {0})) (s : State (Unit {0})) → IsMachineOf m plan root → worker_of e < m.fixed.workers → Mirrors old m s → IfOk r (λ yes. Steps m s e yes new))
      → IfOk r (Goes (StandsFor plan root capacity new) (next plan root capacity p (Did e)))
  act_goes old new unread e r stands may made = absurd (cc)
  act_goes old new (named w) e r stands may made = absurd (cc)
  act_goes old new (inside w m s) e r stands may made =
      let is = stands.machine_is in
      let of : IsMachineOf m plan root = record { plan_is = sym (ap (λ (x : Machine (Unit {0})). x.fixed.plan) is); root_is = sym (ap (λ (x : Machine (Unit {0})). x.fixed.root) is); untold = ap (λ (x : Machine (Unit {0})). x.is_told) is } in
      let less = ltb-true (worker_of e) m.fixed.workers (right_true (in_turn s.awaits e) (nat_lt (worker_of e) m.fixed.workers) may) in
      if_ok_map r (made m s of less stands.mirrors) (λ yes step. goes_by (allowed m s e) yes (inside w m (change m s e)) (StandsFor plan root capacity new)
      (step.right ∙ sym (acts (in_turn s.awaits e) (nat_lt (worker_of e) m.fixed.workers) (meets m s e) may))
      (λ y. record { some = stands.some; cache = stands.cache; first = stands.first; count = stands.count; outputs = stands.outputs; machine_is = is; mirrors = step.made y }))
