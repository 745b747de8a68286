-- Where each worker did whole work, nothing is open.
use Rattle.std.proofs.Common.{◌≡◌, ℕ, zero, suc, ◌-◌, ◌<◌, ◌≤◌, true, false, ◌&&◌, List, [], ◌∷◌, ◌++◌, length, slice_get, Option, Some, None, refl, sym, ap, ◌∙◌, ⊎_elim, arith, eq-eqb, ne_eqb}
use Rattle.std.specs.Prelude.{◌==◌, nat_lt, is_some, replicate}
use Rattle.std.specs.List.{list_all}
use Rattle.std.proofs.lemmas.Bool.{ltb-true, cases_lt, eqb-true}
use Rattle.std.proofs.Math.ListN.{length-set}
use Rattle.fv_plane.specs.declared.key.Key.{Key}
use Rattle.clip_graph.specs.Plan.{Application, IsPlan}
use Rattle.frame_cache.proofs.CallerLemmas.{test, left_true, right_true}
use Rattle.inst_table.specs.declared.place.Place.{Place}
use Rattle.serve_machine.specs.declared.event.Event.{Event}
use Rattle.serve_machine.specs.declared.event.Event.TheVariants.{Hit, Claim, Enter, Leave, Evict, Publish, Abandon, Take, Deliver, Fail}
use Rattle.serve_machine.specs.Events.{worker_of, own_events, mode_at}
use Rattle.serve_machine.specs.SerialRun.{eviction, leases}
use Rattle.serve_machine.specs.Work.{Production, Deliveries, hit, made, none, also, nothing}
use Rattle.serve_machine.specs.Holdings.{Holdings, claims_of, leases_of, holdings_of, own_holdings}
use Rattle.serve_machine.specs.Law.{start_of}
use Rattle.serve_machine.specs.Machine.{Machine, in_turn, meets, allowed, change, replay, State, is_open}
use Rattle.serve_machine.proofs.HoldingLemmas.{own_events_tell}
use Rattle.serve_machine.proofs.ClosingLemmas.{work_closes}
use Rattle.serve_machine.proofs.TruthLemmas.{some_same}
use Rattle.run_text.specs.Journal.{KeyCache, is_finished}
use Rattle.run_agree.specs.Agrees.{WorkFinishes}

-- EVENTS OF NO WORKER

module _ (m : Machine (Unit {0})) where
  -- a worker past the last has no events
  own_none : (w : ℕ) → m.fixed.workers ≤ w → (es : List Event) (s t : State (Unit {0})) → replay m s es ≡ Some t → own_events w es ≡ []
  own_none w past [] s t ran = refl
  own_none w past (e ∷ es) s t ran = ⊎_elim
      (λ (ok : allowed m s e ≡ true).
      let less : worker_of e < m.fixed.workers = ltb-true (worker_of e) m.fixed.workers (left_true (nat_lt (worker_of e) m.fixed.workers) (meets m s e) (right_true (in_turn s.awaits e) (nat_lt (worker_of e) m.fixed.workers && meets m s e) ok)) in
      rw (ne_eqb (worker_of e) w (λ q. omega arith)) (own_none w past es (change m s e) t (rw ok at ran)))
      (λ (bad : allowed m s e ≡ false). let none : None ≡ Some t = rw bad at ran in absurd (cc)) (test (allowed m s e))

  -- as many outputs as at the start
  frames_step : (s : State (Unit {0})) (e : Event) → length (change m s e).frames ≡ length s.frames
  frames_step s (Hit w k) = refl
  frames_step s (Claim w k) = refl
  frames_step s (Enter w i j) = refl
  frames_step s (Leave w i j) = refl
  frames_step s (Evict w k) = refl
  frames_step s (Publish w k) = refl
  frames_step s (Abandon w k) = refl
  frames_step s (Take w n) = refl
  frames_step s (Deliver w n) = length-set s.frames (n - m.fixed.first) _
  frames_step s (Fail w why) = refl

  frames_kept : (es : List Event) (s t : State (Unit {0})) → replay m s es ≡ Some t → length t.frames ≡ length s.frames
  frames_kept [] s t ran = let same : s ≡ t = cc in ap (λ (x : State (Unit {0})). length x.frames) (sym same)
  frames_kept (e ∷ es) s t ran = ⊎_elim
      (λ (ok : allowed m s e ≡ true). frames_kept es (change m s e) t (rw ok at ran) ∙ frames_step s e)
      (λ (bad : allowed m s e ≡ false). let none : None ≡ Some t = rw bad at ran in absurd (cc)) (test (allowed m s e))

-- AWAITED PUBLICATIONS

-- whose publication is awaited after an event
abbrev awaits_after : Option ℕ → Event → Option ℕ
awaits_after a (Evict w k) = Some w
awaits_after a (Publish w k) = None
awaits_after a (Hit w k) = a
awaits_after a (Claim w k) = a
awaits_after a (Enter w i j) = a
awaits_after a (Leave w i j) = a
awaits_after a (Abandon w k) = a
awaits_after a (Take w n) = a
awaits_after a (Deliver w n) = a
awaits_after a (Fail w why) = a

abbrev awaiting : Option ℕ → List Event → Option ℕ
awaiting a [] = a
awaiting a (e ∷ es) = awaiting (awaits_after a e) es

awaiting-append : (a : Option ℕ) (es fs : List Event) → awaiting a (es ++ fs) ≡ awaiting (awaiting a es) fs
awaiting-append a [] fs = refl
awaiting-append a (e ∷ es) fs = awaiting-append (awaits_after a e) es fs

module _ (m : Machine (Unit {0})) where
  awaits_step : (s : State (Unit {0})) (e : Event) → (change m s e).awaits ≡ awaits_after s.awaits e
  awaits_step s (Hit w k) = refl
  awaits_step s (Claim w k) = refl
  awaits_step s (Enter w i j) = refl
  awaits_step s (Leave w i j) = refl
  awaits_step s (Evict w k) = refl
  awaits_step s (Publish w k) = refl
  awaits_step s (Abandon w k) = refl
  awaits_step s (Take w n) = refl
  awaits_step s (Deliver w n) = refl
  awaits_step s (Fail w why) = refl

  awaits_is : (es : List Event) (s t : State (Unit {0})) → replay m s es ≡ Some t → t.awaits ≡ awaiting s.awaits es
  awaits_is [] s t ran = let same : s ≡ t = cc in ap (λ (x : State (Unit {0})). x.awaits) (sym same)
  awaits_is (e ∷ es) s t ran = ⊎_elim
      (λ (ok : allowed m s e ≡ true). awaits_is es (change m s e) t (rw ok at ran) ∙ ap (λ a. awaiting a es) (awaits_step s e))
      (λ (bad : allowed m s e ≡ false). let none : None ≡ Some t = rw bad at ran in absurd (cc)) (test (allowed m s e))

-- what a worker awaits shows in its own events
own_step : (a b : Option ℕ) (w : ℕ) (e : Event) → (a ≡ Some w → b ≡ Some w) → (worker_of e ≡ w) → awaits_after a e ≡ Some w → awaits_after b e ≡ Some w
own_step a b w (Hit v k) h mine g = h g
own_step a b w (Claim v k) h mine g = h g
own_step a b w (Enter v i j) h mine g = h g
own_step a b w (Leave v i j) h mine g = h g
own_step a b w (Evict v k) h mine g = g
own_step a b w (Publish v k) h mine g = absurd (cc)
own_step a b w (Abandon v k) h mine g = h g
own_step a b w (Take v n) h mine g = h g
own_step a b w (Deliver v n) h mine g = h g
own_step a b w (Fail v why) h mine g = h g

other_step : (a b : Option ℕ) (w : ℕ) (e : Event) → (a ≡ Some w → b ≡ Some w) → (worker_of e ≡ w → ⊥) → awaits_after a e ≡ Some w → b ≡ Some w
other_step a b w (Hit v k) h other g = h g
other_step a b w (Claim v k) h other g = h g
other_step a b w (Enter v i j) h other g = h g
other_step a b w (Leave v i j) h other g = h g
other_step a b w (Evict v k) h other g = let is : v ≡ w = cc in absurd (other is)
other_step a b w (Publish v k) h other g = absurd (cc)
other_step a b w (Abandon v k) h other g = h g
other_step a b w (Take v n) h other g = h g
other_step a b w (Deliver v n) h other g = h g
other_step a b w (Fail v why) h other g = h g

own_awaits : (w : ℕ) (a b : Option ℕ) (es : List Event) → (a ≡ Some w → b ≡ Some w) → awaiting a es ≡ Some w → awaiting b (own_events w es) ≡ Some w
own_awaits w a b [] h g = h g
own_awaits w a b (e ∷ es) h g = ⊎_elim
    (λ (mine : (worker_of e == w) ≡ true). rw mine (own_awaits w (awaits_after a e) (awaits_after b e) es (own_step a b w e h (eqb-true (worker_of e) w mine)) g))
    (λ (other : (worker_of e == w) ≡ false). rw other (own_awaits w (awaits_after a e) b es (other_step a b w e h (λ is. let yes = eq-eqb (worker_of e) w is in let no : ⊥ = cc in no)) g)) (test (worker_of e == w))

-- whole work awaits nothing
lease_awaits : (plan : List Application) (w i : ℕ) (a : Option ℕ) → awaiting a (leases plan w i) ≡ a
lease_awaits plan w i a = ⊎_elim
    (λ (one : (mode_at plan i == 1) ≡ true). rw one refl)
    (λ (other : (mode_at plan i == 1) ≡ false). rw other refl) (test (mode_at plan i == 1))

eviction_ends : (w : ℕ) (gone : Option Key) (k : Key) (a : Option ℕ) → awaiting a (eviction w gone ++ Publish w k ∷ []) ≡ None
eviction_ends w None k a = refl
eviction_ends w (Some j) k a = refl

-- a production leaves no eviction awaited
made_awaits : (plan : List Application) (w : ℕ) (k : Key) (gone : Option Key) (es : List Event) (a : Option ℕ) → awaiting a (Claim w k ∷ (es ++ (leases plan w k.node ++ (eviction w gone ++ Publish w k ∷ [])))) ≡ None
made_awaits plan w k gone es a =
    awaiting-append a es (leases plan w k.node ++ (eviction w gone ++ Publish w k ∷ []))
    ∙ awaiting-append (awaiting a es) (leases plan w k.node) (eviction w gone ++ Publish w k ∷ [])
    ∙ eviction_ends w gone k (awaiting (awaiting a es) (leases plan w k.node))

production_awaits : {plan : List Application} {w : ℕ} {k : Key} {es : List Event} → Production plan w k es → awaiting None es ≡ None
production_awaits hit = refl
production_awaits {plan = plan} {w = w} {k = k} (made {es = es} gone ps) = made_awaits plan w k gone es None

deliveries_await : {plan : List Application} {root w : ℕ} {ns : List ℕ} {es : List Event} → Deliveries plan root w ns es → awaiting None es ≡ None
deliveries_await none = refl
deliveries_await {w = w} (also {n = n} {es = es} {fs = fs} p ds) =
    awaiting-append None (es ++ Deliver w n ∷ []) fs ∙ ap (λ a. awaiting a fs) (awaiting-append None es (Deliver w n ∷ []) ∙ production_awaits p) ∙ deliveries_await ds

-- NOTHING IS OPEN

claims_none : (cs : List (Key × ℕ)) → ((w : ℕ) → claims_of w cs ≡ []) → cs ≡ []
claims_none [] all = refl
claims_none (c ∷ cs) all = let bad : c.0 ∷ claims_of c.1 cs ≡ [] = rw (eq-eqb c.1 c.1 refl) at (all c.1) in absurd (cc)

leases_none : (es : List (Place × Option ℕ)) → ((w : ℕ) → leases_of w es ≡ []) → list_all (λ e. is_open e.1) es ≡ true
leases_none [] all = refl
leases_none ((p, None) ∷ es) all = leases_none es all
leases_none ((p, Some v) ∷ es) all = let bad : p ∷ leases_of v es ≡ [] = rw (eq-eqb v v refl) at (all v) in absurd (cc)

all_there : (fs : List (Option (Unit {0}))) → ((j : ℕ) → j < length fs → slice_get fs j ≡ Some (Some tt)) → list_all is_some fs ≡ true
all_there [] all = refl
all_there (None ∷ fs) all = let bad : Some None ≡ Some (Some tt) = all 0 (omega arith) in let worse : None ≡ Some tt = some_same bad in absurd (cc)
all_there (Some x ∷ fs) all = all_there fs (λ j less. all (suc j) (omega arith))

length-replicate : {A : Type 0} (n : ℕ) (x : A) → length (replicate n x) ≡ n
length-replicate zero x = refl
length-replicate (suc n) x = ap suc (length-replicate n x)

module _ (m : Machine (Unit {0})) (cache : KeyCache) (places : List Place) (events : List Event) (s : State (Unit {0}))
    (plan : IsPlan m.fixed.plan) (root : m.fixed.root < length m.fixed.plan) (ran : replay m (start_of m cache places) events ≡ Some s)
    (work : (w : ℕ) → w < m.fixed.workers → (outputs : List ℕ) × Deliveries m.fixed.plan m.fixed.root w outputs (own_events w events)) where
  -- no worker has anything
  nobody : (w : ℕ) → holdings_of m.fixed s w ≡ nothing
  nobody w =
      let told = (own_events_tell (Unit {0})).told m cache places events s w ran in
      ⊎_elim
      (λ (less : w < m.fixed.workers). sym told.holdings ∙ work_closes.deliveries m.fixed.plan m.fixed.root w (work w less).0 (own_events w events) plan root (work w less).1)
      (λ (past : m.fixed.workers ≤ w). sym told.holdings ∙ ap (own_holdings m.fixed.plan) (own_none m w past events (start_of m cache places) s ran)) (cases_lt w m.fixed.workers)

  nothing_awaited : s.awaits ≡ None
  nothing_awaited = go s.awaits refl
    where
      go : (o : Option ℕ) → s.awaits ≡ o → s.awaits ≡ None
      go None is = is
      go (Some w) is =
          let shown : awaiting None events ≡ Some w = sym (awaits_is m events (start_of m cache places) s ran) ∙ is in
          let own : awaiting None (own_events w events) ≡ Some w = own_awaits w None None events (λ h. h) shown in
          ⊎_elim
          (λ (less : w < m.fixed.workers). let none : awaiting None (own_events w events) ≡ None = deliveries_await (work w less).1 in absurd (cc))
          (λ (past : m.fixed.workers ≤ w). let none : awaiting None (own_events w events) ≡ None = ap (awaiting None) (own_none m w past events (start_of m cache places) s ran) in absurd (cc)) (cases_lt w m.fixed.workers)

  finished : s.stop ≡ None → ((j : ℕ) → j < m.fixed.count → slice_get s.frames j ≡ Some (Some tt)) → is_finished s ≡ true
  finished running delivered =
      let claims : s.claims ≡ [] = claims_none s.claims (λ w. ap (λ (h : Holdings). h.claims) (nobody w)) in
      let leases : list_all (λ e. is_open e.1) s.places ≡ true = leases_none s.places (λ w. ap (λ (h : Holdings). h.leases) (nobody w)) in
      let size : length s.frames ≡ m.fixed.count = frames_kept m events (start_of m cache places) s ran ∙ length-replicate m.fixed.count None in
      let frames : list_all is_some s.frames ≡ true = all_there s.frames (λ j less. delivered j (omega arith)) in
      rw (ap length claims, leases, nothing_awaited, running, frames) refl

pub work_finishes : WorkFinishes
work_finishes m cache places events s plan root ran running delivered work = finished m cache places events s plan root ran work running delivered
