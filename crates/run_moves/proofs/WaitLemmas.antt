-- Waiting goes down.
use Rattle.std.proofs.Common.{◌≡◌, ℕ, ◌+◌, ◌*◌, ◌<◌, ◌≤◌, nat_lt, true, false, ◌&&◌, List, [], ◌∷◌, ◌++◌, length, Option, Some, None, refl, sym, ap, ◌∙◌, arith, subst, ⊎_elim, eq-eqb, ne_eqb}
use Rattle.std.specs.List.{AllByRecursion, list_any}
use Rattle.std.specs.Map.{lookup}
use Rattle.std.proofs.lemmas.Bool.{ltb-true, cases_lt}
use Rattle.fv_plane.specs.declared.key.Key.{Key}
use Rattle.clip_graph.specs.Plan.{Application, IsPlan, input_keys}
use Rattle.frame_cache.specs.Cached.{at_key}
use Rattle.inst_table.specs.declared.place.Place.{Place}
use Rattle.inst_table.specs.Places.{same_place}
use Rattle.inst_table.proofs.CallerLemmas.{same_places}
use Rattle.serve_machine.specs.declared.event.Event.{Event}
use Rattle.serve_machine.specs.Events.{worker_of, same_key, has, instance_of, own_events}
use Rattle.serve_machine.specs.Work.{untaken, none}
use Rattle.serve_machine.proofs.KeyLemmas.{test, left_true, right_true, same_keys}
use Rattle.serve_machine.specs.Holdings.{Holdings, claims_of, leases_of, holdings_of, IsToldBy}
use Rattle.serve_machine.specs.Law.{start_of, worker_at}
use Rattle.serve_machine.specs.Machine.{Machine, in_turn, meets, allowed, change, replay, State, place_named, is_by}
use Rattle.serve_machine.proofs.HoldingLemmas.{own_events_tell}
use Rattle.serve_machine.proofs.TruthLemmas.{some_same}
use Rattle.run_moves.specs.Moves.{InWork, midway, newest_node}
use Rattle.run_moves.specs.Waiting.{IsNewest, AllInWork, Needs, input, output, Waits, for_frame, for_instance, WaitsOn, last, next, node_of, GoesDown, below, leased, WaitingGoesDown}
use Rattle.run_moves.proofs.InputLemmas.{IsInput, most_below, inputs_are}
use Rattle.run_moves.proofs.HoldLemmas.{Falls, newest-push, newest_low, LeasesAt, none as unlent, one, Seat, seated}

-- CLAIMS IN THEIR ORDER

pub has_low : (i : ℕ) (k : Key) (cs : List Key) → Falls i cs → has k cs ≡ true → newest_node i cs ≤ k.node
has_low i k [] falls h = absurd (cc)
has_low i k (c ∷ cs) falls h = ⊎_elim
    (λ (e : same_key k c ≡ true). let same = ap (λ (j : Key). j.node) (same_keys k c e) in let low = newest_low c.node cs falls.1 in omega (arith, low, same))
    (λ (e : same_key k c ≡ false). has_low c.node k cs falls.1 (rw e at h)) (test (same_key k c))

pub pushed_low : (i : ℕ) (cs : List Key) (k : Key) → Falls i (cs ++ k ∷ []) → k.node < i
pushed_low i [] k falls = falls.0
pushed_low i (c ∷ cs) k falls = let ih = pushed_low c.node cs k falls.1 in let less = falls.0 in omega (arith, ih, less)

pub has_among : (P : Key → Type 0) (k : Key) (ks : List Key) → has k ks ≡ true → AllByRecursion P ks → P k
has_among P k [] h all = absurd (cc)
has_among P k (j ∷ ks) h all = ⊎_elim
    (λ (e : same_key k j ≡ true). subst P (sym (same_keys k j e)) all.0)
    (λ (e : same_key k j ≡ false). has_among P k ks (rw e at h) all.1) (test (same_key k j))

-- INSTANCES THAT ARE OUT

-- an instance that is out with a worker is among its leases
pub lease_listed : (v : ℕ) (p : Place) (es : List (Place × Option ℕ)) → lookup (same_place p) es ≡ Some (Some v) → list_any (same_place p) (leases_of v es) ≡ true
lease_listed v p [] h = absurd (cc)
lease_listed v p (e ∷ es) h = ⊎_elim
    (λ (g : same_place p e.0 ≡ true).
    let is : e.1 ≡ Some v = some_same (rw g at h) in
    let mine : is_by v e.1 ≡ true = ap (is_by v) is ∙ eq-eqb v v refl in
    rw mine (rw g refl))
    (λ (g : same_place p e.0 ≡ false).
    let ih = lease_listed v p es (rw g at h) in
    ⊎_elim (λ (b : is_by v e.1 ≡ true). rw b (rw g ih)) (λ (b : is_by v e.1 ≡ false). rw b ih) (test (is_by v e.1))) (test (same_place p e.0))

-- a worker with one lease at most has it at its node
pub lease_is : (plan : List Application) (v i : ℕ) (p : Place) (ps : List Place) → LeasesAt plan v i ps → list_any (same_place p) ps ≡ true → (ps ≡ p ∷ []) × (p ≡ place_named plan i (instance_of plan v i))
lease_is plan v i p _ unlent h = absurd (cc)
lease_is plan v i p _ one h =
    let q = place_named plan i (instance_of plan v i) in
    let same : p ≡ q = ⊎_elim (λ (e : same_place p q ≡ true). same_places p q e) (λ (e : same_place p q ≡ false). let bad : false ≡ true = rw e at h in absurd (cc)) (test (same_place p q)) in
    (ap (λ x. x ∷ []) (sym same), same)

pub held_at : (o : Option (Option ℕ)) (v : ℕ) → worker_at o ≡ Some v → o ≡ Some (Some v)
held_at None v h = absurd (cc)
held_at (Some x) v h = ap Some h

-- 1 where no instance is out
abbrev pub unlent_part : List Place → ℕ
unlent_part [] = 1
unlent_part (p ∷ ps) = 0

few_part : (ps : List Place) → unlent_part ps ≤ 1
few_part [] = omega arith
few_part (p ∷ ps) = omega arith

-- A RUN

module _ {F : Type 0} (m : Machine F) where
  -- a worker past the last has no events
  pub own_none : (w : ℕ) → m.fixed.workers ≤ w → (es : List Event) (s t : State F) → replay m s es ≡ Some t → own_events w es ≡ []
  own_none w past [] s t ran = refl
  own_none w past (e ∷ es) s t ran = ⊎_elim
      (λ (ok : allowed m s e ≡ true).
      let less : worker_of e < m.fixed.workers = ltb-true (worker_of e) m.fixed.workers (left_true (nat_lt (worker_of e) m.fixed.workers) (meets m s e) (right_true (in_turn s.awaits e) (nat_lt (worker_of e) m.fixed.workers && meets m s e) ok)) in
      rw (ne_eqb (worker_of e) w (λ q. omega arith)) (own_none w past es (change m s e) t (rw ok at ran)))
      (λ (bad : allowed m s e ≡ false). let nowhere : None ≡ Some t = rw bad at ran in absurd (cc)) (test (allowed m s e))

  module _ (cache : List (Key × F)) (places : List Place) (events : List Event) (s : State F) (is : IsPlan m.fixed.plan)
      (there : m.fixed.root < length m.fixed.plan) (ran : replay m (start_of m cache places) events ≡ Some s) (work : AllInWork m events) where
    pub in_work : (w : ℕ) → InWork m.fixed.plan m.fixed.root w (own_events w events)
    in_work w = ⊎_elim (λ (less : w < m.fixed.workers). work w less)
        (λ (past : m.fixed.workers ≤ w). subst (InWork m.fixed.plan m.fixed.root w) (sym (own_none w past events (start_of m cache places) s ran)) (midway (untaken none))) (cases_lt w m.fixed.workers)

    pub told : (w : ℕ) → IsToldBy m (own_events w events) s w
    told w = (own_events_tell F).told m cache places events s w ran

    pub seat : (w : ℕ) → Seat m.fixed.plan w is m.fixed.root (holdings_of m.fixed s w)
    seat w = subst (Seat m.fixed.plan w is m.fixed.root) (told w).holdings (seated m.fixed.plan w is m.fixed.root (own_events w events) there (in_work w))

    pub has_claim : (v : ℕ) (k : Key) → at_key k s.claims ≡ Some v → has k (claims_of v s.claims) ≡ true
    has_claim v k at = ap (λ (h : Holdings). has k h.claims) (sym (told v).holdings) ∙ ((told v).claim k ∙ (ap (is_by v) at ∙ eq-eqb v v refl))

    pub claimed_low : (v : ℕ) (k : Key) → at_key k s.claims ≡ Some v → node_of m s v ≤ k.node
    claimed_low v k at = has_low (length m.fixed.plan) k (claims_of v s.claims) ((seat v).holds).falls (has_claim v k at)

    -- who has the instance that a worker needs at a node is at that node
    pub leased_at : (w v i : ℕ) → lookup (same_place (place_named m.fixed.plan i (instance_of m.fixed.plan w i))) s.places ≡ Some (Some v)
        → (leases_of v s.places ≡ place_named m.fixed.plan i (instance_of m.fixed.plan w i) ∷ []) × (node_of m s v ≡ i)
    leased_at w v i at =
        let p : Place = place_named m.fixed.plan i (instance_of m.fixed.plan w i) in
        let found = lease_is m.fixed.plan v (node_of m s v) p (leases_of v s.places) ((seat v).holds).lent (lease_listed v p s.places at) in
        (found.0, sym (ap (λ (q : Place). q.node) found.1))

    newest_is : (w : ℕ) (k : Key) → IsNewest k (claims_of w s.claims) → node_of m s w ≡ k.node
    newest_is w k new = ap (newest_node (length m.fixed.plan)) new.are ∙ newest-push (length m.fixed.plan) new.older k

    need_low : (w : ℕ) (k : Key) → Needs m s w k → k.node < node_of m s w
    need_low w k (input {j = j} new among) =
        let at = newest_is w j new in
        let within = pushed_low (length m.fixed.plan) new.older j (subst (Falls (length m.fixed.plan)) new.are ((seat w).holds).falls) in
        let below = ((has_among (IsInput m.fixed.plan j.node (most_below m.fixed.plan j)) k (input_keys m.fixed.plan j) among (inputs_are m.fixed.plan j is within)).below).node in
        omega (arith, at, below)
    need_low w _ (output {n = n} free) = let at : node_of m s w ≡ length m.fixed.plan = ap (newest_node (length m.fixed.plan)) free in omega (arith, at, there)

    pub goes_down : (w v : ℕ) → Waits m s w v → GoesDown m s w v
    goes_down w v (for_frame {k = k} free needs at) = let low = claimed_low v k at in let less = need_low w k needs in below (omega (arith, low, less))
    goes_down w v (for_instance {k = k} new free held) =
        let at = newest_is w k new in
        let p : Place = place_named m.fixed.plan k.node (instance_of m.fixed.plan w k.node) in
        let found = leased_at w v k.node (held_at (lookup (same_place p) s.places) v held) in
        leased (found.1 ∙ sym at) free (subst (λ i. leases_of v s.places ≡ place_named m.fixed.plan i (instance_of m.fixed.plan w i) ∷ []) (sym at) found.0)

    -- what falls with each step of waiting
    abbrev pub height : ℕ → ℕ
    height w = 2 * node_of m s w + unlent_part (leases_of w s.places)

    pub lower : (w v : ℕ) → GoesDown m s w v → height v < height w
    lower w v (below less) = let few = few_part (leases_of v s.places) in omega (arith, less, few)
    lower w v (leased same free held) =
        let a : unlent_part (leases_of v s.places) ≡ 0 = ap unlent_part held in
        let b : unlent_part (leases_of w s.places) ≡ 1 = ap unlent_part free in
        omega (arith, same, a, b)

    waits_lower : (w v : ℕ) → WaitsOn m s w v → height v < height w
    waits_lower w v (last waits) = lower w v (goes_down w v waits)
    waits_lower w v (next {u = u} waits on) = let a = lower w u (goes_down w u waits) in let b = waits_lower u v on in omega (arith, a, b)

    no_circle : (w : ℕ) → WaitsOn m s w w → ⊥
    no_circle w waits = let less = waits_lower w w waits in absurd (omega (arith, less))

pub waiting_goes_down : (F : Type 0) → WaitingGoesDown F
waiting_goes_down F = record {
  down = λ m cache places events s w v is there ran work waits. goes_down m cache places events s is there ran work w v waits;
  circle = λ m cache places events s w is there ran work waits. no_circle m cache places events s is there ran work w waits;
}
