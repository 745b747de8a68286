-- What a worker holds that is somewhere in its work.
use Rattle.std.proofs.Common.{◌≡◌, ℕ, suc, ◌+◌, ◌<◌, ◌≤◌, ◌==◌, true, false, if◌then◌else◌, List, [], ◌∷◌, ◌++◌, length, refl, sym, ap, ◌∙◌, arith, subst}
use Rattle.std.specs.List.{AllByRecursion}
use Rattle.std.proofs.lemmas.List.{length-append}
use Rattle.fv_plane.specs.declared.key.Key.{Key}
use Rattle.clip_graph.specs.Plan.{Application, IsPlan, input_keys}
use Rattle.inst_table.specs.declared.place.Place.{Place}
use Rattle.serve_machine.specs.declared.event.Event.{Event}
use Rattle.serve_machine.specs.declared.event.Event.TheVariants.{Enter, Leave, Take}
use Rattle.serve_machine.specs.Events.{frame_key, mode_at, instance_of, own_events}
use Rattle.serve_machine.specs.SerialRun.{leases}
use Rattle.serve_machine.specs.Work.{Productions, done, more, CutShort, refused, inside, entered, unpublished, CutInputs, between, within, Deliveries, untaken, taken, AllPast, IsIdle, nothing}
use Rattle.serve_machine.specs.Machine.{place_named}
use Rattle.serve_machine.specs.Holdings.{Holdings, holdings_after, own_holdings}
use Rattle.serve_machine.proofs.ClosingLemmas.{holdings_after-append, work_closes}
use Rattle.serve_machine.proofs.HoldingLemmas.{own_events_tell}
use Rattle.run_moves.specs.Moves.{InWork, midway, ready, newest_node, WorkersHoldLittle}
use Rattle.run_moves.proofs.InputLemmas.{depth_at, IsInput, most_below, inputs_are, depth_is, all_left, all_next}

-- each claim is of an earlier node than the one before
abbrev pub Falls : ℕ → List Key → Type 0
Falls i [] = Unit {0}
Falls i (k ∷ ks) = (k.node < i) × Falls k.node ks

pub newest-push : (i : ℕ) (ks : List Key) (k : Key) → newest_node i (ks ++ k ∷ []) ≡ k.node
newest-push i [] k = refl
newest-push i (j ∷ ks) k = newest-push j.node ks k

pub falls-push : (i : ℕ) (ks : List Key) (k : Key) → k.node < newest_node i ks → Falls i ks → Falls i (ks ++ k ∷ [])
falls-push i [] k less falls = (less, tt)
falls-push i (j ∷ ks) k less falls = (falls.0, falls-push j.node ks k less falls.1)

pub newest_low : (i : ℕ) (ks : List Key) → Falls i ks → newest_node i ks ≤ i
newest_low i [] falls = omega arith
newest_low i (k ∷ ks) falls = let ih = newest_low k.node ks falls.1 in let less = falls.0 in omega (arith, ih, less)

pub falls_past : (i j : ℕ) (ks : List Key) → j < newest_node i ks → Falls i ks → AllPast j ks
falls_past i j [] less falls = tt
falls_past i j (k ∷ ks) less falls = let low = newest_low k.node ks falls.1 in (omega (arith, low, less), falls_past k.node j ks less falls.1)

-- the holdings with one claim more
abbrev pub claimed : Holdings → Key → Holdings
claimed h k = record h { claims = h.claims ++ k ∷ [] }

-- work on a node before i may begin with these holdings
pub record IsReady (plan : List Application) (i : ℕ) (h : Holdings) : Type 0 where
  pub falls : Falls (length plan) h.claims
  pub low : i ≤ newest_node (length plan) h.claims
  pub unlent : h.leases ≡ []

-- an instance that is out is of the newest claim's node
pub data LeasesAt (plan : List Application) (w i : ℕ) : List Place → Type 0 where
  none : LeasesAt plan w i []
  one : LeasesAt plan w i (place_named plan i (instance_of plan w i) ∷ [])

-- what work of a depth adds to what a worker held before
pub record Holds (plan : List Application) (w depth : ℕ) (h g : Holdings) : Type 0 where
  pub falls : Falls (length plan) g.claims
  pub few : length g.claims ≤ length h.claims + depth
  pub lent : LeasesAt plan w (newest_node (length plan) g.claims) g.leases
  pub outputs : g.outputs ≡ h.outputs

-- a worker that took these outputs
abbrev pub took : List ℕ → Holdings
took ns = record nothing { outputs = ns }

module _ (plan : List Application) (w : ℕ) (is : IsPlan plan) where
  pub idle_of : (k : Key) (h : Holdings) → IsReady plan (suc k.node) h → IsIdle k.node h
  idle_of k h r = let low = r.low in record { past = falls_past (length plan) k.node h.claims (omega (arith, low)) r.falls; unlent = r.unlent }

  pub ready_claimed : (k : Key) (h : Holdings) → IsReady plan (suc k.node) h → IsReady plan k.node (claimed h k)
  ready_claimed k h r = let low = r.low in let new = newest-push (length plan) h.claims k in record {
    falls = falls-push (length plan) h.claims k (omega (arith, low)) r.falls;
    low = omega (arith, new);
    unlent = r.unlent;
  }

  pub ready_below : (i j : ℕ) (h : Holdings) → j ≤ i → IsReady plan i h → IsReady plan j h
  ready_below i j h less r = let low = r.low in record { falls = r.falls; low = omega (arith, low, less); unlent = r.unlent }

  -- inputs that are produced leave what the worker had before
  pub produced : (i most : ℕ) (ks : List Key) (es : List Event) (h : Holdings) → i ≤ length plan → AllByRecursion (IsInput plan i most) ks → IsReady plan i h
      → Productions plan w ks es → holdings_after plan h es ≡ h
  produced i most ks es h few all r (done) = refl
  produced i most _ _ h few all r (more {k = k} {ks = ks} {es = es} {fs = fs} p q) =
      let less = ((all.0).below).node in
      holdings_after-append plan h es fs
      ∙ (ap (λ g. holdings_after plan g fs) (work_closes.production plan w k es h is (omega (arith, less, few)) (idle_of k h (ready_below i (suc k.node) h (omega (arith, less)) r)) p)
      ∙ produced i most ks fs h few all.1 r q)

  pub inputs_produced : (k : Key) (es : List Event) (h : Holdings) → k.node < length plan → IsReady plan (suc k.node) h → Productions plan w (input_keys plan k) es
      → holdings_after plan (claimed h k) es ≡ claimed h k
  inputs_produced k es h there r p = produced k.node (most_below plan k) (input_keys plan k) es (claimed h k) (omega arith) (inputs_are plan k is there) (ready_claimed k h r) p

  pub after_leases : (i : ℕ) (h : Holdings) → h.leases ≡ [] → holdings_after plan h (leases plan w i) ≡ h
  after_leases i h unlent = elim (mode_at plan i == 1) as
      (λ b. holdings_after plan h (if b then [] else Enter w i (instance_of plan w i) ∷ Leave w i (instance_of plan w i) ∷ []) ≡ h)
      [ true ↦ refl | false ↦ λ z. record h { leases = sym unlent z } ]

  holds_same : (d i : ℕ) (h : Holdings) → IsReady plan i h → Holds plan w d h h
  holds_same d i h r = record { falls = r.falls; few = omega arith; lent = subst (LeasesAt plan w (newest_node (length plan) h.claims)) (sym r.unlent) none; outputs = refl }

  holds_claim : (d : ℕ) (k : Key) (h : Holdings) → IsReady plan (suc k.node) h → Holds plan w (d + 1) h (claimed h k)
  holds_claim d k h r = let few = length-append h.claims (k ∷ []) in let on = ready_claimed k h r in record {
    falls = on.falls;
    few = omega (arith, few);
    lent = subst (LeasesAt plan w (newest_node (length plan) (claimed h k).claims)) (sym on.unlent) none;
    outputs = refl;
  }

  mutual
    pub short_holds : (k : Key) (es closing : List Event) (h : Holdings) → k.node < length plan → IsReady plan (suc k.node) h → CutShort plan w k es closing
        → Holds plan w (depth_at plan k.node) h (holdings_after plan h es)
    short_holds k es closing h there r (refused) = holds_same (depth_at plan k.node) (suc k.node) h r
    short_holds k _ _ h there r (inside {es = es} {closing = closing} c) =
        let rest = inputs_hold k.node (most_below plan k) (input_keys plan k) es closing (claimed h k) (omega arith) (inputs_are plan k is there) (ready_claimed k h r) c in
        let long = length-append h.claims (k ∷ []) in let deep = depth_is plan k is there in let few = rest.few in
        record { falls = rest.falls; few = omega (arith, long, deep, few); lent = rest.lent; outputs = rest.outputs }
    short_holds k _ _ h there r (entered {es = es} needed p) =
        let long = length-append h.claims (k ∷ []) in let deep = depth_is plan k is there in
        subst (Holds plan w (depth_at plan k.node) h)
        (sym (holdings_after-append plan (claimed h k) es (Enter w k.node (instance_of plan w k.node) ∷ []) ∙ ap (λ g. holdings_after plan g (Enter w k.node (instance_of plan w k.node) ∷ [])) (inputs_produced k es h there r p)))
        (record {
          falls = (ready_claimed k h r).falls;
          few = omega (arith, long, deep);
          lent = subst (λ i. LeasesAt plan w i (place_named plan k.node (instance_of plan w k.node) ∷ [])) (sym (newest-push (length plan) h.claims k)) one;
          outputs = refl;
        })
    short_holds k _ _ h there r (unpublished {es = es} p) =
        let deep = depth_is plan k is there in
        subst (Holds plan w (depth_at plan k.node) h)
        (sym (holdings_after-append plan (claimed h k) es (leases plan w k.node) ∙ (ap (λ g. holdings_after plan g (leases plan w k.node)) (inputs_produced k es h there r p) ∙ after_leases k.node (claimed h k) r.unlent)))
        (subst (λ d. Holds plan w d h (claimed h k)) (sym deep) (holds_claim (most_below plan k) k h r))

    pub inputs_hold : (i most : ℕ) (all : List Key) (es closing : List Event) (h : Holdings) → i ≤ length plan → AllByRecursion (IsInput plan i most) all → IsReady plan i h
        → CutInputs plan w all es closing → Holds plan w most h (holdings_after plan h es)
    inputs_hold i most all es _ h few each r (between {ks = ks} js e p) =
        subst (Holds plan w most h) (sym (produced i most ks es h few (all_left (IsInput plan i most) ks js all e each) r p)) (holds_same most i h r)
    inputs_hold i most all _ _ h few each r (within {ks = ks} {j = j} {es = es} {fs = fs} {closing = closing} js e p c) =
        let input = all_next (IsInput plan i most) ks j js all e each in
        let less = (input.below).node in
        let rest = short_holds j fs closing h (omega (arith, less, few)) (ready_below i (suc j.node) h (omega (arith, less)) r) c in
        let deep = input.depth in let fewer = rest.few in
        subst (Holds plan w most h)
        (sym (holdings_after-append plan h es fs ∙ ap (λ g. holdings_after plan g fs) (produced i most ks es h few (all_left (IsInput plan i most) ks (j ∷ js) all e each) r p)))
        (record { falls = rest.falls; few = omega (arith, deep, fewer); lent = rest.lent; outputs = rest.outputs })

  pub ready_took : (root : ℕ) (ns : List ℕ) → root < length plan → IsReady plan (suc root) (took ns)
  ready_took root ns there = record { falls = tt; low = omega arith; unlent = refl }

  pub after_taken : (root n : ℕ) (ns : List ℕ) (es fs : List Event) → root < length plan → Deliveries plan root w ns es
      → own_holdings plan (es ++ Take w n ∷ fs) ≡ holdings_after plan (took (n ∷ [])) fs
  after_taken root n ns es fs there p = holdings_after-append plan nothing es (Take w n ∷ fs)
      ∙ ap (λ g. holdings_after plan g (Take w n ∷ fs)) (work_closes.deliveries plan root w ns es is there p)

  -- all that a worker in its work holds
  pub record Seat (root : ℕ) (g : Holdings) : Type 0 where
    pub outputs : List ℕ
    pub few : length outputs ≤ 1
    pub holds : Holds plan w (depth_at plan root) (took outputs) g

  pub seated : (root : ℕ) (es : List Event) → root < length plan → InWork plan root w es → Seat root (own_holdings plan es)
  seated root es there (midway (untaken {ns = ns} p)) =
      subst (Seat root) (sym (work_closes.deliveries plan root w ns es is there p))
      (record { outputs = []; few = omega arith; holds = holds_same (depth_at plan root) (suc root) (took []) (ready_took root [] there) })
  seated root _ there (midway (taken {ns = ns} {es = es} {fs = fs} {closing = closing} {n = n} p c)) =
      subst (Seat root) (sym (after_taken root n ns es fs there p))
      (record { outputs = n ∷ []; few = omega arith; holds = short_holds (frame_key root n) fs closing (took (n ∷ [])) there (ready_took root (n ∷ []) there) c })
  seated root _ there (ready {ns = ns} {es = es} {fs = fs} {n = n} p q) =
      subst (Seat root) (sym (after_taken root n ns es fs there p
      ∙ work_closes.production plan w (frame_key root n) fs (took (n ∷ [])) is there (record { past = tt; unlent = refl }) q))
      (record { outputs = n ∷ []; few = omega arith; holds = holds_same (depth_at plan root) (suc root) (took (n ∷ [])) (ready_took root (n ∷ []) there) })

few_leases : {plan : List Application} {w i : ℕ} {ps : List Place} → LeasesAt plan w i ps → length ps ≤ 1
few_leases none = omega arith
few_leases one = omega arith

pub workers_hold_little : (F : Type 0) → WorkersHoldLittle F
workers_hold_little F m cache places events s w is there ran work =
    let told = (own_events_tell F).told m cache places events s w ran in
    let seat = subst (Seat m.fixed.plan w is m.fixed.root) told.holdings (seated m.fixed.plan w is m.fixed.root (own_events w events) there work) in
    let few = seat.few in let same = ap length (seat.holds).outputs in let held = (seat.holds).few in
    record {
      claims = omega (arith, held);
      leases = few_leases (seat.holds).lent;
      outputs = omega (arith, few, same);
    }
