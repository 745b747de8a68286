-- Work is bounded.
use Rattle.std.proofs.Common.{◌≡◌, ◌⊎◌, inl, inr, ℕ, zero, suc, ◌+◌, ◌*◌, ◌<◌, ◌≤◌, ◌==◌, nat_lt, true, false, ◌&&◌, if◌then◌else◌, List, [], ◌∷◌, ◌++◌, length, slice_get, Option, Some, None, refl, sym, ap, ◌∙◌, arith, subst, ⊎_elim, eq-eqb, ne_eqb, append_assoc}
use Rattle.std.specs.Prelude.{is_some}
use Rattle.std.specs.List.{AllByRecursion, list_all}
use Rattle.std.proofs.lemmas.Bool.{eqb-true, ltb-true, cases_lt}
use Rattle.std.proofs.lemmas.List.{length-append, append-nil}
use Rattle.fv_plane.specs.declared.key.Key.{Key}
use Rattle.clip_graph.specs.Plan.{Application, IsPlan, input_keys}
use Rattle.inst_table.specs.declared.place.Place.{Place}
use Rattle.serve_machine.specs.declared.event.Event.{Event}
use Rattle.serve_machine.specs.declared.event.Event.TheVariants.{Hit, Claim, Enter, Leave, Evict, Publish, Abandon, Take, Deliver, Fail}
use Rattle.serve_machine.specs.Events.{worker_of, frame_key, mode_at, instance_of, own_events}
use Rattle.serve_machine.specs.SerialRun.{eviction, leases}
use Rattle.serve_machine.specs.Work.{Production, hit, made, Productions, done, more, CutShort, refused, inside, entered, unpublished, CutInputs, between, within, Deliveries, none, also, CutDeliveries, untaken, taken, failed as failed_work}
use Rattle.serve_machine.proofs.KeyLemmas.{test, left_true, right_true}
use Rattle.serve_machine.specs.Law.{start_of}
use Rattle.serve_machine.specs.Machine.{Machine, in_turn, meets, allowed, change, replay, State, is_running}
use Rattle.serve_machine.proofs.TruthLemmas.{some_same}
use Rattle.run_moves.specs.Moves.{InWork, midway, ready}
use Rattle.run_moves.specs.Waiting.{AllInWork}
use Rattle.run_moves.specs.Moving.{IsTurn, single, evicts, CanRender, IsUnderWay, Moves}
use Rattle.run_moves.specs.Bounds.{sum_over, tree_within, tree_size, output_events, window_events, sum_of, claim_cost, eviction_cost, IsClosed, closed, failed, most_events, most_stopped, Ends, WorkIsBounded}
use Rattle.run_moves.proofs.InputLemmas.{depth_at, depth_is, IsInput, most_below, inputs_are, all_left, all_next}
use Rattle.run_moves.proofs.WaitLemmas.{in_work, own_none}
use Rattle.run_moves.proofs.MoveLemmas.{someone_moves}

-- SUMS

sum_of-append : (f : Event → ℕ) (es fs : List Event) → sum_of f (es ++ fs) ≡ sum_of f es + sum_of f fs
sum_of-append f [] fs = omega arith
sum_of-append f (e ∷ es) fs = let ih = sum_of-append f es fs in omega (arith, ih)

sum_over-append : (f : Key → ℕ) (ks js : List Key) → sum_over f (ks ++ js) ≡ sum_over f ks + sum_over f js
sum_over-append f [] js = omega arith
sum_over-append f (k ∷ ks) js = let ih = sum_over-append f ks js in omega (arith, ih)

sum_of-add : (f g : Event → ℕ) (es : List Event) → sum_of (λ e. f e + g e) es ≡ sum_of f es + sum_of g es
sum_of-add f g [] = omega arith
sum_of-add f g (e ∷ es) = let ih = sum_of-add f g es in omega (arith, ih)

-- ALL WORKERS

-- the sum over the workers below a number
abbrev upto : ℕ → (ℕ → ℕ) → ℕ
upto zero x = 0
upto (suc n) x = upto n x + x n

upto_past : (n v c : ℕ) (x y : ℕ → ℕ) → n ≤ v → ((w : ℕ) → y w ≡ (if v == w then c + x w else x w)) → upto n y ≡ upto n x
upto_past zero v c x y past each = refl
upto_past (suc n) v c x y past each =
    let ih = upto_past n v c x y (omega (arith, past)) each in
    let apart : (v == n) ≡ false = ne_eqb v n (λ e. omega (arith, past, e)) in
    let here : y n ≡ x n = each n ∙ rw apart refl in
    omega (arith, ih, here)

upto_more : (n v c : ℕ) (x y : ℕ → ℕ) → v < n → ((w : ℕ) → y w ≡ (if v == w then c + x w else x w)) → upto n y ≡ c + upto n x
upto_more zero v c x y less each = absurd (omega (arith, less))
upto_more (suc n) v c x y less each = ⊎_elim
    (λ (e : (v == n) ≡ true).
    let is = eqb-true v n e in
    let rest = upto_past n v c x y (omega (arith, is)) each in
    let here : y n ≡ c + x n = each n ∙ rw e refl in
    omega (arith, rest, here))
    (λ (e : (v == n) ≡ false).
    let ih = upto_more n v c x y (below e) each in
    let here : y n ≡ x n = each n ∙ rw e refl in
    omega (arith, ih, here)) (test (v == n))
  where
    below : (v == n) ≡ false → v < n
    below e = let differs : v ≡ n → ⊥ = λ is. let yes' = eq-eqb v n is in let bad : true ≡ false = sym yes' ∙ e in absurd (cc) in grind (arith, less, differs)

upto_most : (n : ℕ) (x y : ℕ → ℕ) → ((w : ℕ) → x w ≤ y w) → upto n x ≤ upto n y
upto_most zero x y each = omega arith
upto_most (suc n) x y each = let ih = upto_most n x y each in let here = each n in omega (arith, ih, here)

own_sum : (f : Event → ℕ) (n : ℕ) (es : List Event) → AllByRecursion (λ e. worker_of e < n) es → upto n (λ w. sum_of f (own_events w es)) ≡ sum_of f es
own_sum f n [] all = zeros n
  where
    zeros : (n : ℕ) → upto n (λ w. 0) ≡ 0
    zeros zero = refl
    zeros (suc n) = let ih = zeros n in omega (arith, ih)
own_sum f n (e ∷ es) all =
    let ih = own_sum f n es all.1 in
    let step = upto_more n (worker_of e) (f e) (λ w. sum_of f (own_events w es)) (λ w. sum_of f (own_events w (e ∷ es))) all.0 each in
    omega (arith, ih, step)
  where
    each : (w : ℕ) → sum_of f (own_events w (e ∷ es)) ≡ (if worker_of e == w then f e + sum_of f (own_events w es) else sum_of f (own_events w es))
    each w = elim (worker_of e == w) as (λ b. sum_of f (if b then e ∷ own_events w es else own_events w es) ≡ (if b then f e + sum_of f (own_events w es) else sum_of f (own_events w es))) [ true ↦ refl | false ↦ refl ]

length_sum : (es : List Event) → sum_of (λ e. 1) es ≡ length es
length_sum [] = refl
length_sum (e ∷ es) = let ih = length_sum es in omega (arith, ih)

-- what bounds each worker's own events bounds all
all_bounded : (f : Event → ℕ) (n : ℕ) (es : List Event) → AllByRecursion (λ e. worker_of e < n) es → ((w : ℕ) → length (own_events w es) ≤ sum_of f (own_events w es)) → length es ≤ sum_of f es
all_bounded f n es all each =
    let a = own_sum (λ e. 1) n es all in let b = own_sum f n es all in let l = length_sum es in
    let most = upto_most n (λ w. sum_of (λ e. 1) (own_events w es)) (λ w. sum_of f (own_events w es)) (λ w. let long = length_sum (own_events w es) in let here = each w in omega (arith, long, here)) in
    omega (arith, a, b, l, most)

upto_plus : (n c : ℕ) (x : ℕ → ℕ) → upto n (λ w. x w + c) ≡ upto n x + n * c
upto_plus zero c x = grind arith
upto_plus (suc n) c x = let ih = upto_plus n c x in grind (arith, ih)

-- and so with so many more for each worker
all_nearly : (f : Event → ℕ) (n c : ℕ) (es : List Event) → AllByRecursion (λ e. worker_of e < n) es → ((w : ℕ) → length (own_events w es) ≤ sum_of f (own_events w es) + c) → length es ≤ sum_of f es + n * c
all_nearly f n c es all each =
    let a = own_sum (λ e. 1) n es all in let b = own_sum f n es all in let l = length_sum es in
    let plus = upto_plus n c (λ w. sum_of f (own_events w es)) in
    let most = upto_most n (λ w. sum_of (λ e. 1) (own_events w es)) (λ w. sum_of f (own_events w es) + c) (λ w. let long = length_sum (own_events w es) in let here = each w in omega (arith, long, here)) in
    omega (arith, a, b, l, most, plus)

-- WHAT A TAKE PAYS FOR

-- a cost of outputs by their numbers
abbrev on_take : (ℕ → ℕ) → Event → ℕ
on_take f (Take w n) = f n
on_take f (Hit w k) = 0
on_take f (Claim w k) = 0
on_take f (Enter w i j) = 0
on_take f (Leave w i j) = 0
on_take f (Evict w k) = 0
on_take f (Publish w k) = 0
on_take f (Abandon w k) = 0
on_take f (Deliver w n) = 0
on_take f (Fail w why) = 0

module _ {F : Type 0} (m : Machine F) where
  within_run : (es : List Event) (s t : State F) → replay m s es ≡ Some t → AllByRecursion (λ e. worker_of e < m.fixed.workers) es
  within_run [] s t ran = tt
  within_run (e ∷ es) s t ran = ⊎_elim
      (λ (ok : allowed m s e ≡ true). (
        ltb-true (worker_of e) m.fixed.workers (left_true (nat_lt (worker_of e) m.fixed.workers) (meets m s e) (right_true (in_turn s.awaits e) (nat_lt (worker_of e) m.fixed.workers && meets m s e) ok)),
        within_run es (change m s e) t (rw ok at ran),
      ))
      (λ (bad : allowed m s e ≡ false). let nowhere : None ≡ Some t = rw bad at ran in absurd (cc)) (test (allowed m s e))

  met_of : (s : State F) (e : Event) → allowed m s e ≡ true → meets m s e ≡ true
  met_of s e ok = right_true (nat_lt (worker_of e) m.fixed.workers) (meets m s e) (right_true (in_turn s.awaits e) (nat_lt (worker_of e) m.fixed.workers && meets m s e) ok)

  -- a sum over the outputs from the first on grows with each that is taken
  module _ (f g : ℕ → ℕ) (grows : (n : ℕ) → g (suc n) ≡ g n + f (m.fixed.first + n)) where
    taken_step : (s : State F) (e : Event) → meets m s e ≡ true → on_take f e + g (length s.taken) ≡ g (length (change m s e).taken)
    taken_step s (Take w n) ok =
        let next : n ≡ m.fixed.first + length s.taken = eqb-true _ _ (left_true _ _ (left_true _ _ ok)) in
        let l : length (s.taken ++ w ∷ []) ≡ suc (length s.taken) = let a = length-append s.taken (w ∷ []) in omega (arith, a) in
        let more' = grows (length s.taken) in
        let here = ap f next in
        let there = ap g l in
        omega (arith, more', here, there)
    taken_step s (Hit w k) ok = omega arith
    taken_step s (Claim w k) ok = omega arith
    taken_step s (Enter w i j) ok = omega arith
    taken_step s (Leave w i j) ok = omega arith
    taken_step s (Evict w k) ok = omega arith
    taken_step s (Publish w k) ok = omega arith
    taken_step s (Abandon w k) ok = omega arith
    taken_step s (Deliver w n) ok = omega arith
    taken_step s (Fail w why) ok = omega arith

    taken_sum : (es : List Event) (s t : State F) → replay m s es ≡ Some t → sum_of (on_take f) es + g (length s.taken) ≡ g (length t.taken)
    taken_sum [] s t ran = let same = ap (λ (x : State F). g (length x.taken)) (some_same ran) in omega (arith, same)
    taken_sum (e ∷ es) s t ran = ⊎_elim
        (λ (ok : allowed m s e ≡ true).
        let ih = taken_sum es (change m s e) t (rw ok at ran) in
        let step = taken_step s e (met_of s e ok) in
        omega (arith, ih, step))
        (λ (bad : allowed m s e ≡ false). let nowhere : None ≡ Some t = rw bad at ran in absurd (cc)) (test (allowed m s e))

  -- no more outputs are taken than the window has
  few_step : (s : State F) (e : Event) → meets m s e ≡ true → length s.taken ≤ m.fixed.count → length (change m s e).taken ≤ m.fixed.count
  few_step s (Take w n) ok few =
      let next = n == m.fixed.first + length s.taken in
      let less : length s.taken < m.fixed.count = ltb-true (length s.taken) m.fixed.count (right_true next (nat_lt (length s.taken) m.fixed.count) (left_true (next && nat_lt (length s.taken) m.fixed.count) (is_running s) ok)) in
      let l = length-append s.taken (w ∷ []) in omega (arith, less, l)
  few_step s (Hit w k) ok few = few
  few_step s (Claim w k) ok few = few
  few_step s (Enter w i j) ok few = few
  few_step s (Leave w i j) ok few = few
  few_step s (Evict w k) ok few = few
  few_step s (Publish w k) ok few = few
  few_step s (Abandon w k) ok few = few
  few_step s (Deliver w n) ok few = few
  few_step s (Fail w why) ok few = few

  few_taken : (es : List Event) (s t : State F) → length s.taken ≤ m.fixed.count → replay m s es ≡ Some t → length t.taken ≤ m.fixed.count
  few_taken [] s t few ran = subst (λ (x : State F). length x.taken ≤ m.fixed.count) (some_same ran) few
  few_taken (e ∷ es) s t few ran = ⊎_elim
      (λ (ok : allowed m s e ≡ true). few_taken es (change m s e) t (few_step s e (right_true _ _ (right_true _ _ ok)) few) (rw ok at ran))
      (λ (bad : allowed m s e ≡ false). let nowhere : None ≡ Some t = rw bad at ran in absurd (cc)) (test (allowed m s e))

window_grows : (plan : List Application) (root first n m : ℕ) → n ≤ m → window_events plan root first n ≤ window_events plan root first m
window_grows plan root first n zero less = let is : n ≡ 0 = omega (arith, less) in let same = ap (window_events plan root first) is in omega (arith, same)
window_grows plan root first n (suc m) less = ⊎_elim
    (λ (low : n < suc m). let ih = window_grows plan root first n m (omega (arith, low)) in omega (arith, ih))
    (λ (high : suc m ≤ n). let is : n ≡ suc m = omega (arith, less, high) in let same = ap (window_events plan root first) is in omega (arith, same)) (cases_lt n (suc m))

-- THE EVENTS OF ONE KEY

leases_few : (plan : List Application) (w i : ℕ) → length (leases plan w i) ≤ 2
leases_few plan w i = ⊎_elim
    (λ (e : (mode_at plan i == 1) ≡ true). rw e (omega arith))
    (λ (e : (mode_at plan i == 1) ≡ false). rw e (omega arith)) (test (mode_at plan i == 1))

eviction_few : (w : ℕ) (gone : Option Key) → length (eviction w gone) ≤ 1
eviction_few w None = omega arith
eviction_few w (Some k) = omega arith

made_length : (plan : List Application) (w : ℕ) (k : Key) (gone : Option Key) (es : List Event)
    → length (es ++ (leases plan w k.node ++ (eviction w gone ++ Publish w k ∷ []))) ≡ length es + (length (leases plan w k.node) + (length (eviction w gone) + 1))
made_length plan w k gone es =
    let a = length-append es (leases plan w k.node ++ (eviction w gone ++ Publish w k ∷ [])) in
    let b = length-append (leases plan w k.node) (eviction w gone ++ Publish w k ∷ []) in
    let c = length-append (eviction w gone) (Publish w k ∷ []) in omega (arith, a, b, c)

module _ (plan : List Application) (w : ℕ) (is : IsPlan plan) where
  mutual
    production_most : (most : ℕ) (k : Key) (es : List Event) → k.node < most → k.node < length plan → Production plan w k es → length es ≤ 5 * tree_within most plan k
    production_most zero k es low there p = absurd (omega (arith, low))
    production_most (suc most) k _ low there (hit) = omega arith
    production_most (suc most) k _ low there (made {es = es} gone p) =
        let ih = productions_most most k.node (most_below plan k) (input_keys plan k) es (omega (arith, low)) (omega (arith, there)) (inputs_are plan k is there) p in
        let l = made_length plan w k gone es in let a = leases_few plan w k.node in let b = eviction_few w gone in
        omega (arith, ih, l, a, b)

    productions_most : (most i deep : ℕ) (ks : List Key) (es : List Event) → i ≤ most → i ≤ length plan → AllByRecursion (IsInput plan i deep) ks → Productions plan w ks es
        → length es ≤ 5 * sum_over (tree_within most plan) ks
    productions_most most i deep ks es low few all (done) = omega arith
    productions_most most i deep _ _ low few all (more {k = k} {ks = ks} {es = es} {fs = fs} p q) =
        let less = ((all.0).below).node in
        let a = production_most most k es (omega (arith, less, low)) (omega (arith, less, few)) p in
        let b = productions_most most i deep ks fs low few all.1 q in
        let l = length-append es fs in omega (arith, a, b, l)

  mutual
    short_most : (most : ℕ) (k : Key) (es closing : List Event) → k.node < most → k.node < length plan → CutShort plan w k es closing → length es ≤ 5 * tree_within most plan k
    short_most zero k es closing low there c = absurd (omega (arith, low))
    short_most (suc most) k _ _ low there (refused) = omega arith
    short_most (suc most) k _ _ low there (inside {es = es} {closing = closing} c) =
        let ih = inputs_most most k.node (most_below plan k) (input_keys plan k) es closing (omega (arith, low)) (omega (arith, there)) (inputs_are plan k is there) c in omega (arith, ih)
    short_most (suc most) k _ _ low there (entered {es = es} needed p) =
        let ih = productions_most most k.node (most_below plan k) (input_keys plan k) es (omega (arith, low)) (omega (arith, there)) (inputs_are plan k is there) p in
        let l = length-append es (Enter w k.node (instance_of plan w k.node) ∷ []) in omega (arith, ih, l)
    short_most (suc most) k _ _ low there (unpublished {es = es} p) =
        let ih = productions_most most k.node (most_below plan k) (input_keys plan k) es (omega (arith, low)) (omega (arith, there)) (inputs_are plan k is there) p in
        let l = length-append es (leases plan w k.node) in let a = leases_few plan w k.node in omega (arith, ih, l, a)

    inputs_most : (most i deep : ℕ) (all : List Key) (es closing : List Event) → i ≤ most → i ≤ length plan → AllByRecursion (IsInput plan i deep) all → CutInputs plan w all es closing
        → length es ≤ 5 * sum_over (tree_within most plan) all
    inputs_most most i deep all es _ low few each (between {ks = ks} js e p) =
        let a = productions_most most i deep ks es low few (all_left (IsInput plan i deep) ks js all e each) p in
        let total = ap (sum_over (tree_within most plan)) e ∙ sum_over-append (tree_within most plan) ks js in omega (arith, a, total)
    inputs_most most i deep all _ _ low few each (within {ks = ks} {j = j} {es = es} {fs = fs} {closing = closing} js e p c) =
        let input = all_next (IsInput plan i deep) ks j js all e each in
        let less = (input.below).node in
        let a = productions_most most i deep ks es low few (all_left (IsInput plan i deep) ks (j ∷ js) all e each) p in
        let b = short_most most j fs closing (omega (arith, less, low)) (omega (arith, less, few)) c in
        let total = ap (sum_over (tree_within most plan)) e ∙ sum_over-append (tree_within most plan) ks (j ∷ js) in
        let l = length-append es fs in omega (arith, a, b, total, l)

-- what closes work that was cut short
module _ (plan : List Application) (w : ℕ) (is : IsPlan plan) where
  mutual
    short_closes : (k : Key) (es closing : List Event) → k.node < length plan → CutShort plan w k es closing → length closing ≤ depth_at plan k.node + 1
    short_closes k _ _ there (refused) = omega arith
    short_closes k _ _ there (inside {es = es} {closing = closing} c) =
        let ih = inputs_close k.node (most_below plan k) (input_keys plan k) es closing (omega (arith, there)) (inputs_are plan k is there) c in
        let l = length-append closing (Abandon w k ∷ []) in let deep = depth_is plan k is there in omega (arith, ih, l, deep)
    short_closes k _ _ there (entered needed p) = let deep = depth_is plan k is there in omega (arith, deep)
    short_closes k _ _ there (unpublished p) = omega arith

    inputs_close : (i deep : ℕ) (all : List Key) (es closing : List Event) → i ≤ length plan → AllByRecursion (IsInput plan i deep) all → CutInputs plan w all es closing → length closing ≤ deep + 1
    inputs_close i deep all es _ few each (between js e p) = omega arith
    inputs_close i deep all _ _ few each (within {ks = ks} {j = j} {fs = fs} {closing = closing} js e p c) =
        let input = all_next (IsInput plan i deep) ks j js all e each in
        let less = (input.below).node in let low = input.depth in
        let ih = short_closes j fs closing (omega (arith, less, few)) c in omega (arith, ih, low)

-- BY CLAIMS AND EVICTIONS

abbrev paid : List Application → Event → ℕ
paid plan e = on_take (λ n. 3) e + (claim_cost plan e + eviction_cost e)

module _ (plan : List Application) (w : ℕ) where
  eviction_paid : (gone : Option Key) → length (eviction w gone) ≤ sum_of (paid plan) (eviction w gone)
  eviction_paid None = omega arith
  eviction_paid (Some k) = omega arith

  made_paid : (k : Key) (gone : Option Key) (es : List Event) → sum_of (paid plan) es + sum_of (paid plan) (eviction w gone) ≤ sum_of (paid plan) (es ++ (leases plan w k.node ++ (eviction w gone ++ Publish w k ∷ [])))
  made_paid k gone es =
      let a = sum_of-append (paid plan) es (leases plan w k.node ++ (eviction w gone ++ Publish w k ∷ [])) in
      let b = sum_of-append (paid plan) (leases plan w k.node) (eviction w gone ++ Publish w k ∷ []) in
      let c = sum_of-append (paid plan) (eviction w gone) (Publish w k ∷ []) in omega (arith, a, b, c)

  mutual
    production_paid : (k : Key) (es : List Event) → Production plan w k es → length es ≤ 1 + sum_of (paid plan) es
    production_paid k _ (hit) = omega arith
    production_paid k _ (made {es = es} gone p) =
        let ih = productions_paid (input_keys plan k) es p in
        let l = made_length plan w k gone es in let a = leases_few plan w k.node in let b = eviction_paid gone in let c = made_paid k gone es in
        omega (arith, ih, l, a, b, c)

    productions_paid : (ks : List Key) (es : List Event) → Productions plan w ks es → length es ≤ length ks + sum_of (paid plan) es
    productions_paid ks es (done) = omega arith
    productions_paid _ _ (more {k = k} {ks = ks} {es = es} {fs = fs} p q) =
        let a = production_paid k es p in let b = productions_paid ks fs q in
        let l = length-append es fs in let c = sum_of-append (paid plan) es fs in omega (arith, a, b, l, c)

  mutual
    short_paid : (k : Key) (es closing : List Event) → CutShort plan w k es closing → length es ≤ 1 + sum_of (paid plan) es
    short_paid k _ _ (refused) = omega arith
    short_paid k _ _ (inside {es = es} {closing = closing} c) = let ih = inputs_paid (input_keys plan k) es closing c in omega (arith, ih)
    short_paid k _ _ (entered {es = es} needed p) =
        let ih = productions_paid (input_keys plan k) es p in
        let l = length-append es (Enter w k.node (instance_of plan w k.node) ∷ []) in let c = sum_of-append (paid plan) es (Enter w k.node (instance_of plan w k.node) ∷ []) in omega (arith, ih, l, c)
    short_paid k _ _ (unpublished {es = es} p) =
        let ih = productions_paid (input_keys plan k) es p in
        let l = length-append es (leases plan w k.node) in let a = leases_few plan w k.node in let c = sum_of-append (paid plan) es (leases plan w k.node) in omega (arith, ih, l, a, c)

    inputs_paid : (all : List Key) (es closing : List Event) → CutInputs plan w all es closing → length es ≤ length all + sum_of (paid plan) es
    inputs_paid all es _ (between {ks = ks} js e p) =
        let a = productions_paid ks es p in let total = ap length e ∙ length-append ks js in omega (arith, a, total)
    inputs_paid all _ _ (within {ks = ks} {j = j} {es = es} {fs = fs} {closing = closing} js e p c) =
        let a = productions_paid ks es p in let b = short_paid j fs closing c in
        let total = ap length e ∙ length-append ks (j ∷ js) in
        let l = length-append es fs in let d = sum_of-append (paid plan) es fs in omega (arith, a, b, total, l, d)

-- THE EVENTS OF ONE WORKER

module _ (plan : List Application) (root w : ℕ) (cost : Event → ℕ) (part : ℕ → ℕ)
    (whole : (n : ℕ) (es : List Event) → Production plan w (frame_key root n) es → length es ≤ part n + sum_of cost es)
    (short : (n : ℕ) (es closing : List Event) → CutShort plan w (frame_key root n) es closing → length es ≤ part n + sum_of cost es)
    (pays : (n : ℕ) → 2 + part n ≤ cost (Take w n)) where
  deliveries_paid : (ns : List ℕ) (es : List Event) → Deliveries plan root w ns es → length es ≤ sum_of cost es
  deliveries_paid ns es (none) = omega arith
  deliveries_paid _ _ (also {n = n} {ns = ns} {es = es} {fs = fs} p q) =
      let a = whole n es p in let b = deliveries_paid ns fs q in let c = pays n in
      let l = length-append (es ++ Deliver w n ∷ []) fs in let k = length-append es (Deliver w n ∷ []) in
      let s = sum_of-append cost (es ++ Deliver w n ∷ []) fs in let t = sum_of-append cost es (Deliver w n ∷ []) in
      omega (arith, a, b, c, l, k, s, t)

  taken_paid : (ns : List ℕ) (n : ℕ) (es fs : List Event) → Deliveries plan root w ns es → length fs ≤ part n + sum_of cost fs → length (es ++ Take w n ∷ fs) ≤ sum_of cost (es ++ Take w n ∷ fs)
  taken_paid ns n es fs p few =
      let a = deliveries_paid ns es p in let c = pays n in
      let l = length-append es (Take w n ∷ fs) in let s = sum_of-append cost es (Take w n ∷ fs) in omega (arith, a, c, l, s, few)

  work_paid : (es : List Event) → InWork plan root w es → length es ≤ sum_of cost es
  work_paid es (midway (untaken {ns = ns} p)) = deliveries_paid ns es p
  work_paid _ (midway (taken {ns = ns} {es = es} {fs = fs} {closing = closing} {n = n} p c)) = taken_paid ns n es fs p (short n fs closing c)
  work_paid _ (ready {ns = ns} {es = es} {fs = fs} {n = n} p q) = taken_paid ns n es fs p (whole n fs q)

  -- what closes the work is no part of a cost of outputs
  module _ (is : IsPlan plan) (there : root < length plan) where
    cut_paid : (es closing : List Event) → CutDeliveries plan root w es closing → length (es ++ closing) ≤ sum_of cost (es ++ closing) + (depth_at plan root + 1)
    cut_paid es _ (untaken {ns = ns} p) = let a = work_paid es (midway (untaken p)) in let l = length-append es [] in let s = sum_of-append cost es [] in omega (arith, a, l, s)
    cut_paid _ _ (taken {ns = ns} {es = es} {fs = fs} {closing = closing} {n = n} p c) =
        let a = work_paid (es ++ Take w n ∷ fs) (midway (taken p c)) in
        let b = short_closes plan w is (frame_key root n) fs closing there c in
        let l = length-append (es ++ Take w n ∷ fs) closing in let s = sum_of-append cost (es ++ Take w n ∷ fs) closing in omega (arith, a, b, l, s)

    closed_paid : (es : List Event) → IsClosed plan root w es → length es ≤ sum_of cost es + (depth_at plan root + 2)
    closed_paid _ (closed {done = es} {closing = closing} c) = let a = cut_paid es closing c in omega (arith, a)
    closed_paid _ (failed {why = why} (failed_work {done = es} {closing = closing} c)) =
        let a = cut_paid es closing c in
        let l = length-append es closing in let s = sum_of-append cost es closing in
        let l' = length-append es (closing ++ Fail w why ∷ []) in let s' = sum_of-append cost es (closing ++ Fail w why ∷ []) in
        let l'' = length-append closing (Fail w why ∷ []) in let s'' = sum_of-append cost closing (Fail w why ∷ []) in
        omega (arith, a, l, s, l', s', l'', s'')

-- A WINDOW

-- what an output pays for besides its take and its delivery
abbrev output_part : List Application → ℕ → ℕ → ℕ
output_part plan root n = 5 * tree_size plan (frame_key root n)

module _ (plan : List Application) (root w : ℕ) where
  output_pays : (n : ℕ) → 2 + output_part plan root n ≤ on_take (output_events plan root) (Take w n)
  output_pays n = omega arith

  module _ (is : IsPlan plan) (there : root < length plan) where
    whole_bound : (n : ℕ) (es : List Event) → Production plan w (frame_key root n) es → length es ≤ output_part plan root n + sum_of (on_take (output_events plan root)) es
    whole_bound n es p = let a = production_most plan w is (suc root) (frame_key root n) es (omega arith) there p in omega (arith, a)

    short_bound : (n : ℕ) (es closing : List Event) → CutShort plan w (frame_key root n) es closing → length es ≤ output_part plan root n + sum_of (on_take (output_events plan root)) es
    short_bound n es closing c = let a = short_most plan w is (suc root) (frame_key root n) es closing (omega arith) there c in omega (arith, a)

find_open : {F : Type 0} → (fs : List (Option F)) → (list_all is_some fs ≡ true) ⊎ ((j : ℕ) × (slice_get fs j ≡ Some None))
find_open [] = inl refl
find_open (None ∷ fs) = inr (0, refl)
find_open (Some x ∷ fs) = ⊎_elim
    (λ (h : list_all is_some fs ≡ true). inl h)
    (λ (h : (j : ℕ) × (slice_get fs j ≡ Some None)). inr (suc h.0, h.1)) (find_open fs)

module _ {F : Type 0} (m : Machine F) (cache : List (Key × F)) (places : List Place) where
  module _ (events : List Event) (s : State F) (is : IsPlan m.fixed.plan) (there : m.fixed.root < length m.fixed.plan)
      (ran : replay m (start_of m cache places) events ≡ Some s) (work : AllInWork m events) where
    works : (w : ℕ) → InWork m.fixed.plan m.fixed.root w (own_events w events)
    works w = in_work m cache places events s is there ran work w

    window_most : length events ≤ most_events m cache places
    window_most =
        let plan = m.fixed.plan in let root = m.fixed.root in
        let all = all_bounded (on_take (output_events plan root)) m.fixed.workers events (within_run m events (start_of m cache places) s ran)
        (λ w. work_paid plan root w (on_take (output_events plan root)) (output_part plan root) (whole_bound plan root w is there) (short_bound plan root w is there)
        (output_pays plan root w) (own_events w events) (works w)) in
        let total = taken_sum m (output_events plan root) (window_events plan root m.fixed.first) (λ n. refl) events (start_of m cache places) s ran in
        let few = few_taken m events (start_of m cache places) s (omega arith) ran in
        let grown = window_grows plan root m.fixed.first (length s.taken) m.fixed.count few in
        omega (arith, all, total, grown)

    claims_most : length events ≤ 3 * length s.taken + sum_of (claim_cost m.fixed.plan) events + sum_of eviction_cost events
    claims_most =
        let plan = m.fixed.plan in let root = m.fixed.root in
        let all = all_bounded (paid plan) m.fixed.workers events (within_run m events (start_of m cache places) s ran)
        (λ w. work_paid plan root w (paid plan) (λ n. 1)
        (λ n es p. production_paid plan w (frame_key root n) es p)
        (λ n es closing c. short_paid plan w (frame_key root n) es closing c)
        (λ n. omega arith) (own_events w events) (works w)) in
        let total = taken_sum m (λ n. 3) (λ n. 3 * n) (λ n. omega arith) events (start_of m cache places) s ran in
        let a = sum_of-add (on_take (λ n. 3)) (λ e. claim_cost plan e + eviction_cost e) events in
        let b = sum_of-add (claim_cost plan) eviction_cost events in
        omega (arith, all, total, a, b)

  module _ (events : List Event) (s : State F) (is : IsPlan m.fixed.plan) (there : m.fixed.root < length m.fixed.plan)
      (ran : replay m (start_of m cache places) events ≡ Some s)
      (each : (w : ℕ) → w < m.fixed.workers → InWork m.fixed.plan m.fixed.root w (own_events w events) ⊎ IsClosed m.fixed.plan m.fixed.root w (own_events w events)) where
    one_nearly : (w : ℕ) → length (own_events w events) ≤ sum_of (on_take (output_events m.fixed.plan m.fixed.root)) (own_events w events) + (depth_at m.fixed.plan m.fixed.root + 2)
    one_nearly w =
        let plan = m.fixed.plan in let root = m.fixed.root in
        let cost = on_take (output_events plan root) in
        ⊎_elim
        (λ (less : w < m.fixed.workers). ⊎_elim
        (λ (work : InWork plan root w (own_events w events)).
        let a = work_paid plan root w cost (output_part plan root) (whole_bound plan root w is there) (short_bound plan root w is there) (output_pays plan root w) (own_events w events) work in omega (arith, a))
        (λ (shut : IsClosed plan root w (own_events w events)).
        closed_paid plan root w cost (output_part plan root) (whole_bound plan root w is there) (short_bound plan root w is there) (output_pays plan root w) is there (own_events w events) shut) (each w less))
        (λ (past : m.fixed.workers ≤ w). let nothing_own = ap length (own_none m w past events (start_of m cache places) s ran) in omega (arith, nothing_own)) (cases_lt w m.fixed.workers)

    stopped_most : length events ≤ most_stopped m cache places
    stopped_most =
        let plan = m.fixed.plan in let root = m.fixed.root in
        let all = all_nearly (on_take (output_events plan root)) m.fixed.workers (depth_at plan root + 2) events (within_run m events (start_of m cache places) s ran) one_nearly in
        let total = taken_sum m (output_events plan root) (window_events plan root m.fixed.first) (λ n. refl) events (start_of m cache places) s ran in
        let few = few_taken m events (start_of m cache places) s (omega arith) ran in
        let grown = window_grows plan root m.fixed.first (length s.taken) m.fixed.count few in
        omega (arith, all, total, grown)

  module _ (can : CanRender m cache places) where
    complete : (events : List Event) (s : State F) → IsUnderWay m cache places events s → ((w : ℕ) → Moves m cache places events s w → ⊥) → list_all is_some s.frames ≡ true
    complete events s under still = ⊎_elim
        (λ (h : list_all is_some s.frames ≡ true). h)
        (λ (h : (j : ℕ) × (slice_get s.frames j ≡ Some None)). let next = (someone_moves F).someone m cache places events s h.0 can under h.1 in absurd (still next.0 next.1)) (find_open s.frames)

    few_events : (events : List Event) (s : State F) → IsUnderWay m cache places events s → length events ≤ most_events m cache places
    few_events events s under = window_most events s can.plan can.root under.runs under.work

    turn_long : (w : ℕ) (turn : List Event) → IsTurn w turn → 0 < length turn
    turn_long w _ (single is) = omega arith
    turn_long w _ (evicts) = omega arith

    ends : (most : ℕ) (events : List Event) (s : State F) → most_events m cache places < length events + most → IsUnderWay m cache places events s → Ends m cache places events
    ends zero events s low under = let few = few_events events s under in absurd (omega (arith, low, few))
    ends (suc most) events s low under = ⊎_elim
        (λ (h : list_all is_some s.frames ≡ true).
        let same : events ++ [] ≡ events = append-nil events in
        record {
          turns = [];
          last = s;
          goes_on = subst (λ x. IsUnderWay m cache places x s) (sym same) under;
          delivered = h;
          few = subst (λ x. length x ≤ most_events m cache places) (sym same) (few_events events s under);
        })
        (λ (h : (j : ℕ) × (slice_get s.frames j ≡ Some None)).
        let found = (someone_moves F).someone m cache places events s h.0 can under h.1 in
        let next = found.1 in
        let l = length-append events next.turn in let some = turn_long found.0 next.turn next.is_turn in
        let rest = ends most (events ++ next.turn) next.after (omega (arith, low, l, some)) next.goes_on in
        let same : (events ++ next.turn) ++ rest.turns ≡ events ++ (next.turn ++ rest.turns) = append_assoc events next.turn rest.turns in
        record {
          turns = next.turn ++ rest.turns;
          last = rest.last;
          goes_on = subst (λ x. IsUnderWay m cache places x rest.last) same rest.goes_on;
          delivered = rest.delivered;
          few = subst (λ x. length x ≤ most_events m cache places) same rest.few;
        }) (find_open s.frames)

pub work_is_bounded : (F : Type 0) → WorkIsBounded F
work_is_bounded F = record {
  production = λ plan w k events is there p. production_most plan w is (suc k.node) k events (omega arith) there p;
  window = λ m cache places events s is there ran work. window_most m cache places events s is there ran work;
  stopped = λ m cache places events s is there ran each. stopped_most m cache places events s is there ran each;
  claims = λ m cache places events s is there ran work. claims_most m cache places events s is there ran work;
  complete = λ m cache places events s can under still. complete m cache places can events s under still;
  ends = λ m cache places events s can under. ends m cache places can (suc (most_events m cache places)) events s (omega arith) under;
}
