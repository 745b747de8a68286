-- Outputs one after the other.
use Rattle.std.proofs.Common.{◌≡◌, ◌≢◌, ℕ, zero, suc, ◌+◌, ◌-◌, ◌<◌, ◌≤◌, ◌==◌, true, false, List, [], ◌∷◌, ◌++◌, length, set, slice_get, Some, None, sym, refl, ap, ◌∙◌, subst, ⊎_elim, arith, append_assoc, append-nil, length-append, eq-eqb}
use Rattle.std.proofs.lemmas.Bool.{eqb-true}
use Rattle.std.specs.List.{range_with_len}
use Rattle.std.specs.Map.{keys_of}
use Rattle.fv_plane.specs.declared.key.Key.{Key}
use Rattle.fv_plane.specs.Picture.{Picture}
use Rattle.clip_graph.specs.Plan.{Application, application_at}
use Rattle.frame_cache.proofs.CallerLemmas.{test}
use Rattle.inst_table.specs.declared.held.Held.{Ghosts}
use Rattle.serve_machine.specs.declared.event.Event.{Event}
use Rattle.serve_machine.specs.declared.event.Event.TheVariants.{Take, Deliver, Fail}
use Rattle.serve_machine.specs.declared.event.WindowStop.{WindowStop}
use Rattle.serve_machine.specs.declared.event.WindowStop.TheVariants.{Memory}
use Rattle.serve_machine.specs.Events.{IsKey, frame_key}
use Rattle.serve_machine.specs.SerialRun.{Serial, serial_production, serial_production_within, serial_delivery, serial_window}
use Rattle.serve_machine.specs.Work.{CutShort, FailedWork, Deliveries}
use Rattle.serve_machine.proofs.SerialLemmas.{serial_is_whole, failed_between, failed_within}
use Rattle.serve_core.specs.Calls.{TookOutput, next_output, after_deliver, after_fail}
use Rattle.serve_core.specs.CoreValue.{CoreValue, Fixed, Outputs}
use Rattle.serve_core.specs.Stands.{IsRight, StopFits, CallsStand}
use Rattle.serve_machine.specs.Machine.{kept_stop}
use Rattle.serve_core.proofs.Standing.{calls_stand}
use Rattle.serve_alone.specs.Alone.{Alone}
use Rattle.serve_core.specs.Tables.{held_in, counts_in}
use Rattle.serve_alone.specs.Made.{Keeps, Produced, Stopped}
use Rattle.serve_alone.specs.Windows.{Ready, Fresh, delivery, Step, CutOutput, untaken, taken, StepCut, served, Served, WindowCut}
use Rattle.serve_alone.proofs.Producing.{memory_stop, stop_since}

differ_not : (a b : ℕ) → (a == b) ≡ false → a ≡ b → ⊥
differ_not a b h e = let bad : true ≡ false = sym (eq-eqb a b e) ∙ h in absurd (cc)

last_at : (xs : List ℕ) (w : ℕ) → slice_get (xs ++ w ∷ []) (length xs) ≡ Some w
last_at [] w = refl
last_at (x ∷ xs) w = last_at xs w

-- one output more
window_more : (plan : List Application) (root capacity : ℕ) (keys : List Key) (first i n : ℕ) → n ≡ first + i → serial_window plan root capacity keys first (suc i) ≡ (let a = serial_window plan root capacity keys first i in let b = serial_delivery n (serial_production plan capacity a.keys (frame_key root n)) in record { events = a.events ++ b.events; keys = b.keys })
window_more plan root capacity keys first zero n e = let same : n ≡ first = omega arith in
    subst (λ m. serial_window plan root capacity keys first (suc zero) ≡ (let b = serial_delivery m (serial_production plan capacity keys (frame_key root m)) in record { events = b.events; keys = b.keys })) (sym same)
    (ap (λ l. record { events = l; keys = (serial_production plan capacity keys (frame_key root first)).keys }) (append-nil (serial_delivery first (serial_production plan capacity keys (frame_key root first))).events))
window_more plan root capacity keys first (suc i) n e =
    let one : Serial = serial_delivery first (serial_production plan capacity keys (frame_key root first)) in
    let ih = window_more plan root capacity one.keys (first + 1) i n (omega arith) in
    let a : Serial = serial_window plan root capacity one.keys (first + 1) i in
    let b : Serial = serial_delivery n (serial_production plan capacity a.keys (frame_key root n)) in
    ap (λ (s : Serial). record { events = one.events ++ s.events; keys = s.keys }) ih ∙ ap (λ l. record { events = l; keys = b.keys }) (sym (append_assoc one.events a.events b.events))

module _ {I : Type 0} where
  pub place_of_next : (c d e : CoreValue I) (n : ℕ) → TookOutput c 0 (Some n) d → e.fixed ≡ d.fixed → n - e.fixed.first ≡ length c.outputs.taken
  place_of_next c d e n took f = let first : e.fixed.first ≡ c.fixed.first = ap (λ z. z.first) (f ∙ ap (λ (z : CoreValue I). z.fixed) took.3) in let is = took.2 in omega (arith, first, is)

  pub is_taken : (c d e : CoreValue I) (n : ℕ) → TookOutput c 0 (Some n) d → e.fixed ≡ d.fixed → e.outputs ≡ d.outputs → slice_get e.outputs.taken (n - e.fixed.first) ≡ Some 0
  is_taken c d e n took f o = ap (λ (z : Outputs). slice_get z.taken (n - e.fixed.first)) (o ∙ ap (λ (z : CoreValue I). z.outputs) took.3) ∙ (ap (slice_get (c.outputs.taken ++ 0 ∷ [])) (place_of_next c d e n took f) ∙ last_at c.outputs.taken 0)

  -- it was not delivered
  pub still_open : (c d e : CoreValue I) (n : ℕ) → TookOutput c 0 (Some n) d → e.fixed ≡ d.fixed → e.outputs ≡ d.outputs → slice_get c.outputs.frames (n - c.fixed.first) ≡ Some None → slice_get e.outputs.frames (n - e.fixed.first) ≡ Some None
  still_open c d e n took f o open_there =
      ap (λ (z : ℕ × Outputs). slice_get z.1.frames (n - z.0)) (λ i. (ap (λ z. z.first) (f ∙ ap (λ (z : CoreValue I). z.fixed) took.3) i, (o ∙ ap (λ (z : CoreValue I). z.outputs) took.3) i)) ∙ open_there

  pub taken_claims : (c d : CoreValue I) (n : ℕ) → TookOutput c 0 (Some n) d → d.claims ≡ c.claims
  taken_claims c d n took = ap (λ (z : CoreValue I). z.claims) took.3

  -- an output is a frame of the root
  pub output_key : (plan : List Application) (c d : CoreValue I) (r n : ℕ) → Alone plan c → Ready plan c → TookOutput c 0 (Some n) d → r ≡ d.fixed.root → IsKey plan (record { node = r; n = n })
  output_key plan c d r n a ready took root =
      let same : r ≡ c.fixed.root = root ∙ ap (λ (z : CoreValue I). z.fixed.root) took.3 in
      let less = took.1 in
      let is = took.2 in
      let numbers = ready.numbers in
      record {
        node = subst (λ m. m < length plan) (sym same) ready.root;
        number = subst (λ m. n < (application_at plan m).info.frames) (sym same) (omega arith);
      }

  -- it was taken by a worker that is alone
  pub taken_alone : (plan : List Application) (c d : CoreValue I) (n : ℕ) → Alone plan c → TookOutput c 0 (Some n) d → Alone plan d
  taken_alone plan c d n a took = subst (Alone plan) (sym took.3) (record { plan_is = a.plan_is; is_plan = a.is_plan; worker = a.worker; window = a.window; running = a.running; free = a.free })

module _ {I : Type 0} (of : Ghosts I) (plan : List Application) where
  law : CallsStand of.feed of.faults
  law = calls_stand of.feed of.faults

  took_stands : (c d : CoreValue I) (n : ℕ) → TookOutput c 0 (Some n) d → Keeps of plan c d (λ book numbers. Unit {0})
  took_stands c d n took book numbers s = (law.take_output book numbers c d 0 (Some n) s took, tt)

  pub step_ok : (c d e f : CoreValue I) (r n : ℕ) (x : Picture) → c.fixed.plan ≡ plan → TookOutput c 0 (Some n) d → r ≡ d.fixed.root → Produced of plan d (record { node = r; n = n }) x e → f ≡ after_deliver e 0 n x → Step of plan c x f
  step_ok c d e f r n x q took root p is =
      let run = p.ran (suc r) (omega arith) in
      let went = run.went in
      let fixed : e.fixed ≡ c.fixed = went.fixed ∙ ap (λ (z : CoreValue I). z.fixed) took.3 in
      let root' : r ≡ c.fixed.root = root ∙ ap (λ (z : CoreValue I). z.fixed.root) took.3 in
      let place : n - e.fixed.first ≡ length c.outputs.taken = place_of_next c d e n took went.fixed in
      let made : serial_production_within (suc r) plan d.fixed.capacity (keys_of d.cache) (record { node = r; n = n }) ≡ serial_production plan c.fixed.capacity (keys_of c.cache) (frame_key c.fixed.root (next_output c)) =
      ap (λ (z : CoreValue I). serial_production plan z.fixed.capacity (keys_of z.cache) (frame_key r n)) took.3 ∙ ap (λ (z : ℕ × ℕ). serial_production plan c.fixed.capacity (keys_of c.cache) (frame_key z.0 z.1)) (λ i. (root' i, took.2 i)) in
      let s : Serial = serial_production plan c.fixed.capacity (keys_of c.cache) (frame_key c.fixed.root (next_output c)) in
      let before : e.journal ≡ (c.journal ++ Take 0 n ∷ []) ++ s.events = went.journal ∙ (ap (λ (z : CoreValue I). z.journal ++ (serial_production_within (suc r) plan d.fixed.capacity (keys_of d.cache) (record { node = r; n = n })).events) took.3 ∙ ap (λ (z : Serial). (c.journal ++ Take 0 n ∷ []) ++ z.events) made) in
      let outputs : e.outputs ≡ record { taken = c.outputs.taken ++ 0 ∷ []; frames = c.outputs.frames } = went.outputs ∙ ap (λ (z : CoreValue I). z.outputs) took.3 in
      subst (Step of plan c x) (sym is) (record {
        some = took.1;
        journal = ap (λ es. es ++ Deliver 0 n ∷ []) before ∙ (ap (λ es. es ++ Deliver 0 n ∷ []) (append_assoc c.journal (Take 0 n ∷ []) s.events) ∙ (append_assoc c.journal (Take 0 n ∷ s.events) (Deliver 0 n ∷ []) ∙ ap (λ m. c.journal ++ (Take 0 m ∷ (s.events ++ Deliver 0 m ∷ []))) took.2));
        keys = run.keys ∙ ap (λ (z : Serial). z.keys) made;
        claims = went.claims ∙ ap (λ (z : CoreValue I). z.claims) took.3;
        fixed = fixed;
        failed = went.failed ∙ ap (λ (z : CoreValue I). z.failed) took.3;
        stop = went.stop ∙ ap (λ (z : CoreValue I). z.stop) took.3;
        free = went.free;
        held = went.held ∙ ap (λ (z : CoreValue I). held_in of.holds z.table) took.3;
        steady = p.steady ∙ ap (λ (z : CoreValue I). counts_in of.faults z.table) took.3;
        taken = ap (λ (z : Outputs). z.taken) outputs;
        frames = ap (λ (z : Outputs). set z.frames (n - e.fixed.first) (Some x)) outputs ∙ ap (λ m. set c.outputs.frames m (Some x)) place;
        right = λ book numbers st.
            let both = p.right book numbers (took_stands c d n took book numbers st).0 in
            let first : e.fixed.first ≡ c.fixed.first = ap (λ z. z.first) fixed in
            let next = took.2 in
            let here : IsRight book e.fixed.plan (frame_key e.fixed.root n) x = subst (λ (z : List Application × ℕ). IsRight book z.0 (frame_key z.1 n) x) (λ i. (sym (ap (λ z. z.plan) fixed ∙ q) i, (root ∙ sym (ap (λ z. z.root) went.fixed)) i)) both.1 in
            (law.deliver book numbers e 0 n x both.0 (omega arith) here, tt);
      })

  pub untaken_cut : (c d : CoreValue I) → Alone plan c → d ≡ c → StepCut of plan c Memory d
  untaken_cut c d a is = subst (StepCut of plan c Memory) (sym is) (record { done = []; closing = []; cut = untaken; journal = sym (append-nil c.journal); claims = refl; fixed = refl; failed = refl; stop = refl; free = a.free; held = refl; stops = memory_stop of plan c c (λ book numbers s. (s, tt)) })

  pub taken_cut : (c d e : CoreValue I) (r n : ℕ) (why : WindowStop) → TookOutput c 0 (Some n) d → r ≡ d.fixed.root → Stopped of plan d (CutShort plan 0 (record { node = r; n = n })) why e → StepCut of plan c why e
  taken_cut c d e r n why took root s =
      let root' : r ≡ c.fixed.root = root ∙ ap (λ (z : CoreValue I). z.fixed.root) took.3 in
      record {
        done = Take 0 n ∷ s.done;
        closing = s.closing;
        cut = subst (λ m. CutOutput of plan c (Take 0 m ∷ s.done) s.closing) (sym took.2) (taken (subst (λ (z : ℕ × ℕ). CutShort plan 0 (frame_key z.0 z.1) s.done s.closing) (λ i. (root' i, took.2 i)) s.cut));
        journal = s.went.journal ∙ (ap (λ (z : CoreValue I). z.journal ++ (s.done ++ s.closing)) took.3 ∙ append_assoc c.journal (Take 0 n ∷ []) (s.done ++ s.closing));
        claims = s.went.claims ∙ ap (λ (z : CoreValue I). z.claims) took.3;
        fixed = s.went.fixed ∙ ap (λ (z : CoreValue I). z.fixed) took.3;
        failed = s.went.failed ∙ ap (λ (z : CoreValue I). z.failed) took.3;
        stop = s.went.stop ∙ ap (λ (z : CoreValue I). z.stop) took.3;
        free = s.went.free;
        held = s.went.held ∙ ap (λ (z : CoreValue I). held_in of.holds z.table) took.3;
        stops = stop_since of plan c d e why (took_stands c d n took) s.stops;
      }

at_set : {A : Type 0} → (xs : List A) (i : ℕ) (y z : A) → slice_get xs i ≡ Some z → slice_get (set xs i y) i ≡ Some y
at_set [] i y z h = absurd (cc)
at_set (x ∷ xs) zero y z h = refl
at_set (x ∷ xs) (suc i) y z h = at_set xs i y z h

at_other : {A : Type 0} → (xs : List A) (i j : ℕ) (y : A) → i ≢ j → slice_get (set xs i y) j ≡ slice_get xs j
at_other [] i j y h = refl
at_other (x ∷ xs) zero zero y h = absurd (h refl)
at_other (x ∷ xs) zero (suc j) y h = refl
at_other (x ∷ xs) (suc i) zero y h = refl
at_other (x ∷ xs) (suc i) (suc j) y h = at_other xs i j y (λ e. h (ap (λ n. suc n) e))

module _ {I : Type 0} (of : Ghosts I) (plan : List Application) where
  pub served_none : (c : CoreValue I) → Alone plan c → Fresh plan c → Served of plan c (length c.outputs.taken) c
  served_none c a fresh = subst (λ n. Served of plan c n c) (sym none) (record {
    journal = sym (append-nil c.journal);
    keys = refl;
    claims = fresh.ready.claims;
    fixed = refl;
    failed = refl;
    stop = refl;
    free = a.free;
    held = refl;
    steady = refl;
    taken = none;
    delivered = λ j less. absurd (omega arith);
    undelivered = λ j le less. fresh.undelivered j less;
    right = λ book numbers s. (s, tt);
  })
    where
      none : length c.outputs.taken ≡ 0
      none = ap length fresh.untaken

  pub served_alone : (c d : CoreValue I) (n : ℕ) → Alone plan c → Served of plan c n d → Alone plan d
  served_alone c d n a v = record {
    plan_is = ap (λ f. f.plan) v.fixed ∙ a.plan_is;
    is_plan = a.is_plan;
    worker = subst (λ f. 0 < f.workers) (sym v.fixed) a.worker;
    window = subst (λ f. 0 < f.count) (sym v.fixed) a.window;
    running = v.stop ∙ a.running;
    free = v.free;
  }

  pub served_ready : (c d : CoreValue I) (n : ℕ) → Ready plan c → Served of plan c n d → Ready plan d
  served_ready c d n ready v = record {
    root = subst (λ f. f.root < length plan) (sym v.fixed) ready.root;
    numbers = subst (λ f. f.first + f.count ≤ (application_at plan f.root).info.frames) (sym v.fixed) ready.numbers;
    claims = v.claims;
    unfailed = ap (λ l. slice_get l 0) v.failed ∙ ready.unfailed;
  }

  pub served_more : (c d e : CoreValue I) (x : Picture) → Served of plan c (length d.outputs.taken) d → Step of plan d x e → Served of plan c (length e.outputs.taken) e
  served_more c d e x v s = subst (λ n. Served of plan c n e) (sym more) (record {
    journal = s.journal ∙ (ap (λ es. es ++ b.events) v.journal ∙ (append_assoc c.journal a.events b.events ∙ ap (λ (w : Serial). c.journal ++ (a.events ++ w.events)) step ∙ ap (λ (w : Serial). c.journal ++ w.events) (sym whole)));
    keys = s.keys ∙ (ap (λ (w : Serial). w.keys) step ∙ ap (λ (w : Serial). w.keys) (sym whole));
    claims = s.claims ∙ v.claims;
    fixed = s.fixed ∙ v.fixed;
    failed = s.failed ∙ v.failed;
    stop = s.stop ∙ v.stop;
    free = s.free;
    held = s.held ∙ v.held;
    steady = s.steady ∙ v.steady;
    taken = more;
    delivered = λ j less. ⊎_elim
        (λ (h : (j == i) ≡ true). let same : j ≡ i = eqb-true j i h in (x, ap (λ l. slice_get l j) s.frames ∙ (ap (slice_get (set d.outputs.frames i (Some x))) same ∙ at_set d.outputs.frames i (Some x) None (v.undelivered i (omega arith) inside))))
        (λ (h : (j == i) ≡ false). let apart : i ≢ j = λ q. differ_not j i h (sym q) in let old = v.delivered j (omega arith) in (old.0, ap (λ l. slice_get l j) s.frames ∙ (at_other d.outputs.frames i j (Some x) apart ∙ old.1)))
        (test (j == i));
    undelivered = λ j le less. let apart : i ≢ j = omega arith in ap (λ l. slice_get l j) s.frames ∙ (at_other d.outputs.frames i j (Some x) apart ∙ v.undelivered j (omega arith) less);
    right = λ book numbers st. s.right book numbers (v.right book numbers st).0;
  })
    where
      i : ℕ
      i = length d.outputs.taken

      more : length e.outputs.taken ≡ suc i
      more = let l = length-append d.outputs.taken (0 ∷ []) in let t = ap length s.taken in omega arith

      inside : i < c.fixed.count
      inside = subst (λ z. i < z.count) v.fixed s.some

      a : Serial
      a = served of plan c i

      b : Serial
      b = delivery of plan d

      step : b ≡ serial_delivery (c.fixed.first + i) (serial_production plan c.fixed.capacity a.keys (frame_key c.fixed.root (c.fixed.first + i)))
      step = ap (λ (z : Fixed × List Key). serial_delivery (z.0.first + i) (serial_production plan z.0.capacity z.1 (frame_key z.0.root (z.0.first + i)))) (λ t. (v.fixed t, v.keys t))

      whole : served of plan c (suc i) ≡ (let z = serial_delivery (c.fixed.first + i) (serial_production plan c.fixed.capacity a.keys (frame_key c.fixed.root (c.fixed.first + i))) in record { events = a.events ++ z.events; keys = z.keys })
      whole = window_more plan c.fixed.root c.fixed.capacity (keys_of c.cache) c.fixed.first i (c.fixed.first + i) refl

  pub cut_window : (c d e f : CoreValue I) (i : ℕ) (why : WindowStop) → Alone plan c → c.fixed.root < length plan → Served of plan c i d → StepCut of plan d why e → f ≡ after_fail e 0 why → WindowCut of plan c why f
  cut_window c d e f i why a root v s is = by_output s.done s.closing s.cut before
    where
      es : List Event
      es = (served of plan c i).events

      ns : List ℕ
      ns = range_with_len c.fixed.first i

      all : Deliveries plan c.fixed.root 0 ns es
      all = serial_is_whole.window plan c.fixed.root c.fixed.capacity (keys_of c.cache) c.fixed.first i a.is_plan root

      before : e.journal ≡ c.journal ++ (es ++ (s.done ++ s.closing))
      before = s.journal ∙ (ap (λ l. l ++ (s.done ++ s.closing)) v.journal ∙ append_assoc c.journal es (s.done ++ s.closing))

      plan_is : e.fixed.plan ≡ plan
      plan_is = ap (λ z. z.plan) (s.fixed ∙ v.fixed) ∙ a.plan_is

      ended : (events : List Event) → FailedWork plan c.fixed.root 0 why events → e.journal ++ Fail 0 why ∷ [] ≡ c.journal ++ events → WindowCut of plan c why f
      ended events cut j = subst (WindowCut of plan c why) (sym is) (record {
        events = events;
        cut = cut;
        journal = j;
        claims = s.claims ∙ v.claims;
        fixed = s.fixed ∙ v.fixed;
        stop = ap (λ o. Some (kept_stop o why)) (s.stop ∙ (v.stop ∙ a.running));
        free = s.free;
        held = s.held ∙ v.held;
        named = s.stops.named;
        ended = s.stops.ended;
        right = λ book numbers st.
            let last = s.stops.right book numbers (v.right book numbers st).0 in
            ((calls_stand of.feed of.faults).fail book numbers e 0 why last.0 (subst (λ pl. StopFits of.feed of.faults book numbers pl e.table why) (sym plan_is) last.1), last.1);
      })

      failing_after : (fs : List Event) → e.journal ≡ c.journal ++ (es ++ fs) → e.journal ++ Fail 0 why ∷ [] ≡ c.journal ++ (es ++ (fs ++ Fail 0 why ∷ []))
      failing_after fs j = ap (λ l. l ++ Fail 0 why ∷ []) j ∙ (append_assoc c.journal (es ++ fs) (Fail 0 why ∷ []) ∙ ap (λ l. c.journal ++ l) (append_assoc es fs (Fail 0 why ∷ [])))

      by_output : (done closing : List Event) → CutOutput of plan d done closing → e.journal ≡ c.journal ++ (es ++ (done ++ closing)) → WindowCut of plan c why f
      by_output [] [] untaken j = ended (es ++ Fail 0 why ∷ []) (failed_between plan c.fixed.root 0 ns es why all) (failing_after [] j)
      by_output _ closing (taken {es = fs} cut) j =
          ended (es ++ (Take 0 (next_output d) ∷ ((fs ++ closing) ++ Fail 0 why ∷ [])))
          (failed_within plan c.fixed.root 0 ns (next_output d) es fs closing why all (subst (λ z. CutShort plan 0 (frame_key z.root (next_output d)) fs closing) v.fixed cut))
          (failing_after (Take 0 (next_output d) ∷ (fs ++ closing)) j)

  pub one_more : (d e : CoreValue I) (x : Picture) → Step of plan d x e → length e.outputs.taken ≡ length d.outputs.taken + 1
  one_more d e x s = ap length s.taken ∙ length-append d.outputs.taken (0 ∷ [])

  -- all are served where none is left
  pub served_all : (c d e : CoreValue I) → Served of plan c (length d.outputs.taken) d → length d.outputs.taken ≡ d.fixed.count → e ≡ d → Served of plan c c.fixed.count e
  served_all c d e v all is = subst (Served of plan c c.fixed.count) (sym is) (subst (λ n. Served of plan c n d) (all ∙ ap (λ f. f.count) v.fixed) v)
