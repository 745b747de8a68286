-- What each way out of a production leaves.
use Rattle.std.proofs.Common.{◌≡◌, ℕ, zero, suc, ◌+◌, ◌-◌, ◌<◌, ◌≤◌, nat_lt, true, false, List, [], ◌∷◌, ◌++◌, length, take, map, Option, Some, None, Result, Ok, Err, IfOk, IfErr, sym, refl, ap, ◌∙◌, subst, inl, inr, ⊎_elim, arith, append_assoc, append-nil}
use Rattle.std.specs.Prelude.{is_some}
use Rattle.std.specs.Cmp.Derive.{both_true}
use Rattle.std.specs.List.{All}
use Rattle.std.specs.Map.{keys_of}
use Rattle.std.proofs.lemmas.Bool.Decides.{Decides-ltb}
use Rattle.std.proofs.lemmas.List.{map-append}
use Rattle.std.proofs.lemmas.List.Elements.{All-nil, All-cons, All-head, All-tail}
use Rattle.fv_plane.specs.declared.key.Key.{Key}
use Rattle.fv_plane.specs.Picture.{Picture}
use Rattle.clip_term.specs.Terms.{asked}
use Rattle.clip_graph.specs.Plan.{Application, application_at, is_source, IsPlan, input_keys, key_picture, IsKeyBelow}
use Rattle.clip_graph.proofs.UnfoldingLemmas.{inputs_are_keys}
use Rattle.frame_cache.specs.Cached.{without_key, fronted, dropped_key}
use Rattle.inst_table.specs.declared.held.Held.{Ghosts}
use Rattle.inst_table.specs.declared.place.Place.{Place}
use Rattle.inst_table.specs.declared.place.Slot.TheVariants.{Free, Leased}
use Rattle.inst_table.specs.Lent.{Lent}
use Rattle.inst_table.specs.Places.{slot_at, shared_place, with_slot}
use Rattle.inst_table.proofs.CallerLemmas.{slot_put}
use Rattle.serve_machine.specs.declared.event.Event.{Event}
use Rattle.serve_machine.specs.declared.event.Event.TheVariants.{Hit, Claim, Enter, Leave, Publish, Abandon}
use Rattle.serve_machine.specs.declared.event.WindowStop.{WindowStop}
use Rattle.serve_machine.specs.declared.event.WindowStop.TheVariants.{Read, Changed, Memory}
use Rattle.serve_machine.specs.Events.{has, mode_at, instance_of, has_got, has_got_all, has_entered}
use Rattle.serve_machine.specs.SerialRun.{Serial, serial_production_within, each_produced, made_after, leases, eviction, eviction_from}
use Rattle.serve_machine.specs.Work.{Productions, CutShort, CutInputs, refused, inside, unpublished, between, within}
use Rattle.serve_machine.proofs.OwnLemmas.{now_got, all_got, one_more_got, hit_got, publish_got, still_fails, entered_now}
use Rattle.serve_machine.proofs.SerialLemmas.{produced_more, each_whole, whole_within}
use Rattle.serve_core.specs.declared.answers.Admitted.TheVariants.{Leased as Lends}
use Rattle.serve_core.specs.declared.answers.Ask.TheVariants.{Hit as Found, Claimed}
use Rattle.serve_core.specs.Calls.{Asked, Admits, after_leave, after_publish, after_abandon}
use Rattle.serve_core.specs.CoreValue.{CoreValue}
use Rattle.serve_core.specs.Holds.{is_free_at}
use Rattle.serve_core.specs.Kept.{AnswerIsShaped}
use Rattle.serve_core.specs.Sources.{place_of, shape_at}
use Rattle.serve_core.specs.Stands.{Book, Stands, IsRight, FitsAct, Fits, ExceedsAct, CallsStand}
use Rattle.serve_machine.specs.Machine.{first_stop}
use Rattle.serve_core.proofs.Standing.{calls_stand}
use Rattle.serve_alone.specs.Alone.{Alone, AllFrom, Went, Ran}
use Rattle.serve_core.specs.Tables.{held_in, counts_in}
use Rattle.serve_alone.specs.Made.{Returned, Keeps, AreRight, StopIs, Made, Unmade, Published, Produced, Gathered, Stopped}
use Rattle.serve_core.specs.Works.{IsMade, MakeStops}
use Rattle.serve_alone.proofs.Going.{went_none, went_more, abandon_went, lent_went, lent_steady, no_lease}
use Rattle.serve_alone.proofs.KeyLemmas.{has_keys, keys_fronted, keys_put, not_there, closed_claim}
use Rattle.serve_core.proofs.Making.{source_mode, no_source, shared_for, filter_right, made_right, fits_more, exceeds, untold_book}

below : (a b : ℕ) → a < b → nat_lt a b ≡ true
below a b h = (Decides-ltb a b).1 h

all_front : (plan : List Application) (i : ℕ) (ks js : List Key) → All (IsKeyBelow plan i) (ks ++ js) → All (IsKeyBelow plan i) ks
all_front plan i [] js all = All-nil (IsKeyBelow plan i)
all_front plan i (k ∷ ks) js all = All-cons (IsKeyBelow plan i) k ks (All-head (IsKeyBelow plan i) k (ks ++ js) all) (all_front plan i ks js (All-tail (IsKeyBelow plan i) k (ks ++ js) all))

module _ {I : Type 0} (of : Ghosts I) (plan : List Application) where
  law : CallsStand of.feed of.faults
  law = calls_stand of.feed of.faults

  same_stands : (c : CoreValue I) → Keeps of plan c c (λ book numbers. Unit {0})
  same_stands c book numbers s = (s, tt)

  -- STOPS

  -- out of memory
  pub memory_stop : (c d : CoreValue I) → Keeps of plan c d (λ book numbers. Unit {0}) → StopIs of plan c Memory d
  memory_stop c d keeps = record { cause = refl; named = refl; there = tt; ended = tt; right = λ book numbers s. ((keeps book numbers s).0, tt) }

  -- a stop of later work
  pub stop_since : (c d e : CoreValue I) (why : WindowStop) → Keeps of plan c d (λ book numbers. Unit {0}) → StopIs of plan d why e → StopIs of plan c why e
  stop_since c d e why keeps s = record { cause = s.cause; named = s.named; there = s.there; ended = s.ended; right = λ book numbers st. s.right book numbers (keeps book numbers st).0 }

  -- a claim is given up after it
  pub stop_abandoned : (c d e : CoreValue I) (k : Key) (why : WindowStop) → StopIs of plan c why d → e ≡ after_abandon d 0 k → StopIs of plan c why e
  stop_abandoned c d e k why s is = subst (StopIs of plan c why) (sym is) (record {
    cause = still_fails 0 why d.journal (Abandon 0 k ∷ []) s.cause;
    named = s.named;
    there = s.there;
    ended = s.ended;
    right = λ book numbers st. let both = s.right book numbers st in (law.abandon book numbers d 0 k both.0, both.1);
  })

  -- ONE FRAME

  -- a filter of mode 1
  pub plain_made : (c : CoreValue I) (k : Key) (inputs : List Picture) (r : Result Picture WindowStop) → Alone plan c → k.node < length plan → mode_at plan k.node ≡ 1
      → IfOk r (λ x. (own : Option (List Picture)) → IsMade plan k own inputs x) → IfOk r (λ x. Made of plan c k inputs x c)
  plain_made c k inputs (Err e) a less one is = tt
  plain_made c k inputs (Ok x) a less one is =
      let made = is None in record {
        went = subst (Went of.holds c c) (sym (no_lease plan k.node one)) (went_none of.holds c a.free);
        cache = refl;
        steady = refl;
        shape = made.shape;
        right = λ book numbers s. (s, λ right b q. filter_right plan k b inputs x a.is_plan less (made.filtered (no_source plan k.node a.is_plan less one) b) (right b q));
      }

  pub unmade_now : (c d : CoreValue I) (k : Key) → Alone plan c → d ≡ c → Unmade of plan c k Memory d
  unmade_now c d k a e = subst (Unmade of plan c k Memory) (sym e) (record { events = []; which = inl refl; went = went_none of.holds c a.free; stops = memory_stop c c (same_stands c) })

  pub plain_unmade : (c : CoreValue I) (k : Key) (r : Result Picture WindowStop) → Alone plan c → IfErr r (λ why. why ≡ Memory) → IfErr r (λ why. Unmade of plan c k why c)
  plain_unmade c k (Ok x) a is = tt
  plain_unmade c k (Err why) a is = subst (λ w. Unmade of plan c k w c) (sym is) (unmade_now c c k a refl)

  -- what stays when an instance was out
  lent_stands : (c c1 e : CoreValue I) (i : ℕ) (l : Lent I) (value : I) → c.stop ≡ first_stop c.journal → Admits c 0 i (Lends l) c1 → slot_at l.place c1.table ≡ Some (Leased 0) → e ≡ after_leave c1 0 l.place value → of.feed value ≡ of.feed l.value → of.faults l.value ≤ of.faults value
      → Keeps of plan c e (λ book numbers. Fits of.feed of.faults book numbers c.fixed.plan l.place l.value)
  lent_stands c c1 e i l value first adm out is f g book numbers s =
      let both = law.enter book numbers c c1 0 i (Lends l) s first adm in
      let same : c1.fixed.plan ≡ c.fixed.plan = ap (λ (z : CoreValue I). z.fixed.plan) adm.3 in
      let fits : Fits of.feed of.faults book numbers c1.fixed.plan l.place value = λ shared. fits_more of.feed of.faults (application_at c1.fixed.plan l.place.node).act l.value value book numbers f g (subst (λ pl. FitsAct of.feed of.faults book numbers (application_at pl l.place.node).act l.value) (sym same) (both.1 shared)) in
      (subst (Stands of.feed of.faults book numbers) (sym is) (law.leave book numbers c1 0 l.place value both.0 out fits), both.1)

  pub leased_now : (c c1 : CoreValue I) (i : ℕ) (l : Lent I) → Admits c 0 i (Lends l) c1 → slot_at l.place c1.table ≡ Some (Leased 0)
  leased_now c c1 i l adm =
      let p : Place = place_of c.fixed.plan 0 i in
      ap (λ (z : CoreValue I). slot_at l.place z.table) adm.3 ∙ (ap (λ z. slot_at z (with_slot p (Leased 0) c.table)) adm.1 ∙ slot_put p (Leased 0) c.table (ap is_some adm.2))

  -- the place of a lease
  at_node : (c : CoreValue I) (i : ℕ) (p q : Place) → c.fixed.plan ≡ plan → p ≡ place_of c.fixed.plan 0 i → q ≡ place_of plan 0 i → p ≡ q
  at_node c i p q same is there = is ∙ ap (λ pl. place_of pl 0 i) same ∙ sym there

  -- the instance of a source fits its place
  source_fits : (c : CoreValue I) (i : ℕ) (l : Lent I) (book : Book) (numbers : List ℕ) → Alone plan c → i < length plan → is_source (application_at plan i).act ≡ true → l.place ≡ place_of c.fixed.plan 0 i
      → Fits of.feed of.faults book numbers c.fixed.plan l.place l.value → FitsAct of.feed of.faults book numbers (application_at plan i).act l.value
  source_fits c i l book numbers a less is place fits =
      let shared : l.place ≡ shared_place i = place ∙ ap (λ pl. place_of pl 0 i) a.plan_is ∙ shared_for plan 0 i (source_mode plan i a.is_plan less is) in
      let node : l.place.node ≡ i = ap (λ p. p.node) shared in
      let own : l.place ≡ shared_place l.place.node = shared ∙ ap shared_place (sym node) in
      subst (λ (z : List Application × ℕ). FitsAct of.feed of.faults book numbers (application_at z.0 z.1).act l.value) (λ t. (a.plan_is t, node t)) (fits own)

  frame_right : (c : CoreValue I) (k : Key) (inputs : List Picture) (l : Lent I) (x : Picture) (book : Book) (numbers : List ℕ) → Alone plan c → k.node < length plan → l.place ≡ place_of c.fixed.plan 0 k.node
      → IsMade plan k (of.feed l.value) inputs x → Fits of.feed of.faults book numbers c.fixed.plan l.place l.value → AreRight of plan c (input_keys plan k) inputs book → IsRight book plan k x
  frame_right c k inputs l x book numbers a less place made fits right =
      made_right of.feed of.faults plan k inputs l.value x book numbers a.is_plan less made (λ is. source_fits c k.node l book numbers a less is place fits) right

  pub made_ok : (c c1 e : CoreValue I) (k : Key) (inputs : List Picture) (l : Lent I) (r : Result Picture WindowStop) → Alone plan c → k.node < length plan → (mode_at plan k.node ≡ 1 → ⊥) → c.stop ≡ first_stop c.journal → Admits c 0 k.node (Lends l) c1
      → Returned of plan k inputs l c1 r e → IfOk r (λ x. Made of plan c k inputs x e)
  made_ok c c1 e k inputs l (Err why) a less many first adm ret = tt
  made_ok c c1 e k inputs l (Ok x) a less many first adm ret = record {
    went = lent_went of.holds plan c c1 e k.node l.place ret.value a.plan_is many adm.1 adm.3 ret.core a.free l.value adm.2 ret.holds_same;
    cache = ap (λ (z : CoreValue I). z.cache) ret.core ∙ ap (λ (z : CoreValue I). z.cache) adm.3;
    steady = lent_steady of.faults c c1 e k.node l.place ret.value adm.1 adm.3 ret.core l.value adm.2 (ret.steady (λ bad. absurd (cc)));
    shape = (let made = ret.made_by in made.shape);
    right = λ book numbers s.
        let both = lent_stands c c1 e k.node l ret.value first adm (leased_now c c1 k.node l adm) ret.core ret.feed_same ret.faults_more book numbers s in
        (both.0, λ right. frame_right c k inputs l x book numbers a less adm.1 ret.made_by both.1 right);
  }

  -- why none was made

  entered_there : (c c1 e : CoreValue I) (i : ℕ) (l : Lent I) (value : I) → Alone plan c → i < length plan → is_source (application_at plan i).act ≡ true → Admits c 0 i (Lends l) c1 → e ≡ after_leave c1 0 l.place value
      → slot_at (shared_place i) e.table ≡ Some (Free value)
  entered_there c c1 e i l value a less is adm left_is =
      let shared : l.place ≡ shared_place i = adm.1 ∙ ap (λ pl. place_of pl 0 i) a.plan_is ∙ shared_for plan 0 i (source_mode plan i a.is_plan less is) in
      let out : slot_at l.place c1.table ≡ Some (Leased 0) = leased_now c c1 i l adm in
      ap (λ (z : CoreValue I). slot_at (shared_place i) z.table) left_is ∙ ap (λ p. slot_at p (with_slot l.place (Free value) c1.table)) (sym shared) ∙ slot_put l.place (Free value) c1.table (ap is_some out)

  entered_journal : (c c1 e : CoreValue I) (i : ℕ) (l : Lent I) (value : I) → Admits c 0 i (Lends l) c1 → e ≡ after_leave c1 0 l.place value → has_entered 0 i e.journal ≡ true
  entered_journal c c1 e i l value adm is =
      let j : ℕ = instance_of c.fixed.plan 0 i in
      let last : List Event = Leave 0 l.place.node l.place.instance ∷ [] in
      ap (λ (z : CoreValue I). has_entered 0 i z.journal) is ∙ (ap (λ (z : CoreValue I). has_entered 0 i (z.journal ++ last)) adm.3 ∙ (ap (has_entered 0 i) (append_assoc c.journal (Enter 0 i j ∷ []) last) ∙ entered_now 0 i j c.journal last))

  make_stop : (c c1 e : CoreValue I) (i : ℕ) (l : Lent I) (value : I) (why : WindowStop) → Alone plan c → i < length plan → c.stop ≡ first_stop c.journal → Admits c 0 i (Lends l) c1 → e ≡ after_leave c1 0 l.place value → of.feed value ≡ of.feed l.value → of.faults l.value ≤ of.faults value
      → MakeStops of.feed of.faults of.ends plan i l.value value why → StopIs of plan c why e
  make_stop c c1 e i l value Memory a less first adm is f g m = memory_stop c e (λ book numbers s. ((lent_stands c c1 e i l value first adm (leased_now c c1 i l adm) is f g book numbers s).0, tt))
  make_stop c c1 e i l value (Read j) a less first adm is f g m =
      let node : j ≡ i = m.node_is in
      let there : slot_at (shared_place j) e.table ≡ Some (Free value) = subst (λ n. slot_at (shared_place n) e.table ≡ Some (Free value)) (sym node) (entered_there c c1 e i l value a less m.source adm is) in
      record {
        cause = subst (λ n. has_entered 0 n e.journal ≡ true) (sym node) (entered_journal c c1 e i l value adm is);
        named = subst (λ n. is_source (application_at plan n).act ≡ true) (sym node) m.source;
        there = ap is_free_at there;
        ended = tt;
        right = λ book numbers s.
            let both = lent_stands c c1 e i l value first adm (leased_now c c1 i l adm) is f g book numbers s in
            let fits = source_fits c i l book numbers a less m.source adm.1 both.1 in
            (both.0, record { instance = value; there = there; more = subst (λ n. ExceedsAct of.feed of.faults book numbers (application_at plan n).act value) (sym node) (exceeds of.feed of.faults (application_at plan i).act l.value value book numbers fits m.failed) });
      }
  make_stop c c1 e i l value (Changed j frame want got) a less first adm is f g m =
      let node : j ≡ i = m.node_is in
      record {
        cause = both_true (subst (λ n. has_entered 0 n e.journal ≡ true) (sym node) (entered_journal c c1 e i l value adm is)) (below got want m.early);
        named = subst (λ n. is_source (application_at plan n).act ≡ true) (sym node) m.source;
        there = tt;
        ended = record { instance = value; there = subst (λ n. slot_at (shared_place n) e.table ≡ Some (Free value)) (sym node) (entered_there c c1 e i l value a less m.source adm is); early = m.ended };
        right = λ book numbers s.
            let both = lent_stands c c1 e i l value first adm (leased_now c c1 i l adm) is f g book numbers s in
            (both.0, untold_book of.feed of.faults (application_at plan i).act l.value book numbers m.source m.untold (source_fits c i l book numbers a less m.source adm.1 both.1));
      }

  pub made_err : (c c1 e : CoreValue I) (k : Key) (inputs : List Picture) (l : Lent I) (r : Result Picture WindowStop) → Alone plan c → k.node < length plan → (mode_at plan k.node ≡ 1 → ⊥) → c.stop ≡ first_stop c.journal → Admits c 0 k.node (Lends l) c1
      → Returned of plan k inputs l c1 r e → IfErr r (λ why. Unmade of plan c k why e)
  made_err c c1 e k inputs l (Ok x) a less many first adm ret = tt
  made_err c c1 e k inputs l (Err why) a less many first adm ret = record {
    events = leases plan 0 k.node;
    which = inr refl;
    went = lent_went of.holds plan c c1 e k.node l.place ret.value a.plan_is many adm.1 adm.3 ret.core a.free l.value adm.2 ret.holds_same;
    stops = make_stop c c1 e k.node l ret.value why a less first adm ret.core ret.feed_same ret.faults_more ret.made_by;
  }

  pub unmade_after : (c e f : CoreValue I) (k : Key) (inputs : List Picture) (x : Picture) → Made of plan c k inputs x e → f ≡ e → Unmade of plan c k Memory f
  unmade_after c e f k inputs x l is = subst (Unmade of plan c k Memory) (sym is) (record { events = leases plan 0 k.node; which = inr refl; went = l.went; stops = memory_stop c e (λ book numbers s. ((l.right book numbers s).0, tt)) })

  pub published_ok : (c e f : CoreValue I) (k : Key) (inputs : List Picture) (x y : Picture) → c.fixed.plan ≡ plan → Made of plan c k inputs x e → y ≡ x → f ≡ after_publish e 0 k y → Published of plan c k inputs x f
  published_ok c e f k inputs x y q l same is =
      let cap : e.fixed.capacity ≡ c.fixed.capacity = ap (λ z. z.capacity) l.went.fixed in
      let gone : eviction 0 (dropped_key e.fixed.capacity e.cache) ≡ eviction_from 0 c.fixed.capacity (keys_of c.cache) = ap (λ n. eviction 0 (dropped_key n e.cache)) cap ∙ ap (λ ps. eviction 0 (dropped_key c.fixed.capacity ps)) l.cache in
      let whole : f ≡ after_publish e 0 k x = is ∙ ap (after_publish e 0 k) same in
      subst (Published of plan c k inputs x) (sym whole) (record {
        journal = ap (λ es. e.journal ++ (es ++ Publish 0 k ∷ [])) gone ∙ (ap (λ es. es ++ (eviction_from 0 c.fixed.capacity (keys_of c.cache) ++ Publish 0 k ∷ [])) l.went.journal ∙ append_assoc c.journal (leases plan 0 k.node) (eviction_from 0 c.fixed.capacity (keys_of c.cache) ++ Publish 0 k ∷ []));
        keys = keys_put e.fixed.capacity k x e.cache ∙ (ap (λ n. k ∷ take (n - 1) (keys_of e.cache)) cap ∙ ap (λ ps. k ∷ take (c.fixed.capacity - 1) (keys_of ps)) l.cache);
        claims = ap (without_key k) l.went.claims;
        fixed = l.went.fixed;
        outputs = l.went.outputs;
        failed = l.went.failed;
        stop = l.went.stop;
        free = l.went.free;
        held = l.went.held;
        steady = l.steady;
        shape = l.shape;
        right = λ book numbers s ins_right.
            let both = l.right book numbers s in
            let right = both.1 ins_right in
            (law.publish book numbers e 0 k x both.0 (subst (λ pl. IsRight book pl k x) (sym (ap (λ z. z.plan) l.went.fixed ∙ q)) right), right);
      })

  -- A PRODUCTION

  -- a hit
  pub hit_produced : (c d : CoreValue I) (k : Key) (x : Picture) → Alone plan c → Asked c 0 k (Found x) d → AnswerIsShaped c.fixed.plan k (Found x) → Produced of plan c k x d
  hit_produced c d k x a asked shaped = record {
    ran = λ most less. subst (λ (z : CoreValue I). Ran of.holds c z (serial_production_within most plan c.fixed.capacity (keys_of c.cache) k)) (sym asked.2) (ran most less);
    got = subst (λ (z : CoreValue I). has_got 0 k z.journal ≡ true) (sym asked.2) (now_got 0 k c.journal (Hit 0 k ∷ []) (hit_got 0 k));
    steady = ap (λ (z : CoreValue I). counts_in of.faults z.table) asked.2;
    shape = shaped ∙ ap (λ pl. shape_at pl k.node) a.plan_is;
    right = λ book numbers s. let both = law.ask book numbers c d 0 k (Found x) s asked in (both.0, subst (λ pl. IsRight book pl k x) a.plan_is both.1);
  }
    where
      there : has k (keys_of c.cache) ≡ true
      there = has_keys k c.cache ∙ ap is_some asked.1

      ran : (most : ℕ) → k.node < most → Ran of.holds c (record c { cache = fronted k c.cache; journal = c.journal ++ Hit 0 k ∷ [] }) (serial_production_within most plan c.fixed.capacity (keys_of c.cache) k)
      ran zero less = absurd (omega arith)
      ran (suc most) less = rw there (record {
        went = record { journal = refl; claims = refl; fixed = refl; outputs = refl; failed = refl; stop = refl; free = a.free; held = refl };
        keys = keys_fronted k x c.cache asked.1;
      })

  -- the question was refused
  pub refused_stopped : (c d : CoreValue I) (k : Key) → Alone plan c → d ≡ c → Stopped of plan c (CutShort plan 0 k) Memory d
  refused_stopped c d k a e = subst (Stopped of plan c (CutShort plan 0 k) Memory) (sym e) (record { done = []; closing = []; cut = refused; went = went_none of.holds c a.free; stops = memory_stop c c (same_stands c) })

  claimed_stands : (c d : CoreValue I) (k : Key) → Asked c 0 k Claimed d → Keeps of plan c d (λ book numbers. Unit {0})
  claimed_stands c d k asked book numbers s = ((law.ask book numbers c d 0 k Claimed s asked).0, tt)

  -- after a claim: all inputs, and the publication
  pub produced_ok : (c d e f : CoreValue I) (k : Key) (inputs : List Picture) (x : Picture) → AllFrom (k.node + 1) c.claims → Asked c 0 k Claimed d
      → Gathered of plan d k.node (input_keys plan k) inputs e → Published of plan e k inputs x f → Produced of plan c k x f
  produced_ok c d e f k inputs x above asked g p = record {
    ran = ran;
    got = subst (λ es. has_got 0 k es ≡ true) (sym p.journal) (now_got 0 k e.journal _ (now_got 0 k (leases plan 0 k.node) _ (publish_got 0 k _)));
    steady = p.steady ∙ (g.steady ∙ ap (λ (z : CoreValue I). counts_in of.faults z.table) asked.3);
    shape = p.shape;
    right = λ book numbers s. let one = g.right book numbers (claimed_stands c d k asked book numbers s).0 in p.right book numbers one.0 one.1;
  }
    where
      absent : has k (keys_of c.cache) ≡ false
      absent = has_keys k c.cache ∙ ap is_some asked.1

      ran : (most : ℕ) → k.node < most → Ran of.holds c f (serial_production_within most plan c.fixed.capacity (keys_of c.cache) k)
      ran zero less = absurd (omega arith)
      ran (suc most) less =
          let r : Ran of.holds d e (each_produced (serial_production_within most plan d.fixed.capacity) (keys_of d.cache) (input_keys plan k)) = g.ran most (omega arith) in
          let same : each_produced (serial_production_within most plan d.fixed.capacity) (keys_of d.cache) (input_keys plan k) ≡ each_produced (serial_production_within most plan c.fixed.capacity) (keys_of c.cache) (input_keys plan k) = ap (λ (z : CoreValue I). each_produced (serial_production_within most plan z.fixed.capacity) (keys_of z.cache) (input_keys plan k)) asked.3 in
          rw absent (produced_ran (each_produced (serial_production_within most plan c.fixed.capacity) (keys_of c.cache) (input_keys plan k)) (subst (Ran of.holds d e) same r))
        where
          produced_ran : (s : Serial) → Ran of.holds d e s → Ran of.holds c f (made_after s plan c.fixed.capacity k)
          produced_ran s r =
              let cap : e.fixed.capacity ≡ c.fixed.capacity = ap (λ z. z.capacity) (r.went.fixed ∙ ap (λ (z : CoreValue I). z.fixed) asked.3) in
              let tail : List Event = leases plan 0 k.node ++ (eviction_from 0 c.fixed.capacity s.keys ++ Publish 0 k ∷ []) in
              let gone : eviction_from 0 e.fixed.capacity (keys_of e.cache) ≡ eviction_from 0 c.fixed.capacity s.keys = ap (λ n. eviction_from 0 n (keys_of e.cache)) cap ∙ ap (eviction_from 0 c.fixed.capacity) r.keys in
              let before : e.journal ≡ (c.journal ++ Claim 0 k ∷ []) ++ s.events = r.went.journal ∙ ap (λ (z : CoreValue I). z.journal ++ s.events) asked.3 in
              record {
                went = record {
                  journal = p.journal ∙ (ap (λ es. e.journal ++ (leases plan 0 k.node ++ (es ++ Publish 0 k ∷ []))) gone ∙ (ap (λ es. es ++ tail) before
                      ∙ (ap (λ es. es ++ tail) (append_assoc c.journal (Claim 0 k ∷ []) s.events) ∙ append_assoc c.journal (Claim 0 k ∷ s.events) tail)));
                  claims = p.claims ∙ (ap (without_key k) (r.went.claims ∙ ap (λ (z : CoreValue I). z.claims) asked.3) ∙ closed_claim k 0 c.claims (not_there k c.claims above));
                  fixed = p.fixed ∙ (r.went.fixed ∙ ap (λ (z : CoreValue I). z.fixed) asked.3);
                  outputs = p.outputs ∙ (r.went.outputs ∙ ap (λ (z : CoreValue I). z.outputs) asked.3);
                  failed = p.failed ∙ (r.went.failed ∙ ap (λ (z : CoreValue I). z.failed) asked.3);
                  stop = p.stop ∙ (r.went.stop ∙ ap (λ (z : CoreValue I). z.stop) asked.3);
                  free = p.free;
                  held = p.held ∙ (r.went.held ∙ ap (λ (z : CoreValue I). held_in of.holds z.table) asked.3);
                };
                keys = p.keys ∙ (ap (λ n. k ∷ take (n - 1) (keys_of e.cache)) cap ∙ ap (λ ks. k ∷ take (c.fixed.capacity - 1) ks) r.keys);
              }

  -- the inputs as whole productions
  gathered_whole : (c : CoreValue I) (bound : ℕ) (ks : List Key) → IsPlan plan → bound < length plan → All (IsKeyBelow plan bound) ks → Productions plan 0 ks (each_produced (serial_production_within bound plan c.fixed.capacity) (keys_of c.cache) ks).events
  gathered_whole c bound ks is less lower = each_whole plan (serial_production_within bound plan c.fixed.capacity) bound (λ js j low. whole_within plan is c.fixed.capacity bound js j low (omega arith)) (keys_of c.cache) ks lower

  gathered_went : (c e : CoreValue I) (bound : ℕ) (ks : List Key) (inputs : List Picture) → (g : Gathered of plan c bound ks inputs e) → Went of.holds c e (each_produced (serial_production_within bound plan c.fixed.capacity) (keys_of c.cache) ks).events
  gathered_went c e bound ks inputs g = (g.ran bound (omega arith)).went

  -- a stop inside the inputs
  pub stopped_inside : (c d e f : CoreValue I) (k : Key) (why : WindowStop) → AllFrom (k.node + 1) c.claims → Asked c 0 k Claimed d → Stopped of plan d (CutInputs plan 0 (input_keys plan k)) why e → f ≡ after_abandon e 0 k → Stopped of plan c (CutShort plan 0 k) why f
  stopped_inside c d e f k why above asked s is = record {
    done = Claim 0 k ∷ s.done;
    closing = s.closing ++ Abandon 0 k ∷ [];
    cut = inside s.cut;
    went = subst (λ l. Went of.holds c f (Claim 0 k ∷ l)) (append_assoc s.done s.closing (Abandon 0 k ∷ [])) (abandon_went of.holds c d e f k (s.done ++ s.closing) asked.3 above s.went is);
    stops = stop_since c d f why (claimed_stands c d k asked) (stop_abandoned d e f k why s.stops is);
  }

  -- a stop after the inputs
  pub stopped_after : (c d e u f : CoreValue I) (k : Key) (inputs : List Picture) (why : WindowStop) → IsPlan plan → k.node < length plan → AllFrom (k.node + 1) c.claims → Asked c 0 k Claimed d → Gathered of plan d k.node (input_keys plan k) inputs e → Unmade of plan e k why u → f ≡ after_abandon u 0 k
      → Stopped of plan c (CutShort plan 0 k) why f
  stopped_after c d e u f k inputs why ok less above asked g n is =
      let es : List Event = (each_produced (serial_production_within k.node plan d.fixed.capacity) (keys_of d.cache) (input_keys plan k)).events in
      let whole = gathered_whole d k.node (input_keys plan k) ok less (inputs_are_keys plan k ok less) in
      let all : Went of.holds d u (es ++ n.events) = went_more of.holds d e u es n.events (gathered_went d e k.node (input_keys plan k) inputs g) n.went in
      let closed : Went of.holds c f (Claim 0 k ∷ ((es ++ n.events) ++ Abandon 0 k ∷ [])) = abandon_went of.holds c d u f k (es ++ n.events) asked.3 above all is in
      let since : Keeps of plan c e (λ book numbers. Unit {0}) = λ book numbers st. ((g.right book numbers (claimed_stands c d k asked book numbers st).0).0, tt) in
      let stops = stop_since c e f why since (stop_abandoned e u f k why n.stops is) in
      ⊎_elim
      (λ (w : n.events ≡ []). let end : Claim 0 k ∷ ((es ++ n.events) ++ Abandon 0 k ∷ []) ≡ Claim 0 k ∷ (es ++ Abandon 0 k ∷ []) = ap (λ l. Claim 0 k ∷ (l ++ Abandon 0 k ∷ [])) (ap (λ l. es ++ l) w ∙ append-nil es) in record {
        done = Claim 0 k ∷ es;
        closing = Abandon 0 k ∷ [];
        cut = inside (between [] (sym (append-nil (input_keys plan k))) whole);
        went = subst (Went of.holds c f) end closed;
        stops = stops;
      })
      (λ (w : n.events ≡ leases plan 0 k.node). let end : Claim 0 k ∷ ((es ++ n.events) ++ Abandon 0 k ∷ []) ≡ Claim 0 k ∷ ((es ++ leases plan 0 k.node) ++ Abandon 0 k ∷ []) = ap (λ l. Claim 0 k ∷ ((es ++ l) ++ Abandon 0 k ∷ [])) w in record {
        done = Claim 0 k ∷ (es ++ leases plan 0 k.node);
        closing = Abandon 0 k ∷ [];
        cut = unpublished whole;
        went = subst (Went of.holds c f) end closed;
        stops = stops;
      })
      n.which

  -- inputs, one after the other
  pub gathered_none : (c : CoreValue I) (bound : ℕ) → Alone plan c → Gathered of plan c bound [] [] c
  gathered_none c bound a = record { ran = λ most le. record { went = went_none of.holds c a.free; keys = refl }; got = refl; steady = refl; shapes = refl; right = λ book numbers s. (s, λ b q. refl) }

  pub gathered_more : (c d e : CoreValue I) (bound : ℕ) (ks : List Key) (inputs : List Picture) (k : Key) (x : Picture) → Gathered of plan c bound ks inputs d → k.node < bound → Produced of plan d k x e → Gathered of plan c bound (ks ++ k ∷ []) (inputs ++ x ∷ []) e
  gathered_more c d e bound ks inputs k x g less p = record {
    ran = ran;
    got = one_more_got 0 ks k e.journal (subst (λ es. has_got_all 0 ks es ≡ true) (sym (p.ran (suc k.node) (omega arith)).went.journal) (all_got 0 ks d.journal _ g.got)) p.got;
    steady = p.steady ∙ g.steady;
    shapes = map-append (λ (y : Picture). y.shape) inputs (x ∷ []) ∙ ((λ i. g.shapes i ++ p.shape i ∷ []) ∙ sym (map-append (λ (j : Key). shape_at plan j.node) ks (k ∷ [])));
    right = λ book numbers s. let one = g.right book numbers s in let two = p.right book numbers one.0 in (two.0, λ b q. both_right b (one.1 b q) (two.1 b q));
  }
    where
      both_right : (b : List (List Picture)) → inputs ≡ map (key_picture b plan) ks → x ≡ key_picture b plan k → inputs ++ x ∷ [] ≡ map (key_picture b plan) (ks ++ k ∷ [])
      both_right b m n = (λ i. m i ++ n i ∷ []) ∙ sym (map-append (key_picture b plan) ks (k ∷ []))

      ran : (most : ℕ) → bound ≤ most → Ran of.holds c e (each_produced (serial_production_within most plan c.fixed.capacity) (keys_of c.cache) (ks ++ k ∷ []))
      ran most le =
          let f : List Key → Key → Serial = serial_production_within most plan c.fixed.capacity in
          let r : Ran of.holds c d (each_produced f (keys_of c.cache) ks) = g.ran most le in
          let s : Ran of.holds d e (serial_production_within most plan d.fixed.capacity (keys_of d.cache) k) = p.ran most (omega arith) in
          let cap : d.fixed.capacity ≡ c.fixed.capacity = ap (λ z. z.capacity) r.went.fixed in
          let t : Ran of.holds d e (f (each_produced f (keys_of c.cache) ks).keys k) = subst (λ (z : ℕ × List Key). Ran of.holds d e (serial_production_within most plan z.0 z.1 k)) (λ i. (cap i, r.keys i)) s in
          subst (Ran of.holds c e) (sym (produced_more f (keys_of c.cache) ks k)) (record { went = went_more of.holds c d e (each_produced f (keys_of c.cache) ks).events (f (each_produced f (keys_of c.cache) ks).keys k).events r.went t.went; keys = t.keys })

  pub stopped_within : (c d e : CoreValue I) (k j : Key) (ks js : List Key) (inputs : List Picture) (why : WindowStop) → IsPlan plan → k.node < length plan → input_keys plan k ≡ ks ++ j ∷ js → Gathered of plan c k.node ks inputs d → Stopped of plan d (CutShort plan 0 j) why e
      → Stopped of plan c (CutInputs plan 0 (input_keys plan k)) why e
  stopped_within c d e k j ks js inputs why ok less is g s =
      let lower = all_front plan k.node ks (j ∷ js) (subst (All (IsKeyBelow plan k.node)) is (inputs_are_keys plan k ok less)) in
      let es : List Event = (each_produced (serial_production_within k.node plan c.fixed.capacity) (keys_of c.cache) ks).events in record {
        done = es ++ s.done;
        closing = s.closing;
        cut = within js is (gathered_whole c k.node ks ok less lower) s.cut;
        went = subst (Went of.holds c e) (sym (append_assoc es s.done s.closing)) (went_more of.holds c d e es (s.done ++ s.closing) (gathered_went c d k.node ks inputs g) s.went);
        stops = stop_since c d e why (λ book numbers st. ((g.right book numbers st).0, tt)) s.stops;
      }

  pub stopped_between : (c d : CoreValue I) (k : Key) (ks js : List Key) (inputs : List Picture) → IsPlan plan → k.node < length plan → input_keys plan k ≡ ks ++ js → Gathered of plan c k.node ks inputs d → Stopped of plan c (CutInputs plan 0 (input_keys plan k)) Memory d
  stopped_between c d k ks js inputs ok less is g =
      let lower = all_front plan k.node ks js (subst (All (IsKeyBelow plan k.node)) is (inputs_are_keys plan k ok less)) in
      let es : List Event = (each_produced (serial_production_within k.node plan c.fixed.capacity) (keys_of c.cache) ks).events in record {
        done = es;
        closing = [];
        cut = between js is (gathered_whole c k.node ks ok less lower);
        went = subst (Went of.holds c d) (sym (append-nil es)) (gathered_went c d k.node ks inputs g);
        stops = memory_stop c d (λ book numbers st. ((g.right book numbers st).0, tt));
      }

-- an input of a key
