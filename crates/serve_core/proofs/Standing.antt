-- What a core stands for stays over each call.
use Rattle.std.proofs.Common.{◌≡◌, ◌⊎◌, ℕ, zero, suc, ◌+◌, ◌-◌, ◌<◌, ◌≤◌, ◌==◌, Bool, true, false, ◌||◌, if◌then◌else◌, List, [], ◌∷◌, ◌++◌, length, map, take, slice_get, get_or, slice_index_or, Option, Some, None, sym, refl, ap, ◌∙◌, subst, inl, inr, ⊎_elim, arith}
use Rattle.std.proofs.lemmas.List.Recursion.{is_count_by}
use Rattle.std.proofs.lemmas.Bool.{eqb-true}
use Rattle.std.proofs.lemmas.List.{length-map}
use Rattle.fv_plane.specs.declared.format.Info.{Info}
use Rattle.fv_plane.specs.Picture.{Picture}
use Rattle.fv_plane.specs.declared.key.Key.{Key}
use Rattle.clip_term.specs.Terms.{Act, source}
use Rattle.clip_graph.specs.Plan.{Application, application_at, is_source, sources_in, IsPlan, IsCounted}
use Rattle.frame_cache.specs.Cached.{Cached, same_key, at_key, fronted, put_first, dropped_key}
use Rattle.frame_cache.proofs.CallerLemmas.{test, same_keys, at_fronted, at_put_other}
use Rattle.inst_table.specs.declared.place.Place.{Place}
use Rattle.inst_table.specs.declared.place.Slot.{Slot}
use Rattle.inst_table.specs.declared.place.Slot.TheVariants.{Free, Leased as LeasedTo}
use Rattle.inst_table.specs.Places.{same_place, slot_at, with_slot, shared_place}
use Rattle.inst_table.proofs.CallerLemmas.{same_places, slot_other}
use Rattle.serve_machine.specs.declared.event.Event.{Event}
use Rattle.serve_machine.specs.declared.event.Event.TheVariants.{Hit, Claim, Enter, Leave, Publish, Abandon, Take, Deliver, Fail}
use Rattle.serve_machine.specs.declared.event.WindowStop.{WindowStop}
use Rattle.serve_machine.specs.declared.event.WindowStop.TheVariants.{Read, Changed, Memory}
use Rattle.serve_machine.specs.Events.{frame_key}
use Rattle.serve_machine.specs.SerialRun.{eviction}
use Rattle.serve_core.specs.declared.answers.Ask.{Ask}
use Rattle.serve_core.specs.declared.answers.Ask.TheVariants.{Hit as Found, Claimed, Taken, Stopped}
use Rattle.serve_core.specs.declared.answers.Admitted.{Admitted}
use Rattle.serve_core.specs.declared.answers.Admitted.TheVariants.{Leased, Busy, Stopped as Refused}
use Rattle.serve_core.specs.CoreValue.{CoreValue}
use Rattle.serve_core.specs.Calls.{Asked, Admits, after_leave, after_publish, after_abandon, TookOutput, after_deliver, after_fail, after_begin, after_end, made}
use Rattle.serve_core.specs.Sources.{place_of, sources_from, source_nodes, with_told, all_told, feed_at, book_of, faults_at, faults_of}
use Rattle.serve_machine.specs.Machine.{first_stop, has_read, has_changed}
use Rattle.serve_core.specs.Stands.{Book, IsRight, AnswerIsRight, FitsAct, Fits, AnswerFits, HasFailed, StopFits, Stands, CallsStand}
use Rattle.serve_core.proofs.Places.{at_set, not_free, free_same, some_same}
use Rattle.serve_core.proofs.Keeping.{set_other, none_given}
use Rattle.serve_core.proofs.Stopping.{AreQuiet, unstopped, read_append, read_same, changed_append, changed_same, eviction_quiet}

-- Frames.

right_fronted : (book : Book) (plan : List Application) (k : Key) (ps : List (Key × Picture)) → ((j : Key) (x : Picture) → at_key j ps ≡ Some x → IsRight book plan j x)
    → (j : Key) (x : Picture) → at_key j (fronted k ps) ≡ Some x → IsRight book plan j x
right_fronted book plan k ps right j x h = right j x (sym (at_fronted j k ps) ∙ h)

right_put : (book : Book) (plan : List Application) (most : ℕ) (k : Key) (x : Picture) (ps : List (Key × Picture)) → IsRight book plan k x
    → ((j : Key) (y : Picture) → at_key j ps ≡ Some y → IsRight book plan j y) → (j : Key) (y : Picture) → at_key j (put_first most k x ps) ≡ Some y → IsRight book plan j y
right_put book plan most k x ps is right j y h = ⊎_elim
    (λ (e : same_key j k ≡ true). let h' : Some x ≡ Some y = rw e at h in let same : x ≡ y = some_same h' in
    subst (λ z. IsRight book plan z y) (sym (same_keys j k e)) (subst (λ z. IsRight book plan k z) same is))
    (λ (e : same_key j k ≡ false). right j y (at_put_other j k most x y ps e h)) (test (same_key j k))

left_or : (a : Bool) → (a || false) ≡ true → a ≡ true
left_or true h = refl
left_or false h = absurd (cc)

either : (a b : Bool) → (a || b) ≡ true → (a ≡ true) ⊎ (b ≡ true)
either true b h = inl refl
either false b h = inr h

-- an instance that is in the table is at another place than one that comes back, and stays there
module _ {I : Type 0} (table : List (Place × Slot I)) (p : Place) (w : ℕ) (out : slot_at p table ≡ Some (LeasedTo w)) where
  apart : (q : Place) (x : I) → slot_at q table ≡ Some (Free x) → same_place q p ≡ false
  apart q x there = ⊎_elim
      (λ (e : same_place q p ≡ true). let at : slot_at q table ≡ Some (LeasedTo w) = subst (λ z. slot_at z table ≡ Some (LeasedTo w)) (sym (same_places q p e)) out in
      absurd (not_free (some_same (sym at ∙ there))))
      (λ (e : same_place q p ≡ false). e) (test (same_place q p))

  pub still_there : (q : Place) (x y : I) → slot_at q table ≡ Some (Free x) → slot_at q (with_slot p (Free y) table) ≡ Some (Free x)
  still_there q x y there = slot_other q p (Free y) table (apart q x there) ∙ there

module _ {I : Type 0} {feed : I → Option (List Picture)} {faults : I → ℕ} {book : Book} {numbers : List ℕ} {c : CoreValue I} (v : Stands feed faults book numbers c) where
  -- the journal goes on without a failure
  failed_on : (es : List Event) → AreQuiet es → (i : ℕ) → has_read i (c.journal ++ es) ≡ true → HasFailed feed faults book numbers c.fixed.plan c.table i
  failed_on es q i h = v.failed i (sym (read_same i c.journal es q) ∙ h)

  changed_on : (es : List Event) → AreQuiet es → has_changed (c.journal ++ es) ≡ true → book ≡ None
  changed_on es q h = v.changed (sym (changed_same c.journal es q) ∙ h)

  found_stands : (w : ℕ) (k : Key) → Stands feed faults book numbers (record c { cache = fronted k c.cache; journal = c.journal ++ Hit w k ∷ [] })
  found_stands w k = record {
    cached = right_fronted book c.fixed.plan k c.cache v.cached;
    outputs = v.outputs;
    sources = v.sources;
    failed = failed_on (Hit w k ∷ []) (refl, tt);
    changed = changed_on (Hit w k ∷ []) (refl, tt);
  }

  claimed_stands : (w : ℕ) (k : Key) → Stands feed faults book numbers (record c { claims = c.claims ++ (k, w) ∷ []; journal = c.journal ++ Claim w k ∷ [] })
  claimed_stands w k = record {
    cached = v.cached;
    outputs = v.outputs;
    sources = v.sources;
    failed = failed_on (Claim w k ∷ []) (refl, tt);
    changed = changed_on (Claim w k ∷ []) (refl, tt);
  }

  entered_stands : (w i : ℕ) (p : Place) → c.stop ≡ None → c.stop ≡ first_stop c.journal
      → Stands feed faults book numbers (record c { table = with_slot p (LeasedTo w) c.table; journal = c.journal ++ Enter w i p.instance ∷ [] })
  entered_stands w i p running first = record {
    cached = v.cached;
    outputs = v.outputs;
    sources = λ q x h. ⊎_elim (λ (e : slot_at q c.table ≡ Some (Free x)). v.sources q x e) (λ (e : (q ≡ p) × (LeasedTo w ≡ Free x)). absurd (not_free e.1)) (at_set q p (LeasedTo w) (Free x) c.table h);
    failed = λ j h. let bad : false ≡ true = sym (unstopped j c.journal (sym first ∙ running)) ∙ (sym (read_same j c.journal (Enter w i p.instance ∷ []) (refl, tt)) ∙ h) in absurd (cc);
    changed = changed_on (Enter w i p.instance ∷ []) (refl, tt);
  }

  still_failed : (p : Place) (w : ℕ) (y : I) (i : ℕ) → slot_at p c.table ≡ Some (LeasedTo w) → HasFailed feed faults book numbers c.fixed.plan c.table i → HasFailed feed faults book numbers c.fixed.plan (with_slot p (Free y) c.table) i
  still_failed p w y i out f = record {
    instance = f.instance;
    there = still_there c.table p w out (shared_place i) f.instance y f.there;
    more = f.more;
  }

  left_stands : (w : ℕ) (p : Place) (x : I) → slot_at p c.table ≡ Some (LeasedTo w) → Fits feed faults book numbers c.fixed.plan p x → Stands feed faults book numbers (after_leave c w p x)
  left_stands w p x out fits = record {
    cached = v.cached;
    outputs = v.outputs;
    sources = λ q y h. ⊎_elim (λ (e : slot_at q c.table ≡ Some (Free y)). v.sources q y e)
        (λ (e : (q ≡ p) × (Free x ≡ Free y)). subst (λ z. Fits feed faults book numbers c.fixed.plan z y) (sym e.0) (subst (λ z. Fits feed faults book numbers c.fixed.plan p z) (free_same e.1) fits))
        (at_set q p (Free x) (Free y) c.table h);
    failed = λ i h. still_failed p w x i out (failed_on (Leave w p.node p.instance ∷ []) (refl, tt) i h);
    changed = changed_on (Leave w p.node p.instance ∷ []) (refl, tt);
  }

  published_stands : (w : ℕ) (k : Key) (x : Picture) → IsRight book c.fixed.plan k x → Stands feed faults book numbers (after_publish c w k x)
  published_stands w k x is =
      let es = eviction w (dropped_key c.fixed.capacity c.cache) ++ Publish w k ∷ [] in
      let q = eviction_quiet w (dropped_key c.fixed.capacity c.cache) k in
      record {
        cached = right_put book c.fixed.plan c.fixed.capacity k x c.cache is v.cached;
        outputs = v.outputs;
        sources = v.sources;
        failed = failed_on es q;
        changed = changed_on es q;
      }

  abandoned_stands : (w : ℕ) (k : Key) → Stands feed faults book numbers (after_abandon c w k)
  abandoned_stands w k = record {
    cached = v.cached;
    outputs = v.outputs;
    sources = v.sources;
    failed = failed_on (Abandon w k ∷ []) (refl, tt);
    changed = changed_on (Abandon w k ∷ []) (refl, tt);
  }

  took_stands : (w n : ℕ) → Stands feed faults book numbers (record c { outputs = record { taken = c.outputs.taken ++ w ∷ []; frames = c.outputs.frames }; journal = c.journal ++ Take w n ∷ [] })
  took_stands w n = record {
    cached = v.cached;
    outputs = v.outputs;
    sources = v.sources;
    failed = failed_on (Take w n ∷ []) (refl, tt);
    changed = changed_on (Take w n ∷ []) (refl, tt);
  }

  delivered_stands : (w n : ℕ) (x : Picture) → c.fixed.first ≤ n → IsRight book c.fixed.plan (frame_key c.fixed.root n) x → Stands feed faults book numbers (after_deliver c w n x)
  delivered_stands w n x low is = record {
    cached = v.cached;
    outputs = λ j y h. ⊎_elim (λ (e : slice_get c.outputs.frames j ≡ Some (Some y)). v.outputs j y e)
        (λ (e : (n - c.fixed.first ≡ j) × (x ≡ y)).
        let at : n ≡ c.fixed.first + j = (let same = e.0 in omega arith) in
        subst (λ m. IsRight book c.fixed.plan (frame_key c.fixed.root m) y) at (subst (λ z. IsRight book c.fixed.plan (frame_key c.fixed.root n) z) e.1 is))
        (set_other c.outputs.frames (n - c.fixed.first) j x y h);
    sources = v.sources;
    failed = failed_on (Deliver w n ∷ []) (refl, tt);
    changed = changed_on (Deliver w n ∷ []) (refl, tt);
  }

  failed_read : (why : WindowStop) (i : ℕ) → StopFits feed faults book numbers c.fixed.plan c.table why → has_read i (Fail 0 why ∷ []) ≡ true → HasFailed feed faults book numbers c.fixed.plan c.table i
  failed_read (Read j) i fits h = subst (HasFailed feed faults book numbers c.fixed.plan c.table) (eqb-true j i (left_or (j == i) h)) fits
  failed_read (Changed j n want got) i fits h = absurd (cc)
  failed_read Memory i fits h = absurd (cc)

  failed_change : (why : WindowStop) → StopFits feed faults book numbers c.fixed.plan c.table why → has_changed (Fail 0 why ∷ []) ≡ true → book ≡ None
  failed_change (Read j) fits h = absurd (cc)
  failed_change (Changed j n want got) fits h = fits
  failed_change Memory fits h = absurd (cc)

  failing_stands : (w : ℕ) (why : WindowStop) → StopFits feed faults book numbers c.fixed.plan c.table why → Stands feed faults book numbers (after_fail c w why)
  failing_stands w why fits = record {
    cached = v.cached;
    outputs = v.outputs;
    sources = v.sources;
    failed = λ i h. ⊎_elim (λ (e : has_read i c.journal ≡ true). v.failed i e) (λ (e : has_read i (Fail w why ∷ []) ≡ true). failed_read why i fits e) (either (has_read i c.journal) (has_read i (Fail w why ∷ [])) (sym (read_append i c.journal (Fail w why ∷ [])) ∙ h));
    changed = λ h. ⊎_elim (λ (e : has_changed c.journal ≡ true). v.changed e) (λ (e : has_changed (Fail w why ∷ []) ≡ true). failed_change why fits e) (either (has_changed c.journal) (has_changed (Fail w why ∷ [])) (sym (changed_append c.journal (Fail w why ∷ [])) ∙ h));
  }

  ended_stands : Stands feed faults book numbers (after_end c)
  ended_stands = record {
    cached = v.cached;
    outputs = λ j x h. absurd (cc);
    sources = v.sources;
    failed = λ i h. absurd (cc);
    changed = λ h. absurd (cc);
  }

-- The sources by their numbers.

source_within : (plan : List Application) (i : ℕ) (name : List ℕ) (number : ℕ) (info : Info) → (application_at plan i).act ≡ source name number info → i < length plan
source_within [] i name number info h = absurd (cc)
source_within (a ∷ later) zero name number info h = omega arith
source_within (a ∷ later) (suc i) name number info h = let ih = source_within later i name number info h in omega arith

-- how many of these are sources
abbrev counted : List Application → ℕ
counted [] = 0
counted (a ∷ later) = if is_source a.act then 1 + counted later else counted later

counted_is : (plan : List Application) → counted plan ≡ sources_in plan
counted_is plan = is_count_by counted (λ (a : Application). is_source a.act) refl (λ a later. refl) plan

found_from : (plan : List Application) (j i m : ℕ) → i < length plan → is_source (application_at plan i).act ≡ true → m ≡ counted (take i plan)
    → (m < length (sources_from j plan)) × (get_or (sources_from j plan) m 0 ≡ j + i)
found_from [] j i m less is e = absurd (omega arith)
found_from (a ∷ later) j zero zero less is e = rw is (omega arith, omega arith)
found_from (a ∷ later) j zero (suc m) less is e = absurd (omega arith)
found_from (a ∷ later) j (suc i) zero less is e = ⊎_elim
    (λ (h : is_source a.act ≡ true). let e' : 0 ≡ 1 + counted (take i later) = rw h at e in absurd (omega arith))
    (λ (h : is_source a.act ≡ false). let e' : 0 ≡ counted (take i later) = rw h at e in
    let ih = found_from later (j + 1) i zero (omega arith) is e' in rw h (ih.0, ih.1 ∙ omega arith)) (test (is_source a.act))
found_from (a ∷ later) j (suc i) (suc m) less is e = ⊎_elim
    (λ (h : is_source a.act ≡ true). let e' : suc m ≡ 1 + counted (take i later) = rw h at e in
    let ih = found_from later (j + 1) i m (omega arith) is (omega arith) in rw h (omega arith, ih.1 ∙ omega arith))
    (λ (h : is_source a.act ≡ false). let e' : suc m ≡ counted (take i later) = rw h at e in
    let ih = found_from later (j + 1) i (suc m) (omega arith) is e' in rw h (ih.0, ih.1 ∙ omega arith)) (test (is_source a.act))

mapped_at : {A : Type 0} (f : ℕ → A) (is : List ℕ) (m : ℕ) (d : A) → m < length is → get_or (map f is) m d ≡ f (get_or is m 0)
mapped_at f [] m d h = absurd (omega arith)
mapped_at f (i ∷ is) zero d h = refl
mapped_at f (i ∷ is) (suc m) d h = mapped_at f is m d (omega arith)

told_step : {A : Type 0} (x : A) (o : Option (List A)) (b : List A) → with_told (Some x) o ≡ Some b → (xs : List A) × (o ≡ Some xs) × (x ∷ xs ≡ b)
told_step x None b h = absurd (cc)
told_step x (Some xs) b h = (xs, refl, some_same h)

told_at : {A : Type 0} (os : List (Option A)) (b : List A) (m : ℕ) (d : A) → all_told os ≡ Some b → m < length os → get_or os m None ≡ Some (get_or b m d)
told_at [] b m d h less = absurd (omega arith)
told_at (None ∷ os) b m d h less = absurd (cc)
told_at (Some x ∷ os) b zero d h less = let s = told_step x (all_told os) b h in ap (λ (ys : List _). Some (get_or ys 0 d)) s.2
told_at (Some x ∷ os) b (suc m) d h less = let s = told_step x (all_told os) b h in told_at os s.0 m d s.1 (omega arith) ∙ ap (λ (ys : List _). Some (get_or ys (suc m) d)) s.2

module _ (plan : List Application) (is : IsPlan plan) (i : ℕ) (name : List ℕ) (number : ℕ) (info : Info) (act : (application_at plan i).act ≡ source name number info) where
  source_found : (number < length (source_nodes plan)) × (get_or (source_nodes plan) number 0 ≡ i)
  source_found =
      let less = source_within plan i name number info act in
      let number_is : number ≡ sources_in (take i plan) = (subst (λ a. IsCounted a (sources_in (take i plan)) (application_at plan i).mode) act (is.each i less).counted).0 in
      let found = found_from plan 0 i number less (ap is_source act) (number_is ∙ sym (counted_is (take i plan))) in
      (found.0, found.1 ∙ omega arith)

  number_at : {A : Type 0} (f : ℕ → A) (d : A) → get_or (map f (source_nodes plan)) number d ≡ f i
  number_at f d = mapped_at f (source_nodes plan) number d source_found.0 ∙ ap f source_found.1

module _ {I : Type 0} (feed : I → Option (List Picture)) (faults : I → ℕ) where
  faults_fit : (plan : List Application) (table : List (Place × Slot I)) (is : IsPlan plan) (i : ℕ) (name : List ℕ) (number : ℕ) (info : Info) (x : I)
      → (application_at plan i).act ≡ source name number info → slot_at (shared_place i) table ≡ Some (Free x) → slice_index_or (faults_of faults plan table) number 0 ≤ faults x
  faults_fit plan table is i name number info x act at =
      let e : slice_index_or (faults_of faults plan table) number 0 ≡ faults x = number_at plan is i name number info act (λ j. faults_at faults (slot_at (shared_place j) table)) 0 ∙ ap (faults_at faults) at in
      omega (arith, e)

  feed_fits : (plan : List Application) (table : List (Place × Slot I)) (is : IsPlan plan) (i : ℕ) (name : List ℕ) (number : ℕ) (info : Info) (x : I) (b : List (List Picture))
      → (application_at plan i).act ≡ source name number info → slot_at (shared_place i) table ≡ Some (Free x) → book_of feed plan table ≡ Some b → feed x ≡ Some (slice_index_or b number [])
  feed_fits plan table is i name number info x b act at told =
      let feeds = λ (j : ℕ). feed_at feed (slot_at (shared_place j) table) in
      let less : number < length (map feeds (source_nodes plan)) = (let found = (source_found plan is i name number info act).0 in rw (length-map (source_nodes plan) feeds) found) in
      ap (feed_at feed) (sym at) ∙ (sym (number_at plan is i name number info act feeds None) ∙ told_at (map feeds (source_nodes plan)) b number [] told less)

  made_fits : (plan : List Application) (table : List (Place × Slot I)) → IsPlan plan → (i : ℕ) (x : I) → slot_at (shared_place i) table ≡ Some (Free x) → (act : Act) → (application_at plan i).act ≡ act
      → FitsAct feed faults (book_of feed plan table) (faults_of faults plan table) act x
  made_fits plan table is i x at (source name number info) act = (λ b told. feed_fits plan table is i name number info x b act at told, faults_fit plan table is i name number info x act at)
  made_fits plan table is i x at _ act = tt

  begun_fits : (book : Book) (numbers : List ℕ) (plan : List Application) (table : List (Place × Slot I)) → IsPlan plan → (i : ℕ) (x : I) → slot_at (shared_place i) table ≡ Some (Free x)
      → (act : Act) → (application_at plan i).act ≡ act → FitsAct feed faults book numbers act x → FitsAct feed faults book (faults_of faults plan table) act x
  begun_fits book numbers plan table is i x at (source name number info) act fits = (fits.0, faults_fit plan table is i name number info x act at)
  begun_fits book numbers plan table is i x at _ act fits = tt

  begun_stands : (book : Book) (numbers : List ℕ) (c : CoreValue I) (first count : ℕ) → Stands feed faults book numbers c → IsPlan c.fixed.plan
      → Stands feed faults book (faults_of faults c.fixed.plan c.table) (after_begin c first count)
  begun_stands book numbers c first count v is = record {
    cached = v.cached;
    outputs = λ j x h. absurd (none_given count j x h);
    sources = λ p x at shared. begun_fits book numbers c.fixed.plan c.table is p.node x (subst (λ q. slot_at q c.table ≡ Some (Free x)) shared at)
        (application_at c.fixed.plan p.node).act refl (v.sources p x at shared);
    failed = λ i h. absurd (cc);
    changed = λ h. absurd (cc);
  }

  made_stands : (plan : List Application) (root workers : ℕ) (cache : Cached) (table : List (Place × Slot I)) → IsPlan plan → cache.pairs ≡ []
      → Stands feed faults (book_of feed plan table) (faults_of faults plan table) (made plan root cache workers table)
  made_stands plan root workers cache table is empty = record {
    cached = λ k x h. let bad : None ≡ Some x = sym (ap (at_key k) empty) ∙ h in absurd (cc);
    outputs = λ j x h. absurd (cc);
    sources = λ p x at shared. made_fits plan table is p.node x (subst (λ q. slot_at q table ≡ Some (Free x)) shared at) (application_at plan p.node).act refl;
    failed = λ i h. absurd (cc);
    changed = λ h. absurd (cc);
  }

  -- the calls

  asked_stands : (book : Book) (numbers : List ℕ) (c d : CoreValue I) (w : ℕ) (k : Key) (answer : Ask) → Stands feed faults book numbers c → Asked c w k answer d
      → Stands feed faults book numbers d × AnswerIsRight book c.fixed.plan k answer
  asked_stands book numbers c d w k (Found x) v a = (subst (Stands feed faults book numbers) (sym a.2) (found_stands v w k), v.cached k x a.1)
  asked_stands book numbers c d w k Claimed v a = (subst (Stands feed faults book numbers) (sym a.3) (claimed_stands v w k), tt)
  asked_stands book numbers c d w k (Taken other) v a = (subst (Stands feed faults book numbers) (sym a.3) v, tt)
  asked_stands book numbers c d w k (Stopped why) v a = (subst (Stands feed faults book numbers) (sym a.1) v, tt)

  admitted_stands : (book : Book) (numbers : List ℕ) (c d : CoreValue I) (w i : ℕ) (answer : Admitted I) → Stands feed faults book numbers c → c.stop ≡ first_stop c.journal → Admits c w i answer d
      → Stands feed faults book numbers d × AnswerFits feed faults book numbers c.fixed.plan answer
  admitted_stands book numbers c d w i (Leased l) v first a = (
    subst (Stands feed faults book numbers) (sym a.3) (entered_stands v w i (place_of c.fixed.plan w i) a.0 first),
    v.sources l.place l.value (subst (λ p. slot_at p c.table ≡ Some (Free l.value)) (sym a.1) a.2),
  )
  admitted_stands book numbers c d w i (Busy other) v first a = (subst (Stands feed faults book numbers) (sym a.2) v, tt)
  admitted_stands book numbers c d w i (Refused why) v first a = (subst (Stands feed faults book numbers) (sym a.1) v, tt)

  taken_stands : (book : Book) (numbers : List ℕ) (c d : CoreValue I) (w : ℕ) (taken : Option ℕ) → Stands feed faults book numbers c → TookOutput c w taken d → Stands feed faults book numbers d
  taken_stands book numbers c d w None v t = subst (Stands feed faults book numbers) (sym t.1) v
  taken_stands book numbers c d w (Some n) v t = subst (Stands feed faults book numbers) (sym t.3) (took_stands v w n)

  pub calls_stand : CallsStand feed faults
  calls_stand = record {
    ask = asked_stands;
    enter = admitted_stands;
    leave = λ book numbers c w p x v out fits. left_stands v w p x out fits;
    publish = λ book numbers c w k x v is. published_stands v w k x is;
    abandon = λ book numbers c w k v. abandoned_stands v w k;
    take_output = taken_stands;
    deliver = λ book numbers c w n x v low is. delivered_stands v w n x low is;
    fail = λ book numbers c w why v fits. failing_stands v w why fits;
    begin_window = begun_stands;
    end_window = λ book numbers c v. ended_stands v;
    new = made_stands;
  }
