-- What is kept after an event.
use Rattle.std.proofs.Common.{◌≡◌, ℕ, zero, suc, ◌+◌, ◌-◌, ◌<◌, ◌≤◌, Bool, true, false, not, ◌&&◌, cond, List, [], ◌∷◌, ◌++◌, length, take, drop, get_or, map, Option, Some, None, refl, sym, ap, ◌∙◌, subst, ⊎_elim, arith}
use Rattle.std.specs.Prelude.{◌==◌, is_some, nat_lt, slice_get, slice_set}
use Rattle.std.specs.Option.{option_map_or, option_map}
use Rattle.std.specs.Map.{keys_of, lookup_entry, remove_entry}
use Rattle.std.specs.List.{list_all}
use Rattle.std.specs.HashSet.{contains}
use Rattle.std.proofs.lemmas.Bool.{and_parts, ltb-true, eqb-true, eqb-false, eq-eqb, ne_eqb}
use Rattle.lru.specs.LruCache.{LruCache, lru_cache, promoted, put_entries, last_entry}
use Rattle.clip_graph.specs.Plan.{Application, input_keys}
use Rattle.serve_machine.specs.Law.{worker_at}
use Rattle.fv_plane.specs.declared.key.Key.{Key}
use Rattle.frame_cache.specs.Cached.{same_key, at_key, has_key, without_key, fronted, Differ, dropped_key}
use Rattle.std.proofs.lemmas.List.{take_all, drop_more, drop_all}
use Rattle.frame_cache.proofs.CallerLemmas.{same_keys, at_fronted, some_push, some_without, gone}
use Rattle.run_check.specs.Leases.{AreLeases}
use Rattle.serve_machine.specs.declared.event.Event.TheVariants.{Hit, Publish}
use Rattle.serve_machine.specs.Machine.{Machine, meets, change, State, got_at, gathered, with_told, noted, is_by, is_running, holds_nothing, is_key, is_some_and, is_open}
use Rattle.serve_machine.proofs.TruthLemmas.{by_there}
use Rattle.run_check.specs.declared.tracker.Got.{Got}
use Rattle.run_check.specs.declared.tracker.Tracker.{Tracker}
use Rattle.run_check.specs.Tallies.{same_seat}
use Rattle.run_check.specs.Claims.{AreClaims}
use Rattle.run_check.specs.Mirrors.{same_got, Mirrors}
use Rattle.run_check.proofs.TallyLemmas.{test}

-- KEYS

-- a test may be turned round
eqb_sym : (a b : ℕ) → (a == b) ≡ (b == a)
eqb_sym a b = ⊎_elim
    (λ (h : (a == b) ≡ true). h ∙ sym (eq-eqb b a (sym (eqb-true a b h))))
    (λ (h : (a == b) ≡ false). h ∙ sym (ne_eqb b a (λ e. eqb-false a b h (sym e)))) (test (a == b))

key_sym : (a b : Key) → same_key a b ≡ same_key b a
key_sym a b = ap (λ x. x && a.n == b.n) (eqb_sym a.node b.node) ∙ ap (λ x. b.node == a.node && x) (eqb_sym a.n b.n)

module _ {A : Type 0} where
  lookup_entry_is : (k : Key) (ps : List (Key × A)) → lookup_entry (same_key k) ps ≡ option_map (λ x. (k, x)) (at_key k ps)
  lookup_entry_is k [] = refl
  lookup_entry_is k (p ∷ ps) = ⊎_elim
      (λ (e : same_key k p.0 ≡ true). let same : p.0 ≡ k = sym (same_keys k p.0 e) in rw e (ap (λ j. Some (j, p.1)) same))
      (λ (e : same_key k p.0 ≡ false). rw e (lookup_entry_is k ps)) (test (same_key k p.0))

  pub promoted_is : (k : Key) (ps : List (Key × A)) → promoted (same_key k) ps ≡ fronted k ps
  promoted_is k ps = ap (λ o. option_map_or (λ e. e ∷ remove_entry (same_key k) ps) o ps) (lookup_entry_is k ps) ∙ go (at_key k ps)
    where
      go : (o : Option A) → option_map_or (λ e. e ∷ remove_entry (same_key k) ps) (option_map (λ x. (k, x)) o) ps ≡ option_map_or (λ x. (k, x) ∷ without_key k ps) o ps
      go None = refl
      go (Some x) = refl

-- WHAT A WORKER GOT

pub got_noted : (w : ℕ) (k : Key) (o : Option (Unit {0})) (got : List ((ℕ × Key) × Unit {0})) (v : ℕ) (j : Key) → is_some o ≡ true
    → is_some (got_at v j (noted (w, k) o got)) ≡ cond (w == v && same_key k j) true (is_some (got_at v j got))
got_noted w k None got v j there = absurd (cc)
got_noted w k (Some x) got v j there = ⊎_elim
    (λ (e : (w == v && same_key k j) ≡ true). rw e (let f : (w == v && same_key j k) ≡ true = ap (λ b. w == v && b) (key_sym j k) ∙ e in rw f refl))
    (λ (e : (w == v && same_key k j) ≡ false). rw e (let f : (w == v && same_key j k) ≡ false = ap (λ b. w == v && b) (key_sym j k) ∙ e in rw f refl)) (test (w == v && same_key k j))

-- EVENTS

module _ (m : Machine (Unit {0})) (s : State (Unit {0})) (old new : Tracker) (w : ℕ) (k : Key) (before : Mirrors old m s) where
  -- a frame is found
  pub hit_made : meets m s (Hit w k) ≡ true → new.workers ≡ old.workers → new.first ≡ old.first → new.count ≡ old.count
      → new.cache ≡ lru_cache (promoted (same_key k) old.cache.entries) old.cache.cap → new.claims ≡ old.claims → new.leases ≡ old.leases
      → ((q : Got) → contains same_got new.got q ≡ cond (same_got (record { worker = w; key = k }) q) true (contains same_got old.got q))
      → new.taken ≡ old.taken → new.delivered ≡ old.delivered → new.failed ≡ old.failed → new.entered ≡ old.entered → new.awaits ≡ old.awaits → new.stopped ≡ old.stopped → Mirrors new m (change m s (Hit w k))
  hit_made met workers first count cache claims leases got taken delivered failed entered awaits stopped =
      let cached : has_key k s.cache ≡ true = (and_parts (has_key k s.cache) (not (is_by w (at_key k s.claims))) (and_parts (has_key k s.cache && not (is_by w (at_key k s.claims))) (is_running s) met).0).0 in
      record {
        workers = workers ∙ before.workers;
        first = first ∙ before.first;
        count = count ∙ before.count;
        capacity = ap (λ (c : LruCache Key (Unit {0})). c.cap) cache ∙ before.capacity;
        cache = ap (λ (c : LruCache Key (Unit {0})). c.entries) cache ∙ promoted_is k old.cache.entries ∙ ap (fronted k) before.cache;
        claims = subst (λ c. AreClaims c s.claims) (sym claims) before.claims;
        leases = subst (λ l. AreLeases l s.places) (sym leases) before.leases;
        apart = λ j h. at_fronted j k s.cache ∙ before.apart j h;
        claimed = before.claimed;
        instances = before.instances;
        got = λ v j. got (record { worker = v; key = j }) ∙ ap (cond (w == v && same_key k j) true) (before.got v j) ∙ sym (got_noted w k (at_key k s.cache) s.got v j cached);
        taken = ap (λ t. t.items) taken ∙ before.taken;
        delivered = ap (λ t. t.items) delivered ∙ before.delivered;
        failed = ap (λ t. t.items) failed ∙ before.failed;
        entered = λ v i. ap (λ t. contains same_seat t (record { worker = v; node = i })) entered ∙ before.entered v i;
        awaits = awaits ∙ before.awaits;
        stopped = stopped ∙ before.stopped;
      }

-- A CLAIM

pub apart_claimed : (k : Key) (w : ℕ) (claims : List (Key × ℕ)) (cache : List (Key × Unit {0})) → at_key k cache ≡ None → ((j : Key) → has_key j claims ≡ true → at_key j cache ≡ None)
    → (j : Key) → has_key j (claims ++ (k, w) ∷ []) ≡ true → at_key j cache ≡ None
apart_claimed k w claims cache none apart j h = ⊎_elim
    (λ (old : has_key j claims ≡ true). apart j old)
    (λ (new : same_key j k ≡ true). ap (λ z. at_key z cache) (same_keys j k new) ∙ none) (some_push j k w claims h)

pub claimed_push : (plan : List Application) (k : Key) (w : ℕ) (claims : List (Key × ℕ)) → is_key plan k ≡ true → ((j : Key) → has_key j claims ≡ true → is_key plan j ≡ true)
    → (j : Key) → has_key j (claims ++ (k, w) ∷ []) ≡ true → is_key plan j ≡ true
claimed_push plan k w claims key claimed j h = ⊎_elim
    (λ (old : has_key j claims ≡ true). claimed j old)
    (λ (new : same_key j k ≡ true). ap (is_key plan) (same_keys j k new) ∙ key) (some_push j k w claims h)

-- A PUBLICATION

pub apart_published : (k : Key) (w : ℕ) (claims : List (Key × ℕ)) (cache : List (Key × Unit {0})) → Differ claims → ((j : Key) → has_key j claims ≡ true → at_key j cache ≡ None)
    → (j : Key) → has_key j (without_key k claims) ≡ true → at_key j ((k, tt) ∷ cache) ≡ None
apart_published k w claims cache differ apart j h = ⊎_elim
    (λ (e : same_key j k ≡ true).
    let none : has_key j (without_key k claims) ≡ false = ap is_some (ap (λ z. at_key z (without_key k claims)) (same_keys j k e) ∙ gone k claims differ) in
    absurd (let no : ⊥ = cc in no))
    (λ (e : same_key j k ≡ false). rw e (apart j (some_without j k claims h))) (test (same_key j k))

-- a new pair in a cache that is not full
pub put_is : (c : LruCache Key (Unit {0})) (k : Key) → at_key k c.entries ≡ None → length c.entries < c.cap → put_entries same_key c k tt ≡ (k, tt) ∷ c.entries
put_is c k none room =
    ap (λ o. option_map_or (λ e. (e.0, tt) ∷ remove_entry (same_key k) c.entries) o ((k, tt) ∷ take (c.cap - 1) c.entries)) (lookup_entry_is k c.entries ∙ ap (option_map (λ y. (k, y))) none)
    ∙ ap (λ (l : List (Key × Unit {0})). (k, tt) ∷ l) (take_all (c.cap - 1) c.entries (omega arith))

-- what is made is there, where all inputs are
pub made_there : {A B : Type 0} (f : A → B) (o : Option A) → is_some o ≡ true → is_some (option_map f o) ≡ true
made_there f None h = absurd (cc)
made_there f (Some x) h = refl

pub noted_unit : {A : Type 0} (a : A) (o : Option (Unit {0})) (es : List (A × Unit {0})) → is_some o ≡ true → noted a o es ≡ (a, tt) ∷ es
noted_unit a None es h = absurd (cc)
noted_unit a (Some x) es h = refl

-- all of some frames
pub gathered_more : (w : ℕ) (k : Key) (ks : List Key) (got : List ((ℕ × Key) × Unit {0})) → is_some (gathered w (k ∷ ks) got) ≡ (is_some (got_at w k got) && is_some (gathered w ks got))
gathered_more w k ks got = go (got_at w k got) (gathered w ks got)
  where
    go : (o : Option (Unit {0})) (told : Option (List (Unit {0}))) → is_some (with_told o told) ≡ (is_some o && is_some told)
    go None None = refl
    go None (Some xs) = refl
    go (Some x) None = refl
    go (Some x) (Some xs) = refl

pub got_turn : (w : ℕ) (keys : List Key) (i : ℕ) (d : Key) (got : List ((ℕ × Key) × Unit {0})) → i < length keys
    → is_some (gathered w (drop i keys) got) ≡ (is_some (got_at w (get_or keys i d) got) && is_some (gathered w (drop (i + 1) keys) got))
got_turn w keys i d got less = ap (λ (l : List Key). is_some (gathered w l got)) (drop_more keys i d less) ∙ gathered_more w (get_or keys i d) (drop (i + 1) keys) got

pub got_end : (w : ℕ) (keys : List Key) (i : ℕ) (got : List ((ℕ × Key) × Unit {0})) → length keys ≤ i → is_some (gathered w (drop i keys) got) ≡ true
got_end w keys i got past = ap (λ (l : List Key). is_some (gathered w l got)) (drop_all i keys past)

module _ (m : Machine (Unit {0})) (s : State (Unit {0})) (w : ℕ) (k : Key) (met : meets m s (Publish w k) ≡ true) where
  rooms : (nat_lt (length s.cache) m.fixed.capacity ≡ true) × (is_some (gathered w (input_keys m.fixed.plan k) s.got) ≡ true) × (is_by w (at_key k s.claims) ≡ true)
  rooms =
      let abc = and_parts (is_by w (at_key k s.claims) && holds_nothing w s.places && is_some (gathered w (input_keys m.fixed.plan k) s.got)) (nat_lt (length s.cache) m.fixed.capacity) met in
      let ab = and_parts (is_by w (at_key k s.claims) && holds_nothing w s.places) (is_some (gathered w (input_keys m.fixed.plan k) s.got)) abc.0 in
      (abc.1, ab.1, (and_parts (is_by w (at_key k s.claims)) (holds_nothing w s.places) ab.0).0)

  pub publisher : at_key k s.claims ≡ Some w
  publisher = by_there w (at_key k s.claims) rooms.2

module _ (m : Machine (Unit {0})) (s : State (Unit {0})) (old new : Tracker) (w : ℕ) (k : Key) (before : Mirrors old m s) where
  -- a frame is published
  pub publish_made : meets m s (Publish w k) ≡ true → new.workers ≡ old.workers → new.first ≡ old.first → new.count ≡ old.count
      → new.cache ≡ lru_cache (put_entries same_key old.cache k tt) old.cache.cap → AreClaims new.claims (without_key k s.claims) → new.leases ≡ old.leases
      → ((q : Got) → contains same_got new.got q ≡ cond (same_got (record { worker = w; key = k }) q) true (contains same_got old.got q))
      → new.taken ≡ old.taken → new.delivered ≡ old.delivered → new.failed ≡ old.failed → new.entered ≡ old.entered → new.awaits ≡ None → new.stopped ≡ old.stopped → Mirrors new m (change m s (Publish w k))
  publish_made met workers first count cache claims leases got taken delivered failed entered awaits stopped =
      let need = rooms m s w k met in
      let mine = publisher m s w k met in
      let less : length s.cache < m.fixed.capacity = ltb-true (length s.cache) m.fixed.capacity need.0 in
      let there = made_there (m.make k) (gathered w (input_keys m.fixed.plan k) s.got) need.1 in
      let none : at_key k s.cache ≡ None = before.apart k (ap is_some mine) in
      let cached = noted_unit k (option_map (m.make k) (gathered w (input_keys m.fixed.plan k) s.got)) s.cache there in
      let size : length old.cache.entries ≡ length s.cache = ap length before.cache in
      let cap = before.capacity in
      let put = put_is old.cache k (ap (at_key k) before.cache ∙ none) (omega arith) in
      record {
        workers = workers ∙ before.workers;
        first = first ∙ before.first;
        count = count ∙ before.count;
        capacity = ap (λ (c : LruCache Key (Unit {0})). c.cap) cache ∙ before.capacity;
        cache = ap (λ (c : LruCache Key (Unit {0})). c.entries) cache ∙ put ∙ ap (λ (l : List (Key × Unit {0})). (k, tt) ∷ l) before.cache ∙ sym cached;
        claims = claims;
        leases = subst (λ l. AreLeases l s.places) (sym leases) before.leases;
        apart = λ j h. ap (at_key j) cached ∙ apart_published k w s.claims s.cache (let are = before.claims in are.differ) before.apart j h;
        claimed = λ j h. before.claimed j (some_without j k s.claims h);
        instances = before.instances;
        got = λ v j. got (record { worker = v; key = j }) ∙ ap (cond (w == v && same_key k j) true) (before.got v j)
            ∙ sym (got_noted w k (option_map (m.make k) (gathered w (input_keys m.fixed.plan k) s.got)) s.got v j there);
        taken = ap (λ t. t.items) taken ∙ before.taken;
        delivered = ap (λ t. t.items) delivered ∙ before.delivered;
        failed = ap (λ t. t.items) failed ∙ before.failed;
        entered = λ v i. ap (λ t. contains same_seat t (record { worker = v; node = i })) entered ∙ before.entered v i;
        awaits = awaits;
        stopped = stopped ∙ before.stopped;
      }

-- INSTANCES

pub lease_test : (w : ℕ) (o : Option (Option ℕ)) → is_by w (worker_at o) ≡ is_some_and (is_by w) o
lease_test w None = refl
lease_test w (Some holder) = refl

-- THE LAST KEY

last_key : (k : Key) (ps : List (Key × Unit {0})) (i : ℕ) → is_some_and (λ (p : Key × Unit {0}). same_key p.0 k) (slice_get ps i) ≡ is_some_and (same_key k) (slice_get (keys_of ps) i)
last_key k [] i = refl
last_key k (p ∷ ps) zero = key_sym p.0 k
last_key k (p ∷ ps) (suc i) = last_key k ps i

pub last_test : (x : Bool) (k : Key) (cap : ℕ) (ps : List (Key × Unit {0}))
    → (x && length ps == cap && is_some_and (λ (p : Key × Unit {0}). same_key p.0 k) (last_entry ps)) ≡ (x && length ps == cap && is_some_and (same_key k) (dropped_key cap ps))
last_test x k cap ps = ⊎_elim
    (λ (full : (length ps == cap) ≡ true).
    let size : length ps ≡ cap = eqb-true (length ps) cap full in
    ap (λ b. x && length ps == cap && b) (last_key k ps (length ps - 1) ∙ ap (λ n. is_some_and (same_key k) (slice_get (keys_of ps) (n - 1))) size))
    (λ (other : (length ps == cap) ≡ false). rw other (both x (is_some_and (λ (p : Key × Unit {0}). same_key p.0 k) (last_entry ps)) (is_some_and (same_key k) (dropped_key cap ps)))) (test (length ps == cap))
  where
    both : (x a b : Bool) → (x && false && a) ≡ (x && false && b)
    both true a b = refl
    both false a b = refl

pub full_of : (x : Bool) (n cap : ℕ) (b : Bool) → (x && n == cap && b) ≡ true → n ≡ cap
full_of x n cap b h = eqb-true n cap (and_parts x (n == cap) (and_parts (x && n == cap) b h).0).1

-- OUTPUTS

pub open_test : (fs : List (Option (Unit {0}))) (i : ℕ) → is_some_and not (slice_get (map is_some fs) i) ≡ is_some_and is_open (slice_get fs i)
open_test [] i = refl
open_test (None ∷ fs) zero = refl
open_test (Some x ∷ fs) zero = refl
open_test (f ∷ fs) (suc i) = open_test fs i

pub delivered_set : (fs : List (Option (Unit {0}))) (i : ℕ) (o : Option (Unit {0})) → is_some o ≡ true → slice_set (map is_some fs) i true ≡ map is_some (slice_set fs i o)
delivered_set [] i o there = refl
delivered_set (f ∷ fs) zero o there = ap (λ b. b ∷ map is_some fs) (sym there)
delivered_set (f ∷ fs) (suc i) o there = ap (λ l. is_some f ∷ l) (delivered_set fs i o there)

pub all_delivered : (fs : List (Option (Unit {0}))) → list_all (λ b. b) (map is_some fs) ≡ list_all is_some fs
all_delivered [] = refl
all_delivered (f ∷ fs) = ap (λ b. is_some f && b) (all_delivered fs)
