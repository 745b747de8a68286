-- A run of keys is a run over frames.
use Rattle.std.proofs.Common.{◌≡◌, ℕ, ◌-◌, ◌==◌, nat_lt, true, false, not, ◌&&◌, List, [], ◌∷◌, map, set, slice_get, Option, Some, None, sym, refl, ap, ◌∙◌, subst, ⊎_elim}
use Rattle.std.specs.Prelude.{is_some, option_map}
use Rattle.std.specs.Cmp.Derive.{both_true}
use Rattle.std.specs.List.{list_any}
use Rattle.std.proofs.lemmas.List.{map-set}
use Rattle.std.proofs.lemmas.Option.{slice_get-map}
use Rattle.fv_plane.specs.declared.key.Key.{Key}
use Rattle.clip_graph.specs.Plan.{input_keys}
use Rattle.frame_cache.specs.Cached.{same_key, at_key, has_key, without_key}
use Rattle.frame_cache.proofs.CallerLemmas.{test, left_true, right_true}
use Rattle.serve_machine.specs.declared.event.Event.{Event}
use Rattle.serve_machine.specs.declared.event.Event.TheVariants.{Hit, Claim, Enter, Leave, Evict, Publish, Abandon, Take, Deliver, Fail}
use Rattle.serve_machine.specs.declared.event.WindowStop.{WindowStop}
use Rattle.serve_machine.specs.declared.event.WindowStop.TheVariants.{Read, Changed, Memory}
use Rattle.serve_machine.specs.Events.{frame_key}
use Rattle.serve_machine.specs.Machine.{State, is_key, is_open, is_some_and, is_by, holds_nothing, noted, is_running, got_at, gathered, stop_of, is_changed, has_changed, Machine, may_stop, meets, allowed, change, replay}
use Rattle.serve_machine.specs.Law.{seen, seen_state, bare, keys_machine, IsLifted, RunsLift}
use Rattle.serve_machine.proofs.SeenLemmas.{take_seen, keys_seen, noted_seen, length_seen, fronted_seen, is_some_seen, has_seen, got_seen, gathered_seen, lookup_seen}
use Rattle.serve_machine.proofs.TruthLemmas.{or_left, or_right, some_same}

module _ {F : Type 0} (m : Machine F) where
  abbrev down : State F → State (Unit {0})
  down s = seen_state bare s

  open_seen : (o : Option (Option F)) → is_some_and is_open (option_map (option_map bare) o) ≡ is_some_and is_open o
  open_seen None = refl
  open_seen (Some None) = refl
  open_seen (Some (Some x)) = refl

  stops : (s : State F) (w : ℕ) (why : WindowStop) → (m.is_told ≡ true → is_changed (Some why) ≡ false) → may_stop (keys_machine m.fixed) (down s) w why ≡ true → may_stop m s w why ≡ true
  stops s w (Read i) honest h = h
  stops s w (Changed i n want got) honest h = ⊎_elim
      (λ (e : m.is_told ≡ true). let bad : true ≡ false = honest e in absurd (cc))
      (λ (e : m.is_told ≡ false). both_true (left_true _ _ h) (ap not e)) (test m.is_told)
  stops s w Memory honest h = refl

  meant : (s : State F) (e : Event) → (m.is_told ≡ true → is_changed (stop_of e) ≡ false) → meets (keys_machine m.fixed) (down s) e ≡ true → meets m s e ≡ true
  meant s (Hit w k) honest h = ap (λ b. b && not (is_by w (at_key k s.claims)) && is_running s) (sym (has_seen bare k s.cache)) ∙ h
  meant s (Claim w k) honest h = ap (λ b. is_key m.fixed.plan k && not b && not (has_key k s.claims) && is_running s) (sym (has_seen bare k s.cache)) ∙ h
  meant s (Enter w i j) honest h = h
  meant s (Leave w i j) honest h = h
  meant s (Evict w k) honest h =
      (λ i. list_any (λ c. c.1 == w) s.claims && holds_nothing w s.places && sym (length_seen bare s.cache) i == m.fixed.capacity
      && is_some_and (same_key k) (slice_get (sym (keys_seen bare s.cache) i) (m.fixed.capacity - 1))) ∙ h
  meant s (Publish w k) honest h =
      let ready = ap is_some (gathered_seen bare w (input_keys m.fixed.plan k) s.got) ∙ is_some_seen (map bare) (gathered w (input_keys m.fixed.plan k) s.got) in
      (λ i. is_by w (at_key k s.claims) && holds_nothing w s.places && sym ready i && nat_lt (sym (length_seen bare s.cache) i) m.fixed.capacity) ∙ h
  meant s (Abandon w k) honest h = h
  meant s (Take w n) honest h = h
  meant s (Deliver w n) honest h =
      let free = ap (is_some_and is_open) (slice_get-map (option_map bare) s.frames (n - m.fixed.first)) ∙ open_seen (slice_get s.frames (n - m.fixed.first)) in
      let has = ap is_some (got_seen bare w (frame_key m.fixed.root n) s.got) ∙ is_some_seen bare (got_at w (frame_key m.fixed.root n) s.got) in
      (λ i. not (nat_lt n m.fixed.first) && is_by w (slice_get s.taken (n - m.fixed.first)) && sym free i && sym has i) ∙ h
  meant s (Fail w why) honest h = both_true (left_true _ _ h) (stops s w why honest (right_true _ _ h))

  made_seen : (k : Key) (o : Option (List F)) → option_map bare (option_map (m.make k) o) ≡ option_map (λ (xs : List (Unit {0})). bare xs) (option_map (map bare) o)
  made_seen k None = refl
  made_seen k (Some xs) = refl

  changed : (s : State F) (e : Event) → down (change m s e) ≡ change (keys_machine m.fixed) (down s) e
  changed s (Hit w k) =
      let front = fronted_seen bare k s.cache in
      let got = noted_seen bare (w, k) (at_key k s.cache) s.got ∙ ap (λ o. noted (w, k) o (seen bare s.got)) (sym (lookup_seen bare (same_key k) s.cache)) in
      λ i. record (down s) { cache = front i; got = got i }
  changed s (Claim w k) = refl
  changed s (Enter w i j) = refl
  changed s (Leave w i j) = refl
  changed s (Evict w k) = let fewer = take_seen bare (m.fixed.capacity - 1) s.cache in λ i. record (down s) { cache = fewer i; awaits = Some w }
  changed s (Publish w k) =
      let all = gathered w (input_keys m.fixed.plan k) s.got in
      let made = made_seen k all ∙ ap (option_map (λ (xs : List (Unit {0})). bare xs)) (sym (gathered_seen bare w (input_keys m.fixed.plan k) s.got)) in
      let cache = noted_seen bare k (option_map (m.make k) all) s.cache ∙ ap (λ o. noted k o (seen bare s.cache)) made in
      let got = noted_seen bare (w, k) (option_map (m.make k) all) s.got ∙ ap (λ o. noted (w, k) o (seen bare s.got)) made in
      λ i. record (down s) { cache = cache i; claims = without_key k s.claims; got = got i; awaits = None }
  changed s (Abandon w k) = refl
  changed s (Take w n) = refl
  changed s (Deliver w n) =
      let put = map-set (option_map bare) s.frames (n - m.fixed.first) (got_at w (frame_key m.fixed.root n) s.got)
      ∙ ap (set (map (option_map bare) s.frames) (n - m.fixed.first)) (sym (got_seen bare w (frame_key m.fixed.root n) s.got)) in
      λ i. record (down s) { frames = put i }
  changed s (Fail w why) = refl

  pub lifted : (events : List Event) (s : State F) (t : State (Unit {0})) → (m.is_told ≡ true → has_changed events ≡ false)
      → replay (keys_machine m.fixed) (down s) events ≡ Some t → IsLifted m s events t
  lifted [] s t honest ran = record { state = s; runs = refl; same = some_same ran }
  lifted (e ∷ es) s t honest ran = ⊎_elim
      (λ (ok : allowed (keys_machine m.fixed) (down s) e ≡ true).
      let mine : meets m s e ≡ true = meant s e (λ told. or_left (is_changed (stop_of e)) (has_changed es) (honest told)) (right_true _ _ (right_true _ _ ok)) in
      let ok' : allowed m s e ≡ true = both_true (left_true _ _ ok) (both_true (left_true _ _ (right_true _ _ ok)) mine) in
      let on : replay (keys_machine m.fixed) (change (keys_machine m.fixed) (down s) e) es ≡ Some t = rw ok at ran in
      let rest = lifted es (change m s e) t (λ told. or_right (is_changed (stop_of e)) (has_changed es) (honest told)) (subst (λ z. replay (keys_machine m.fixed) z es ≡ Some t) (sym (changed s e)) on) in
      record { state = rest.state; runs = rw ok' rest.runs; same = rest.same })
      (λ (bad : allowed (keys_machine m.fixed) (down s) e ≡ false). let none : None ≡ Some t = rw bad at ran in absurd (cc)) (test (allowed (keys_machine m.fixed) (down s) e))

pub runs_lift : (F : Type 0) → RunsLift F
runs_lift F m start events keys honest ran = lifted m events start keys honest ran
