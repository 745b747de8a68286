-- What a worker's own events gave it, it has in the state.
use Rattle.std.proofs.Common.{◌≡◌, ◌⊎◌, ℕ, ◌==◌, Bool, true, false, ◌&&◌, ◌||◌, List, [], ◌∷◌, Option, Some, None, sym, refl, ◌∙◌, subst, inl, inr, ⊎_elim}
use Rattle.std.specs.Prelude.{is_some, option_map}
use Rattle.fv_plane.specs.declared.key.Key.{Key}
use Rattle.clip_graph.specs.Plan.{input_keys}
use Rattle.frame_cache.specs.Cached.{same_key, at_key}
use Rattle.frame_cache.proofs.CallerLemmas.{test, left_true, right_true}
use Rattle.serve_machine.specs.declared.event.Event.{Event}
use Rattle.serve_machine.specs.declared.event.Event.TheVariants.{Hit, Claim, Enter, Leave, Evict, Publish, Abandon, Take, Deliver, Fail}
use Rattle.serve_machine.specs.Events.{gives, has_got, has_got_all, enters, has_entered}
use Rattle.serve_machine.specs.Machine.{State, is_entered, noted, with_told, got_at, gathered, Machine, meets, allowed, change, replay}
use Rattle.serve_machine.proofs.TruthLemmas.{either, or_true}

later : {b : Bool} → (false ≡ true) ⊎ (b ≡ true) → b ≡ true
later {b} h = or_true false b h

pub mapped : {A B : Type 0} → (f : A → B) (o : Option A) → is_some o ≡ true → is_some (option_map f o) ≡ true
mapped f None h = h
mapped f (Some x) h = refl

module _ {F : Type 0} where
  noted_there : (v w : ℕ) (j k : Key) (o : Option F) (got : List ((ℕ × Key) × F)) → is_some o ≡ true
      → ((v == w && same_key k j) ≡ true) ⊎ (is_some (got_at w k got) ≡ true) → is_some (got_at w k (noted (v, j) o got)) ≡ true
  noted_there v w j k None got there h = absurd (cc)
  noted_there v w j k (Some x) got there h = ⊎_elim
      (λ (e : (v == w && same_key k j) ≡ true). rw e refl)
      (λ (e : (v == w && same_key k j) ≡ false). rw e (⊎_elim
      (λ (g : (v == w && same_key k j) ≡ true). let bad : false ≡ true = sym e ∙ g in absurd (cc))
      (λ (g : is_some (got_at w k got) ≡ true). g) h)) (test (v == w && same_key k j))

  all_there : (o : Option F) (os : Option (List F)) → is_some o ≡ true → is_some os ≡ true → is_some (with_told o os) ≡ true
  all_there None os h g = absurd (cc)
  all_there (Some x) None h g = absurd (cc)
  all_there (Some x) (Some xs) h g = refl

module _ {F : Type 0} (m : Machine F) where
  gives_step : (s : State F) (e : Event) (w : ℕ) (k : Key) → meets m s e ≡ true
      → (gives w k e ≡ true) ⊎ (is_some (got_at w k s.got) ≡ true) → is_some (got_at w k (change m s e).got) ≡ true
  gives_step s (Hit v j) w k ok h = noted_there v w j k (at_key j s.cache) s.got (left_true _ _ (left_true _ _ ok)) h
  gives_step s (Publish v j) w k ok h =
      let made = gathered v (input_keys m.fixed.plan j) s.got in
      noted_there v w j k (option_map (m.make j) made) s.got (mapped (m.make j) made (right_true _ _ (left_true _ _ ok))) h
  gives_step s (Claim v j) w k ok h = later h
  gives_step s (Enter v i j) w k ok h = later h
  gives_step s (Leave v i j) w k ok h = later h
  gives_step s (Evict v j) w k ok h = later h
  gives_step s (Abandon v j) w k ok h = later h
  gives_step s (Take v n) w k ok h = later h
  gives_step s (Deliver v n) w k ok h = later h
  gives_step s (Fail v why) w k ok h = later h

  pub got_law : (w : ℕ) (k : Key) (events : List Event) (s t : State F) → replay m s events ≡ Some t
      → (has_got w k events ≡ true) ⊎ (is_some (got_at w k s.got) ≡ true) → is_some (got_at w k t.got) ≡ true
  got_law w k [] s t ran h = let same : s ≡ t = cc in subst (λ (z : State F). is_some (got_at w k z.got) ≡ true) same (later h)
  got_law w k (e ∷ es) s t ran h = ⊎_elim
      (λ (ok : allowed m s e ≡ true). got_law w k es (change m s e) t (rw ok at ran) (⊎_elim
      (λ (g : (gives w k e || has_got w k es) ≡ true). ⊎_elim
      (λ (now : gives w k e ≡ true). inr (gives_step s e w k (right_true _ _ (right_true _ _ ok)) (inl now)))
      (λ (after : has_got w k es ≡ true). inl after) (either (gives w k e) (has_got w k es) g))
      (λ (g : is_some (got_at w k s.got) ≡ true). inr (gives_step s e w k (right_true _ _ (right_true _ _ ok)) (inr g))) h))
      (λ (bad : allowed m s e ≡ false). let none : None ≡ Some t = rw bad at ran in absurd (cc)) (test (allowed m s e))

  pub gathered_law : (w : ℕ) (ks : List Key) (events : List Event) (s t : State F) → replay m s events ≡ Some t
      → has_got_all w ks events ≡ true → is_some (gathered w ks t.got) ≡ true
  gathered_law w [] events s t ran h = refl
  gathered_law w (k ∷ ks) events s t ran h = all_there (got_at w k t.got) (gathered w ks t.got)
      (got_law w k events s t ran (inl (left_true _ _ h))) (gathered_law w ks events s t ran (right_true _ _ h))

  enters_step : (s : State F) (e : Event) (w i : ℕ) → (enters w i e ≡ true) ⊎ (is_entered w i s.entered ≡ true)
      → is_entered w i (change m s e).entered ≡ true
  enters_step s (Enter v a b) w i h = or_true (v == w && a == i) (is_entered w i s.entered) h
  enters_step s (Hit v j) w i h = later h
  enters_step s (Claim v j) w i h = later h
  enters_step s (Leave v a b) w i h = later h
  enters_step s (Evict v j) w i h = later h
  enters_step s (Publish v j) w i h = later h
  enters_step s (Abandon v j) w i h = later h
  enters_step s (Take v n) w i h = later h
  enters_step s (Deliver v n) w i h = later h
  enters_step s (Fail v why) w i h = later h

  pub entered_law : (w i : ℕ) (events : List Event) (s t : State F) → replay m s events ≡ Some t
      → (has_entered w i events ≡ true) ⊎ (is_entered w i s.entered ≡ true) → is_entered w i t.entered ≡ true
  entered_law w i [] s t ran h = let same : s ≡ t = cc in subst (λ (z : State F). is_entered w i z.entered ≡ true) same (later h)
  entered_law w i (e ∷ es) s t ran h = ⊎_elim
      (λ (ok : allowed m s e ≡ true). entered_law w i es (change m s e) t (rw ok at ran) (⊎_elim
      (λ (g : (enters w i e || has_entered w i es) ≡ true). ⊎_elim
      (λ (now : enters w i e ≡ true). inr (enters_step s e w i (inl now)))
      (λ (after : has_entered w i es ≡ true). inl after) (either (enters w i e) (has_entered w i es) g))
      (λ (g : is_entered w i s.entered ≡ true). inr (enters_step s e w i (inr g))) h))
      (λ (bad : allowed m s e ≡ false). let none : None ≡ Some t = rw bad at ran in absurd (cc)) (test (allowed m s e))
