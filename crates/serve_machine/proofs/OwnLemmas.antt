-- What a worker has: it stays, and it shows in the worker's own events.
use Rattle.std.proofs.Common.{◌≡◌, ℕ, ◌==◌, nat_lt, true, false, ◌||◌, ◌&&◌, List, [], ◌∷◌, ◌++◌, Option, Some, None, refl, sym, ap, ◌∙◌, ⊎_elim, eq-eqb}
use Rattle.std.specs.Cmp.Derive.{both_true}
use Rattle.fv_plane.specs.declared.key.Key.{Key}
use Rattle.serve_machine.specs.declared.event.Event.{Event}
use Rattle.serve_machine.specs.declared.event.Event.TheVariants.{Hit, Claim, Enter, Leave, Evict, Publish, Abandon, Take, Deliver, Fail}
use Rattle.serve_machine.specs.declared.event.WindowStop.{WindowStop}
use Rattle.serve_machine.specs.declared.event.WindowStop.TheVariants.{Read, Changed, Memory}
use Rattle.serve_machine.specs.Events.{worker_of, gives, has_got, has_got_all, enters, has_entered, may_fail, own_events, IsOwn}
use Rattle.serve_machine.specs.SerialRun.{eviction}
use Rattle.serve_machine.proofs.KeyLemmas.{test, left_true, right_true, key_itself}

-- It stays, whatever comes after.

pub was_got : (w : ℕ) (k : Key) (es fs : List Event) → has_got w k es ≡ true → has_got w k (es ++ fs) ≡ true
was_got w k [] fs h = absurd (cc)
was_got w k (e ∷ es) fs h = ⊎_elim
    (λ (g : gives w k e ≡ true). rw g refl)
    (λ (g : gives w k e ≡ false). rw g (was_got w k es fs (rw g at h))) (test (gives w k e))

pub now_got : (w : ℕ) (k : Key) (es fs : List Event) → has_got w k fs ≡ true → has_got w k (es ++ fs) ≡ true
now_got w k [] fs h = h
now_got w k (e ∷ es) fs h =
    let ih = now_got w k es fs h in
    elim (gives w k e) as (λ b. (b || has_got w k (es ++ fs)) ≡ true) [ true ↦ refl | false ↦ ih ]

pub all_got : (w : ℕ) (ks : List Key) (es fs : List Event) → has_got_all w ks es ≡ true → has_got_all w ks (es ++ fs) ≡ true
all_got w [] es fs h = refl
all_got w (k ∷ ks) es fs h = both_true (was_got w k es fs (left_true _ _ h)) (all_got w ks es fs (right_true _ _ h))

pub one_more_got : (w : ℕ) (ks : List Key) (k : Key) (es : List Event) → has_got_all w ks es ≡ true → has_got w k es ≡ true
    → has_got_all w (ks ++ k ∷ []) es ≡ true
one_more_got w [] k es h g = both_true g refl
one_more_got w (j ∷ ks) k es h g = both_true (left_true _ _ h) (one_more_got w ks k es (right_true _ _ h) g)

pub hit_got : (w : ℕ) (k : Key) → has_got w k (Hit w k ∷ []) ≡ true
hit_got w k = rw (eq-eqb w w refl) (rw (key_itself k) refl)

pub publish_got : (w : ℕ) (k : Key) (gone : Option Key) → has_got w k (eviction w gone ++ Publish w k ∷ []) ≡ true
publish_got w k None = rw (eq-eqb w w refl) (rw (key_itself k) refl)
publish_got w k (Some j) = rw (eq-eqb w w refl) (rw (key_itself k) refl)

pub was_entered : (w i : ℕ) (es fs : List Event) → has_entered w i es ≡ true → has_entered w i (es ++ fs) ≡ true
was_entered w i [] fs h = absurd (cc)
was_entered w i (e ∷ es) fs h = ⊎_elim
    (λ (g : enters w i e ≡ true). rw g refl)
    (λ (g : enters w i e ≡ false). rw g (was_entered w i es fs (rw g at h))) (test (enters w i e))

pub now_entered : (w i : ℕ) (es fs : List Event) → has_entered w i fs ≡ true → has_entered w i (es ++ fs) ≡ true
now_entered w i [] fs h = h
now_entered w i (e ∷ es) fs h =
    let ih = now_entered w i es fs h in
    elim (enters w i e) as (λ b. (b || has_entered w i (es ++ fs)) ≡ true) [ true ↦ refl | false ↦ ih ]

pub entered_now : (w i j : ℕ) (es fs : List Event) → has_entered w i (es ++ Enter w i j ∷ fs) ≡ true
entered_now w i j es fs = now_entered w i es (Enter w i j ∷ fs) (rw (eq-eqb w w refl) (rw (eq-eqb i i refl) refl))

pub still_fails : (w : ℕ) (why : WindowStop) (es fs : List Event) → may_fail w why es ≡ true → may_fail w why (es ++ fs) ≡ true
still_fails w (Read i) es fs h = was_entered w i es fs h
still_fails w (Changed i n want got) es fs h = both_true (was_entered w i es fs (left_true _ _ h)) (right_true _ _ h)
still_fails w Memory es fs h = refl

-- The events of others show nothing.

gives_own : (w : ℕ) (k : Key) (e : Event) → (worker_of e == w) ≡ false → gives w k e ≡ false
gives_own w k (Hit v j) h = rw h refl
gives_own w k (Publish v j) h = rw h refl
gives_own w k (Claim v j) h = refl
gives_own w k (Enter v i j) h = refl
gives_own w k (Leave v i j) h = refl
gives_own w k (Evict v j) h = refl
gives_own w k (Abandon v j) h = refl
gives_own w k (Take v n) h = refl
gives_own w k (Deliver v n) h = refl
gives_own w k (Fail v why) h = refl

enters_own : (w i : ℕ) (e : Event) → (worker_of e == w) ≡ false → enters w i e ≡ false
enters_own w i (Enter v a b) h = rw h refl
enters_own w i (Hit v j) h = refl
enters_own w i (Publish v j) h = refl
enters_own w i (Claim v j) h = refl
enters_own w i (Leave v a b) h = refl
enters_own w i (Evict v j) h = refl
enters_own w i (Abandon v j) h = refl
enters_own w i (Take v n) h = refl
enters_own w i (Deliver v n) h = refl
enters_own w i (Fail v why) h = refl

own_got : (w : ℕ) (k : Key) (es : List Event) → has_got w k (own_events w es) ≡ has_got w k es
own_got w k [] = refl
own_got w k (e ∷ es) = let ih = own_got w k es in ⊎_elim
    (λ (g : (worker_of e == w) ≡ true). rw g (ap (λ b. gives w k e || b) ih))
    (λ (g : (worker_of e == w) ≡ false). rw g (ih ∙ ap (λ b. b || has_got w k es) (sym (gives_own w k e g))))
    (test (worker_of e == w))

own_got_all : (w : ℕ) (ks : List Key) (es : List Event) → has_got_all w ks (own_events w es) ≡ has_got_all w ks es
own_got_all w [] es = refl
own_got_all w (k ∷ ks) es = ap (λ b. b && has_got_all w ks (own_events w es)) (own_got w k es)
    ∙ ap (λ b. has_got w k es && b) (own_got_all w ks es)

own_entered : (w i : ℕ) (es : List Event) → has_entered w i (own_events w es) ≡ has_entered w i es
own_entered w i [] = refl
own_entered w i (e ∷ es) = let ih = own_entered w i es in ⊎_elim
    (λ (g : (worker_of e == w) ≡ true). rw g (ap (λ b. enters w i e || b) ih))
    (λ (g : (worker_of e == w) ≡ false). rw g (ih ∙ ap (λ b. b || has_entered w i es) (sym (enters_own w i e g))))
    (test (worker_of e == w))

own_fails : (w : ℕ) (why : WindowStop) (es : List Event) → may_fail w why (own_events w es) ≡ may_fail w why es
own_fails w (Read i) es = own_entered w i es
own_fails w (Changed i n want got) es = ap (λ b. b && nat_lt got want) (own_entered w i es)
own_fails w Memory es = refl

pub is_own : IsOwn
is_own = record { got = own_got; got_all = own_got_all; entered = own_entered; fails = own_fails }
