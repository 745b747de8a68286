-- Parts of the rule over a step: the views of the other seats, tickets, and the slot.
use Rattle.std.proofs.Common.{◌≡◌, ◌≢◌, ◌⊎◌, ℕ, zero, suc, ◌+◌, ◌%◌, ◌^◌, ◌<◌, ◌≤◌, List, [], ◌∷◌, ◌++◌, length, sum_by, get_or, set, sym, refl, ap, ◌∙◌, subst, ⊎_elim, inl, inr, arith, Option, Some, None, IsSome, IfSome, length-set}
use Rattle.std.proofs.lemmas.List.Sums.{sum_by-set, sum_by-le}
use Rattle.std.proofs.lemmas.List.Elements.{All-weaker}
use mathlib.Core.Option.{none, some, some-injective, some-ne-none}
use mathlib.Core.Option as maybe
use native.Mathlib.Decide.{ℕ_discrete}
use lib.ListN.{get_elem?}
use lib.Seq.{set-get_or}
use Rattle.atomic_table.specs.Table.{State}
use Rattle.atomic_table.proofs.Lists.{at_set, set_else}
use Rattle.turn_lock.specs.declared.view.Ended.{Ended}
use Rattle.turn_lock.specs.declared.view.View.{View}
use Rattle.turn_lock.specs.declared.view.Stage.{Stage}
use Rattle.turn_lock.specs.declared.view.Stage.TheVariants.{Rests, Waits, Holds}
use Rattle.turn_lock.specs.Entries.{IsPrefix, entries_of}
use Rattle.turn_lock.specs.TurnRule.{tickets, FitsTickets, IsSpent, IsSettled, IsSlot, Knows, KeepsTurns}
use Rattle.turn_lock.proofs.EntryLemmas.{prefix_of_itself, each_weaker}

-- the function with another value at one place
abbrev pick : {P : Type 0} → Dec P → ℕ → ℕ → ℕ
pick (yes _) a b = a
pick (no _) a b = b

pub put : (ℕ → ℕ) → ℕ → ℕ → ℕ → ℕ
put f i c j = pick (ℕ_discrete j i) c (f j)

pub put_here : (f : ℕ → ℕ) (i c : ℕ) → put f i c i ≡ c
unfolding put
put_here f i c = go (ℕ_discrete i i)
  where
    go : (d : Dec (i ≡ i)) → pick d c (f i) ≡ c
    go (yes _) = refl
    go (no n) = absurd (n refl)

pub put_else : (f : ℕ → ℕ) (i c j : ℕ) → j ≢ i → put f i c j ≡ f j
unfolding put
put_else f i c j other = go (ℕ_discrete j i)
  where
    go : (d : Dec (j ≡ i)) → pick d c (f j) ≡ f j
    go (yes e) = absurd (other e)
    go (no _) = refl

module _ {A : Type 0} where
  pub at_below : (l : List A) (i : ℕ) (a : A) → get_elem? l i ≡ some a → i < length l
  at_below [] i a e = absurd (some-ne-none a (sym e))
  at_below (x ∷ xs) zero a e = omega arith
  at_below (x ∷ xs) (suc i) a e = let h = at_below xs i a e in omega arith

  at_get_or : (l : List A) (i : ℕ) (a : A) → get_elem? l i ≡ some a → get_or l i a ≡ a
  at_get_or [] i a e = refl
  at_get_or (x ∷ xs) zero a e = some-injective x a e
  at_get_or (x ∷ xs) (suc i) a e = at_get_or xs i a e

  pub at_snoc_where : (l : List A) (a b : A) (j : ℕ) → get_elem? (l ++ a ∷ []) j ≡ some b → (get_elem? l j ≡ some b) ⊎ ((j ≡ length l) × (a ≡ b))
  at_snoc_where [] a b zero e = inr (refl, some-injective a b e)
  at_snoc_where [] a b (suc j) e = absurd (some-ne-none b (sym e))
  at_snoc_where (x ∷ xs) a b zero e = inl e
  at_snoc_where (x ∷ xs) a b (suc j) e = ⊎_elim (λ (h : get_elem? xs j ≡ some b). inl h) (λ (h : (j ≡ length xs) × (a ≡ b)). inr (omega arith, h.1)) (at_snoc_where xs a b j e)

  pub none_or_some : (t : maybe.Option A) → (t ≡ none) ⊎ ((a : A) × (t ≡ some a))
  none_or_some none = inl refl
  none_or_some (some a) = inr (a, refl)

  pub sum_by-set_at : (f : A → ℕ) (l : List A) (i : ℕ) (a b : A) → get_elem? l i ≡ some a → sum_by f (set l i b) + f a ≡ sum_by f l + f b
  sum_by-set_at f l i a b at = subst (λ x. sum_by f (set l i b) + f x ≡ sum_by f l + f b) (at_get_or l i a at) (sum_by-set f l i b a (at_below l i a at))

-- what the ticket of another seat says after a step
module _ (drawn serving : ℕ) (turn : maybe.Option ℕ) (owner : ℕ → ℕ) (i : ℕ) where
  pub fits_drawn : (id : ℕ) (stage : Stage) → FitsTickets drawn serving turn owner i stage → FitsTickets (drawn + 1) serving turn (put owner drawn id) i stage
  fits_drawn id Rests f = f
  fits_drawn id (Waits k) f = (f.0, omega arith, put_else owner drawn id k (λ e. omega arith) ∙ f.2, f.3)
  fits_drawn id (Holds k) f = (f.0, omega arith, put_else owner drawn id k (λ e. omega arith) ∙ f.2, f.3)

  -- another seat took the turn
  pub fits_taken : (id : ℕ) (stage : Stage) → id ≢ i → turn ≡ none → FitsTickets drawn serving turn owner i stage → FitsTickets drawn serving (some id) owner i stage
  fits_taken id Rests ne free f = λ e. ne (some-injective id i e)
  fits_taken id (Waits k) ne free f = (f.0, f.1, f.2, λ e. ne (some-injective id i e))
  fits_taken id (Holds k) ne free f = absurd (some-ne-none i (sym f.3 ∙ free))

  -- another seat ended its turn
  pub fits_left : (id : ℕ) (stage : Stage) → id ≢ i → turn ≡ some id → owner serving ≡ id → FitsTickets drawn serving turn owner i stage → FitsTickets drawn (serving + 1) none owner i stage
  fits_left id Rests ne taken owns f = λ e. some-ne-none i (sym e)
  fits_left id (Waits k) ne taken owns f = let later : k ≢ serving = λ e. ne (sym owns ∙ (ap owner (sym e) ∙ f.2)) in (omega arith, f.1, f.2, λ e. some-ne-none i (sym e))
  fits_left id (Holds k) ne taken owns f = absurd (ne (some-injective id i (sym taken ∙ f.3)))

module _ {E T : Type 0} where
  -- a fact of each view, after one view was set
  pub each_set : (P : ℕ → View E T → Type 0) (vs : List (View E T)) (me : ℕ) (w : View E T) → P me w → ((i : ℕ) (v : View E T) → i ≢ me → get_elem? vs i ≡ some v → P i v) → (i : ℕ) (v : View E T) → get_elem? (set vs me w) i ≡ some v → P i v
  each_set P vs me w mine others i v e = ⊎_elim (λ (t : (i ≡ me) × (w ≡ v)). subst (λ (x : ℕ × View E T). P x.0 x.1) (λ j. (sym t.0 j, t.1 j)) mine)
      (λ (t : (i ≢ me) × (get_elem? vs i ≡ some v)). others i v t.0 t.1) (at_set vs me i w v e)

  -- a seat that has a tag was not joined into another
  pub live_apart : (vs : List (View E T)) (id n : ℕ) (v : View E T) → get_elem? vs id ≡ some v → IsSome v.tag → IsSpent vs n → n ≢ id
  live_apart vs id n v at live sp e =
      let same : sp.0 ≡ v = some-injective sp.0 v (sym sp.1 ∙ (ap (get_elem? vs) e ∙ at)) in
      let bad : IsSome {T = T} None = subst (λ (o : Option T). IsSome o) (ap (λ (x : View E T). x.tag) (sym same) ∙ sp.2) live in cc

  pub spent_stays : (vs : List (View E T)) (id n : ℕ) (v w : View E T) → get_elem? vs id ≡ some v → IsSome v.tag → IsSpent vs n → IsSpent (set vs id w) n
  spent_stays vs id n v w at live sp = (sp.0, set_else vs id n w (live_apart vs id n v at live sp) ∙ sp.1, sp.2, sp.3)

module _ {V E T : Type 0} (entries : V → List E) (by : E → ℕ) (stands_for : V → T → Type 0) where
  abbrev St : Type 0
  St = State (Option V) (View E T)

  abbrev Rule : St → Type 0
  Rule = KeepsTurns entries by stands_for

  abbrev Knowing : List E → T → List (View E T) → ℕ → ℕ → View E T → Type 0
  Knowing list tag views giver i v = Knows entries by stands_for list tag views giver i v

  -- what a seat knows stays true where the list grows by entries of another
  pub know : (list list' : List E) (tag : T) (vs : List (View E T)) (giver id : ℕ) (v w : View E T) (i : ℕ) (u : View E T) → get_elem? vs id ≡ some v → IsSome v.tag
      → ((xs : List E) → IsPrefix xs list → IsPrefix xs list') → ((n : ℕ) → n ≢ id → entries_of by n list' ≡ entries_of by n list) → entries_of by i list' ≡ entries_of by i list
      → Knowing list tag vs giver i u → Knowing list' tag (set vs id w) giver i u
  know list list' tag vs giver id v w i u at live grows same mine k = record {
    numbered = k.numbered;
    begins = grows u.seen k.begins;
    own_all = mine ∙ k.own_all;
    own_seen = k.own_seen;
    taken = each_weaker (IsSettled by list u.seen vs) (IsSettled by list' u.seen (set vs id w)) u.ended
        (λ n es p. (same n (live_apart vs id n v at live p.2) ∙ p.0, p.1, spent_stays vs id n v w at live p.2)) k.taken;
    taken_seen = All-weaker (λ (x : Ended E). IsPrefix x.seen list) (λ x. IsPrefix x.seen list') (λ x p. grows x.seen p) u.ended k.taken_seen;
    gives = λ h. let t = k.gives h in (t.0, t.1 ∙ sym (length-set vs id w), t.2);
    gives_none = k.gives_none;
    tagged = k.tagged;
  }

  pub unchanged : (list : List E) (tag : T) (vs : List (View E T)) (giver id : ℕ) (v w : View E T) (i : ℕ) (u : View E T) → get_elem? vs id ≡ some v → IsSome v.tag → Knowing list tag vs giver i u → Knowing list tag (set vs id w) giver i u
  unchanged list tag vs giver id v w i u at live k = know list list tag vs giver id v w i u at live (λ xs p. p) (λ n _. refl) refl k

  -- a seat that sees the whole list
  pub sees_all : (list : List E) (tag : T) (vs : List (View E T)) (giver i : ℕ) (u : View E T) (stage : Stage) → Knowing list tag vs giver i u → Knowing list tag vs giver i (record u { stage = stage; seen = list })
  sees_all list tag vs giver i u stage k = record {
    numbered = k.numbered;
    begins = prefix_of_itself list;
    own_all = k.own_all;
    own_seen = k.own_all;
    taken = each_weaker (IsSettled by list u.seen vs) (IsSettled by list list vs) u.ended (λ n es p. (p.0, p.0, p.2)) k.taken;
    taken_seen = k.taken_seen;
    gives = k.gives;
    gives_none = k.gives_none;
    tagged = k.tagged;
  }

  -- what a seat's stage says by the rule
  pub fits : (s : St) (r : Rule s) (id : ℕ) (v : View E T) (stage : Stage) → get_elem? s.views id ≡ some v → v.stage ≡ stage → FitsTickets r.drawn r.serving r.turn r.owner id stage
  fits s r id v stage at is = subst (FitsTickets r.drawn r.serving r.turn r.owner id) is (r.each_stage id v at)

  -- the slot while no turn is held, and while one is
  pub slot_free : (s : St) (r : Rule s) → r.turn ≡ none → (v : V) × (s.homes ≡ some (Some v) ∷ []) × (entries v ≡ r.list) × stands_for v r.tag
  slot_free s r free = subst (λ t. IsSlot entries by stands_for r.list r.tag t s.homes) free r.slot

  pub slot_out : (s : St) (r : Rule s) (i : ℕ) → r.turn ≡ some i → s.homes ≡ none ∷ []
  slot_out s r i taken = subst (λ t. IsSlot entries by stands_for r.list r.tag t s.homes) taken r.slot

  tickets_le : (stage : Stage) → tickets stage ≤ 1
  tickets_le Rests = omega arith
  tickets_le (Waits k) = omega arith
  tickets_le (Holds k) = omega arith

  -- no more tickets wait than there are seats
  pub near : (s : St) (r : Rule s) → r.drawn < r.serving + 2 ^ 63
  near s r = let counted = r.counted in let few = r.few in
      let each = sum_by-le (λ (v : View E T). tickets v.stage) 1 s.views (λ k d less. tickets_le (get_or s.views k d).stage) in omega arith

  pub same_words : (s : St) (r : Rule s) (i : ℕ) → set s.words i (get_or s.words i 0) ≡ r.drawn % 18446744073709551616 ∷ r.serving % 18446744073709551616 ∷ []
  same_words s r i = set-get_or s.words i 0 ∙ r.words_are

  pub stands_at : (v : V) (tag : T) (o : Option T) → o ≡ Some tag → stands_for v tag → IfSome o (stands_for v)
  stands_at v tag o is stands = subst (λ (z : Option T). IfSome z (stands_for v)) (sym is) stands

  pub stands_of : (v : V) (tag : T) (o : Option T) → o ≡ Some tag → IfSome o (stands_for v) → stands_for v tag
  stands_of v tag o is stands = let h : IfSome (Some tag) (stands_for v) = subst (λ (z : Option T). IfSome z (stands_for v)) is stands in h
