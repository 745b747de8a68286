-- Tables of instances: what each word does to a look-up.
use Rattle.std.proofs.Common.{◌≡◌, ◌⊎◌, ℕ, suc, ◌+◌, Bool, true, false, not, ◌&&◌, if◌then◌else◌, List, [], ◌∷◌, ◌++◌, length, Option, Some, None, IsSome, sym, refl, ap, ◌∙◌, subst, inl, inr, ⊎_elim, arith, eq-eqb}
use Rattle.std.proofs.lemmas.Bool.{eqb-true}
use Rattle.std.proofs.lemmas.List.Edits.{length-remove}
use Rattle.std.proofs.lemmas.List.Elements.{All-append, All-take, All-drop}
use Rattle.std.proofs.lemmas.Option.{slice_get_within}
use Rattle.std.specs.Prelude.{is_some, take, drop, All}
use Rattle.std.specs.Bool.{beq}
use Rattle.std.specs.List.{AllPass}
use Rattle.std.specs.Map.{lookup, set_value}
use Rattle.inst_table.specs.declared.place.Place.{Place}
use Rattle.inst_table.specs.declared.place.Slot.{Slot}
use Rattle.inst_table.specs.declared.place.Slot.TheVariants.{Free}
use Rattle.inst_table.specs.Places.{same_place, slot_at, has_place, with_slot, place_meant, shared_place, own_place, is_free, AllLent}
use Rattle.inst_table.specs.Changes.{TakesOne}

pub test : (b : Bool) → (b ≡ true) ⊎ (b ≡ false)
test true = inl refl
test false = inr refl

left_true : (a b : Bool) → (a && b) ≡ true → a ≡ true
left_true true b h = refl
left_true false b h = h

right_true : (a b : Bool) → (a && b) ≡ true → b ≡ true
right_true true b h = h
right_true false b h = absurd (cc)

same_flag : (a b : Bool) → beq a b ≡ true → a ≡ b
same_flag true true h = refl
same_flag true false h = absurd (cc)
same_flag false true h = absurd (cc)
same_flag false false h = refl

flag_itself : (a : Bool) → beq a a ≡ true
flag_itself true = refl
flag_itself false = refl

-- places
pub same_places : (a b : Place) → same_place a b ≡ true → a ≡ b
same_places a b h =
    let p : a.node ≡ b.node = eqb-true a.node b.node (left_true _ _ h) in
    let q : a.instance ≡ b.instance = eqb-true a.instance b.instance (left_true _ _ (right_true _ _ h)) in
    let r : a.shared ≡ b.shared = same_flag a.shared b.shared (right_true _ _ (right_true _ _ h)) in
    λ i. record { node = p i; instance = q i; shared = r i }

pub place_itself : (p : Place) → same_place p p ≡ true
place_itself p = rw (eq-eqb p.node p.node refl) (rw (eq-eqb p.instance p.instance refl) (flag_itself p.shared))

-- look-ups: two keys' tests in the place of two places
module _ {K X : Type 0} where
  lookup_set : (t : K → Bool) (es : List (K × X)) (v : X) → IsSome (lookup t es) → lookup t (set_value t es v) ≡ Some v
  lookup_set t [] v there = absurd (cc)
  lookup_set t (e ∷ es) v there = ⊎_elim (λ (h : t e.0 ≡ true). rw h (rw h refl)) (λ (h : t e.0 ≡ false). rw h (rw h (lookup_set t es v (rw h at there)))) (test (t e.0))

  set_again : (t : K → Bool) (es : List (K × X)) (v w : X) → set_value t (set_value t es v) w ≡ set_value t es w
  set_again t [] v w = refl
  set_again t (e ∷ es) v w = ⊎_elim (λ (h : t e.0 ≡ true). rw h (rw h refl)) (λ (h : t e.0 ≡ false). rw h (rw h (ap (λ l. e ∷ l) (set_again t es v w)))) (test (t e.0))

  -- where a value is put, a value was there
  is_some-set : (s t : K → Bool) (es : List (K × X)) (v : X) → is_some (lookup s (set_value t es v)) ≡ is_some (lookup s es)
  is_some-set s t [] v = refl
  is_some-set s t (e ∷ es) v = ⊎_elim
      (λ (h : t e.0 ≡ true). rw h (elim (s e.0) as (λ b. is_some (if b then Some v else lookup s es) ≡ is_some (if b then Some e.1 else lookup s es)) [ true ↦ refl | false ↦ refl ]))
      (λ (h : t e.0 ≡ false). rw h (elim (s e.0) as (λ b. is_some (if b then Some e.1 else lookup s (set_value t es v)) ≡ is_some (if b then Some e.1 else lookup s es)) [ true ↦ refl | false ↦ is_some-set s t es v ])) (test (t e.0))

  length-set_value : (t : K → Bool) (es : List (K × X)) (v : X) → length (set_value t es v) ≡ length es
  length-set_value t [] v = refl
  length-set_value t (e ∷ es) v = ⊎_elim (λ (h : t e.0 ≡ true). rw h (omega arith)) (λ (h : t e.0 ≡ false). let ih = length-set_value t es v in rw h (omega arith)) (test (t e.0))

module _ {I : Type 0} where
  -- a slot that is put
  pub slot_put : (p : Place) (s : Slot I) (es : List (Place × Slot I)) → IsSome (slot_at p es) → slot_at p (with_slot p s es) ≡ Some s
  slot_put p s es there = lookup_set (same_place p) es s there

  pub slot_other : (p q : Place) (s : Slot I) (es : List (Place × Slot I)) → same_place p q ≡ false → slot_at p (with_slot q s es) ≡ slot_at p es
  slot_other p q s [] apart = refl
  slot_other p q s (e ∷ es) apart = ⊎_elim
      (λ (h : same_place q e.0 ≡ true). let k : same_place p e.0 ≡ false = subst (λ r. same_place p r ≡ false) (same_places q e.0 h) apart in rw h (rw k refl))
      (λ (h : same_place q e.0 ≡ false). rw h (elim (same_place p e.0) as (λ b. (if b then Some e.1 else slot_at p (with_slot q s es)) ≡ (if b then Some e.1 else slot_at p es)) [ true ↦ refl | false ↦ slot_other p q s es apart ])) (test (same_place q e.0))

  -- out and back
  pub put_again : (p : Place) (s r : Slot I) (es : List (Place × Slot I)) → with_slot p r (with_slot p s es) ≡ with_slot p r es
  put_again p s r es = set_again (same_place p) es s r

  pub length_put : (p : Place) (s : Slot I) (es : List (Place × Slot I)) → length (with_slot p s es) ≡ length es
  length_put p s es = length-set_value (same_place p) es s

  -- the places stay, and so does the place that a worker means
  pub has_put : (p q : Place) (s : Slot I) (es : List (Place × Slot I)) → has_place p (with_slot q s es) ≡ has_place p es
  has_put p q s es = is_some-set (same_place p) (same_place q) es s

  pub meant_put : (worker node : ℕ) (q : Place) (s : Slot I) (es : List (Place × Slot I)) → place_meant worker node (with_slot q s es) ≡ place_meant worker node es
  meant_put worker node q s es = ap (λ b. if b then shared_place node else own_place worker node) (has_put (shared_place node) q s es)

  pub meant_shared : (worker node : ℕ) (es : List (Place × Slot I)) → has_place (shared_place node) es ≡ true → place_meant worker node es ≡ shared_place node
  meant_shared worker node es h = rw h refl

  pub meant_own : (worker node : ℕ) (es : List (Place × Slot I)) → has_place (shared_place node) es ≡ false → place_meant worker node es ≡ own_place worker node
  meant_own worker node es h = rw h refl

  pub is_there : (o : Option (Slot I)) → is_some o ≡ true → IsSome o
  is_there None h = absurd (cc)
  is_there (Some s) h = refl

  -- an instance that is added
  pub slot_added : (p : Place) (s : Slot I) (es : List (Place × Slot I)) → slot_at p es ≡ None → slot_at p (es ++ (p, s) ∷ []) ≡ Some s
  slot_added p s [] none = rw (place_itself p) refl
  slot_added p s (e ∷ es) none = ⊎_elim (λ (h : same_place p e.0 ≡ true). let bad : Some e.1 ≡ None = rw h at none in absurd (cc)) (λ (h : same_place p e.0 ≡ false). rw h (slot_added p s es (rw h at none))) (test (same_place p e.0))

  pub slot_beside : (p q : Place) (s : Slot I) (es : List (Place × Slot I)) → same_place p q ≡ false → slot_at p (es ++ (q, s) ∷ []) ≡ slot_at p es
  slot_beside p q s [] apart = rw apart refl
  slot_beside p q s (e ∷ es) apart = elim (same_place p e.0) as (λ b. (if b then Some e.1 else slot_at p (es ++ (q, s) ∷ [])) ≡ (if b then Some e.1 else slot_at p es)) [ true ↦ refl | false ↦ slot_beside p q s es apart ]

  -- once none is lent and none can be taken, none is there
  pub none_there : (es : List (Place × Slot I)) → AllPass (λ e. is_free e.1) es → AllLent es → es ≡ []
  none_there [] free lent = refl
  none_there (e ∷ es) free lent = let yes' = free 0 e (omega arith) in let no' = lent 0 e (omega arith) in let bad : true ≡ false = sym (ap not (sym yes') ∙ no') in absurd (cc)

  -- the others stay as they are, and are fewer
  pub free_left : (old new : List (Place × Slot I)) (value : I) → TakesOne old value new → AllPass (λ e. is_free e.1) old → AllPass (λ e. is_free e.1) new
  free_left old new value took free =
      let P : Place × Slot I → Type 0 = λ e. is_free e.1 ≡ true in
      subst (All P) (sym took.rest) (All-append P (take took.index old) (drop (suc took.index) old) (All-take P took.index old free) (All-drop P (suc took.index) old free))

  pub fewer_left : (old new : List (Place × Slot I)) (value : I) → TakesOne old value new → length new + 1 ≡ length old
  fewer_left old new value took = ap (λ es. length es + 1) took.rest ∙ length-remove old took.index (slice_get_within old took.index (took.place, Free value) took.was)
