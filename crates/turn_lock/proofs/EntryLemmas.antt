-- Lists of entries, by number, and their beginnings.
use Rattle.std.proofs.Common.{◌≡◌, ◌≢◌, ◌⊎◌, ℕ, zero, suc, ◌<◌, ◌≤◌, ◌==◌, true, false, Bool, List, [], ◌∷◌, ◌++◌, length, All, get_or, nat_lt, if◌then◌else◌, sym, refl, ap, ◌∙◌, subst, arith, inl, inr, ⊎_elim, append_assoc, eq-eqb, ne_eqb}
use Rattle.std.proofs.lemmas.Bool.{ltb-true, ltb-false}
use Rattle.std.proofs.lemmas.List.{append-nil, append_cancel_left}
use Rattle.std.proofs.lemmas.List.Elements.{filter-append, All-head, All-tail}
use Rattle.turn_lock.specs.declared.view.Ended.{Ended}
use Rattle.turn_lock.specs.Entries.{IsPrefix, longer, entries_of, AddsOnly}
use Rattle.turn_lock.specs.SeatView.{HasEnded}
use Rattle.turn_lock.specs.TurnRule.{EachEnded}

module _ {E : Type 0} (by : E → ℕ) where
  pub entries_of-append : (n : ℕ) (xs ys : List E) → entries_of by n (xs ++ ys) ≡ entries_of by n xs ++ entries_of by n ys
  entries_of-append n xs ys = filter-append (λ e. by e == n) xs ys

  pub entries_of-own : (n : ℕ) (es : List E) → All (λ e. by e ≡ n) es → entries_of by n es ≡ es
  entries_of-own n [] all = refl
  entries_of-own n (e ∷ es) all = subst (λ b. (if b then e ∷ entries_of by n es else entries_of by n es) ≡ e ∷ es) (sym (eq-eqb (by e) n (All-head (λ x. by x ≡ n) e es all)))
      (ap (λ l. e ∷ l) (entries_of-own n es (All-tail (λ x. by x ≡ n) e es all)))

  pub entries_of-other : (n m : ℕ) (es : List E) → All (λ e. by e ≡ n) es → m ≢ n → entries_of by m es ≡ []
  entries_of-other n m [] all other = refl
  entries_of-other n m (e ∷ es) all other = subst (λ b. (if b then e ∷ entries_of by m es else entries_of by m es) ≡ []) (sym (ne_eqb (by e) m (λ same. other (sym same ∙ All-head (λ x. by x ≡ n) e es all))))
      (entries_of-other n m es (All-tail (λ x. by x ≡ n) e es all) other)

  -- another number's entries are those of before
  pub kept_of_others : (n m : ℕ) (before after : List E) → AddsOnly by n before after → m ≢ n → entries_of by m after ≡ entries_of by m before
  kept_of_others n m before after adds other = ap (entries_of by m) adds.1 ∙ (entries_of-append m before adds.0 ∙ (ap (λ l. entries_of by m before ++ l) (entries_of-other n m adds.0 adds.2 other) ∙ append-nil (entries_of by m before)))

  -- the number's own are those of before and what was added
  pub own_grows : (n : ℕ) (before after added own : List E) → AddsOnly by n before after → entries_of by n before ≡ own → after ≡ before ++ added → entries_of by n after ≡ own ++ added
  own_grows n before after added own adds was is =
      let same : adds.0 ≡ added = append_cancel_left before adds.0 added (sym adds.1 ∙ is) in
      ap (entries_of by n) adds.1 ∙ (entries_of-append n before adds.0 ∙ (ap (λ l. l ++ entries_of by n adds.0) was ∙ (ap (λ l. own ++ l) (entries_of-own n adds.0 adds.2) ∙ ap (λ l. own ++ l) same)))

  pub prefix_of_more : (n : ℕ) (xs before after : List E) → IsPrefix xs before → AddsOnly by n before after → IsPrefix xs after
  prefix_of_more n xs before after begins adds = (begins.0 ++ adds.0, sym (append_assoc xs begins.0 adds.0) ∙ (ap (λ l. l ++ adds.0) begins.1 ∙ sym adds.1))

true_or_false : (b : Bool) → (b ≡ true) ⊎ (b ≡ false)
true_or_false true = inl refl
true_or_false false = inr refl

module _ {E : Type 0} where
  pub prefix_of_itself : (xs : List E) → IsPrefix xs xs
  prefix_of_itself xs = ([], append-nil xs)

  pub nil_from_append : (xs ys : List E) → xs ++ ys ≡ xs → ys ≡ []
  nil_from_append [] ys e = e
  nil_from_append (x ∷ xs) ys e = let rest : xs ++ ys ≡ xs = cc in nil_from_append xs ys rest

  pub nil_left : (xs ys : List E) → xs ++ ys ≡ [] → xs ≡ []
  nil_left [] ys e = refl
  nil_left (x ∷ xs) ys e = absurd (cc)

  -- of two beginnings of one list the shorter begins the longer
  shorter_begins : (xs ys zs : List E) → IsPrefix xs zs → IsPrefix ys zs → length xs ≤ length ys → IsPrefix xs ys
  shorter_begins [] ys zs p q h = (ys, refl)
  shorter_begins (x ∷ xs) [] zs p q h = absurd (omega arith)
  shorter_begins (x ∷ xs) (y ∷ ys) [] p q h = let e = p.1 in absurd (cc)
  shorter_begins (x ∷ xs) (y ∷ ys) (z ∷ zs) p q h =
      let e = p.1 in let f = q.1 in let a : xs ++ p.0 ≡ zs = cc in let b : ys ++ q.0 ≡ zs = cc in let same : x ≡ y = cc in
      let rest = shorter_begins xs ys zs (p.0, a) (q.0, b) (omega arith) in (rest.0, λ i. same i ∷ rest.1 i)

  pub longer_of_prefixes : (xs ys zs : List E) → IsPrefix xs zs → IsPrefix ys zs → IsPrefix xs (longer xs ys) × IsPrefix ys (longer xs ys) × IsPrefix (longer xs ys) zs
  longer_of_prefixes xs ys zs p q = ⊎_elim
      (λ (e : nat_lt (length xs) (length ys) ≡ true). let less : length xs < length ys = ltb-true _ _ e in rw e (shorter_begins xs ys zs p q (omega arith), prefix_of_itself ys, q))
      (λ (e : nat_lt (length xs) (length ys) ≡ false). let less : length ys ≤ length xs = ltb-false _ _ e in rw e (prefix_of_itself xs, shorter_begins ys xs zs q p less, p))
      (true_or_false (nat_lt (length xs) (length ys)))

module _ {E : Type 0} (by : E → ℕ) where
  -- what a number has at both ends it has in between
  pub own_between : (n : ℕ) (xs ys zs es : List E) → IsPrefix xs ys → IsPrefix ys zs → entries_of by n xs ≡ es → entries_of by n zs ≡ es → entries_of by n ys ≡ es
  own_between n xs ys zs es p q here there =
      let a : entries_of by n xs ++ entries_of by n p.0 ≡ entries_of by n ys = sym (entries_of-append by n xs p.0) ∙ ap (entries_of by n) p.1 in
      let b : entries_of by n ys ++ entries_of by n q.0 ≡ entries_of by n zs = sym (entries_of-append by n ys q.0) ∙ ap (entries_of by n) q.1 in
      let c : es ++ (entries_of by n p.0 ++ entries_of by n q.0) ≡ es =
      sym (append_assoc es (entries_of by n p.0) (entries_of by n q.0)) ∙ (ap (λ l. (l ++ entries_of by n p.0) ++ entries_of by n q.0) (sym here) ∙ (ap (λ l. l ++ entries_of by n q.0) a ∙ (b ∙ there))) in
      let none : entries_of by n p.0 ≡ [] = nil_left (entries_of by n p.0) (entries_of by n q.0) (nil_from_append es (entries_of by n p.0 ++ entries_of by n q.0) c) in
      sym a ∙ (ap (λ l. entries_of by n xs ++ l) none ∙ (append-nil (entries_of by n xs) ∙ here))

  -- a list in which no number has an entry is empty
  pub nil_from_no_entries : (xs : List E) → ((n : ℕ) → entries_of by n xs ≡ []) → xs ≡ []
  nil_from_no_entries [] none = refl
  nil_from_no_entries (x ∷ xs) none = let here : entries_of by (by x) (x ∷ xs) ≡ [] = none (by x) in
      let bad : x ∷ entries_of by (by x) xs ≡ [] = subst (λ b. (if b then x ∷ entries_of by (by x) xs else entries_of by (by x) xs) ≡ []) (eq-eqb (by x) (by x) refl) here in absurd (cc)

module _ {E : Type 0} where
  pub each_weaker : (P Q : ℕ → List E → Type 0) (ended : List (Ended E)) → ((n : ℕ) (es : List E) → P n es → Q n es) → EachEnded P ended → EachEnded Q ended
  each_weaker P Q ended weaker all k d less = let x = get_or ended k d in weaker x.number x.entries (all k d less)

  pub each_has : (P : ℕ → List E → Type 0) (ended : List (Ended E)) (n : ℕ) → EachEnded P ended → HasEnded n ended → (es : List E) × P n es
  each_has P [] n all has = let none = has.1 in absurd (omega arith)
  each_has P (x ∷ xs) n all (zero, less, is) = (x.entries, subst (λ m. P m x.entries) is (All-head (λ y. P y.number y.entries) x xs all))
  each_has P (x ∷ xs) n all (suc k, less, is) = each_has P xs n (All-tail (λ y. P y.number y.entries) x xs all) (k, omega arith, is)
