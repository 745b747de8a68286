-- The numbers that are left, and those that stand more than once, from a number on.
use Rattle.std.proofs.Common.{◌≡◌, ℕ, zero, suc, ◌+◌, ◌-◌, ◌<◌, ◌≤◌, ℤ, List, [], ◌∷◌, length, drop, get_or, replicate, true, false, arith, refl, sym, ap, ◌∙◌}
use Rattle.std.specs.Prelude.{◌==◌, not, filter, flat_map, slice_index}
use Rattle.std.specs.List.{range_with_len}
use Rattle.std.proofs.lemmas.List.{length-drop, get_or-drop, get_or_append_left, get_or-replicate, length-replicate}
use Rattle.std.proofs.Math.Seq.{drop-append-add, drop-nil}
use Rattle.std.proofs.lemmas.Grind.{common_steps}
use native.Mathlib.Numerals.{unary_clauses}
use Rattle.clip_term.specs.Refusals.{nat_of}
use Rattle.clip_term.specs.Time.{is_named, kept, duplicated, mentions}
use Rattle.flt_time.specs.Named.{IsNext}
use Rattle.clip_term.proofs.PassedLemmas.{or_false}

-- of the count numbers from low on, those that are not named
abbrev pub kept_from : List ℤ → ℕ → ℕ → List ℕ
kept_from fs low count = filter (λ k. not (is_named fs k)) (range_with_len low count)

-- the count numbers from low on, each once and once more for each time that it is named
abbrev pub duplicated_from : List ℤ → ℕ → ℕ → List ℕ
duplicated_from fs low count = flat_map (λ k. replicate (1 + mentions fs k) k) (range_with_len low count)

-- no number from low up to high is named; high is not looked at
abbrev pub Unnamed : List ℤ → ℕ → ℕ → Type 0
Unnamed fs low high = (k : ℕ) → low ≤ k → k < high → is_named fs k ≡ false

head_is : (xs ys : List ℕ) (n x : ℕ) → drop n xs ≡ x ∷ ys → slice_index xs n ≡ x
head_is xs ys n x e =
    let at : get_or (drop n xs) 0 0 ≡ get_or xs n 0 = simp unary_clauses at (get_or-drop n xs 0 0) in
    sym at ∙ ap (λ (zs : List ℕ). get_or zs 0 0) e

some_left : (xs : List ℕ) (n : ℕ) → n < length xs → drop n xs ≡ [] → ⊥
some_left xs n h e = let long = ap (λ (zs : List ℕ). length zs) e in omega (arith, length-drop n xs)

-- KEPT

kept_one : (fs : List ℤ) (low i m : ℕ) → is_named fs low ≡ false → drop (suc i) (kept_from fs low (suc m)) ≡ drop i (kept_from fs (low + 1) m)
kept_one fs low i m e = rw e

kept_named : (fs : List ℤ) (low m : ℕ) → is_named fs low ≡ true → kept_from fs low (suc m) ≡ kept_from fs (low + 1) m
kept_named fs low m e = rw e

kept_head : (fs : List ℤ) (low m : ℕ) → is_named fs low ≡ false → kept_from fs low (suc m) ≡ low ∷ kept_from fs (low + 1) m
kept_head fs low m e = rw e

-- over d numbers that are not named
kept_over : (fs : List ℤ) (low i d count : ℕ) → d ≤ i → Unnamed fs low (low + d) → drop i (kept_from fs low count) ≡ drop (i - d) (kept_from fs (low + d) (count - d))
kept_over fs low i zero count h free = simp unary_clauses
kept_over fs low i (suc d) zero h free =
    let none_left : 0 - suc d ≡ 0 = omega arith in
    rw none_left (drop-nil i ∙ sym (drop-nil (i - suc d)))
kept_over fs low (suc i) (suc d) (suc m) h free =
    let next = kept_over fs (low + 1) i d m (omega arith) (λ k a b. free k (omega arith) (omega arith)) in
    let left : suc i - suc d ≡ i - d = omega arith in
    let rest : suc m - suc d ≡ m - d = omega arith in
    let there : low + suc d ≡ low + 1 + d = omega arith in
    rw (left, rest, there) (kept_one fs low i m (free low (omega arith) (omega arith)) ∙ next)
kept_over fs low zero (suc d) (suc m) h free = absurd (omega arith)

kept_step : (fs : List ℤ) (f i count : ℕ) → is_named fs f ≡ true → drop i (kept_from fs f count) ≡ drop i (kept_from fs (f + 1) (count - 1))
kept_step fs f i zero e = refl
kept_step fs f i (suc m) e =
    let one_less : suc m - 1 ≡ m = omega arith in
    rw one_less (ap (λ (xs : List ℕ). drop i xs) (kept_named fs f m e))

-- the next named number is left out
pub kept_next : (fs : List ℤ) (low f number count : ℕ) → IsNext fs low f → f ≤ number
    → drop (number - low) (kept_from fs low (count - low)) ≡ drop (number + 1 - (f + 1)) (kept_from fs (f + 1) (count - (f + 1)))
kept_next fs low f number count next h =
    let from = next.from in
    let over = kept_over fs low (number - low) (f - low) (count - low) (omega arith) (λ k a b. next.first k a (omega arith)) in
    let there : low + (f - low) ≡ f = omega arith in
    let left : number - low - (f - low) ≡ number - f = omega arith in
    let rest : count - low - (f - low) ≡ count - f = omega arith in
    let step = kept_step fs f (number - f) (count - f) next.named in
    let same : number + 1 - (f + 1) ≡ number - f = omega arith in
    let last : count - (f + 1) ≡ count - f - 1 = omega arith in
    rw (same, last) (over ∙ rw (there, left, rest) step)

kept_at : (fs : List ℤ) (number count : ℕ) → is_named fs number ≡ false → (xs : List ℕ) (n : ℕ) → n < length xs → kept_from fs number count ≡ drop n xs → number ≡ slice_index xs n
kept_at fs number zero e xs n h same = absurd (some_left xs n h (sym same))
kept_at fs number (suc m) e xs n h same = sym (head_is xs (kept_from fs (number + 1) m) n number (sym same ∙ kept_head fs number m e))

-- where no number up to this one is named, it is the wanted one
pub kept_end : (fs : List ℤ) (low number count n : ℕ) → low ≤ number → Unnamed fs low (number + 1) → n < length (kept fs count)
    → drop (number - low) (kept_from fs low (count - low)) ≡ drop n (kept fs count) → number ≡ slice_index (kept fs count) n
kept_end fs low number count n h free shown same =
    let over = kept_over fs low (number - low) (number - low) (count - low) (omega arith) (λ k a b. free k a (omega arith)) in
    let there : low + (number - low) ≡ number = omega arith in
    let none : number - low - (number - low) ≡ 0 = omega arith in
    let here = rw (there, none) at over in
    kept_at fs number (count - low - (number - low)) (free number h (omega arith)) (kept fs count) n shown (sym here ∙ same)

-- DUPLICATED

not_mentioned : (fs : List ℤ) (k : ℕ) → is_named fs k ≡ false → mentions fs k ≡ 0
not_mentioned [] k e = refl
not_mentioned (f ∷ fs) k e =
    let two = or_false (nat_of f == k) (is_named fs k) e in
    let rest = not_mentioned fs k two.1 in
    let first = two.0 in
    grind (arith, common_steps)

duplicated_one : (fs : List ℤ) (low m : ℕ) → is_named fs low ≡ false → duplicated_from fs low (suc m) ≡ low ∷ duplicated_from fs (low + 1) m
duplicated_one fs low m e = rw (not_mentioned fs low e)

-- over d numbers that are not named
duplicated_over : (fs : List ℤ) (low i d count : ℕ) → d ≤ i → Unnamed fs low (low + d)
    → drop i (duplicated_from fs low count) ≡ drop (i - d) (duplicated_from fs (low + d) (count - d))
duplicated_over fs low i zero count h free = simp unary_clauses
duplicated_over fs low i (suc d) zero h free =
    let none_left : 0 - suc d ≡ 0 = omega arith in
    rw none_left (drop-nil i ∙ sym (drop-nil (i - suc d)))
duplicated_over fs low (suc i) (suc d) (suc m) h free =
    let next = duplicated_over fs (low + 1) i d m (omega arith) (λ k a b. free k (omega arith) (omega arith)) in
    let left : suc i - suc d ≡ i - d = omega arith in
    let rest : suc m - suc d ≡ m - d = omega arith in
    let there : low + suc d ≡ low + 1 + d = omega arith in
    let one = ap (λ (xs : List ℕ). drop (suc i) xs) (duplicated_one fs low m (free low (omega arith) (omega arith))) in
    rw (left, rest, there) (one ∙ next)
duplicated_over fs low zero (suc d) (suc m) h free = absurd (omega arith)

-- from the next named number on
duplicated_from_named : (fs : List ℤ) (low f number count : ℕ) → IsNext fs low f → f ≤ number
    → drop (number - low) (duplicated_from fs low (count - low)) ≡ drop (number - f) (duplicated_from fs f (count - f))
duplicated_from_named fs low f number count next h =
    let from = next.from in
    let over = duplicated_over fs low (number - low) (f - low) (count - low) (omega arith) (λ k a b. next.first k a (omega arith)) in
    let there : low + (f - low) ≡ f = omega arith in
    let left : number - low - (f - low) ≡ number - f = omega arith in
    let rest : count - low - (f - low) ≡ count - f = omega arith in
    over ∙ rw (there, left, rest)

duplicated_past : (fs : List ℤ) (f i count : ℕ) → drop (1 + mentions fs f + i) (duplicated_from fs f count) ≡ drop i (duplicated_from fs (f + 1) (count - 1))
duplicated_past fs f i zero = drop-nil (1 + mentions fs f + i) ∙ sym (drop-nil i)
duplicated_past fs f i (suc m) =
    let one_less : suc m - 1 ≡ m = omega arith in
    let long = length-replicate (1 + mentions fs f) f in
    let past = drop-append-add (replicate (1 + mentions fs f) f) (duplicated_from fs (f + 1) m) i in
    rw one_less (rw long at past)

-- past all of the next named number
pub duplicated_next : (fs : List ℤ) (low f number count : ℕ) → IsNext fs low f → f + mentions fs f < number
    → drop (number - low) (duplicated_from fs low (count - low)) ≡ drop (number - mentions fs f - (f + 1)) (duplicated_from fs (f + 1) (count - (f + 1)))
duplicated_next fs low f number count next h =
    let to = duplicated_from_named fs low f number count next (omega arith) in
    let past = duplicated_past fs f (number - mentions fs f - (f + 1)) (count - f) in
    let all : 1 + mentions fs f + (number - mentions fs f - (f + 1)) ≡ number - f = omega arith in
    let last : count - (f + 1) ≡ count - f - 1 = omega arith in
    let here = rw all at past in
    rw last (to ∙ here)

wanted : (xs ys : List ℕ) (i n : ℕ) → drop i xs ≡ drop n ys → slice_index ys n ≡ slice_index xs i
wanted xs ys i n same =
    let a : get_or (drop i xs) 0 0 ≡ get_or xs i 0 = simp unary_clauses at (get_or-drop i xs 0 0) in
    let b : get_or (drop n ys) 0 0 ≡ get_or ys n 0 = simp unary_clauses at (get_or-drop n ys 0 0) in
    sym b ∙ ap (λ (zs : List ℕ). get_or zs 0 0) (sym same) ∙ a

duplicated_at : (fs : List ℤ) (f i count n : ℕ) (ys : List ℕ) → i ≤ mentions fs f → n < length ys → drop i (duplicated_from fs f count) ≡ drop n ys → f ≡ slice_index ys n
duplicated_at fs f i zero n ys h shown same = absurd (some_left ys n shown (sym same ∙ drop-nil i))
duplicated_at fs f i (suc m) n ys h shown same =
    let some = length-replicate (1 + mentions fs f) f in
    let left = get_or_append_left (replicate (1 + mentions fs f) f) (duplicated_from fs (f + 1) m) 0 i (omega arith) in
    let one = get_or-replicate (1 + mentions fs f) i f 0 (omega arith) in
    sym (wanted (duplicated_from fs f (suc m)) ys i n same ∙ left ∙ one)

-- among the next named number's
pub duplicated_found : (fs : List ℤ) (low f number count n : ℕ) → IsNext fs low f → f ≤ number → number ≤ f + mentions fs f → n < length (duplicated fs count)
    → drop (number - low) (duplicated_from fs low (count - low)) ≡ drop n (duplicated fs count) → f ≡ slice_index (duplicated fs count) n
duplicated_found fs low f number count n next h g shown same =
    let to = duplicated_from_named fs low f number count next h in
    duplicated_at fs f (number - f) (count - f) n (duplicated fs count) (omega arith) shown (sym to ∙ same)

-- where no number below this one is named, it is the wanted one
pub duplicated_end : (fs : List ℤ) (low number count n : ℕ) → low ≤ number → Unnamed fs low number → n < length (duplicated fs count)
    → drop (number - low) (duplicated_from fs low (count - low)) ≡ drop n (duplicated fs count) → number ≡ slice_index (duplicated fs count) n
duplicated_end fs low number count n h free shown same =
    let over = duplicated_over fs low (number - low) (number - low) (count - low) (omega arith) (λ k a b. free k a (omega arith)) in
    let there : low + (number - low) ≡ number = omega arith in
    let here = rw there at over in
    duplicated_at fs number (number - low - (number - low)) (count - low - (number - low)) n (duplicated fs count) (omega arith) shown (sym here ∙ same)
