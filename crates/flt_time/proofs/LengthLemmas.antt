-- How many numbers are left, or stand more than once.
use Rattle.std.proofs.Common.{◌≡◌, ℕ, zero, suc, ◌+◌, ◌<◌, ◌≤◌, ℤ, List, [], ◌∷◌, length, replicate, Bool, true, false, cond, arith, refl, ⊎_elim}
use Rattle.std.specs.Prelude.{not, ◌||◌, ◌==◌, ◌≢◌}
use Rattle.std.proofs.lemmas.List.{length-append, length-replicate}
use Rattle.std.proofs.lemmas.Bool.{cases_eq}
use Rattle.std.proofs.lemmas.Bool.Decides.{nat_tests}
use Rattle.std.proofs.lemmas.Int.{ints}
use Rattle.std.proofs.lemmas.Grind.{common_steps}
use Rattle.clip_term.specs.Refusals.{nat_of, below}
use Rattle.clip_term.specs.Time.{is_named, kept, duplicated, mentions, different, any_outside}
use Rattle.flt_time.proofs.NumberLemmas.{kept_from, duplicated_from}
use Rattle.clip_term.proofs.PassedLemmas.{or_false}

other_test : (f : ℤ) (k : ℕ) → nat_of f ≢ k → (nat_of f == k) ≡ false
other_test f k e = grind (arith, nat_tests)

same_test : (f : ℤ) (k : ℕ) → nat_of f ≡ k → (nat_of f == k) ≡ true
same_test f k e = grind (arith, nat_tests)

-- KEPT

named_other : (f : ℤ) (fs : List ℤ) (k : ℕ) → nat_of f ≢ k → is_named (f ∷ fs) k ≡ is_named fs k
named_other f fs k e = rw (other_test f k e)

named_again : (f : ℤ) (fs : List ℤ) (k : ℕ) → is_named fs (nat_of f) ≡ true → is_named (f ∷ fs) k ≡ is_named fs k
named_again f fs k e =
    ⊎_elim (λ (h : nat_of f ≡ k). let t = same_test f k h in let two : is_named fs k ≡ true = rw (← h) e in rw (t, two)) (λ (h : nat_of f ≢ k). named_other f fs k h)
    (cases_eq (nat_of f) k)

length_by : (t : Bool) (x : ℕ) (xs : List ℕ) → length (cond (not t) (x ∷ xs) xs) ≡ cond t 0 1 + length xs
length_by true x xs = omega arith
length_by false x xs = omega arith

kept_length : (fs : List ℤ) (low m : ℕ) → length (kept_from fs low (suc m)) ≡ cond (is_named fs low) 0 1 + length (kept_from fs (low + 1) m)
kept_length fs low m = length_by (is_named fs low) low (kept_from fs (low + 1) m)

same_cond : (a b : Bool) → a ≡ b → ◌≡◌ {A = ℕ} (cond a 0 1) (cond b 0 1)
same_cond a b e = rw e

at_most_one : (t : Bool) → cond t 0 1 ≤ 1
at_most_one true = omega arith
at_most_one false = omega arith

kept_alike : (fs gs : List ℤ) (low m : ℕ) → ((k : ℕ) → low ≤ k → is_named fs k ≡ is_named gs k) → length (kept_from fs low m) ≡ length (kept_from gs low m)
kept_alike fs gs low zero alike = refl
kept_alike fs gs low (suc m) alike =
    let later = kept_alike fs gs (low + 1) m (λ k h. alike k (omega arith)) in
    let here = same_cond (is_named fs low) (is_named gs low) (alike low (omega arith)) in
    omega (arith, kept_length fs low m, kept_length gs low m)

kept_before : (f : ℤ) (fs : List ℤ) (low m : ℕ) → nat_of f < low → length (kept_from (f ∷ fs) low m) ≡ length (kept_from fs low m)
kept_before f fs low m h = kept_alike (f ∷ fs) fs low m (λ k g. named_other f fs k (λ e. omega arith))

-- one more name takes one number at most
kept_less : (f : ℤ) (fs : List ℤ) (low m : ℕ) → length (kept_from fs low m) ≤ 1 + length (kept_from (f ∷ fs) low m)
kept_less f fs low zero = omega arith
kept_less f fs low (suc m) =
    let one = kept_length fs low m in
    let two = kept_length (f ∷ fs) low m in
    ⊎_elim
    (λ (h : nat_of f ≡ low). let later = kept_before f fs (low + 1) m (omega arith) in let most = at_most_one (is_named fs low) in omega arith)
    (λ (h : nat_of f ≢ low). let later = kept_less f fs (low + 1) m in let here = same_cond (is_named (f ∷ fs) low) (is_named fs low) (named_other f fs low h) in omega arith)
    (cases_eq (nat_of f) low)

kept_plain : (low m : ℕ) → length (kept_from [] low m) ≡ m
kept_plain low zero = refl
kept_plain low (suc m) = let later = kept_plain (low + 1) m in omega arith

different_again : (f : ℤ) (fs : List ℤ) (t : Bool) → is_named fs (nat_of f) ≡ t → different (f ∷ fs) ≡ cond t 0 1 + different fs
different_again f fs true e = rw e (omega arith)
different_again f fs false e = rw e

kept_long_by : (f : ℤ) (fs : List ℤ) (count : ℕ) (t : Bool) → is_named fs (nat_of f) ≡ t → count ≤ length (kept fs count) + different fs
    → count ≤ length (kept (f ∷ fs) count) + different (f ∷ fs)
kept_long_by f fs count true e h =
    let same = kept_alike (f ∷ fs) fs 0 count (λ k g. named_again f fs k e) in
    omega (arith, different_again f fs true e)
kept_long_by f fs count false e h = omega (arith, kept_less f fs 0 count, different_again f fs false e)

-- as many are left out as the list has different numbers, at most
pub kept_long : (fs : List ℤ) (count : ℕ) → count ≤ length (kept fs count) + different fs
kept_long [] count = let all = kept_plain 0 count in omega arith
kept_long (f ∷ fs) count = kept_long_by f fs count (is_named fs (nat_of f)) refl (kept_long fs count)

-- DUPLICATED

mentions_other : (f : ℤ) (fs : List ℤ) (k : ℕ) → nat_of f ≢ k → mentions (f ∷ fs) k ≡ mentions fs k
mentions_other f fs k e = let t = other_test f k e in grind (arith, common_steps)

mentions_same : (f : ℤ) (fs : List ℤ) (k : ℕ) → nat_of f ≡ k → mentions (f ∷ fs) k ≡ 1 + mentions fs k
mentions_same f fs k e = let t = same_test f k e in grind (arith, common_steps)

duplicated_length : (fs : List ℤ) (low m : ℕ) → length (duplicated_from fs low (suc m)) ≡ 1 + mentions fs low + length (duplicated_from fs (low + 1) m)
duplicated_length fs low m =
    let whole = length-append (replicate (1 + mentions fs low) low) (duplicated_from fs (low + 1) m) in
    let run = length-replicate (1 + mentions fs low) low in
    omega arith

duplicated_before : (f : ℤ) (fs : List ℤ) (low m : ℕ) → nat_of f < low → length (duplicated_from (f ∷ fs) low m) ≡ length (duplicated_from fs low m)
duplicated_before f fs low zero h = refl
duplicated_before f fs low (suc m) h =
    let later = duplicated_before f fs (low + 1) m (omega arith) in
    let here = mentions_other f fs low (λ e. omega arith) in
    omega (arith, duplicated_length fs low m, duplicated_length (f ∷ fs) low m)

-- one more name is one more number
duplicated_within : (f : ℤ) (fs : List ℤ) (low m : ℕ) → low ≤ nat_of f → nat_of f < low + m
    → length (duplicated_from (f ∷ fs) low m) ≡ 1 + length (duplicated_from fs low m)
duplicated_within f fs low zero h g = absurd (omega arith)
duplicated_within f fs low (suc m) h g =
    let one = duplicated_length fs low m in
    let two = duplicated_length (f ∷ fs) low m in
    ⊎_elim
    (λ (e : nat_of f ≡ low). let later = duplicated_before f fs (low + 1) m (omega arith) in let here = mentions_same f fs low e in omega arith)
    (λ (e : nat_of f ≢ low). let later = duplicated_within f fs (low + 1) m (omega arith) (omega arith) in let here = mentions_other f fs low e in omega arith)
    (cases_eq (nat_of f) low)

duplicated_plain : (low m : ℕ) → length (duplicated_from [] low m) ≡ m
duplicated_plain low zero = refl
duplicated_plain low (suc m) = let later = duplicated_plain (low + 1) m in omega arith

inside : (f : ℤ) (count : ℕ) → below f 0 ≡ false → not (below f count) ≡ false → nat_of f < count
inside f count e g = grind (arith, ints, nat_tests)

-- each number once, and once more for each that the list names
pub duplicated_long : (fs : List ℤ) (count : ℕ) → any_outside fs count ≡ false → length (duplicated fs count) ≡ count + length fs
duplicated_long [] count e = let all = duplicated_plain 0 count in omega arith
duplicated_long (f ∷ fs) count e =
    let two = or_false (below f 0 || not (below f count)) (any_outside fs count) e in
    let parts = or_false (below f 0) (not (below f count)) two.0 in
    let rest = duplicated_long fs count two.1 in
    let within = inside f count parts.0 parts.1 in
    let more = duplicated_within f fs 0 count (omega arith) (omega arith) in
    omega arith
