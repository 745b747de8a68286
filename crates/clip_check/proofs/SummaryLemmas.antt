-- What one more info changes.
use Rattle.std.proofs.Common.{◌≡◌, ℕ, zero, suc, ◌+◌, ◌-◌, ◌*◌, Bool, true, false, List, [], ◌∷◌, ◌++◌, length, refl, sym, ◌∙◌, ap, arith}
use Rattle.std.specs.Prelude.{◌&&◌, ◌==◌, if◌then◌else◌, max}
use Rattle.std.specs.List.{list_all, sum_by}
use Rattle.std.proofs.lemmas.Bool.Decides.{nat_tests}
use Rattle.std.proofs.lemmas.List.Folds.{list_all-append}
use Rattle.std.proofs.lemmas.List.Sums.{sum_by-append, fold-append}
use Rattle.std.proofs.lemmas.List.{length-append}
use Rattle.fv_plane.specs.declared.format.Info.{Info}
use Rattle.clip_term.specs.Refusals.{info_at, no_info}
use Rattle.clip_term.specs.Time.{woven_length}
use Rattle.clip_term.specs.Join.{longest}

not_yet : (n k : ℕ) (info before : Info) → n == k ≡ false → (if n == k then info else before) ≡ before
not_yet n k info before e = rw e refl

same_test : (n k : ℕ) → (suc n == suc k) ≡ (n == k)
same_test n k = grind (arith, nat_tests)

at_more : (infos : List Info) (info : Info) (k : ℕ) → (if length infos == k then info else info_at infos k) ≡ info_at (infos ++ info ∷ []) k
at_more [] info zero = refl
at_more [] info (suc k) = not_yet 0 (suc k) info no_info (grind (arith, nat_tests))
at_more (d ∷ ds) info zero = not_yet (suc (length ds)) 0 info d (grind (arith, nat_tests))
at_more (d ∷ ds) info (suc k) = let same = same_test (length ds) k in rw same (at_more ds info k)

and_true : (b : Bool) → b ≡ (b && true)
and_true true = refl
and_true false = refl

-- a test of each info beside the first
all_more : (test : Info → Info → Bool) (infos : List Info) (info : Info)
    → (list_all (λ (d : Info). test d (info_at infos 0)) infos && test info (info_at (infos ++ info ∷ []) 0))
    ≡ list_all (λ (d : Info). test d (info_at (infos ++ info ∷ []) 0)) (infos ++ info ∷ [])
all_more test [] info = and_true (test info info)
all_more test (d ∷ ds) info =
    ap (λ b. list_all (λ (o : Info). test o d) (d ∷ ds) && b) (and_true (test info d))
    ∙ sym (list_all-append (λ (o : Info). test o d) (d ∷ ds) (info ∷ []))

woven_more : (k i : ℕ) (infos : List Info) (info : Info)
    → max (woven_length k i infos) ((info.frames - 1) * k + (i + length infos) + 1) ≡ woven_length k i (infos ++ info ∷ [])
woven_more k i [] info = omega arith
woven_more k i (d ∷ ds) info =
    let later = woven_more k (i + 1) ds info in
    let same : i + suc (length ds) ≡ i + 1 + length ds = omega arith in
    let last = (info.frames - 1) * k in
    rw (same, ← later) (omega arith)

longest_more : (infos : List Info) (info : Info) → max (longest infos) info.frames ≡ longest (infos ++ info ∷ [])
longest_more infos info = sym (fold-append (λ most (d : Info). max most d.frames) 0 infos (info ∷ []))

sum_more : (size : Info → ℕ) (infos : List Info) (info : Info) → sum_by size infos + size info ≡ sum_by size (infos ++ info ∷ [])
sum_more size infos info = let split = sum_by-append size infos (info ∷ []) in omega arith

-- THE PARTS OF A SUMMARY

pub placed : (infos : List Info) (info before now : Info) (index k : ℕ) → now ≡ (if index == k then info else before) → index ≡ length infos → before ≡ info_at infos k
    → now ≡ info_at (infos ++ info ∷ []) k
placed infos info before now index k e f g = rw (e, f, g) (at_more infos info k)

pub tested : (test : Info → Info → Bool) (infos : List Info) (info first : Info) (so_far here : Bool) → first ≡ info_at (infos ++ info ∷ []) 0
    → so_far ≡ list_all (λ (d : Info). test d (info_at infos 0)) infos → here ≡ test info first
    → (so_far && here) ≡ list_all (λ (d : Info). test d (info_at (infos ++ info ∷ []) 0)) (infos ++ info ∷ [])
tested test infos info first so_far here e f g = rw (g, e, f) (all_more test infos info)

pub woven_now : (infos : List Info) (info : Info) (k index so_far : ℕ) → index ≡ length infos → so_far ≡ woven_length k 0 infos
    → max so_far ((info.frames - 1) * k + index + 1) ≡ woven_length k 0 (infos ++ info ∷ [])
woven_now infos info k index so_far e f = let now = woven_more k 0 infos info in rw (e, f) (omega arith)

pub longest_now : (infos : List Info) (info : Info) (so_far : ℕ) → so_far ≡ longest infos → max so_far info.frames ≡ longest (infos ++ info ∷ [])
longest_now infos info so_far e = rw e (longest_more infos info)

pub sum_now : (size : Info → ℕ) (infos : List Info) (info : Info) (so_far : ℕ) → so_far ≡ sum_by size infos → so_far + size info ≡ sum_by size (infos ++ info ∷ [])
sum_now size infos info so_far e = rw e (sum_more size infos info)

pub one_longer : (infos : List Info) (info : Info) (n : ℕ) → n ≡ length infos → n + 1 ≡ length (infos ++ info ∷ [])
one_longer infos info n e = let long = length-append infos (info ∷ []) in omega arith
