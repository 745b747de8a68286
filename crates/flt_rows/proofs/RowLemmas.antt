-- Rows that are written from the left.
use Rattle.std.proofs.Common.{◌≡◌, ℕ, zero, suc, ◌+◌, ◌*◌, ◌<◌, ◌≤◌, ◌∙◌, List, [], ◌∷◌, length, get_or, set, ap, arith, inl, inr}
use Rattle.std.proofs.lemmas.List.{get_or-set_same, get_or-set_other}
use Rattle.std.proofs.lemmas.Bool.{cases_eq}
use Rattle.fv_plane.specs.Picture.{wide_samples}

-- one more value is written
pub next_set : {A : Type 0} (out : List A) (want : ℕ → A) (x : ℕ) (v d : A) → x < length out → v ≡ want x → ((k : ℕ) → k < x → get_or out k d ≡ want k)
    → (k : ℕ) → k < x + 1 → get_or (set out x v) k d ≡ want k
next_set out want x v d inside is before k h = elim (cases_eq k x) [
  | inl e ↦ rw e (get_or-set_same out x v d inside ∙ is)
  | inr other ↦ get_or-set_other out x k v d other ∙ before k (omega (arith, other))
]

pub put_next : (new old : List ℕ) (want : ℕ → ℕ) (x v : ℕ) → new ≡ set old x v → x < length old → v ≡ want x → ((k : ℕ) → k < x → get_or old k 0 ≡ want k)
    → (k : ℕ) → k < x + 1 → get_or new k 0 ≡ want k
put_next new old want x v put inside is before k h = ap (λ l. get_or l k 0) put ∙ next_set old want x v 0 inside is before k h

-- those after it stay
pub after_set : {A : Type 0} (out old : List A) (x : ℕ) (v d : A) → ((k : ℕ) → x ≤ k → get_or out k d ≡ get_or old k d) → (k : ℕ) → x + 1 ≤ k → get_or (set out x v) k d ≡ get_or old k d
after_set out old x v d left k h = get_or-set_other out x k v d (omega arith) ∙ left k (omega arith)

-- the bytes of a sample are among those of its row
pub pair_inside : (bytes : List ℕ) (x : ℕ) → x < length (wide_samples bytes) → 2 * x + 1 < length bytes
unfolding wide_samples
pair_inside [] x h = absurd (omega arith)
pair_inside (low ∷ []) x h = absurd (omega arith)
pair_inside (low ∷ high ∷ bytes) zero h = omega arith
pair_inside (low ∷ high ∷ bytes) (suc x) h = omega (arith, pair_inside bytes x (omega arith))
