-- The numbers of four seats.
use Rattle.std.proofs.Common.{◌≡◌, ℕ, zero, suc, ◌<◌, List, ◌∷◌, [], Contains, refl, inl, inr, arith}
use mathlib.Core.Logic.{◌⊎◌}

-- of four numbers each is the first, or stands among the others
pub one_of_four : (n : ℕ) → n < 4 → (n ≡ 0) ⊎ Contains (1 ∷ 2 ∷ 3 ∷ []) n
one_of_four zero less = inl refl
one_of_four (suc zero) less = inr (0, omega arith, refl)
one_of_four (suc (suc zero)) less = inr (1, omega arith, refl)
one_of_four (suc (suc (suc zero))) less = inr (2, omega arith, refl)
one_of_four (suc (suc (suc (suc n)))) less = absurd (omega arith)
