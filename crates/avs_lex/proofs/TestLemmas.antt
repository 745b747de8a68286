-- Facts on both answers of a test.
use Rattle.std.proofs.Common.{◌≡◌, Bool, true, false, refl}

pub by_test : (b : Bool) (P : Bool → Type 0) → (b ≡ true → P true) → (b ≡ false → P false) → P b
by_test b P = elim b as (λ b. (b ≡ true → P true) → (b ≡ false → P false) → P b) [ true ↦ λ yes no. yes refl | false ↦ λ yes no. no refl ]

pub either : (b : Bool) (P : Type 0) → (b ≡ true → P) → (b ≡ false → P) → P
either b P = by_test b (λ _. P)
