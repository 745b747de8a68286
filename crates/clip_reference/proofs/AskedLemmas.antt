-- The frames that are asked, listed one by one.
use Rattle.std.proofs.Common.{◌≡◌, ℕ, ◌+◌, List, [], ◌∷◌, ◌++◌, map, arith}
use Rattle.std.specs.List.{range_with_len}
use Rattle.std.proofs.lemmas.List.FromFn.{map-range_with_len_more}

-- one more of the values at 0, 1 and so on
pub listed_more : {X : Type 0} (f : ℕ → X) (xs ys : List X) (x : X) (i : ℕ) → ys ≡ xs ++ x ∷ [] → x ≡ f i → xs ≡ map f (range_with_len 0 i)
    → ys ≡ map f (range_with_len 0 (i + 1))
listed_more f xs ys x i put here so_far = search (arith, map-range_with_len_more)
