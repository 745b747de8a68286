-- When a buffer is full, and how far a skip went.
use Rattle.std.specs.Prelude.{◌≡◌, ℕ, ◌<◌, ◌≤◌, min, List, length, take, drop}

-- the buffer has the next count bytes of what is left, fewer than it can hold only at the end
pub record Fills (left : List ℕ) (count : ℕ) (buf : List ℕ) : Type 0 where
  pub given : take count buf ≡ take count left
  pub inside : count ≤ length left
  pub ended : count < length buf → length left ≡ count

-- a skip from a place of the told bytes on passes as many as it is to, fewer only at their end
abbrev pub Skips : List ℕ → ℕ → ℕ → ℕ → Type 0
Skips told place size count = count ≡ min size (length (drop place told))
