-- Bytes that were read ahead of their use.
use Rattle.std.specs.Prelude.{◌≡◌, ℕ, List, ◌++◌, length, drop, min}

-- what is left of the stream: bytes that were read ahead, and those from the source's place on
abbrev pub left_of : List ℕ → List ℕ → ℕ → List ℕ
left_of ahead told place = ahead ++ drop place told

-- count bytes of what was left were passed: all that were asked for, or all that there were
pub record Passes (left after : List ℕ) (size count : ℕ) : Type 0 where
  pub amount : count ≡ min size (length left)
  pub rest : after ≡ drop count left
