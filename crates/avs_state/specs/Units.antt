-- How many steps a unit pays for: an expression is given its value, or a method call is made.
use Rattle.std.specs.Prelude.{ℕ}
use mathlib.Core.HLevel.{×₃_prop}
use Rattle.std.specs.Coded.{×_prop, Unit-prop, le_prop}
use Rattle.avs_tree.specs.Tree.{Kind, global, assign, return, if_, while, for, value, Arms, no_arms, arm, Else, no_else, else_, Block, no_more, then_}
use Rattle.avs_tree.specs.Sizes.{IsShort, ArmsAreShort, IsElseShort, AreShort}

-- A text has at most so many bytes, and a statement at most as many expressions.
unfoldable pub steps_a_unit : ℕ
steps_a_unit = 1048576

-- That statements are short has one proof at most.
module _ (most : ℕ) where
  mutual
    kind_prop : (kind : Kind) → IsProp (IsShort most kind)
    kind_prop (global x e) = le_prop
    kind_prop (assign x e) = le_prop
    kind_prop (return e) = le_prop
    kind_prop (if_ arms other) = ×₃_prop le_prop (arms_prop arms) (else_prop other)
    kind_prop (while e b) = ×_prop le_prop (block_prop b)
    kind_prop (for x a b c d) = ×_prop le_prop (block_prop d)
    kind_prop (value e) = le_prop

    arms_prop : (arms : Arms) → IsProp (ArmsAreShort most arms)
    arms_prop no_arms = Unit-prop
    arms_prop (arm e b rest) = ×_prop (block_prop b) (arms_prop rest)

    else_prop : (other : Else) → IsProp (IsElseShort most other)
    else_prop no_else = Unit-prop
    else_prop (else_ b) = block_prop b

    pub block_prop : (body : Block) → IsProp (AreShort most body)
    block_prop no_more = Unit-prop
    block_prop (then_ k line rest) = ×_prop (kind_prop k) (block_prop rest)
