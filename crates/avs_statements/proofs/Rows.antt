-- The rest of a list begins with its first element.
use Rattle.std.proofs.Common.{◌≡◌, ◌∙◌, rules, ap, ℕ, ◌+◌, ◌<◌, List, ◌∷◌, map, drop, length, get_or, subst}
use Rattle.avs_tree.specs.Sizes.{size, arms_size, IsShort, AreShort, ArmsAreShort}
use Rattle.avs_tree.specs.Tree as t
use Rattle.avs_tree.specs.View.{expr_view, arms_of, block_of, block_view, arm_view, statement_view}
use Rattle.avs_tree.specs.declared.tree.Arm.{Arm, out-Arm}
use Rattle.avs_tree.specs.declared.tree.Expr.{the_lemmas}
use Rattle.avs_tree.specs.declared.tree.Statement.{Statement}
use Rattle.avs_tree.specs.declared.tree.StatementKind.{the_lemmas as statement_lemmas}
use Rattle.avs_state.proofs.RestLemmas.{rest_more}

-- one level of the trees, for the tactics
pub ruleset trees = (the_lemmas, statement_lemmas)

view_arm : (x : Arm) → arm_view x ≡ (expr_view (out-Arm x).condition, block_view (out-Arm x).body.items)
view_arm x = search (rules, statement_lemmas)

pub arms_more : (xs : List Arm) (i : ℕ) (x : Arm) → i < length xs → x ≡ get_or xs i x
    → arms_of (map arm_view (drop i xs))
    ≡ t.arm (expr_view (out-Arm x).condition) (block_view (out-Arm x).body.items) (arms_of (map arm_view (drop (i + 1) xs)))
arms_more xs i x h is =
    ap arms_of (rest_more arm_view xs i x h is) ∙ ap (λ a. t.arm a.0 a.1 (arms_of (map arm_view (drop (i + 1) xs)))) (view_arm x)

pub block_more : (xs : List Statement) (i : ℕ) (x : Statement) → i < length xs → x ≡ get_or xs i x
    → block_of (map statement_view (drop i xs)) ≡ block_of (statement_view x ∷ map statement_view (drop (i + 1) xs))
block_more xs i x h is = ap block_of (rest_more statement_view xs i x h is)

-- ---- what is left is short, and how large it is

pub block_short : (most : ℕ) (xs : List Statement) (i : ℕ) (x : Statement) → i < length xs → x ≡ get_or xs i x
    → AreShort most (block_of (map statement_view (drop i xs)))
    → IsShort most (statement_view x).0 × AreShort most (block_of (map statement_view (drop (i + 1) xs)))
block_short most xs i x h is short = subst (AreShort most) (block_more xs i x h is) short

pub arms_short : (most : ℕ) (xs : List Arm) (i : ℕ) (x : Arm) → i < length xs → x ≡ get_or xs i x
    → ArmsAreShort most (arms_of (map arm_view (drop i xs)))
    → AreShort most (block_view (out-Arm x).body.items) × ArmsAreShort most (arms_of (map arm_view (drop (i + 1) xs)))
arms_short most xs i x h is short = subst (ArmsAreShort most) (arms_more xs i x h is) short

pub arms_sizes : (xs : List Arm) (i : ℕ) (x : Arm) → i < length xs → x ≡ get_or xs i x
    → arms_size (arms_of (map arm_view (drop i xs)))
    ≡ size (expr_view (out-Arm x).condition) + arms_size (arms_of (map arm_view (drop (i + 1) xs)))
arms_sizes xs i x h is = ap arms_size (arms_more xs i x h is)
