-- The innermost braces, and how many are open.
use Rattle.std.proofs.Common.{◌≡◌, refl, ℕ, ◌+◌, ◌<◌, ◌≤◌, arith, List, [], ◌∷◌, ◌++◌, length, Option, Some, None}
use Rattle.avs_tree.specs.Tree as t
use Rattle.avs_tree.specs.View.{StatementIs}
use Rattle.avs_tree.specs.Machine as m
use Rattle.avs_frames.specs.ScriptViews.{level_view, inside, within, outermost_view}
use Rattle.avs_frames.specs.declared.script_state.Level.{Level}
use Rattle.avs_frames.specs.declared.script_state.OpenFunction.{OpenFunction}

inside_push : (outer : m.Levels) (ls : List Level) (l : Level) → inside outer (ls ++ l ∷ []) ≡ level_view l (inside outer ls)
inside_push outer [] l = refl
inside_push outer (k ∷ ls) l = inside_push (level_view k outer) ls l

pub levels_push : (outer : m.Levels) (ls : List Level) (l : Level) → within outer (ls ++ l ∷ []) ≡ level_view l (within outer ls)
unfolding within
levels_push outer ls l = inside_push outer ls l

pub levels_none : (outer : m.Levels) → within outer [] ≡ outer
unfolding within
levels_none outer = refl

pub ruleset of_levels = (levels_push, levels_none)

-- ---- how many are open

depth_inside : (outer : m.Levels) (ls : List Level) → m.depth (inside outer ls) ≡ length ls + m.depth outer
depth_inside outer [] = omega arith
depth_inside outer (l ∷ ls) = let e = depth_inside (level_view l outer) ls in omega (arith, e)

pub depth_within : (outer : m.Levels) (ls : List Level) → m.depth (within outer ls) ≡ length ls + m.depth outer
unfolding within
depth_within outer ls = depth_inside outer ls

-- no braces
top_inside : (f : Option OpenFunction) (gs : List t.Function) (ls : List Level) → m.depth (inside (outermost_view f gs) ls) ≤ 0 → inside (outermost_view f gs) ls ≡ m.top gs
top_inside None gs [] none = refl
top_inside (Some f) gs [] none = absurd (omega (arith, none))
top_inside f gs (l ∷ ls) none = let e = depth_inside (outermost_view f gs) (l ∷ ls) in absurd (omega (arith, none, e))

pub top_within : (f : Option OpenFunction) (gs : List t.Function) (ls : List Level) → m.depth (within (outermost_view f gs) ls) ≤ 0 → within (outermost_view f gs) ls ≡ m.top gs
unfolding within
top_within f gs ls none = top_inside f gs ls none

-- inside braces the script doesn't end, and no function begins
pub no_end : (ss : List StatementIs) (ls : m.Levels) → 0 < m.depth ls → m.stuck ≡ m.end_by ss ls
no_end ss (m.top gs) some = absurd (omega (arith, some))
no_end ss (m.in_function y ps line before gs) some = refl
no_end ss (m.level o line before ls) some = refl

pub no_function : (line : ℕ) (ss : List StatementIs) (ls : m.Levels) → 0 < m.depth ls → m.stuck ≡ m.function_by line ss ls
no_function line ss (m.top gs) some = absurd (omega (arith, some))
no_function line ss (m.in_function y ps from before gs) some = refl
no_function line ss (m.level o from before ls) some = refl
