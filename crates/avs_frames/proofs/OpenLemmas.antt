-- What is open innermost.
use Rattle.std.proofs.Common.{◌≡◌, refl, ap, ◌+◌, ◌-◌, arith, List, [], ◌∷◌, ◌++◌, length, map, sum, slice_get, Some, None}
use Rattle.std.proofs.lemmas.List.Sums.{sum_by-cons}
use Rattle.avs_tree.specs.Machine as x
use Rattle.avs_tree.specs.Machine.{open_level}
use Rattle.avs_frames.specs.Open.{opens}
use Rattle.avs_frames.specs.ExprViews.{open_view, onto, opened_view}
use Rattle.avs_frames.specs.declared.state.Open.{Open}
use Rattle.avs_frames.specs.declared.state.Open.TheVariants as f

onto_push : (outer : List x.Open) (fs : List Open) (f : Open) → onto outer (fs ++ f ∷ []) ≡ open_view f ∷ onto outer fs
onto_push outer [] f = refl
onto_push outer (g ∷ fs) f = onto_push (open_view g ∷ outer) fs f

pub opened_push : (fs : List Open) (f : Open) → opened_view (fs ++ f ∷ []) ≡ open_view f ∷ opened_view fs
unfolding opened_view
opened_push fs f = onto_push [] fs f

pub opened_none : opened_view [] ≡ []
unfolding opened_view
opened_none = refl

pub ruleset of_opened = (opened_push, opened_none)

-- ---- what comes next

hole_onto : (outer : List x.Open) (g : Open) (fs : List Open) (f : Open) → slice_get (g ∷ fs) (length fs) ≡ Some f → x.hole (onto outer (g ∷ fs)) ≡ x.hole_of (open_view f)
hole_onto outer g [] f is = let e : g ≡ f = cc in ap (λ h. x.hole_of (open_view h)) e
hole_onto outer g (h ∷ fs) f is = hole_onto (open_view g ∷ outer) h fs f is

pub hole_some : (fs : List Open) (f : Open) → slice_get fs (length fs - 1) ≡ Some f → x.hole (opened_view fs) ≡ x.hole_of (open_view f)
unfolding opened_view
hole_some [] f is = cc
hole_some (g ∷ fs) f is = let n : length (g ∷ fs) - 1 ≡ length fs = omega arith in hole_onto [] g fs f (rw n at is)

none_last : (g : Open) (fs : List Open) → slice_get (g ∷ fs) (length fs) ≡ None → ⊥
none_last g [] is = cc
none_last g (h ∷ fs) is = none_last h fs is

pub hole_none : (fs : List Open) → slice_get fs (length fs - 1) ≡ None → x.hole (opened_view fs) ≡ 8
unfolding opened_view
hole_none [] is = refl
hole_none (g ∷ fs) is = let n : length (g ∷ fs) - 1 ≡ length fs = omega arith in absurd (none_last g fs (rw n at is))

pub ruleset of_hole = (hole_some, hole_none)

-- ---- levels of nesting

opens_more : (f : Open) (outer : List x.Open) → open_level (open_view f ∷ outer) ≡ opens f + open_level outer
opens_more f.Paren outer = refl
opens_more (f.Argument c found n) outer = refl
opens_more (f.Minus line) outer = refl
opens_more (f.Not line) outer = refl
opens_more (f.Chain e ss last) outer = omega arith
opens_more (f.Compare e last) outer = omega arith
opens_more (f.Yes e line) outer = refl
opens_more (f.No e yes_ line) outer = refl

level_onto : (outer : List x.Open) (fs : List Open) → open_level (onto outer fs) ≡ sum (map opens fs) + open_level outer
level_onto outer [] = omega arith
level_onto outer (g ∷ fs) =
    let more = level_onto (open_view g ∷ outer) fs in
    let one = opens_more g outer in
    let total : sum (map opens (g ∷ fs)) ≡ opens g + sum (map opens fs) = sum_by-cons (λ x. x) (opens g) (map opens fs) in
    omega (arith, more, one, total)

pub open_level_is : (fs : List Open) → open_level (opened_view fs) ≡ sum (map opens fs)
unfolding opened_view
open_level_is fs = let e = level_onto [] fs in omega (arith, e)
