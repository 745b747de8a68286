-- A value depends on the statistics that the expression names alone; the samples of a picture's plane.
use Rattle.std.proofs.Common.{◌≡◌, ℕ, zero, suc, ◌+◌, ◌*◌, ◌/◌, ◌%◌, ◌<◌, ◌≤◌, set, Result, List, [], ◌∷◌, length, get_or, Bool, true, false, Option, Some, refl, ap, sym, ◌∙◌, arith, eq-eqb}
use Rattle.std.specs.Option.{unwrap_or}
use Rattle.std.specs.Result.{IfOk}
use Rattle.std.proofs.lemmas.List.{length-map, get_or-set_same, get_or-set_other, get_or_past}
use Rattle.std.specs.Prelude.{slice_get, ℤ, pos, ◌||◌, if◌then◌else◌}
use Rattle.std.proofs.lemmas.Bool.Decides.{nat_tests}
use Rattle.std.proofs.lemmas.List.FromFn.{fill_by_all}
use Rattle.std.proofs.lemmas.Grind.{common_steps}
use Rattle.fv_plane.specs.Format.{largest_sample, planes, plane_width, plane_height}
use Rattle.fv_plane.specs.Picture.{look_in, plane_from, row_from, Picture, IsPicture, row_of}
use Rattle.clip_term.specs.declared.run.PlaneStat.{PlaneStat}
use Rattle.clip_term.specs.Expression.{Expr, int, bool, current_frame, of_plane, abs_, min_, max_, minus, not_, chain, compare, group, Exprs, no_exprs, and_expr, Steps, no_steps, and_step, asks, any_asks, steps_ask, same_stat, value, of_all, picked_from, along, one_of, both_of, absolute, negative, picked, by_oper, stat_in, words, tree_of}
use Rattle.fv_plane.specs.declared.format.PixelType.{PixelType}
use Rattle.clip_term.specs.declared.run.RunCompare.{RunCompare}
use Rattle.clip_term.specs.Choice.{choose, decide, side_of, source_of}
use Rattle.clip_term.specs.Refusals.{no_info}
use Rattle.clip_term.proofs.WordLemmas.{tree_again}
use Rattle.flt_choice.specs.Shown.{number_shown}
use Rattle.flt_choice.specs.Table.{plane_samples, stats_in, stat_number, stats_of}

-- STATISTICS OF A PICTURE

plane_listed : (picture : Picture) (p : ℕ) → IsPicture picture → p < planes picture.shape.kind
    → plane_from (look_in picture) p (plane_width picture.shape p) (plane_height picture.shape p) ≡ get_or picture.planes p []
plane_listed picture p is within =
    let plane = is.sizes p (let k = is.count in omega arith) in
    sym (fill_by_all (λ z. row_from (look_in picture) p (plane_width picture.shape p) z) (get_or picture.planes p []) (plane_height picture.shape p) [] plane.count
    (λ z g. fill_by_all (λ x. look_in picture p x z) (row_of picture.planes p z) (plane_width picture.shape p) 0 (plane.widths z g) (λ x i. refl)))

chosen_by : (t : Bool) (a b : ℕ) → t ≡ true → (if t then a else b) ≡ a
chosen_by t a b e = grind (arith, common_steps)

other_by : (t : Bool) (a b : ℕ) → t ≡ false → (if t then a else b) ≡ b
other_by t a b e = grind (arith, common_steps)

pub stat_there : (picture : Picture) (p : ℕ) (stat : PlaneStat) → IsPicture picture → p < planes picture.shape.kind
    → stats_of picture p stat ≡ stat_in (largest_sample picture.shape) stat (plane_samples picture p)
stat_there picture p stat is within = search (arith, nat_tests, chosen_by, plane_listed)

pub stat_past : (picture : Picture) (p : ℕ) (stat : PlaneStat) → (p < planes picture.shape.kind → ⊥) → stats_of picture p stat ≡ 0
stat_past picture p stat past = grind (arith, common_steps)

-- VALUES

same_stat_is : (stat : PlaneStat) → same_stat stat stat ≡ true
same_stat_is stat = grind (arith, common_steps)

asked_itself : (p : ℕ) (stat : PlaneStat) → asks p stat (of_plane p stat) ≡ true
asked_itself p stat = rw (eq-eqb p p refl) (same_stat_is stat)

pub in_first : (a b : Bool) → a ≡ true → a || b ≡ true
in_first a b e = grind (arith, common_steps)

pub in_second : (a b : Bool) → b ≡ true → a || b ≡ true
in_second a b e = grind (arith, common_steps)

module _ (n : ℕ) (f g : ℕ → PlaneStat → ℕ) where
  mutual
    pub value_same : (e : Expr) → ((p : ℕ) (stat : PlaneStat) → asks p stat e ≡ true → f p stat ≡ g p stat) → value n f e ≡ value n g e
    value_same (int z) same = refl
    value_same (bool b) same = refl
    value_same current_frame same = refl
    value_same (of_plane p stat) same = ap (λ v. Some (pos v)) (same p stat (asked_itself p stat))
    value_same (abs_ e) same = ap (one_of absolute) (value_same e same)
    value_same (min_ es) same = all_same _ es same
    value_same (max_ es) same = all_same _ es same
    value_same (minus e) same = ap (one_of negative) (value_same e same)
    value_same (not_ e) same = refl
    value_same (chain e ss) same =
        ap (λ a. along n f a ss) (value_same e (λ p stat h. same p stat (in_first (asks p stat e) (steps_ask p stat ss) h)))
        ∙ along_same (value n g e) ss (λ p stat h. same p stat (in_second (asks p stat e) (steps_ask p stat ss) h))
    value_same (compare op a b) same = refl
    value_same (group e) same = value_same e same

    all_same : (pick : ℤ → ℤ → ℤ) (es : Exprs) → ((p : ℕ) (stat : PlaneStat) → any_asks p stat es ≡ true → f p stat ≡ g p stat) → of_all pick n f es ≡ of_all pick n g es
    all_same pick no_exprs same = refl
    all_same pick (and_expr e es) same =
        ap (λ a. picked_from pick n f a es) (value_same e (λ p stat h. same p stat (in_first (asks p stat e) (any_asks p stat es) h)))
        ∙ picked_same pick (value n g e) es (λ p stat h. same p stat (in_second (asks p stat e) (any_asks p stat es) h))

    picked_same : (pick : ℤ → ℤ → ℤ) (a : Option ℤ) (es : Exprs) → ((p : ℕ) (stat : PlaneStat) → any_asks p stat es ≡ true → f p stat ≡ g p stat)
        → picked_from pick n f a es ≡ picked_from pick n g a es
    picked_same pick a no_exprs same = refl
    picked_same pick a (and_expr e es) same =
        ap (λ b. picked_from pick n f (both_of (picked pick) a b) es) (value_same e (λ p stat h. same p stat (in_first (asks p stat e) (any_asks p stat es) h)))
        ∙ picked_same pick (both_of (picked pick) a (value n g e)) es (λ p stat h. same p stat (in_second (asks p stat e) (any_asks p stat es) h))

    along_same : (a : Option ℤ) (ss : Steps) → ((p : ℕ) (stat : PlaneStat) → steps_ask p stat ss ≡ true → f p stat ≡ g p stat) → along n f a ss ≡ along n g a ss
    along_same a no_steps same = refl
    along_same a (and_step op e ss) same =
        ap (λ b. along n f (both_of (by_oper op) a b) ss) (value_same e (λ p stat h. same p stat (in_first (asks p stat e) (steps_ask p stat ss) h)))
        ∙ along_same (both_of (by_oper op) a (value n g e)) ss (λ p stat h. same p stat (in_second (asks p stat e) (steps_ask p stat ss) h))

-- THE TABLE

at_is : (l : List ℕ) (i : ℕ) → unwrap_or (slice_get l i) 0 ≡ get_or l i 0
at_is [] i = refl
at_is (x ∷ l) zero = refl
at_is (x ∷ l) (suc i) = at_is l i

number_few : (stat : PlaneStat) → stat_number stat < 3
number_few stat = grind (arith, common_steps)

same_number_is : (a b : PlaneStat) → stat_number a ≡ stat_number b → a ≡ b
same_number_is a b e = grind (arith, common_steps)

-- one more statistic is there
pub table_step : (table : List ℕ) (place v : ℕ) (found : PlaneStat) (p : ℕ) (stat : PlaneStat) (want : ℕ → PlaneStat → ℕ) → place < length table → stat_number found ≡ place % 3
    → 3 * p + stat_number stat < place + 1 → (3 * p + stat_number stat < place → stats_in table p stat ≡ want p stat) → (p ≡ place / 3 → stat ≡ found → v ≡ want (place / 3) found)
    → stats_in (set table place v) p stat ≡ want p stat
table_step table place v found p stat want there is low before here = search (arith, number_few, same_number_is, at_is, get_or-set_same, get_or-set_other)

planes_few : (kind : PixelType) → planes kind ≤ 3
planes_few kind = grind (arith, common_steps)

-- the whole table: a plane past the third has 0
pub table_whole : (picture : Picture) (table : List ℕ) (p : ℕ) (stat : PlaneStat) → length table ≡ 9 → (3 * p + stat_number stat < 9 → stats_in table p stat ≡ stats_of picture p stat)
    → stats_in table p stat ≡ stats_of picture p stat
table_whole picture table p stat long known = search (arith, number_few, at_is, get_or_past, stat_past, planes_few)

pub known_ok : {E : Type 0} (r : Result ℕ E) (a b : ℕ) (named : Bool) → IfOk r (λ v. v ≡ a) → a ≡ b → IfOk r (λ v. named ≡ true → v ≡ b)
known_ok r a b named h e = grind (arith, common_steps)

-- THE INPUT THAT IS SHOWN

pub filter_is : (pictures : List Picture) (test : Picture) (n : ℕ) (e f : Expr) (by : RunCompare) (a b : Option ℤ) → test ≡ get_or pictures 0 test → 0 < length pictures
    → a ≡ value n (stats_of test) e → b ≡ value n (stats_of test) f → side_of by a b ≡ number_shown (decide (words e []) by (words f [])) n pictures
filter_is [] test n e f by a b is some first second = absurd (omega arith)
filter_is (p ∷ ps) test n e f by a b is some first second =
    ap (λ x. side_of by x b) first ∙ ap (λ y. side_of by (value n (stats_of test) e) y) second
    ∙ ap (λ (t : Picture). side_of by (value n (stats_of t) e) (value n (stats_of t) f)) is
    ∙ ap (λ (x : Expr). side_of by (value n (stats_of p) x) (value n (stats_of p) f)) (sym (tree_again e))
    ∙ ap (λ (x : Expr). side_of by (value n (stats_of p) (tree_of (words e []))) (value n (stats_of p) x)) (sym (tree_again f))

pub same_there : (pictures : List Picture) (i : ℕ) (d e : Picture) → i < length pictures → get_or pictures i d ≡ get_or pictures i e
same_there [] i d e h = absurd (omega arith)
same_there (p ∷ ps) zero d e h = refl
same_there (p ∷ ps) (suc i) d e h = same_there ps i d e (omega arith)

pub select_is : (pictures : List Picture) (test : Picture) (n : ℕ) (e : Expr) (a : Option ℤ) → test ≡ get_or pictures 0 test → 0 < length pictures → a ≡ value n (stats_of test) e
    → source_of (length pictures) a ≡ number_shown (choose (words e [])) n pictures
select_is [] test n e a is some first = absurd (omega arith)
select_is (p ∷ ps) test n e a is some first =
    ap (source_of (length (p ∷ ps))) first
    ∙ ap (λ (t : Picture). source_of (length (p ∷ ps)) (value n (stats_of t) e)) is
    ∙ ap (λ (x : Expr). source_of (length (p ∷ ps)) (value n (stats_of p) x)) (sym (tree_again e))
    ∙ ap (λ k. source_of k (value n (stats_of p) (tree_of (words e [])))) (sym (length-map (p ∷ ps) (λ (picture : Picture). record no_info { shape = picture.shape })))
