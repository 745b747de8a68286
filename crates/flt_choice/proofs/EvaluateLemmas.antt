-- Expressions, piece by piece.
use Rattle.std.proofs.Common.{◌≡◌, ℕ, suc, ◌+◌, ◌<◌, List, ◌∷◌, length, map, drop, get_or, sym, ap, add-one, drop-cons}
use Rattle.clip_term.specs.declared.run.RunExpr.{RunExpr, the_lemmas}
use Rattle.clip_term.specs.declared.run.RunStep.{RunStep}
use Rattle.clip_term.specs.Expression.{expr_view, step_view, exprs_of, steps_of}

-- the rest of a list begins with its first element
rest_more : {A B : Type 0} (view : A → B) (xs : List A) (i : ℕ) (x : A) → i < length xs → x ≡ get_or xs i x → map view (drop i xs) ≡ view x ∷ map view (drop (i + 1) xs)
rest_more view xs i x h is = rw (add-one, drop-cons xs i x) (ap (λ z. view z ∷ map view (drop (suc i) xs)) (sym is))

pub exprs_more : (xs : List RunExpr) (i : ℕ) (x : RunExpr) → i < length xs → x ≡ get_or xs i x → exprs_of (map expr_view (drop i xs)) ≡ exprs_of (expr_view x ∷ map expr_view (drop (i + 1) xs))
exprs_more xs i x h is = ap exprs_of (rest_more expr_view xs i x h is)

pub steps_more : (xs : List RunStep) (i : ℕ) (x : RunStep) → i < length xs → x ≡ get_or xs i x → steps_of (map step_view (drop i xs)) ≡ steps_of (step_view x ∷ map step_view (drop (i + 1) xs))
steps_more xs i x h is = ap steps_of (rest_more step_view xs i x h is)

pub ruleset evaluating = (the_lemmas)
