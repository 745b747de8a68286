-- Parts of expressions and statements, piece by piece.
use Rattle.std.proofs.Common.{◌≡◌, rules, ℕ, suc, ◌+◌, ◌<◌, ◌≤◌, ◌∙◌, List, [], ◌∷◌, ◌++◌, length, map, drop, get_or, true, false, refl, arith, sym, ap, add-one, drop-cons}
use Rattle.std.specs.Prelude.{Option, Some, None, option_map, nat_le, ◌&&◌, if◌then◌else◌, Bool}
use Rattle.std.specs.Str.{str_eq_ignore_ascii_case}
use Rattle.avs_tree.specs.Lexeme.{meaning_in}
use Rattle.std.proofs.lemmas.Bool.Decides.{nat_tests}
use Rattle.avs_tree.specs.View as tree
use Rattle.avs_tree.specs.declared.tree.Arg.{Arg}
use Rattle.avs_tree.specs.declared.tree.Step.{Step}
use Rattle.avs_tree.specs.declared.tree.Expr.{the_lemmas as tree_lemmas}
use Rattle.avs_tree.specs.declared.tree.Statement.{Statement}
use Rattle.avs_tree.specs.declared.tree.StatementKind.{the_lemmas as statement_lemmas}
use Rattle.clip_term.specs.declared.run.RunExpr.{RunExpr, the_lemmas}
use Rattle.clip_term.specs.declared.run.RunStep.{RunStep}
use Rattle.avs_meaning.specs.Arguments.{of_kind, of_statements}
use Rattle.clip_term.specs.Expression.{expr_view, step_view, exprs_of, steps_of, are_two, are_numbers}

-- the rest of a list begins with its first element
rest_more : {A B : Type 0} (view : A → B) (xs : List A) (i : ℕ) (x : A) → i < length xs → x ≡ get_or xs i x → map view (drop i xs) ≡ view x ∷ map view (drop (i + 1) xs)
rest_more view xs i x h is = rw (add-one, drop-cons xs i x) (ap (λ z. view z ∷ map view (drop (suc i) xs)) (sym is))

pub args_more : (xs : List Arg) (i : ℕ) (x : Arg) → i < length xs → x ≡ get_or xs i x → tree.args_of (map tree.arg_view (drop i xs)) ≡ tree.args_of (tree.arg_view x ∷ map tree.arg_view (drop (i + 1) xs))
args_more xs i x h is = ap tree.args_of (rest_more tree.arg_view xs i x h is)

pub steps_more : (xs : List Step) (i : ℕ) (x : Step) → i < length xs → x ≡ get_or xs i x → tree.steps_of (map tree.step_view (drop i xs)) ≡ tree.steps_of (tree.step_view x ∷ map tree.step_view (drop (i + 1) xs))
steps_more xs i x h is = ap tree.steps_of (rest_more tree.step_view xs i x h is)

pub exprs_more : (xs : List RunExpr) (i : ℕ) (x : RunExpr) → i < length xs → x ≡ get_or xs i x → exprs_of (map expr_view (drop i xs)) ≡ exprs_of (expr_view x ∷ map expr_view (drop (i + 1) xs))
exprs_more xs i x h is = ap exprs_of (rest_more expr_view xs i x h is)

pub run_steps_more : (xs : List RunStep) (i : ℕ) (x : RunStep) → i < length xs → x ≡ get_or xs i x → steps_of (map step_view (drop i xs)) ≡ steps_of (step_view x ∷ map step_view (drop (i + 1) xs))
run_steps_more xs i x h is = ap steps_of (rest_more step_view xs i x h is)

-- what was made, and then what is left
abbrev pub then_left : {A : Type 0} → List A → Option (List A) → Option (List A)
then_left made left = option_map (λ rest. made ++ rest) left

pub ruleset reading = (the_lemmas, tree_lemmas)

pub ruleset numbers = (the_lemmas)

two_more : (n : ℕ) → nat_le 2 (suc (suc n)) ≡ true
two_more n = grind (arith, nat_tests)

-- two or more
pub two_is : (planes : ℕ) (xs : List RunExpr) → are_two planes (exprs_of (map expr_view xs)) ≡ nat_le 2 (length xs) && are_numbers planes (exprs_of (map expr_view xs))
two_is planes [] = refl
two_is planes (x ∷ []) = refl
two_is planes (x ∷ y ∷ xs) = rw (two_more (length xs)) refl

-- a table with what its rows mean
meant_by : {A B : Type 0} (f : A → B) (row : List ℕ × A) (found : Option A) (means : Option B) (t : Bool) → option_map f found ≡ means → option_map f (if t then Some row.1 else found) ≡ (if t then Some (f row.1) else means)
meant_by f row found means true h = refl
meant_by f row found means false h = h

pub meant : {A B : Type 0} (f : A → B) (rows : List (List ℕ × A)) (x : List ℕ) → option_map f (meaning_in rows x) ≡ meaning_in (map (λ row. (row.0, f row.1)) rows) x
meant f [] x = refl
meant f (row ∷ rows) x = meant_by f row (meaning_in rows x) (meaning_in (map (λ r. (r.0, f r.1)) rows) x) (str_eq_ignore_ascii_case x row.0) (meant f rows x)

pub two_here : (planes : ℕ) (xs : List RunExpr) (t : Bool) → 2 ≤ length xs → t ≡ are_numbers planes (exprs_of (map expr_view xs)) → t ≡ are_two planes (exprs_of (map expr_view xs))
two_here planes xs t many is =
    let some : nat_le 2 (length xs) ≡ true = grind (arith, nat_tests, many) in
    is ∙ sym (two_is planes xs ∙ ap (λ s. s && are_numbers planes (exprs_of (map expr_view xs))) some)

-- ---- statements

pub ruleset kinds = (statement_lemmas)

view_kind : (q : Statement) → (tree.statement_view q).0 ≡ tree.kind_view q.kind
view_kind q = search (rules, statement_lemmas)

-- one statement alone
pub alone : (chroma : Bool) (xs : List Statement) (x : Statement) → length xs ≡ 1 → x ≡ get_or xs 0 x → of_statements chroma (tree.block_view xs) ≡ of_kind chroma (tree.kind_view x.kind)
alone chroma [] x one is = absurd (let never : ⊥ = omega arith in never)
alone chroma (y ∷ []) x one is = ap (of_kind chroma) (view_kind y ∙ ap (λ (q : Statement). tree.kind_view q.kind) (sym is))
alone chroma (y ∷ z ∷ xs) x one is = absurd (omega arith)

pub not_alone : (chroma : Bool) (xs : List Statement) → (length xs ≡ 1 → ⊥) → of_statements chroma (tree.block_view xs) ≡ None
not_alone chroma [] more = refl
not_alone chroma (y ∷ []) more = absurd (more refl)
not_alone chroma (y ∷ z ∷ xs) more = refl
