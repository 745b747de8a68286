-- Lists of parts of scripts, one more at the end.
use Rattle.std.proofs.Common.{◌≡◌, refl, ap, List, [], ◌∷◌, ◌++◌, map}
use Rattle.avs_tree.specs.View.{arg_view, step_view, method_call_view, arm_view, statement_view, function_view}
use Rattle.avs_tree.specs.declared.tree.Arg.{Arg}
use Rattle.avs_tree.specs.declared.tree.Step.{Step}
use Rattle.avs_tree.specs.declared.tree.DotCall.{DotCall}
use Rattle.avs_tree.specs.declared.tree.Arm.{Arm}
use Rattle.avs_tree.specs.declared.tree.Statement.{Statement}
use Rattle.avs_tree.specs.declared.tree.Function.{Function}

pub map_push : {A B : Type 0} (view : A → B) (xs : List A) (x : A) → map view (xs ++ x ∷ []) ≡ map view xs ++ view x ∷ []
map_push view [] x = refl
map_push view (y ∷ xs) x = ap (λ ys. view y ∷ ys) (map_push view xs x)

pub args_push : (xs : List Arg) (x : Arg) → map arg_view (xs ++ x ∷ []) ≡ map arg_view xs ++ arg_view x ∷ []
args_push = map_push arg_view

pub steps_push : (xs : List Step) (x : Step) → map step_view (xs ++ x ∷ []) ≡ map step_view xs ++ step_view x ∷ []
steps_push = map_push step_view

pub calls_push : (xs : List DotCall) (x : DotCall) → map method_call_view (xs ++ x ∷ []) ≡ map method_call_view xs ++ method_call_view x ∷ []
calls_push = map_push method_call_view

pub arms_push : (xs : List Arm) (x : Arm) → map arm_view (xs ++ x ∷ []) ≡ map arm_view xs ++ arm_view x ∷ []
arms_push = map_push arm_view

pub statements_push : (xs : List Statement) (x : Statement) → map statement_view (xs ++ x ∷ []) ≡ map statement_view xs ++ statement_view x ∷ []
statements_push = map_push statement_view

pub functions_push : (xs : List Function) (x : Function) → map function_view (xs ++ x ∷ []) ≡ map function_view xs ++ function_view x ∷ []
functions_push = map_push function_view

pub ruleset of_rows = (args_push, steps_push, calls_push)
