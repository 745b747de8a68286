-- The rules allow the outcome of the definitions.
use Rattle.std.proofs.Common.{◌≡◌, ℕ, zero, suc, ◌+◌, ◌<◌, ◌≤◌, ℤ, List, [], ◌∷◌, ◌++◌, length, map, Bool, true, false, ◌&&◌, Option, Some, None, Result, Ok, Err, refl, sym, subst, if◌then◌else◌, arith}
use Rattle.std.proofs.lemmas.List.{length-map}
use Rattle.avs_tree.specs.Tree.{Loaded, Expr, int, bool, str, name, call, method_calls, minus, not_, chain, compare, conditional, group, Args, no_args, arg, MethodCalls, no_method_calls, method, method_call, Steps, no_steps, step, Block}
use Rattle.avs_tree.specs.declared.tree.Operator.{Operator}
use Rattle.avs_tree.specs.declared.tree.Operator.TheVariants as op
use Rattle.avs_values.specs.Binding.{Bound}
use Rattle.avs_values.specs.Values.{Text}
use Rattle.avs_values.specs.declared.binding.Given.{Given}
use Rattle.avs_values.specs.declared.value.Value.{Value}
use Rattle.avs_values.specs.declared.value.Value.TheVariants as v
use Rattle.avs_meaning.proofs.RuleSteps.{again_of, branched, call_of, load_of, user_called, eval_called, import_called, import_failed, truth_grouped}
use Rattle.avs_meaning.proofs.DirectCalls.{apply_direct}
use Rattle.avs_meaning.proofs.RangeArguments.{IsRange}
use Rattle.avs_meaning.proofs.TextArguments.{IsText, HasForm, has_form}
use Rattle.avs_meaning.specs.Arguments.{is_filter_number, out_of_range}
use Rattle.avs_meaning.specs.Expressions.{Callee, user, builtin, callee, Fit, fit_or_last, takes, unnamed, ranged_by, eval_name, known, called, eval, import_, applied, apply_by, apply, named, value_of, givens_of, calls_from, steps_from, compared, joined, load_short}
use Rattle.avs_meaning.specs.Filters.{ranged}
use Rattle.avs_meaning.specs.Meaning.{context_of, run}
use Rattle.avs_meaning.specs.State.{Outside, State, Defined, Outcome, Run, and_then, ◌>>=◌, fails, imported, variable}
use Rattle.avs_meaning.specs.Rules as r
use Rattle.avs_meaning.specs.Rules.{receiver, retried}
use Rattle.avs_meaning.specs.Statements.{condition}
use Rattle.avs_meaning.specs.declared.builtin.Builtin.TheVariants as b
use Rattle.avs_meaning.specs.declared.fault.FileKind.{FileKind}

-- What follows a part, whatever the outcome of the part is. Where a part is named by a run, the rules allow what it gives.
module _ (outside : Outside) (n : ℕ) (here : Text) where
  after_receiver : {s : State} {e : Expr} {rest : MethodCalls} (o : Outcome Value) (next : Value → Run Value) → r.Gives outside n here s e o
      → ((x : Value) (t : State) → r.CallsMethods outside n here t rest x (next x t)) → r.Gives outside n here s (method_calls e rest) (and_then o next)
  after_receiver (Ok ended) next is later = r.gives_method_calls is (later ended.0 ended.1)
  after_receiver (Err fault) next is later = r.receiver_fails is

  after_operand : {s : State} {e : Expr} {rest : Steps} (o : Outcome Value) (next : Value → Run Value) → r.Gives outside n here s e o
      → ((x : Value) (t : State) → r.Chains outside n here t rest x (next x t)) → r.Gives outside n here s (chain e rest) (and_then o next)
  after_operand (Ok ended) next is later = r.gives_chain is (later ended.0 ended.1)
  after_operand (Err fault) next is later = r.first_operand_fails is

  after_left : {s : State} {c : Operator} {l e : Expr} {line : ℕ} (o : Outcome Value) (next : Run Value) → r.Gives outside n here s l o
      → ((t : State) → r.Gives outside n here t e (next t)) → r.Gives outside n here s (compare c l e line) (and_then o (λ x t. and_then (next t) (compared here c line x)))
  after_left (Ok ended) next is later = r.gives_comparison is (later ended.1)
  after_left (Err fault) next is later = r.left_operand_fails is

  after_test : {s : State} {c l e : Expr} {line : ℕ} (o : Outcome Bool) (first second : Run Value) → r.Tests outside n here s c line o
      → ((t : State) → r.Gives outside n here t l (first t)) → ((t : State) → r.Gives outside n here t e (second t))
      → r.Gives outside n here s (conditional c l e line) (and_then o (λ holds. if holds then first else second))
  after_test (Ok (true, t)) first second is taken other = r.gives_first_branch is (taken t)
  after_test (Ok (false, t)) first second is taken other = r.gives_second_branch is (other t)
  after_test (Err fault) first second is taken other = r.condition_fails is

  after_step : {s : State} {c : Operator} {e : Expr} {line : ℕ} {rest : Steps} {x : Value} (o : Outcome Value) (next : Value → Run Value) → r.Joins outside n here s c x e line o
      → ((y : Value) (t : State) → r.Chains outside n here t rest y (next y t)) → r.Chains outside n here s (step c e line rest) x (and_then o next)
  after_step (Ok ended) next is later = r.chain_goes_on is (later ended.0 ended.1)
  after_step (Err fault) next is later = r.chain_fails is

  after_method : {s : State} {word : Text} {args : Args} {line : ℕ} {rest : MethodCalls} {x : Value} (o : Outcome Value) (next : Value → Run Value)
      → r.Calls outside n here s (Some x) word args line o → ((y : Value) (t : State) → r.CallsMethods outside n here t rest y (next y t))
      → r.CallsMethods outside n here s (method_call word args line rest) x (and_then o next)
  after_method (Ok ended) next is later = r.methods_go_on is (later ended.0 ended.1)
  after_method (Err fault) next is later = r.method_fails is

  after_argument : {s : State} {word : Option Text} {e : Expr} {rest : Args} {before : List Given} (o : Outcome Value) (next : Value → Run (List Given)) → r.Gives outside n here s e o
      → ((x : Value) (t : State) → r.Lists outside n here t rest (before ++ record { name = word; value = x } ∷ []) (next x t)) → r.Lists outside n here s (arg word e rest) before (and_then o next)
  after_argument (Ok ended) next is later = r.list_goes_on is (later ended.0 ended.1)
  after_argument (Err fault) next is later = r.list_fails is

  some_joins : {e : Expr} {line : ℕ} {s : State} (o : Operator) (x : Value) (operand : Run Value) → r.Gives outside n here s e (operand s) → r.Joins outside n here s o x e line (joined here o line operand x s)
  some_joins op.Or (v.Bool true) operand is = r.or_holds
  some_joins {line = line} {s = s} op.Or (v.Bool false) operand is = rw (truth_grouped here line operand s) (r.or_goes_on (r.condition_tested is))
  some_joins op.Or _ operand is = r.left_is_no_truth refl refl
  some_joins {line = line} {s = s} op.And (v.Bool true) operand is = rw (truth_grouped here line operand s) (r.and_goes_on (r.condition_tested is))
  some_joins op.And (v.Bool false) operand is = r.and_ends
  some_joins op.And _ operand is = r.left_is_no_truth refl refl
  some_joins _ x operand is = r.both_operands refl is

  -- ---- calls

  after_arguments : {s : State} {before : Option Value} {word : Text} {args : Args} {line : ℕ} {c : Callee} (o : Outcome (List Given)) (next : List Given → Run Value)
      → callee word s.functions ≡ Some c → r.Lists outside n here s args (receiver before) o
      → ((given : List Given) (t : State) → r.Applies outside n here t c given (retried before t) line (next given t)) → r.Calls outside n here s before word args line (and_then o next)
  after_arguments (Ok ended) next known_as is later = r.name_known known_as is (later ended.0 ended.1)
  after_arguments (Err fault) next known_as is later = r.arguments_fail known_as is

  after_name : {s : State} {before : Option Value} {word : Text} {args : Args} {line : ℕ} (o : Option Callee) (list : Outcome (List Given)) (next : Callee → List Given → Run Value)
      → callee word s.functions ≡ o → r.Lists outside n here s args (receiver before) (givens_of (context_of outside n) here args (receiver before) s)
      → ((c : Callee) (given : List Given) (t : State) → r.Applies outside n here t c given (retried before t) line (next c given t))
      → r.Calls outside n here s before word args line (and_then (known here o line s) (λ c. givens_of (context_of outside n) here args (receiver before) >>= next c))
  after_name {s = s} {before = before} {args = args} (Some c) list next is lists applies = after_arguments (givens_of (context_of outside n) here args (receiver before) s) (next c) is lists (applies c)
  after_name None list next is lists applies = r.name_unknown is

  after_fit : {s : State} {c : Callee} {given : List Given} {last : Option Value} {line : ℕ} (o : Fit) → fit_or_last (takes c) given last ≡ o
      → ((sig : ℕ) (bound : Bound) → HasForm c (length given) bound → r.Performs outside n here s c sig bound line (applied (context_of outside n) (again_of outside n) c sig bound here line s))
      → r.Applies outside n here s c given last line (apply_by (context_of outside n) (again_of outside n) o c here line s)
  after_fit {c = c} {given = given} {last = last} (Some found) is performs = r.fits is (performs found.0 found.1 (has_form c given last found.0 found.1 is))
  after_fit None is performs = r.fits_not is

  after_load : {from text : Text} {line : ℕ} {at : Text} {s : State} (o : Outcome Loaded) (next : Loaded → Run Value) → load_short outside from text at line s ≡ o
      → ((loaded : Loaded) (t : State) → r.Executes outside n from t loaded.tree.statements v.Undefined (next loaded t))
      → r.Loads outside n at s from text line (and_then o next)
  after_load (Ok ended) next is later = r.load_ends is (later ended.0 ended.1)
  after_load (Err fault) next is later = r.load_fails is

-- what the rules allow one call deeper
abbrev pub AllBelow : Outside → ℕ → Type 0
AllBelow outside zero = Unit {0}
AllBelow outside (suc n) = (here : Text) (body : Block) (s : State) → r.Executes outside n here s body v.Undefined (run outside n here body s)

module _ (outside : Outside) where
  some_loads : (n : ℕ) → AllBelow outside (suc n) → (here from text : Text) (line : ℕ) (s : State) → r.Loads outside n here s from text line (load_of outside n here from text line s)
  some_loads n deeper here from text line s = after_load outside n here (load_short outside from text here line s) _ refl (λ loaded t. deeper from loaded.tree.statements t)

  some_eval : (n sig : ℕ) → AllBelow outside n → (here : Text) (values : List Value) (bound : Bound) (line : ℕ) (s : State) → bound.values ≡ values → IsText values
      → r.Performs outside n here s (builtin b.Eval) sig bound line (eval (context_of outside n) here values line s)
  some_eval zero sig deeper here (v.Text text ∷ []) bound line s is has = r.too_deep refl
  some_eval (suc n) sig deeper here (v.Text text ∷ []) bound line s is has =
      rw (eval_called outside n text here line s) (r.performs_eval is (some_loads n deeper here eval_name text line s))
  some_eval _ sig deeper here _ bound line s is has = absurd has

  after_script : (n sig : ℕ) → AllBelow outside (suc n) → (here file : Text) (bound : Bound) (line : ℕ) (s : State) (o : Result Text FileKind) → bound.values ≡ v.Text file ∷ [] → outside.scripts file ≡ o
      → r.Performs outside (suc n) here s (builtin b.Import) sig bound line (import_ (context_of outside (suc n)) here (v.Text file ∷ []) line s)
  after_script n sig deeper here file bound line s (Ok text) is found =
      rw (import_called outside n file text here line s found) (r.performs_import is found (some_loads n deeper here file text line (imported s)))
  after_script n sig deeper here file bound line s (Err kind) is found = rw (import_failed outside n file kind here line s found) (r.import_fails is found)

  some_import : (n sig : ℕ) → AllBelow outside n → (here : Text) (values : List Value) (bound : Bound) (line : ℕ) (s : State) → bound.values ≡ values → IsText values
      → r.Performs outside n here s (builtin b.Import) sig bound line (import_ (context_of outside n) here values line s)
  some_import zero sig deeper here (v.Text file ∷ []) bound line s is has = r.too_deep refl
  some_import (suc n) sig deeper here (v.Text file ∷ []) bound line s is has = after_script n sig deeper here file bound line s (outside.scripts file) is refl
  some_import _ sig deeper here _ bound line s is has = absurd has

  some_user : (n sig : ℕ) → AllBelow outside n → (here : Text) (d : Defined) (bound : Bound) (line : ℕ) (s : State)
      → r.Performs outside n here s (user d) sig bound line (applied (context_of outside n) (again_of outside n) (user d) sig bound here line s)
  some_user zero sig deeper here d bound line s = r.too_deep refl
  some_user (suc n) sig deeper here d bound line s = rw (user_called outside n sig (again_of outside (suc n)) d bound here line s) (r.performs_user (deeper d.text d.function.body _))

  -- The rules allow what is called with fewer arguments than these.
  abbrev SomeApply : ℕ → Text → ℕ → Type 0
  SomeApply n here count = (c : Callee) (given : List Given) (last : Option Value) (line : ℕ) (s : State) → length given < count
      → r.Applies outside n here s c given last line (apply (context_of outside n) c given last here line s)

  after_called : (n sig count : ℕ) (here : Text) → SomeApply n here count → (i : ℕ) (first last : ℤ) (word : Text) (bound : Bound) (line : ℕ) (s : State) (o : Option Callee)
      → bound.values ≡ v.Clip i ∷ v.Int first ∷ v.Int last ∷ v.Text word ∷ [] → (is_filter_number first && is_filter_number last) ≡ true
      → length (map unnamed (v.Clip i ∷ bound.rest)) < count → callee word s.functions ≡ o
      → r.Performs outside n here s (builtin b.ApplyRange) sig bound line
      (and_then (and_then (known here o line s) (λ c. again_of outside n c (map unnamed (v.Clip i ∷ bound.rest)) here line)) (ranged here i first last line))
  after_called n sig count here some i first last word bound line s (Some c) is fits few found =
      r.performs_range is fits found (some c (map unnamed (v.Clip i ∷ bound.rest)) None line s few)
  after_called n sig count here some i first last word bound line s None is fits few found = r.range_unknown is fits found

  after_tested : (n sig count : ℕ) (here : Text) → SomeApply n here count → (i : ℕ) (first last : ℤ) (word : Text) (bound : Bound) (line : ℕ) (s : State) (fits : Bool)
      → bound.values ≡ v.Clip i ∷ v.Int first ∷ v.Int last ∷ v.Text word ∷ [] → (is_filter_number first && is_filter_number last) ≡ fits
      → length (map unnamed (v.Clip i ∷ bound.rest)) < count
      → r.Performs outside n here s (builtin b.ApplyRange) sig bound line
      ((if fits then (called here word line >>= (λ c. again_of outside n c (map unnamed (v.Clip i ∷ bound.rest)) here line) >>= ranged here i first last line) else fails out_of_range here line) s)
  after_tested n sig count here some i first last word bound line s true is fits few = after_called n sig count here some i first last word bound line s (callee word s.functions) is fits few refl
  after_tested n sig count here some i first last word bound line s false is fits few = r.range_refused is fits

  some_range : (n sig count : ℕ) (here : Text) → SomeApply n here count → (values : List Value) (bound : Bound) (line : ℕ) (s : State) → bound.values ≡ values → IsRange values → length bound.rest + 3 ≤ count
      → r.Performs outside n here s (builtin b.ApplyRange) sig bound line (ranged_by (again_of outside n) values bound.rest here line s)
  some_range n sig count here some (v.Clip i ∷ v.Int first ∷ v.Int last ∷ v.Text word ∷ []) bound line s is has few =
      let e : length (map unnamed (v.Clip i ∷ bound.rest)) ≡ suc (length bound.rest) = length-map (v.Clip i ∷ bound.rest) unnamed in
      after_tested n sig count here some i first last word bound line s (is_filter_number first && is_filter_number last) is refl (omega arith)
  some_range n sig count here some _ bound line s is has few = absurd has

  some_performs : (n : ℕ) → AllBelow outside n → (here : Text) (c : Callee) (count sig : ℕ) (bound : Bound) (line : ℕ) (s : State) → SomeApply n here count → HasForm c count bound
      → r.Performs outside n here s c sig bound line (applied (context_of outside n) (again_of outside n) c sig bound here line s)
  some_performs n deeper here (user d) count sig bound line s some has = some_user n sig deeper here d bound line s
  some_performs n deeper here (builtin b.Eval) count sig bound line s some has = some_eval n sig deeper here bound.values bound line s refl has
  some_performs n deeper here (builtin b.Import) count sig bound line s some has = some_import n sig deeper here bound.values bound line s refl has
  some_performs n deeper here (builtin b.SetFilterMTMode) count sig bound line s some has = r.performs_set_mode
  some_performs n deeper here (builtin b.Prefetch) count sig bound line s some has = r.performs_prefetch
  some_performs n deeper here (builtin b.ApplyRange) count sig bound line s some has = some_range n sig count here some bound.values bound line s refl has.0 has.1
  some_performs n deeper here (builtin (b.Plain function)) count sig bound line s some has = r.performs_plain
  some_performs n deeper here (builtin (b.Clip function)) count sig bound line s some has = r.performs_clip
  some_performs n deeper here (builtin (b.Filter filter)) count sig bound line s some has = r.performs_filter

  module _ (n : ℕ) (deeper : AllBelow outside n) (here : Text) where
    some_applies_within : (count : ℕ) → SomeApply n here count
    some_applies_within zero = λ c given last line s few. absurd (omega arith)
    some_applies_within (suc count) = λ c given last line s few.
        rw (apply_direct (context_of outside n) c given last here line s)
        (after_fit outside n here (fit_or_last (takes c) given last) refl
        (λ sig bound has. some_performs n deeper here c (length given) sig bound line s (λ d args x line t less. some_applies_within count d args x line t (omega arith)) has))

    some_applies : (c : Callee) (given : List Given) (last : Option Value) (line : ℕ) (s : State) → r.Applies outside n here s c given last line (apply (context_of outside n) c given last here line s)
    some_applies c given last line s = some_applies_within (suc (length given)) c given last line s (omega arith)

    some_calls : (before : Option Value) (word : Text) (args : Args) (line : ℕ) (s : State) → r.Lists outside n here s args (receiver before) (givens_of (context_of outside n) here args (receiver before) s)
        → r.Calls outside n here s before word args line (call_of outside n here before word args line s)
    some_calls before word args line s lists =
        after_name outside n here (callee word s.functions) (givens_of (context_of outside n) here args (receiver before) s)
        (λ c given t. apply (context_of outside n) c given (retried before t) here line t) refl lists (λ c given t. some_applies c given (retried before t) line t)

    after_variable : {word : Text} {line : ℕ} {s : State} (o : Option Value) → variable word s ≡ o → r.Gives outside n here s (name word line) (named (context_of outside n) here o word line s)
    after_variable (Some x) is = r.gives_variable is
    after_variable {word = word} {line = line} {s = s} None is = r.gives_named_call is (some_calls None word no_args line s r.list_ends)

    -- ---- expressions

    some_branch : (c l e : Expr) (line : ℕ) (s : State) → r.Gives outside n here s c (value_of (context_of outside n) here c s)
        → ((t : State) → r.Gives outside n here t l (value_of (context_of outside n) here l t)) → ((t : State) → r.Gives outside n here t e (value_of (context_of outside n) here e t))
        → r.Gives outside n here s (conditional c l e line) (value_of (context_of outside n) here (conditional c l e line) s)
    some_branch c l e line s is first second = subst (λ o. r.Gives outside n here s (conditional c l e line) o) (sym (branched outside n here c l e line s))
        (after_test outside n here (condition (context_of outside n) here c line s) (value_of (context_of outside n) here l) (value_of (context_of outside n) here e) (r.condition_tested is) first second)

    mutual
      pub some_gives : (e : Expr) (s : State) → r.Gives outside n here s e (value_of (context_of outside n) here e s)
      some_gives (int i) s = r.gives_number
      some_gives (bool holds) s = r.gives_truth
      some_gives (str x) s = r.gives_text
      some_gives (name word line) s = after_variable (variable word s) refl
      some_gives (call word args line) s = r.gives_call (some_calls None word args line s (some_lists args [] s))
      some_gives (method_calls e calls) s = after_receiver outside n here (value_of (context_of outside n) here e s) (calls_from (context_of outside n) here calls) (some_gives e s) (some_methods calls)
      some_gives (minus e line) s = r.gives_negative (some_gives e s)
      some_gives (not_ e line) s = r.gives_opposite (some_gives e s)
      some_gives (chain e rest) s = after_operand outside n here (value_of (context_of outside n) here e s) (steps_from (context_of outside n) here rest) (some_gives e s) (some_chains rest)
      some_gives (compare o l e line) s = after_left outside n here (value_of (context_of outside n) here l s) (value_of (context_of outside n) here e) (some_gives l s) (some_gives e)
      some_gives (conditional c l e line) s = some_branch c l e line s (some_gives c s) (some_gives l) (some_gives e)
      some_gives (group e) s = r.gives_group (some_gives e s)

      some_lists : (args : Args) (before : List Given) (s : State) → r.Lists outside n here s args before (givens_of (context_of outside n) here args before s)
      some_lists no_args before s = r.list_ends
      some_lists (arg word e rest) before s =
          after_argument outside n here (value_of (context_of outside n) here e s) (λ x. givens_of (context_of outside n) here rest (before ++ record { name = word; value = x } ∷ [])) (some_gives e s)
          (λ x t. some_lists rest (before ++ record { name = word; value = x } ∷ []) t)

      some_methods : (rest : MethodCalls) (x : Value) (s : State) → r.CallsMethods outside n here s rest x (calls_from (context_of outside n) here rest x s)
      some_methods no_method_calls x s = r.methods_end
      some_methods (method word line rest) x s =
          r.without_arguments (after_method outside n here (call_of outside n here (Some x) word no_args line s) (calls_from (context_of outside n) here rest) (some_calls (Some x) word no_args line s r.list_ends) (some_methods rest))
      some_methods (method_call word args line rest) x s =
          after_method outside n here (call_of outside n here (Some x) word args line s) (calls_from (context_of outside n) here rest) (some_calls (Some x) word args line s (some_lists args (unnamed x ∷ []) s)) (some_methods rest)

      some_chains : (rest : Steps) (x : Value) (s : State) → r.Chains outside n here s rest x (steps_from (context_of outside n) here rest x s)
      some_chains no_steps x s = r.chain_ends
      some_chains (step o e line rest) x s =
          after_step outside n here (joined here o line (value_of (context_of outside n) here e) x s) (steps_from (context_of outside n) here rest) (some_joins outside n here o x (value_of (context_of outside n) here e) (some_gives e s)) (some_chains rest)
