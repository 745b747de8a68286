-- Executing a tree gives no unit back, nor does a text or a function.
use Rattle.std.proofs.Common.{ℕ, zero, suc, ◌≤◌, ◌+ℤ◌, ℤ, List, [], ◌∷◌, ◌++◌, map, length, Bool, ◌&&◌, Option, Some, None, Result, Ok, Err, nat_eq}
use Rattle.avs_tree.specs.Tree.{Expr, int, bool, str, name, call, method_calls, minus, not_, chain, compare, conditional, group, Args, no_args, arg, MethodCalls, no_method_calls, method, method_call, Steps, no_steps, step, Kind, global, assign, return, if_, while, for, value, Arms, no_arms, arm, Else, no_else, else_, Block, no_more, then_}
use Rattle.avs_values.specs.Binding.{Bound}
use Rattle.avs_values.specs.Values.{Text}
use Rattle.avs_values.specs.declared.binding.Given.{Given}
use Rattle.avs_values.specs.declared.value.Value.{Value}
use Rattle.avs_values.specs.declared.value.Value.TheVariants as v
use Rattle.avs_meaning.proofs.UnitLemmas.{Leaves, Spends, then_leaves, lifted_leaves, if_runs, spend_leaves, load_short_leaves, filtered_leaves, told_leaves, joined_leaves, set_mode_leaves, prefetch_leaves, ranged_leaves}
use Rattle.avs_meaning.specs.Arguments.{is_filter_number}
use Rattle.avs_meaning.specs.Expressions.{Callee, user, builtin, callee, takes, Fit, fit_or_last, unnamed, last_name, Caller, ranged_by, call_within, script_by, known, called, may_nest, execute, eval_name, eval, import_, inside, applied, apply_by, apply, apply_last, named, value_of, givens_of, calls_from, steps_from, truth, joined, load_short}
use Rattle.avs_meaning.specs.State.{Context, Outside, State, Defined, Env, Run, and_then, lifted, spend, variable, lookup}
use Rattle.avs_meaning.specs.Statements.{Flow, on, back, go_on, turns, Turn, goes_to, stops, continues, advanced, advance, read_number, number_by, next_number, turned, turn, counts, is_past, condition, step_of, bounds, sets_last, settled, chosen, ends_with, effect_of, arms_of, other_of, block_of, body_of}
use Rattle.avs_meaning.specs.Meaning.{below, context_of}
use Rattle.avs_meaning.specs.declared.builtin.Builtin.TheVariants as b
use Rattle.avs_meaning.specs.declared.fault.FileKind.{FileKind}

known_leaves : (here : Text) (o : Option Callee) (line n : ℕ) (s : State) → s.units ≤ n → Leaves n (known here o line s)
known_leaves here (Some c) line n s few = few
known_leaves here None line n s few = tt

called_leaves : (here word : Text) (line n : ℕ) (s : State) → s.units ≤ n → Leaves n (called here word line s)
called_leaves here word line n s few = known_leaves here (callee word s.functions) line n s few

script_leaves : (here : Text) (r : Result Text FileKind) (line n : ℕ) (s : State) → s.units ≤ n → Leaves n (script_by here r line s)
script_leaves here (Ok text) line n s few = few
script_leaves here (Err kind) line n s few = tt

-- what ApplyRange calls spends
abbrev Calls : Caller → Type 0
Calls again = (c : Callee) (args : List Given) (here : Text) (line : ℕ) → Spends (again c args here line)

ranged_by_leaves : (again : Caller) → Calls again → (values rest : List Value) (here : Text) (line n : ℕ) (s : State) → s.units ≤ n → Leaves n (ranged_by again values rest here line s)
ranged_by_leaves again less (v.Clip i ∷ v.Int first ∷ v.Int last ∷ v.Text word ∷ []) rest here line n s few =
    if_runs n (is_filter_number first && is_filter_number last) _ _ s
    (then_leaves n (and_then (called here word line s) (λ c. again c (map unnamed (v.Clip i ∷ rest)) here line)) _
    (then_leaves n (called here word line s) _ (called_leaves here word line n s few) (λ c t fewer. less c (map unnamed (v.Clip i ∷ rest)) here line n t fewer))
    (λ x t fewer. ranged_leaves here i first last line x n t fewer)) tt
ranged_by_leaves again less _ rest here line n s few = tt

-- ---- loops, of which the body spends

go_on_leaves : (next : Run Flow) (flow : Flow) → Spends next → (n : ℕ) (s : State) → s.units ≤ n → Leaves n (go_on next flow s)
go_on_leaves next (on x) less n s few = less n s few
go_on_leaves next (back x) less n s few = few

turn_leaves : (here : Text) (line : ℕ) (body : Run Flow) → Spends body → (n : ℕ) (s : State) → s.units ≤ n → Leaves n (and_then (spend here line s) (λ _. body))
turn_leaves here line body less n s few = then_leaves n (spend here line s) _ (spend_leaves here line n s few) (λ _ t fewer. less n t fewer)

turns_leave : (here : Text) (k : ℕ) (condition : Run Bool) (line : ℕ) (body : Run Flow) → Spends condition → Spends body
    → (n : ℕ) (s : State) → s.units ≤ n → Leaves n (turns here k condition line body s)
turns_leave here zero condition line body tests less n s few =
    then_leaves n (condition s) _ (tests n s few) (λ holds t fewer. if_runs n holds _ _ t tt fewer)
turns_leave here (suc k) condition line body tests less n s few =
    then_leaves n (condition s) _ (tests n s few) (λ holds t fewer. if_runs n holds _ _ t
    (then_leaves n (and_then (spend here line t) (λ _. body)) _ (turn_leaves here line body less n t fewer)
    (λ flow w fewest. go_on_leaves (turns here k condition line body) flow (λ n s few. turns_leave here k condition line body tests less n s few) n w fewest))
    fewer)

advanced_leaves : (word : Text) (o : Option ℤ) (n : ℕ) (s : State) → s.units ≤ n → Leaves n (advanced word o s)
advanced_leaves word None n s few = few
advanced_leaves word (Some i) n s few = few

pub advance_leaves : (here word : Text) (by : ℤ) (line n : ℕ) (s : State) → s.units ≤ n → Leaves n (advance here word by line s)
advance_leaves here word by line n s few =
    then_leaves n (read_number here word line s) _ (lifted_leaves n (number_by here (variable word s) line) s few) (λ i t less. advanced_leaves word (next_number (i +ℤ by)) n t less)

turned_leaves : (here word : Text) (by : ℤ) (line : ℕ) (flow : Flow) (n : ℕ) (s : State) → s.units ≤ n → Leaves n (turned here word by line flow s)
turned_leaves here word by line (on x) n s few = then_leaves n (advance here word by line s) _ (advance_leaves here word by line n s few) (λ _ t less. less)
turned_leaves here word by line (back x) n s few = few

for_turn_leaves : (here word : Text) (i last by : ℤ) (line : ℕ) (body : Run Flow) → Spends body → (n : ℕ) (s : State) → s.units ≤ n → Leaves n (turn here word i last by line body s)
unfolding turn
for_turn_leaves here word i last by line body less n s few = if_runs n (is_past last by i) _ _ s few
    (then_leaves n (and_then (spend here line s) (λ _. body)) _ (turn_leaves here line body less n s few) (λ flow t fewer. turned_leaves here word by line flow n t fewer))

continues_leaves : (rest : ℤ → Run Flow) (t : Turn) → ((i : ℤ) → Spends (rest i)) → (n : ℕ) (s : State) → s.units ≤ n → Leaves n (continues rest t s)
continues_leaves rest (goes_to i) less n s few = less i n s few
continues_leaves rest (stops flow) less n s few = few

counts_leave : (here : Text) (k : ℕ) (word : Text) (i last by : ℤ) (line : ℕ) (body : Run Flow) → Spends body
    → (n : ℕ) (s : State) → s.units ≤ n → Leaves n (counts here k word i last by line body s)
counts_leave here zero word i last by line body less n s few = if_runs n (is_past last by i) _ _ s few tt
counts_leave here (suc k) word i last by line body less n s few =
    then_leaves n (turn here word i last by line body s) _ (for_turn_leaves here word i last by line body less n s few)
    (λ t w fewer. continues_leaves (λ next. counts here k word next last by line body) t (λ next n s few. counts_leave here k word next last by line body less n s few) n w fewer)

-- ---- statements without trees

sets_last_leaves : (x : Value) (n : ℕ) (s : State) → s.units ≤ n → Leaves n (sets_last x s)
sets_last_leaves (v.Clip i) n s few = few
sets_last_leaves _ n s few = few

settled_leaves : (x : Value) (n : ℕ) (s : State) → s.units ≤ n → Leaves n (settled x s)
settled_leaves v.Undefined n s few = few
settled_leaves _ n s few = few

chosen_leaves : (other : Run Flow) (o : Option Flow) → Spends other → (n : ℕ) (s : State) → s.units ≤ n → Leaves n (chosen other o s)
chosen_leaves other (Some flow) less n s few = few
chosen_leaves other None less n s few = less n s few

ends_with_leaves : (next : Value → Run Value) (flow : Flow) → ((x : Value) → Spends (next x)) → (n : ℕ) (s : State) → s.units ≤ n → Leaves n (ends_with next flow s)
ends_with_leaves next (on x) less n s few = less x n s few
ends_with_leaves next (back x) less n s few = few

-- ---- trees, where what is executed one call deeper spends

module _ (context : Context) (less_below : (here : Text) (body : Block) → Spends (context.deeper here body)) where
  may_nest_leaves : (here : Text) (line n : ℕ) (s : State) → s.units ≤ n → Leaves n (may_nest context here line s)
  may_nest_leaves here line n s few = if_runs n (nat_eq context.depth 0) _ _ s tt few

  execute_leaves : (from text here : Text) (line n : ℕ) (s : State) → s.units ≤ n → Leaves n (execute context from text here line s)
  execute_leaves from text here line n s few =
      then_leaves n (load_short context.outside from text here line s) _ (load_short_leaves context.outside from text here line n s few) (λ loaded t less. less_below from loaded.tree.statements n t less)

  eval_leaves : (here : Text) (values : List Value) (line n : ℕ) (s : State) → s.units ≤ n → Leaves n (eval context here values line s)
  eval_leaves here (v.Text text ∷ []) line n s few =
      then_leaves n (may_nest context here line s) _ (may_nest_leaves here line n s few) (λ _ t less. execute_leaves eval_name text here line n t less)
  eval_leaves here _ line n s few = tt

  import_leaves : (here : Text) (values : List Value) (line n : ℕ) (s : State) → s.units ≤ n → Leaves n (import_ context here values line s)
  import_leaves here (v.Text file ∷ []) line n s few =
      then_leaves n (and_then (may_nest context here line s) (λ _. script_by here (context.outside.scripts file) line)) _
      (then_leaves n (may_nest context here line s) _ (may_nest_leaves here line n s few) (λ _ t less. script_leaves here (context.outside.scripts file) line n t less))
      (λ text t less. execute_leaves file text here line n t less)
  import_leaves here _ line n s few = tt

  inside_leaves : (d : Defined) (env : Env) (n : ℕ) (s : State) → s.units ≤ n → Leaves n (inside context d env s)
  inside_leaves d env n s few =
      then_leaves n (context.deeper d.text d.function.body (record s { env = env })) _ (less_below d.text d.function.body n (record s { env = env }) few) (λ x t less. less)

  applied_leaves : (again : Caller) → Calls again → (c : Callee) (sig : ℕ) (bound : Bound) (here : Text) (line n : ℕ) (s : State) → s.units ≤ n → Leaves n (applied context again c sig bound here line s)
  applied_leaves again less (user d) sig bound here line n s few =
      then_leaves n (may_nest context here line s) _ (may_nest_leaves here line n s few) (λ _ t less. inside_leaves d _ n t less)
  applied_leaves again less (builtin b.Eval) sig bound here line n s few = eval_leaves here bound.values line n s few
  applied_leaves again less (builtin b.Import) sig bound here line n s few = import_leaves here bound.values line n s few
  applied_leaves again less (builtin b.SetFilterMTMode) sig bound here line n s few = set_mode_leaves here bound.values line n s few
  applied_leaves again less (builtin b.Prefetch) sig bound here line n s few = prefetch_leaves here bound.values line n s few
  applied_leaves again less (builtin b.ApplyRange) sig bound here line n s few = ranged_by_leaves again less bound.values bound.rest here line n s few
  applied_leaves again less (builtin (b.Plain function)) sig bound here line n s few = lifted_leaves n _ s few
  applied_leaves again less (builtin (b.Clip function)) sig bound here line n s few = told_leaves here function bound.values line n s few
  applied_leaves again less (builtin (b.Filter filter)) sig bound here line n s few = filtered_leaves here context.outside filter sig bound line n s few

  apply_by_leaves : (again : Caller) → Calls again → (o : Fit) (c : Callee) (here : Text) (line n : ℕ) (s : State) → s.units ≤ n → Leaves n (apply_by context again o c here line s)
  apply_by_leaves again less (Some found) c here line n s few = applied_leaves again less c found.0 found.1 here line n s few
  apply_by_leaves again less None c here line n s few = tt

  within_leaves : (k : ℕ) → Calls (call_within context k)
  unfolding call_within
  within_leaves zero = λ c args here line n s few. tt
  within_leaves (suc k) = λ c args here line n s few. apply_by_leaves (call_within context k) (within_leaves k) (fit_or_last (takes c) args None) c here line n s few

  apply_leaves : (c : Callee) (args : List Given) (last : Option Value) (here : Text) (line n : ℕ) (s : State) → s.units ≤ n → Leaves n (apply context c args last here line s)
  apply_leaves c args last here line n s few = apply_by_leaves (call_within context (length args)) (within_leaves (length args)) (fit_or_last (takes c) args last) c here line n s few

  module _ (here : Text) where
    apply_last_leaves : (c : Callee) (args : List Given) (line n : ℕ) (s : State) → s.units ≤ n → Leaves n (apply_last context here c args line s)
    apply_last_leaves c args line n s few = apply_leaves c args (lookup last_name s.env) here line n s few

    named_leaves : (o : Option Value) (word : Text) (line n : ℕ) (s : State) → s.units ≤ n → Leaves n (named context here o word line s)
    named_leaves (Some x) word line n s few = few
    named_leaves None word line n s few =
        then_leaves n (called here word line s) _ (called_leaves here word line n s few) (λ c t less. apply_last_leaves c [] line n t less)

    mutual
      pub value_leaves : (e : Expr) (n : ℕ) (s : State) → s.units ≤ n → Leaves n (value_of context here e s)
      value_leaves (int i) n s few = few
      value_leaves (bool holds) n s few = few
      value_leaves (str x) n s few = few
      value_leaves (name word line) n s few = named_leaves (variable word s) word line n s few
      value_leaves (call word args line) n s few =
          then_leaves n (called here word line s) _ (called_leaves here word line n s few) (λ c t less.
          then_leaves n (givens_of context here args [] t) _ (givens_leave args [] n t less) (λ given w fewer. apply_last_leaves c given line n w fewer))
      value_leaves (method_calls e calls) n s few =
          then_leaves n (value_of context here e s) _ (value_leaves e n s few) (λ x t less. calls_leave calls x n t less)
      value_leaves (minus e line) n s few =
          then_leaves n (value_of context here e s) _ (value_leaves e n s few) (λ x t less. lifted_leaves n _ t less)
      value_leaves (not_ e line) n s few =
          then_leaves n (value_of context here e s) _ (value_leaves e n s few) (λ x t less. lifted_leaves n _ t less)
      value_leaves (chain e rest) n s few =
          then_leaves n (value_of context here e s) _ (value_leaves e n s few) (λ x t less. steps_leave rest x n t less)
      value_leaves (compare o l r line) n s few =
          then_leaves n (value_of context here l s) _ (value_leaves l n s few) (λ x t less.
          then_leaves n (value_of context here r t) _ (value_leaves r n t less) (λ y w fewer. lifted_leaves n _ w fewer))
      value_leaves (conditional c l r line) n s few =
          then_leaves n (value_of context here c s) _ (value_leaves c n s few) (λ x t less.
          then_leaves n (lifted (truth here line x) t) _ (lifted_leaves n (truth here line x) t less) (λ holds w fewer.
          if_runs n holds (value_of context here l) (value_of context here r) w (value_leaves l n w fewer) (value_leaves r n w fewer)))
      value_leaves (group e) n s few = value_leaves e n s few

      givens_leave : (args : Args) (before : List Given) (n : ℕ) (s : State) → s.units ≤ n → Leaves n (givens_of context here args before s)
      givens_leave no_args before n s few = few
      givens_leave (arg word e rest) before n s few =
          then_leaves n (value_of context here e s) _ (value_leaves e n s few) (λ x t less. givens_leave rest (before ++ record { name = word; value = x } ∷ []) n t less)

      calls_leave : (calls : MethodCalls) (x : Value) (n : ℕ) (s : State) → s.units ≤ n → Leaves n (calls_from context here calls x s)
      calls_leave no_method_calls x n s few = few
      calls_leave (method word line rest) x n s few =
          then_leaves n (and_then (called here word line s) (λ c. apply context c (unnamed x ∷ []) None here line)) _
          (then_leaves n (called here word line s) _ (called_leaves here word line n s few) (λ c t less. apply_leaves c (unnamed x ∷ []) None here line n t less))
          (λ y w fewer. calls_leave rest y n w fewer)
      calls_leave (method_call word args line rest) x n s few =
          then_leaves n (and_then (called here word line s) (λ c t. and_then (givens_of context here args (unnamed x ∷ []) t) (λ given. apply context c given None here line))) _
          (then_leaves n (called here word line s) _ (called_leaves here word line n s few) (λ c t less.
          then_leaves n (givens_of context here args (unnamed x ∷ []) t) _ (givens_leave args (unnamed x ∷ []) n t less) (λ given w fewer. apply_leaves c given None here line n w fewer)))
          (λ y w fewer. calls_leave rest y n w fewer)

      steps_leave : (steps : Steps) (x : Value) (n : ℕ) (s : State) → s.units ≤ n → Leaves n (steps_from context here steps x s)
      steps_leave no_steps x n s few = few
      steps_leave (step o e line rest) x n s few =
          then_leaves n (joined here o line (value_of context here e) x s) _ (joined_leaves here o line (value_of context here e) x (value_leaves e) n s few) (λ y t less. steps_leave rest y n t less)

    pub condition_leaves : (c : Expr) (line n : ℕ) (s : State) → s.units ≤ n → Leaves n (condition context here c line s)
    condition_leaves c line n s few = then_leaves n (value_of context here c s) _ (value_leaves c n s few) (λ x t less. lifted_leaves n _ t less)

    step_leaves : (o : Option Expr) (n : ℕ) (s : State) → s.units ≤ n → Leaves n (step_of context here o s)
    step_leaves None n s few = few
    step_leaves (Some e) n s few = value_leaves e n s few

    pub bounds_leave : (a z : Expr) (by : Option Expr) (line n : ℕ) (s : State) → s.units ≤ n → Leaves n (bounds context here a z by line s)
    bounds_leave a z by line n s few =
        then_leaves n (value_of context here a s) _ (value_leaves a n s few) (λ x t less.
        then_leaves n (value_of context here z t) _ (value_leaves z n t less) (λ y w fewer.
        then_leaves n (step_of context here by w) _ (step_leaves by n w fewer) (λ p q fewest. lifted_leaves n _ q fewest)))

    mutual
      pub effect_leaves : (kind : Kind) (line n : ℕ) (s : State) → s.units ≤ n → Leaves n (effect_of context here kind line s)
      effect_leaves (global word e) line n s few =
          then_leaves n (value_of context here e s) _ (value_leaves e n s few) (λ x t less. less)
      effect_leaves (assign word e) line n s few =
          then_leaves n (value_of context here e s) _ (value_leaves e n s few) (λ x t less. less)
      effect_leaves (return e) line n s few =
          then_leaves n (value_of context here e s) _ (value_leaves e n s few) (λ x t less. less)
      effect_leaves (if_ arms other) line n s few =
          then_leaves n (arms_of context here arms line s) _ (arms_leave arms line n s few) (λ o t less. chosen_leaves (other_of context here other) o (other_leaves other) n t less)
      effect_leaves (while c body) line n s few =
          turns_leave here s.units (condition context here c line) line (block_of context here body) (condition_leaves c line) (block_leaves body) n s few
      effect_leaves (for word a z by body) line n s few =
          then_leaves n (bounds context here a z by line s) _ (bounds_leave a z by line n s few) (λ i t less.
          counts_leave here t.units word i.0 i.1 i.2 line (block_of context here body) (block_leaves body) n _ less)
      effect_leaves (value e) line n s few =
          then_leaves n (value_of context here e s) _ (value_leaves e n s few) (λ x t less. sets_last_leaves x n t less)

      arms_leave : (arms : Arms) (line n : ℕ) (s : State) → s.units ≤ n → Leaves n (arms_of context here arms line s)
      arms_leave no_arms line n s few = few
      arms_leave (arm c body rest) line n s few =
          then_leaves n (condition context here c line s) _ (condition_leaves c line n s few) (λ holds t less. if_runs n holds _ _ t
          (then_leaves n (block_of context here body t) _ (block_leaves body n t less) (λ flow w fewer. fewer))
          (arms_leave rest line n t less))

      other_leaves : (other : Else) (n : ℕ) (s : State) → s.units ≤ n → Leaves n (other_of context here other s)
      other_leaves no_else n s few = few
      other_leaves (else_ body) n s few = block_leaves body n s few

      pub block_leaves : (block : Block) (n : ℕ) (s : State) → s.units ≤ n → Leaves n (block_of context here block s)
      block_leaves no_more n s few = few
      block_leaves (then_ kind line rest) n s few =
          then_leaves n (and_then (spend here line s) (λ _. effect_of context here kind line)) _
          (then_leaves n (spend here line s) _ (spend_leaves here line n s few) (λ _ t less. effect_leaves kind line n t less))
          (λ flow w fewer. go_on_leaves (block_of context here rest) flow (block_leaves rest) n w fewer)

    body_leaves : (body : Block) (x : Value) (n : ℕ) (s : State) → s.units ≤ n → Leaves n (body_of context here body x s)
    body_leaves no_more x n s few = settled_leaves x n s few
    body_leaves (then_ kind line rest) x n s few =
        then_leaves n (and_then (spend here line s) (λ _. effect_of context here kind line)) _
        (then_leaves n (spend here line s) _ (spend_leaves here line n s few) (λ _ t less. effect_leaves kind line n t less))
        (λ flow w fewer. ends_with_leaves (body_of context here rest) flow (λ y n s few. body_leaves rest y n s few) n w fewer)

-- however deep calls nest
pub below_leaves : (outside : Outside) (depth : ℕ) (here : Text) (body : Block) (n : ℕ) (s : State) → s.units ≤ n → Leaves n (below outside depth here body s)
unfolding below
below_leaves outside zero here body n s few = tt
below_leaves outside (suc depth) here body n s few = body_leaves (context_of outside depth) (below_leaves outside depth) here body v.Undefined n s few
