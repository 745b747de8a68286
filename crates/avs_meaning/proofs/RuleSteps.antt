-- The parts of execution as the rules name them.
use Rattle.std.proofs.Common.{◌≡◌, ℕ, zero, suc, ℤ, List, [], ◌∷◌, true, false, Option, Some, Ok, Err, if◌then◌else◌, refl, nat_eq, ne_eqb, arith}
use Rattle.avs_tree.specs.Tree.{Expr, conditional, Args, Kind, while, Arms, Else, Block}
use Rattle.avs_tree.specs.declared.tree.Operator.{Operator}
use Rattle.avs_tree.specs.declared.tree.Operator.TheVariants as op
use Rattle.avs_values.specs.Binding.{Bound}
use Rattle.avs_values.specs.Values.{Text}
use Rattle.avs_values.specs.declared.value.Value.{Value}
use Rattle.avs_values.specs.declared.value.Value.TheVariants as v
use Rattle.avs_meaning.proofs.ExecutionUnits.{condition_leaves, block_leaves, below_leaves}
use Rattle.avs_meaning.proofs.LoopLemmas.{turn_of, unrolled, counted_past, counted}
use Rattle.avs_meaning.proofs.TextArguments.{IsText, HasForm}
use Rattle.avs_meaning.specs.Expressions.{Callee, user, builtin, parameters, Caller, direct, eval_name, called, eval, import_, applied, apply, value_of, givens_of, truth, truth_of, combined, joined, load_short}
use Rattle.avs_meaning.specs.Faults.{Fault, script}
use Rattle.avs_meaning.specs.Statements.{Flow, on, go_on, ends, is_past, continues, turned, counts, condition, chosen, effect_of, arms_of, other_of, block_of}
use Rattle.avs_meaning.specs.Meaning.{below, context_of, run}
use Rattle.avs_meaning.specs.State.{Outside, State, Defined, Outcome, Run, and_then, ◌>>=◌, ◌>>◌, pure, lifted, imported, spend}
use Rattle.avs_meaning.specs.Rules.{is_logical, receiver, retried, nests}
use Rattle.avs_meaning.specs.declared.builtin.Builtin.TheVariants as b
use Rattle.avs_meaning.specs.declared.fault.FileKind.{FileKind}
use Rattle.avs_meaning.specs.declared.fault.ScriptKind.TheVariants as k

not_zero : (n : ℕ) → nat_eq (suc n) 0 ≡ false
not_zero n = ne_eqb (suc n) 0 (λ (no : suc n ≡ 0). omega arith)

pub grouped : {X Y Z : Type 0} (o : Outcome X) (f : X → Run Y) (g : Y → Run Z) → and_then o (λ x s. and_then (f x s) g) ≡ and_then (and_then o f) g
grouped (Ok ended) f g = refl
grouped (Err fault) f g = refl

-- the block of an arm, once it is chosen
pub chosen_block : (o : Outcome Flow) (other : Run Flow) → and_then (and_then o (λ flow. pure (Some flow))) (chosen other) ≡ o
chosen_block (Ok ended) other = refl
chosen_block (Err fault) other = refl

module _ (outside : Outside) where
  module _ (n : ℕ) where
    -- what ApplyRange calls its function by
    abbrev pub again_of : Caller
    again_of = direct (context_of outside n)

    -- a call of a name, after a value and a dot or not
    abbrev pub call_of : Text → Option Value → Text → Args → ℕ → Run Value
    call_of here before word args line =
        called here word line >>= (λ c. givens_of (context_of outside n) here args (receiver before)
        >>= (λ given s. apply (context_of outside n) c given (retried before s) here line s))

    -- a statement with its unit
    abbrev pub paid_effect : Text → Kind → ℕ → Run Flow
    paid_effect here kind line = spend here line >> effect_of (context_of outside n) here kind line

    abbrev pub choice_of : Text → Arms → Else → ℕ → Run Flow
    choice_of here arms other line = arms_of (context_of outside n) here arms line >>= chosen (other_of (context_of outside n) here other)

    -- a text that is loaded and executed
    abbrev pub load_of : Text → Text → Text → ℕ → Run Value
    load_of here from text line = load_short outside from text here line >>= (λ loaded. run outside n from loaded.tree.statements)

    -- the branches of `?:`, by the condition
    pub branched : (here : Text) (c l r : Expr) (line : ℕ) (s : State)
        → value_of (context_of outside n) here (conditional c l r line) s
        ≡ and_then (condition (context_of outside n) here c line s) (λ holds. if holds then value_of (context_of outside n) here l else value_of (context_of outside n) here r)
    branched here c l r line s =
        grouped (value_of (context_of outside n) here c s) (λ x. lifted (truth here line x)) (λ holds. if holds then value_of (context_of outside n) here l else value_of (context_of outside n) here r)

    -- `while`: its condition, and then a turn and the loop again, or nothing
    pub while_unrolled : (here : Text) (c : Expr) (body : Block) (line : ℕ) (s : State)
        → effect_of (context_of outside n) here (while c body) line s
        ≡ and_then (condition (context_of outside n) here c line s) (λ holds. if holds
        then (turn_of here line (block_of (context_of outside n) here body) >>= go_on (effect_of (context_of outside n) here (while c body) line)) else ends)
    while_unrolled here c body line s =
        unrolled here (condition (context_of outside n) here c line) line (block_of (context_of outside n) here body)
        (condition_leaves (context_of outside n) (below_leaves outside n) here c line) (block_leaves (context_of outside n) (below_leaves outside n) here body) s

    -- `for` from a number on
    abbrev pub count_of : Text → Text → ℤ → ℤ → ℕ → Block → ℤ → Run Flow
    count_of here word last by line body i s = counts here s.units word i last by line (block_of (context_of outside n) here body) s

    pub for_ended : (here word : Text) (last by : ℤ) (line : ℕ) (body : Block) (i : ℤ) (s : State) → is_past last by i ≡ true
        → count_of here word last by line body i s ≡ Ok (on v.Undefined, s)
    for_ended here word last by line body = counted_past here word last by line (block_of (context_of outside n) here body) (block_leaves (context_of outside n) (below_leaves outside n) here body)

    pub for_unrolled : (here word : Text) (last by : ℤ) (line : ℕ) (body : Block) (i : ℤ) (s : State) → is_past last by i ≡ false
        → count_of here word last by line body i s
        ≡ and_then (and_then (turn_of here line (block_of (context_of outside n) here body) s) (turned here word by line)) (continues (count_of here word last by line body))
    for_unrolled here word last by line body = counted here word last by line (block_of (context_of outside n) here body) (block_leaves (context_of outside n) (below_leaves outside n) here body)

  -- ---- one call deeper

  pub user_called : (n sig : ℕ) (again : Caller) (d : Defined) (bound : Bound) (here : Text) (line : ℕ) (s : State)
      → applied (context_of outside (suc n)) again (user d) sig bound here line s
      ≡ and_then (run outside n d.text d.function.body (record s { env = parameters d.function.params bound.values [] })) (λ x after. Ok (x, record after { env = s.env }))
  unfolding below
  user_called n sig again d bound here line s = rw (not_zero n)

  pub eval_called : (n : ℕ) (text : Text) (here : Text) (line : ℕ) (s : State)
      → eval (context_of outside (suc n)) here (v.Text text ∷ []) line s ≡ load_of n here eval_name text line s
  unfolding below
  eval_called n text here line s = rw (not_zero n)

  pub import_called : (n : ℕ) (file text : Text) (here : Text) (line : ℕ) (s : State) → outside.scripts file ≡ Ok text
      → import_ (context_of outside (suc n)) here (v.Text file ∷ []) line s ≡ load_of n here file text line (imported s)
  unfolding below
  import_called n file text here line s is = rw (not_zero n, is)

  pub import_failed : (n : ℕ) (file : Text) (kind : FileKind) (here : Text) (line : ℕ) (s : State) → outside.scripts file ≡ Err kind
      → import_ (context_of outside (suc n)) here (v.Text file ∷ []) line s ≡ Err (script (k.File kind) here line)
  import_failed n file kind here line s is = rw (not_zero n, is)

  eval_too_deep : (values : List Value) (here : Text) (line : ℕ) (s : State) → IsText values → eval (context_of outside zero) here values line s ≡ Err (script k.CallDepth here line)
  eval_too_deep (v.Text text ∷ []) here line s is = refl
  eval_too_deep _ here line s is = absurd is

  import_too_deep : (values : List Value) (here : Text) (line : ℕ) (s : State) → IsText values → import_ (context_of outside zero) here values line s ≡ Err (script k.CallDepth here line)
  import_too_deep (v.Text text ∷ []) here line s is = refl
  import_too_deep _ here line s is = absurd is

  pub called_too_deep : (again : Caller) (c : Callee) (count sig : ℕ) (bound : Bound) (here : Text) (line : ℕ) (s : State) → nests c ≡ true → HasForm c count bound
      → applied (context_of outside zero) again c sig bound here line s ≡ Err (script k.CallDepth here line)
  called_too_deep again (user d) count sig bound here line s deep is = refl
  called_too_deep again (builtin b.Eval) count sig bound here line s deep is = eval_too_deep bound.values here line s is
  called_too_deep again (builtin b.Import) count sig bound here line s deep is = import_too_deep bound.values here line s is
  called_too_deep again (builtin _) count sig bound here line s deep is = absurd (cc)

-- ---- operators

pub both_operands_joined : (here : Text) (o : Operator) (line : ℕ) (operand : Run Value) (x : Value) (s : State) → is_logical o ≡ false
    → joined here o line operand x s ≡ and_then (operand s) (combined here o line x)
both_operands_joined here op.Or line operand x s is = absurd (cc)
both_operands_joined here op.And line operand x s is = absurd (cc)
both_operands_joined here _ line operand x s is = refl

pub no_truth_joined : (here : Text) (o : Operator) (line : ℕ) (operand : Run Value) (x : Value) (s : State) (fault : Fault) → is_logical o ≡ true → truth here line x ≡ Err fault
    → joined here o line operand x s ≡ Err fault
no_truth_joined here op.Or line operand x s fault logical is = rw is
no_truth_joined here op.And line operand x s fault logical is = rw is
no_truth_joined here _ line operand x s fault logical is = absurd (cc)

-- the truth of an operand as a value
pub truth_grouped : (here : Text) (line : ℕ) (operand : Run Value) (s : State)
    → truth_of here line operand s ≡ and_then (and_then (operand s) (λ x. lifted (truth here line x))) (λ holds. pure (v.Bool holds))
truth_grouped here line operand s = grouped (operand s) (λ x. lifted (truth here line x)) (λ holds. pure (v.Bool holds))
