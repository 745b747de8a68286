-- What scripts do, by rules: each says what follows in one case (AviSynth+ wiki, 'Grammar' and "Control structures").
-- Nothing bounds the turns of a loop but the units that they cost. Expressions.antt and Statements.antt say the same by
-- functions: each start has the one outcome that these give (RuleLaws.antt).
use Rattle.std.specs.Prelude.{◌≡◌, ℕ, zero, suc, ℤ, pos, List, [], ◌∷◌, ◌++◌, map, Bool, true, false, ◌&&◌, Option, Some, None, Ok, Err}
use Rattle.avs_tree.specs.Tree.{Loaded, Expr, int, bool, str, name, call, method_calls, minus, not_, chain, compare, conditional, group, Args, no_args, arg, MethodCalls, no_method_calls, method, method_call, Steps, no_steps, step, Kind, global, assign, return, if_, while, for, value, Arms, no_arms, arm, Else, no_else, else_, Block, no_more, then_}
use Rattle.avs_tree.specs.declared.tree.Operator.{Operator}
use Rattle.avs_tree.specs.declared.tree.Operator.TheVariants as op
use Rattle.avs_values.specs.Binding.{Bound}
use Rattle.avs_values.specs.Functions.{plain}
use Rattle.avs_values.specs.Values.{Text}
use Rattle.avs_values.specs.declared.binding.Given.{Given}
use Rattle.avs_values.specs.declared.operators.UnaryOp.TheVariants as u
use Rattle.avs_values.specs.declared.plain_fn.PlainFn.{PlainFn}
use Rattle.avs_values.specs.declared.value.Value.{Value}
use Rattle.avs_values.specs.declared.value.Value.TheVariants as v
use Rattle.clip_term.specs.declared.filter.Filter.{Filter}
use Rattle.avs_meaning.specs.Arguments.{is_filter_number, out_of_range}
use Rattle.avs_meaning.specs.Expressions.{Callee, user, builtin, callee, takes, fit_or_last, unnamed, last_name, parameters, eval_name, told, placed, truth, prefixed, compared, combined, load_short}
use Rattle.avs_meaning.specs.Faults.{Fault, script}
use Rattle.avs_meaning.specs.Filters.{filtered, ranged, set_mode, prefetch}
use Rattle.avs_meaning.specs.Statements.{Flow, on, back, ends, is_past, advance, numbers, sets_last, settled}
use Rattle.avs_meaning.specs.State.{Outside, State, Defined, Outcome, and_then, ◌>>◌, pure, lifted, imported, spend, lookup, with, variable, set, set_global}
use Rattle.avs_meaning.specs.declared.builtin.Builtin.TheVariants as b
use Rattle.avs_meaning.specs.declared.builtin.ClipFn.{ClipFn}
use Rattle.avs_meaning.specs.declared.fault.FileKind.{FileKind}
use Rattle.avs_meaning.specs.declared.fault.ScriptKind.TheVariants as k

-- An operator that leaves its right operand out where the left one decides.
abbrev pub is_logical : Operator → Bool
is_logical op.Or = true
is_logical op.And = true
is_logical _ = false

-- The value before a dot is the first argument of the call.
abbrev pub receiver : Option Value → List Given
receiver None = []
receiver (Some x) = unnamed x ∷ []

-- What a call tries as its first argument where its arguments don't fit: `last`, but nothing after a dot.
abbrev pub retried : Option Value → State → Option Value
retried None s = lookup last_name s.env
retried (Some x) s = None

-- A user function's body, Eval and Import run one call deeper.
abbrev pub nests : Callee → Bool
nests (user d) = true
nests (builtin b.Eval) = true
nests (builtin b.Import) = true
nests (builtin _) = false

-- A user function has an environment of its own, with its parameters alone.
abbrev pub entered : Defined → Bound → State → State
entered d args s = record s { env = parameters d.function.params args.values [] }

-- The environment of the caller comes back.
abbrev pub left : State → Outcome Value → Outcome Value
left s out = and_then out (λ x after. Ok (x, record after { env = s.env }))

-- Each relation is between the number of calls that may still nest, the name of the text, the state before, what is
-- executed, and the outcome.
module _ (outside : Outside) where
  mutual
    -- ---- expressions

    -- the value of an expression
    pub data Gives : ℕ → Text → State → Expr → Outcome Value → Type 0 where
      gives_number : {n : ℕ} {here : Text} {s : State} {i : ℤ} → Gives n here s (int i) (Ok (v.Int i, s))
      gives_truth : {n : ℕ} {here : Text} {s : State} {holds : Bool} → Gives n here s (bool holds) (Ok (v.Bool holds, s))
      gives_text : {n : ℕ} {here : Text} {s : State} {x : Text} → Gives n here s (str x) (Ok (v.Text x, s))
      gives_variable : {n line : ℕ} {here word : Text} {s : State} {x : Value}
          → variable word s ≡ Some x → Gives n here s (name word line) (Ok (x, s))
      -- A name that is no variable is a call without arguments.
      gives_named_call : {n line : ℕ} {here word : Text} {s : State} {out : Outcome Value}
          → variable word s ≡ None → Calls n here s None word no_args line out → Gives n here s (name word line) out
      gives_call : {n line : ℕ} {here word : Text} {s : State} {args : Args} {out : Outcome Value}
          → Calls n here s None word args line out → Gives n here s (call word args line) out
      gives_method_calls : {n : ℕ} {here : Text} {s after : State} {e : Expr} {rest : MethodCalls} {x : Value}
          {out : Outcome Value}
          → Gives n here s e (Ok (x, after)) → CallsMethods n here after rest x out
          → Gives n here s (method_calls e rest) out
      receiver_fails : {n : ℕ} {here : Text} {s : State} {e : Expr} {rest : MethodCalls} {fault : Fault}
          → Gives n here s e (Err fault) → Gives n here s (method_calls e rest) (Err fault)
      gives_negative : {n line : ℕ} {here : Text} {s : State} {e : Expr} {out : Outcome Value}
          → Gives n here s e out → Gives n here s (minus e line) (and_then out (prefixed here u.Negative line))
      gives_opposite : {n line : ℕ} {here : Text} {s : State} {e : Expr} {out : Outcome Value}
          → Gives n here s e out → Gives n here s (not_ e line) (and_then out (prefixed here u.Not line))
      gives_chain : {n : ℕ} {here : Text} {s after : State} {e : Expr} {rest : Steps} {x : Value} {out : Outcome Value}
          → Gives n here s e (Ok (x, after)) → Chains n here after rest x out → Gives n here s (chain e rest) out
      first_operand_fails : {n : ℕ} {here : Text} {s : State} {e : Expr} {rest : Steps} {fault : Fault}
          → Gives n here s e (Err fault) → Gives n here s (chain e rest) (Err fault)
      gives_comparison : {n line : ℕ} {here : Text} {s after : State} {o : Operator} {l r : Expr} {x : Value}
          {out : Outcome Value}
          → Gives n here s l (Ok (x, after)) → Gives n here after r out
          → Gives n here s (compare o l r line) (and_then out (compared here o line x))
      left_operand_fails : {n line : ℕ} {here : Text} {s : State} {o : Operator} {l r : Expr} {fault : Fault}
          → Gives n here s l (Err fault) → Gives n here s (compare o l r line) (Err fault)
      -- Of the two branches only the chosen one is evaluated.
      gives_first_branch : {n line : ℕ} {here : Text} {s after : State} {c l r : Expr} {out : Outcome Value}
          → Tests n here s c line (Ok (true, after)) → Gives n here after l out
          → Gives n here s (conditional c l r line) out
      gives_second_branch : {n line : ℕ} {here : Text} {s after : State} {c l r : Expr} {out : Outcome Value}
          → Tests n here s c line (Ok (false, after)) → Gives n here after r out
          → Gives n here s (conditional c l r line) out
      condition_fails : {n line : ℕ} {here : Text} {s : State} {c l r : Expr} {fault : Fault}
          → Tests n here s c line (Err fault) → Gives n here s (conditional c l r line) (Err fault)
      gives_group : {n : ℕ} {here : Text} {s : State} {e : Expr} {out : Outcome Value}
          → Gives n here s e out → Gives n here s (group e) out

    -- whether a condition holds
    pub data Tests : ℕ → Text → State → Expr → ℕ → Outcome Bool → Type 0 where
      condition_tested : {n line : ℕ} {here : Text} {s : State} {c : Expr} {out : Outcome Value}
          → Gives n here s c out → Tests n here s c line (and_then out (λ x. lifted (truth here line x)))

    -- the operators of a chain from the left, after a value
    pub data Chains : ℕ → Text → State → Steps → Value → Outcome Value → Type 0 where
      chain_ends : {n : ℕ} {here : Text} {s : State} {x : Value} → Chains n here s no_steps x (Ok (x, s))
      chain_goes_on : {n line : ℕ} {here : Text} {s after : State} {o : Operator} {e : Expr} {rest : Steps} {x y : Value}
          {out : Outcome Value}
          → Joins n here s o x e line (Ok (y, after)) → Chains n here after rest y out
          → Chains n here s (step o e line rest) x out
      chain_fails : {n line : ℕ} {here : Text} {s : State} {o : Operator} {e : Expr} {rest : Steps} {x : Value}
          {fault : Fault}
          → Joins n here s o x e line (Err fault) → Chains n here s (step o e line rest) x (Err fault)

    -- One operator of a chain, between a value and an operand. The operand of `&&` is evaluated where the value holds, that
    -- of `||` where it does not.
    pub data Joins : ℕ → Text → State → Operator → Value → Expr → ℕ → Outcome Value → Type 0 where
      both_operands : {n line : ℕ} {here : Text} {s : State} {o : Operator} {x : Value} {e : Expr} {out : Outcome Value}
          → is_logical o ≡ false → Gives n here s e out
          → Joins n here s o x e line (and_then out (combined here o line x))
      or_holds : {n line : ℕ} {here : Text} {s : State} {e : Expr}
          → Joins n here s op.Or (v.Bool true) e line (Ok (v.Bool true, s))
      or_goes_on : {n line : ℕ} {here : Text} {s : State} {e : Expr} {out : Outcome Bool}
          → Tests n here s e line out
          → Joins n here s op.Or (v.Bool false) e line (and_then out (λ holds. pure (v.Bool holds)))
      and_goes_on : {n line : ℕ} {here : Text} {s : State} {e : Expr} {out : Outcome Bool}
          → Tests n here s e line out
          → Joins n here s op.And (v.Bool true) e line (and_then out (λ holds. pure (v.Bool holds)))
      and_ends : {n line : ℕ} {here : Text} {s : State} {e : Expr}
          → Joins n here s op.And (v.Bool false) e line (Ok (v.Bool false, s))
      left_is_no_truth : {n line : ℕ} {here : Text} {s : State} {o : Operator} {x : Value} {e : Expr} {fault : Fault}
          → is_logical o ≡ true → truth here line x ≡ Err fault → Joins n here s o x e line (Err fault)

    -- ---- calls

    -- method calls, each with the value before it as its first argument
    pub data CallsMethods : ℕ → Text → State → MethodCalls → Value → Outcome Value → Type 0 where
      methods_end : {n : ℕ} {here : Text} {s : State} {x : Value} → CallsMethods n here s no_method_calls x (Ok (x, s))
      methods_go_on : {n line : ℕ} {here word : Text} {s after : State} {args : Args} {rest : MethodCalls} {x y : Value}
          {out : Outcome Value}
          → Calls n here s (Some x) word args line (Ok (y, after)) → CallsMethods n here after rest y out
          → CallsMethods n here s (method_call word args line rest) x out
      method_fails : {n line : ℕ} {here word : Text} {s : State} {args : Args} {rest : MethodCalls} {x : Value}
          {fault : Fault}
          → Calls n here s (Some x) word args line (Err fault)
          → CallsMethods n here s (method_call word args line rest) x (Err fault)
      -- `x.f` is `x.f()`.
      without_arguments : {n line : ℕ} {here word : Text} {s : State} {rest : MethodCalls} {x : Value} {out : Outcome Value}
          → CallsMethods n here s (method_call word no_args line rest) x out
          → CallsMethods n here s (method word line rest) x out

    -- A call, after a value and a dot or not. The name is looked up first, and then the arguments are evaluated.
    pub data Calls : ℕ → Text → State → Option Value → Text → Args → ℕ → Outcome Value → Type 0 where
      name_known : {n line : ℕ} {here word : Text} {s after : State} {before : Option Value} {args : Args} {c : Callee}
          {given : List Given} {out : Outcome Value}
          → callee word s.functions ≡ Some c → Lists n here s args (receiver before) (Ok (given, after))
          → Applies n here after c given (retried before after) line out → Calls n here s before word args line out
      name_unknown : {n line : ℕ} {here word : Text} {s : State} {before : Option Value} {args : Args}
          → callee word s.functions ≡ None → Calls n here s before word args line (Err (script k.UnknownName here line))
      arguments_fail : {n line : ℕ} {here word : Text} {s : State} {before : Option Value} {args : Args} {c : Callee}
          {fault : Fault}
          → callee word s.functions ≡ Some c → Lists n here s args (receiver before) (Err fault)
          → Calls n here s before word args line (Err fault)

    -- arguments from left to right, after those before
    pub data Lists : ℕ → Text → State → Args → List Given → Outcome (List Given) → Type 0 where
      list_ends : {n : ℕ} {here : Text} {s : State} {before : List Given}
          → Lists n here s no_args before (Ok (before, s))
      list_goes_on : {n : ℕ} {here : Text} {s after : State} {word : Option Text} {e : Expr} {rest : Args}
          {before : List Given} {x : Value} {out : Outcome (List Given)}
          → Gives n here s e (Ok (x, after))
          → Lists n here after rest (before ++ record { name = word; value = x } ∷ []) out
          → Lists n here s (arg word e rest) before out
      list_fails : {n : ℕ} {here : Text} {s : State} {word : Option Text} {e : Expr} {rest : Args} {before : List Given}
          {fault : Fault}
          → Gives n here s e (Err fault) → Lists n here s (arg word e rest) before (Err fault)

    -- a function with its arguments, and with a further one before them where they don't fit
    pub data Applies : ℕ → Text → State → Callee → List Given → Option Value → ℕ → Outcome Value → Type 0 where
      fits : {n line sig : ℕ} {here : Text} {s : State} {c : Callee} {given : List Given} {last : Option Value}
          {args : Bound} {out : Outcome Value}
          → fit_or_last (takes c) given last ≡ Some (sig, args) → Performs n here s c sig args line out
          → Applies n here s c given last line out
      fits_not : {n line : ℕ} {here : Text} {s : State} {c : Callee} {given : List Given} {last : Option Value}
          → fit_or_last (takes c) given last ≡ None
          → Applies n here s c given last line (Err (script k.NoMatch here line))

    -- a function whose arguments are bound by its signature of this number
    pub data Performs : ℕ → Text → State → Callee → ℕ → Bound → ℕ → Outcome Value → Type 0 where
      performs_plain : {n line sig : ℕ} {here : Text} {s : State} {function : PlainFn} {args : Bound}
          → Performs n here s (builtin (b.Plain function)) sig args line (lifted (placed here line (plain function args)) s)
      performs_clip : {n line sig : ℕ} {here : Text} {s : State} {function : ClipFn} {args : Bound}
          → Performs n here s (builtin (b.Clip function)) sig args line (told here function args.values line s)
      performs_filter : {n line sig : ℕ} {here : Text} {s : State} {filter : Filter} {args : Bound}
          → Performs n here s (builtin (b.Filter filter)) sig args line (filtered here outside filter sig args line s)
      performs_set_mode : {n line sig : ℕ} {here : Text} {s : State} {args : Bound}
          → Performs n here s (builtin b.SetFilterMTMode) sig args line (set_mode here args.values line s)
      performs_prefetch : {n line sig : ℕ} {here : Text} {s : State} {args : Bound}
          → Performs n here s (builtin b.Prefetch) sig args line (prefetch here args.values line s)
      -- ApplyRange calls a function by its name, with its clip first.
      performs_range : {n line sig i : ℕ} {here word : Text} {s : State} {first last : ℤ} {args : Bound} {c : Callee}
          {out : Outcome Value}
          → args.values ≡ v.Clip i ∷ v.Int first ∷ v.Int last ∷ v.Text word ∷ []
          → (is_filter_number first && is_filter_number last) ≡ true → callee word s.functions ≡ Some c
          → Applies n here s c (map unnamed (v.Clip i ∷ args.rest)) None line out
          → Performs n here s (builtin b.ApplyRange) sig args line (and_then out (ranged here i first last line))
      range_unknown : {n line sig i : ℕ} {here word : Text} {s : State} {first last : ℤ} {args : Bound}
          → args.values ≡ v.Clip i ∷ v.Int first ∷ v.Int last ∷ v.Text word ∷ []
          → (is_filter_number first && is_filter_number last) ≡ true → callee word s.functions ≡ None
          → Performs n here s (builtin b.ApplyRange) sig args line (Err (script k.UnknownName here line))
      -- A number of the range is none that filters take.
      range_refused : {n line sig i : ℕ} {here word : Text} {s : State} {first last : ℤ} {args : Bound}
          → args.values ≡ v.Clip i ∷ v.Int first ∷ v.Int last ∷ v.Text word ∷ []
          → (is_filter_number first && is_filter_number last) ≡ false
          → Performs n here s (builtin b.ApplyRange) sig args line (Err (script out_of_range here line))
      performs_user : {n line sig : ℕ} {here : Text} {s : State} {d : Defined} {args : Bound} {out : Outcome Value}
          → Executes n d.text (entered d args s) d.function.body v.Undefined out
          → Performs (suc n) here s (user d) sig args line (left s out)
      performs_eval : {n line sig : ℕ} {here text : Text} {s : State} {args : Bound} {out : Outcome Value}
          → args.values ≡ v.Text text ∷ [] → Loads n here s eval_name text line out
          → Performs (suc n) here s (builtin b.Eval) sig args line out
      performs_import : {n line sig : ℕ} {here file text : Text} {s : State} {args : Bound} {out : Outcome Value}
          → args.values ≡ v.Text file ∷ [] → outside.scripts file ≡ Ok text → Loads n here (imported s) file text line out
          → Performs (suc n) here s (builtin b.Import) sig args line out
      import_fails : {n line sig : ℕ} {here file : Text} {s : State} {args : Bound} {kind : FileKind}
          → args.values ≡ v.Text file ∷ [] → outside.scripts file ≡ Err kind
          → Performs (suc n) here s (builtin b.Import) sig args line (Err (script (k.File kind) here line))
      -- No more calls may nest.
      too_deep : {line sig : ℕ} {here : Text} {s : State} {c : Callee} {args : Bound}
          → nests c ≡ true → Performs zero here s c sig args line (Err (script k.CallDepth here line))

    -- The text of Eval or Import has a name of its own, and is executed in the environment of the caller.
    pub data Loads : ℕ → Text → State → Text → Text → ℕ → Outcome Value → Type 0 where
      load_ends : {n line : ℕ} {here from text : Text} {s after : State} {loaded : Loaded} {out : Outcome Value}
          → load_short outside from text here line s ≡ Ok (loaded, after)
          → Executes n from after loaded.tree.statements v.Undefined out → Loads n here s from text line out
      load_fails : {n line : ℕ} {here from text : Text} {s : State} {fault : Fault}
          → load_short outside from text here line s ≡ Err fault → Loads n here s from text line (Err fault)

    -- ---- statements

    -- the statements of a text or a function, after one with this value
    pub data Executes : ℕ → Text → State → Block → Value → Outcome Value → Type 0 where
      body_ends : {n : ℕ} {here : Text} {s : State} {x : Value} → Executes n here s no_more x (settled x s)
      body_goes_on : {n line : ℕ} {here : Text} {s after : State} {kind : Kind} {rest : Block} {x y : Value}
          {out : Outcome Value}
          → Pays n here s kind line (Ok (on y, after)) → Executes n here after rest y out
          → Executes n here s (then_ kind line rest) x out
      body_returns : {n line : ℕ} {here : Text} {s after : State} {kind : Kind} {rest : Block} {x y : Value}
          → Pays n here s kind line (Ok (back y, after)) → Executes n here s (then_ kind line rest) x (Ok (y, after))
      body_fails : {n line : ℕ} {here : Text} {s : State} {kind : Kind} {rest : Block} {x : Value} {fault : Fault}
          → Pays n here s kind line (Err fault) → Executes n here s (then_ kind line rest) x (Err fault)

    -- the statements of a block
    pub data DoesAll : ℕ → Text → State → Block → Outcome Flow → Type 0 where
      block_ends : {n : ℕ} {here : Text} {s : State} → DoesAll n here s no_more (Ok (on v.Undefined, s))
      block_goes_on : {n line : ℕ} {here : Text} {s after : State} {kind : Kind} {rest : Block} {y : Value}
          {out : Outcome Flow}
          → Pays n here s kind line (Ok (on y, after)) → DoesAll n here after rest out
          → DoesAll n here s (then_ kind line rest) out
      block_returns : {n line : ℕ} {here : Text} {s after : State} {kind : Kind} {rest : Block} {y : Value}
          → Pays n here s kind line (Ok (back y, after)) → DoesAll n here s (then_ kind line rest) (Ok (back y, after))
      block_fails : {n line : ℕ} {here : Text} {s : State} {kind : Kind} {rest : Block} {fault : Fault}
          → Pays n here s kind line (Err fault) → DoesAll n here s (then_ kind line rest) (Err fault)

    -- A statement costs a unit.
    pub data Pays : ℕ → Text → State → Kind → ℕ → Outcome Flow → Type 0 where
      paid : {n line : ℕ} {here : Text} {s after : State} {kind : Kind} {out : Outcome Flow}
          → spend here line s ≡ Ok (tt, after) → Does n here after kind line out → Pays n here s kind line out
      unpaid : {n line : ℕ} {here : Text} {s : State} {kind : Kind} {fault : Fault}
          → spend here line s ≡ Err fault → Pays n here s kind line (Err fault)

    -- a statement, once its unit is paid
    pub data Does : ℕ → Text → State → Kind → ℕ → Outcome Flow → Type 0 where
      sets_global : {n line : ℕ} {here word : Text} {s : State} {e : Expr} {out : Outcome Value}
          → Gives n here s e out → Does n here s (global word e) line (and_then out (λ x. set_global word x >> ends))
      sets_variable : {n line : ℕ} {here word : Text} {s : State} {e : Expr} {out : Outcome Value}
          → Gives n here s e out → Does n here s (assign word e) line (and_then out (λ x. set word x >> ends))
      returns : {n line : ℕ} {here : Text} {s : State} {e : Expr} {out : Outcome Value}
          → Gives n here s e out → Does n here s (return e) line (and_then out (λ x. pure (back x)))
      -- A clip becomes `last`.
      evaluates : {n line : ℕ} {here : Text} {s : State} {e : Expr} {out : Outcome Value}
          → Gives n here s e out → Does n here s (value e) line (and_then out sets_last)
      branches : {n line : ℕ} {here : Text} {s : State} {arms : Arms} {other : Else} {out : Outcome Flow}
          → Chooses n here s arms other line out → Does n here s (if_ arms other) line out
      while_ends : {n line : ℕ} {here : Text} {s after : State} {c : Expr} {body : Block}
          → Tests n here s c line (Ok (false, after)) → Does n here s (while c body) line (Ok (on v.Undefined, after))
      while_goes_on : {n line : ℕ} {here : Text} {s tested after : State} {c : Expr} {body : Block} {y : Value}
          {out : Outcome Flow}
          → Tests n here s c line (Ok (true, tested)) → Turns n here tested body line (Ok (on y, after))
          → Does n here after (while c body) line out → Does n here s (while c body) line out
      while_returns : {n line : ℕ} {here : Text} {s tested after : State} {c : Expr} {body : Block} {y : Value}
          → Tests n here s c line (Ok (true, tested)) → Turns n here tested body line (Ok (back y, after))
          → Does n here s (while c body) line (Ok (back y, after))
      while_turn_fails : {n line : ℕ} {here : Text} {s tested : State} {c : Expr} {body : Block} {fault : Fault}
          → Tests n here s c line (Ok (true, tested)) → Turns n here tested body line (Err fault)
          → Does n here s (while c body) line (Err fault)
      while_test_fails : {n line : ℕ} {here : Text} {s : State} {c : Expr} {body : Block} {fault : Fault}
          → Tests n here s c line (Err fault) → Does n here s (while c body) line (Err fault)
      -- The variable is set to the first number.
      for_starts : {n line : ℕ} {here word : Text} {s after : State} {a z : Expr} {step : Option Expr} {body : Block}
          {first last by : ℤ} {out : Outcome Flow}
          → TakesNumbers n here s a z step line (Ok ((first, last, by), after))
          → Counts n here (record after { env = with word (v.Int first) after.env }) word first last by body line out
          → Does n here s (for word a z step body) line out
      for_numbers_fail : {n line : ℕ} {here word : Text} {s : State} {a z : Expr} {step : Option Expr} {body : Block}
          {fault : Fault}
          → TakesNumbers n here s a z step line (Err fault) → Does n here s (for word a z step body) line (Err fault)

    -- the first block whose condition holds, and else the one after `else`
    pub data Chooses : ℕ → Text → State → Arms → Else → ℕ → Outcome Flow → Type 0 where
      arm_taken : {n line : ℕ} {here : Text} {s after : State} {c : Expr} {body : Block} {rest : Arms} {other : Else}
          {out : Outcome Flow}
          → Tests n here s c line (Ok (true, after)) → DoesAll n here after body out
          → Chooses n here s (arm c body rest) other line out
      arm_passed_over : {n line : ℕ} {here : Text} {s after : State} {c : Expr} {body : Block} {rest : Arms} {other : Else}
          {out : Outcome Flow}
          → Tests n here s c line (Ok (false, after)) → Chooses n here after rest other line out
          → Chooses n here s (arm c body rest) other line out
      arm_test_fails : {n line : ℕ} {here : Text} {s : State} {c : Expr} {body : Block} {rest : Arms} {other : Else}
          {fault : Fault}
          → Tests n here s c line (Err fault) → Chooses n here s (arm c body rest) other line (Err fault)
      else_taken : {n line : ℕ} {here : Text} {s : State} {body : Block} {out : Outcome Flow}
          → DoesAll n here s body out → Chooses n here s no_arms (else_ body) line out
      nothing_taken : {n line : ℕ} {here : Text} {s : State}
          → Chooses n here s no_arms no_else line (Ok (on v.Undefined, s))

    -- A turn of a loop costs a unit.
    pub data Turns : ℕ → Text → State → Block → ℕ → Outcome Flow → Type 0 where
      turn_paid : {n line : ℕ} {here : Text} {s after : State} {body : Block} {out : Outcome Flow}
          → spend here line s ≡ Ok (tt, after) → DoesAll n here after body out → Turns n here s body line out
      turn_unpaid : {n line : ℕ} {here : Text} {s : State} {body : Block} {fault : Fault}
          → spend here line s ≡ Err fault → Turns n here s body line (Err fault)

    -- the first number of `for`, the last one, and the step
    pub data TakesNumbers : ℕ → Text → State → Expr → Expr → Option Expr → ℕ → Outcome (ℤ × ℤ × ℤ) → Type 0 where
      step_is_one : {n line : ℕ} {here : Text} {s : State} {a z : Expr} {out : Outcome (ℤ × ℤ × ℤ)}
          → TakesNumbers n here s a z (Some (int (pos 1))) line out → TakesNumbers n here s a z None line out
      takes_numbers : {n line : ℕ} {here : Text} {s after later : State} {a z e : Expr} {x y : Value} {out : Outcome Value}
          → Gives n here s a (Ok (x, after)) → Gives n here after z (Ok (y, later)) → Gives n here later e out
          → TakesNumbers n here s a z (Some e) line (and_then out (λ by. lifted (numbers here line x y by)))
      first_number_fails : {n line : ℕ} {here : Text} {s : State} {a z e : Expr} {fault : Fault}
          → Gives n here s a (Err fault) → TakesNumbers n here s a z (Some e) line (Err fault)
      last_number_fails : {n line : ℕ} {here : Text} {s after : State} {a z e : Expr} {x : Value} {fault : Fault}
          → Gives n here s a (Ok (x, after)) → Gives n here after z (Err fault)
          → TakesNumbers n here s a z (Some e) line (Err fault)

    -- the turns of `for` from this number of its variable on
    pub data Counts : ℕ → Text → State → Text → ℤ → ℤ → ℤ → Block → ℕ → Outcome Flow → Type 0 where
      for_ends : {n line : ℕ} {here word : Text} {s : State} {i last by : ℤ} {body : Block}
          → is_past last by i ≡ true → Counts n here s word i last by body line (Ok (on v.Undefined, s))
      -- The variable is read again, and set to the next number.
      for_goes_on : {n line : ℕ} {here word : Text} {s turned after : State} {i last by next : ℤ} {body : Block} {y : Value}
          {out : Outcome Flow}
          → is_past last by i ≡ false → Turns n here s body line (Ok (on y, turned))
          → advance here word by line turned ≡ Ok (Some next, after)
          → Counts n here after word next last by body line out → Counts n here s word i last by body line out
      -- The next number would leave 64 bits.
      for_leaves_range : {n line : ℕ} {here word : Text} {s turned after : State} {i last by : ℤ} {body : Block} {y : Value}
          → is_past last by i ≡ false → Turns n here s body line (Ok (on y, turned))
          → advance here word by line turned ≡ Ok (None, after)
          → Counts n here s word i last by body line (Ok (on v.Undefined, after))
      for_returns : {n line : ℕ} {here word : Text} {s after : State} {i last by : ℤ} {body : Block} {y : Value}
          → is_past last by i ≡ false → Turns n here s body line (Ok (back y, after))
          → Counts n here s word i last by body line (Ok (back y, after))
      for_turn_fails : {n line : ℕ} {here word : Text} {s : State} {i last by : ℤ} {body : Block} {fault : Fault}
          → is_past last by i ≡ false → Turns n here s body line (Err fault)
          → Counts n here s word i last by body line (Err fault)
      -- The variable is no number.
      for_advance_fails : {n line : ℕ} {here word : Text} {s turned : State} {i last by : ℤ} {body : Block} {y : Value}
          {fault : Fault}
          → is_past last by i ≡ false → Turns n here s body line (Ok (on y, turned))
          → advance here word by line turned ≡ Err fault → Counts n here s word i last by body line (Err fault)
