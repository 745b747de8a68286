-- What an expression does: its calls, the texts that it executes, its operators, and its value.
use Rattle.std.specs.Prelude.{ℕ, ◌+◌, List, [], ◌∷◌, map, codes, Option, Some, None, nat_le, length, Result, Ok, Err, if◌then◌else◌, Bool, true, false, zero, suc, nat_eq, ◌&&◌, ◌++◌}
use Rattle.avs_tree.specs.Tree.{Loaded, NoTree, lexical, syntax, nests, Expr, int, bool, str, name, call, method_calls, minus, not_, chain, compare, conditional, group, Args, no_args, arg, MethodCalls, no_method_calls, method, method_call, Steps, no_steps, step}
use Rattle.avs_tree.specs.declared.tree.Operator.{Operator}
use Rattle.avs_tree.specs.declared.tree.Operator.TheVariants as op
use Rattle.avs_tree.specs.declared.tree.Parameter.{Parameter}
use Rattle.avs_tree.specs.declared.words.TypeWord.{TypeWord}
use Rattle.avs_tree.specs.declared.words.TypeWord.TheVariants as w
use Rattle.avs_values.specs.Binding.{Signature, Bound, bind}
use Rattle.avs_values.specs.Functions.{plain}
use Rattle.avs_values.specs.Operators.{binary, unary}
use Rattle.avs_values.specs.Values.{Text, text_limit, Outcome}
use Rattle.avs_values.specs.declared.binding.Given.{Given}
use Rattle.avs_values.specs.declared.operators.BinaryOp.{BinaryOp}
use Rattle.avs_values.specs.declared.operators.BinaryOp.TheVariants as o
use Rattle.avs_values.specs.declared.operators.UnaryOp.{UnaryOp}
use Rattle.avs_values.specs.declared.operators.UnaryOp.TheVariants as u
use Rattle.avs_values.specs.declared.parameter.Param.{Param}
use Rattle.avs_values.specs.declared.value.Kind.{Kind}
use Rattle.avs_values.specs.declared.value.Kind.TheVariants as kind
use Rattle.avs_values.specs.declared.value.Value.{Value}
use Rattle.avs_values.specs.declared.value.Value.TheVariants as v
use Rattle.clip_term.specs.Terms.{time}
use Rattle.clip_term.specs.declared.filter.Filter.TheVariants as f
use Rattle.clip_term.specs.declared.op.TimeOp.TheVariants as t
use Rattle.avs_meaning.specs.Arguments.{is_filter_number, out_of_range}
use Rattle.avs_meaning.specs.Faults.{Fault, script, kind_of}
use Rattle.avs_meaning.specs.Filters.{made, clip_value, info_of, filtered, ranged, set_mode, prefetch}
use Rattle.avs_meaning.specs.State.{Defined, Env, find, with, Outside, Run, ◌>>◌, pure, fails, define_all, ◌>>=◌, lifted, Context, and_then, imported, lookup, variable}
use Rattle.avs_meaning.specs.Table.{only, signatures, builtin_of}
use Rattle.avs_meaning.specs.declared.builtin.Builtin.{Builtin}
use Rattle.avs_meaning.specs.declared.builtin.Builtin.TheVariants as b
use Rattle.avs_meaning.specs.declared.builtin.ClipFn.{ClipFn}
use Rattle.avs_meaning.specs.declared.fault.FileKind.{FileKind}
use Rattle.avs_meaning.specs.declared.fault.ScriptKind.TheVariants as k

-- ==== What a call calls, and what its arguments are bound to (AviSynth+ wiki, 'Grammar': "Functions, arguments", and "User
-- defined script functions").

pub data Callee : Type 0 where
  user : Defined → Callee
  builtin : Builtin → Callee

abbrev pub built_in : Option Builtin → Option Callee
built_in None = None
built_in (Some function) = Some (builtin function)

abbrev pub callee_by : Option Defined → Text → Option Callee
callee_by (Some d) word = Some (user d)
callee_by None word = built_in (builtin_of word)

-- A user function hides a built-in one of its name.
abbrev pub callee : Text → List Defined → Option Callee
callee word functions = callee_by (find word functions) word

abbrev pub kind_of_word : TypeWord → Kind
kind_of_word w.Clip = kind.Clip
kind_of_word w.Int = kind.Int
kind_of_word w.String = kind.Text
kind_of_word w.Bool = kind.Bool
kind_of_word w.Val = kind.Val

abbrev pub param_of : Parameter → Param
param_of p = record { name = p.name; kind = kind_of_word p.word; optional = p.optional }

abbrev pub signature_of : List Parameter → Signature
signature_of params = only (map param_of params)

abbrev pub takes : Callee → List Signature
takes (user d) = signature_of d.function.params ∷ []
takes (builtin function) = signatures function

-- the number of the signature that fits, and what the arguments are bound to
abbrev pub Fit : Type 0
Fit = Option (ℕ × Bound)

abbrev pub fit_by : Option Bound → ℕ → Fit → Fit
fit_by (Some bound) n later = Some (n, bound)
fit_by None n later = later

-- the first signature that fits, counted on from n
abbrev pub fit : ℕ → List Signature → List Given → Fit
fit n [] args = None
fit n (sig ∷ sigs) args = fit_by (bind sig args) n (fit (n + 1) sigs args)

abbrev pub unnamed : Value → Given
unnamed x = record { name = None; value = x }

-- with `last` first, where it is set
abbrev pub fit_last : List Signature → List Given → Option Value → Fit
fit_last sigs args None = None
fit_last sigs args (Some x) = fit 0 sigs (unnamed x ∷ args)

abbrev pub or_fit : Fit → Fit → Fit
or_fit (Some found) other = Some found
or_fit None other = other

-- the arguments as they are written, or else with `last` first
abbrev pub fit_or_last : List Signature → List Given → Option Value → Fit
fit_or_last sigs args last = or_fit (fit 0 sigs args) (fit_last sigs args last)

abbrev pub last_name : Text
last_name = codes "last"

-- The parameters as variables. Of two of one name the later one counts.
abbrev pub parameters : List Parameter → List Value → Env → Env
parameters [] values env = env
parameters (p ∷ params) [] env = env
parameters (p ∷ params) (x ∷ values) env = parameters params values (with p.name x env)

-- ==== A text that is to be executed: its tree, and what is done before its first statement.

abbrev pub no_tree : Text → NoTree → Fault
no_tree here (lexical kind line) = script (k.Lex kind) here line
no_tree here (syntax line) = script k.Syntax here line
no_tree here (nests line) = script k.NestLimit here line

abbrev pub loaded_by : Result Loaded NoTree → Text → Run Loaded
loaded_by (Err why) here = λ s. Err (no_tree here why)
loaded_by (Ok loaded) here = define_all loaded.tree.functions here >> pure loaded

-- The text of this name is read, and its functions are added.
abbrev pub load : Outside → Text → Text → Run Loaded
load outside here text = loaded_by (outside.trees text) here

-- a text that a script has, for a call at a line
abbrev pub load_short : Outside → Text → Text → Text → ℕ → Run Loaded
load_short outside from text here line =
    if nat_le (length text) text_limit then load outside from text else fails k.TextLimit here line

-- ==== Operators on values, clips among them, and the tests of statements (AviSynth+ wiki, 'Grammar': "Operators").

-- an operator of numbers, texts and truth values
abbrev pub binary_of : Operator → BinaryOp
binary_of op.Equal = o.Equal
binary_of op.NotEqual = o.NotEqual
binary_of op.Less = o.Less
binary_of op.LessEqual = o.LessEqual
binary_of op.Greater = o.Greater
binary_of op.GreaterEqual = o.GreaterEqual
binary_of op.Minus = o.Subtract
binary_of op.Times = o.Multiply
binary_of op.Divide = o.Divide
binary_of op.Remainder = o.Remainder
binary_of _ = o.Add

-- in the text of this name
module _ (here : Text) where
  abbrev pub placed : ℕ → Outcome → Result Value Fault
  placed line (Ok x) = Ok x
  placed line (Err fault) = Err (script (kind_of fault) here line)

  -- a condition, or an operand of `&&` or `||`
  abbrev pub truth : ℕ → Value → Result Bool Fault
  truth line (v.Bool holds) = Ok holds
  truth line _ = Err (script k.TypeFault here line)

  abbrev pub prefixed : UnaryOp → ℕ → Value → Run Value
  prefixed op line x = lifted (placed line (unary op x))

  abbrev pub compared : Operator → ℕ → Value → Value → Run Value
  compared op line x y = lifted (placed line (binary (binary_of op) x y))

  -- Clips are joined: `+` as UnalignedSplice does, and `++`, which takes clips alone, as AlignedSplice.
  abbrev pub combined : Operator → ℕ → Value → Value → Run Value
  combined op.Plus line (v.Clip i) (v.Clip j) = made here f.UnalignedSplice (time t.UnalignedSplice) (i ∷ j ∷ []) line
  combined op.PlusPlus line (v.Clip i) (v.Clip j) = made here f.AlignedSplice (time t.AlignedSplice) (i ∷ j ∷ []) line
  combined op.PlusPlus line x y = fails k.TypeFault here line
  combined op line x y = lifted (placed line (binary (binary_of op) x y))

  abbrev pub truth_of : ℕ → Run Value → Run Value
  truth_of line operand = operand >>= (λ y. lifted (truth line y) >>= (λ holds. pure (v.Bool holds)))

  -- The right operand of `&&` is evaluated where the left one holds, that of `||` where it does not.
  abbrev pub joined : Operator → ℕ → Run Value → Value → Run Value
  joined op.Or line operand x =
      lifted (truth line x) >>= (λ holds. if holds then pure (v.Bool true) else truth_of line operand)
  joined op.And line operand x =
      lifted (truth line x) >>= (λ holds. if holds then truth_of line operand else pure (v.Bool false))
  joined op line operand x = operand >>= combined op line x

-- ==== What an expression does: its value, and how the state changes (AviSynth+ wiki, 'Grammar' and 'Script functions').

abbrev pub eval_name : Text
eval_name = codes "Eval"

-- in the text of this name
module _ (here : Text) where
  -- a script that is read counts as an import
  abbrev pub script_by : Result Text FileKind → ℕ → Run Text
  script_by (Ok text) line = λ s. Ok (text, imported s)
  script_by (Err kind) line = fails (k.File kind) here line

  abbrev pub told : ClipFn → List Value → ℕ → Run Value
  told function (v.Clip i ∷ []) line =
      info_of here i line >>= (λ info. lifted (placed here line (clip_value function info)))
  told function _ line = fails k.NoMatch here line

  abbrev pub known : Option Callee → ℕ → Run Callee
  known (Some c) line = pure c
  known None line = fails k.UnknownName here line

  -- The name of a function is looked up before its arguments are evaluated.
  abbrev pub called : Text → ℕ → Run Callee
  called x line = λ s. known (callee x s.functions) line s

-- a call of a function with arguments that are tried as they are
abbrev pub Caller : Type 0
Caller = Callee → List Given → Text → ℕ → Run Value

-- ApplyRange calls a function by its name, with its clip first. Of its own numbers one that no filter takes is refused first.
abbrev pub ranged_by : Caller → List Value → List Value → Text → ℕ → Run Value
ranged_by again (v.Clip i ∷ v.Int first ∷ v.Int last ∷ v.Text word ∷ []) rest here line =
    if is_filter_number first && is_filter_number last then
    (called here word line >>= (λ c. again c (map unnamed (v.Clip i ∷ rest)) here line) >>= ranged here i first last line)
    else fails out_of_range here line
ranged_by again _ rest here line = fails k.NoMatch here line

module _ (context : Context) where
  abbrev pub may_nest : Text → ℕ → Run (Unit {0})
  may_nest here line = if nat_eq context.depth 0 then fails k.CallDepth here line else pure tt

  -- ---- calls

  abbrev pub execute : Text → Text → Text → ℕ → Run Value
  execute from text here line = load_short context.outside from text here line >>= (λ loaded. context.deeper from loaded.tree.statements)

  abbrev pub eval : Text → List Value → ℕ → Run Value
  eval here (v.Text text ∷ []) line = may_nest here line >> execute eval_name text here line
  eval here _ line = fails k.NoMatch here line

  abbrev pub import_ : Text → List Value → ℕ → Run Value
  import_ here (v.Text file ∷ []) line =
      may_nest here line >> script_by here (context.outside.scripts file) line >>= (λ text. execute file text here line)
  import_ here _ line = fails k.NoMatch here line

  -- A user function has an environment of its own, with its parameters alone.
  abbrev pub inside : Defined → Env → Run Value
  inside d env = λ s.
      and_then (context.deeper d.text d.function.body (record s { env = env })) (λ x after. Ok (x, record after { env = s.env }))

  -- a call whose arguments are bound by the signature of this number, with what ApplyRange calls its function by
  abbrev pub applied : Caller → Callee → ℕ → Bound → Text → ℕ → Run Value
  applied again (user d) n given here line = may_nest here line >> inside d (parameters d.function.params given.values [])
  applied again (builtin b.Eval) n given here line = eval here given.values line
  applied again (builtin b.Import) n given here line = import_ here given.values line
  applied again (builtin b.SetFilterMTMode) n given here line = set_mode here given.values line
  applied again (builtin b.Prefetch) n given here line = prefetch here given.values line
  applied again (builtin b.ApplyRange) n given here line = ranged_by again given.values given.rest here line
  applied again (builtin (b.Plain function)) n given here line = lifted (placed here line (plain function given))
  applied again (builtin (b.Clip function)) n given here line = told here function given.values line
  applied again (builtin (b.Filter filter)) n given here line = filtered here context.outside filter n given line

  abbrev pub apply_by : Caller → Fit → Callee → Text → ℕ → Run Value
  apply_by again (Some found) c here line = applied again c found.0 found.1 here line
  apply_by again None c here line = fails k.NoMatch here line

  -- A call with fewer arguments than n. A function that ApplyRange calls has fewer than ApplyRange.
  unfoldable pub call_within : ℕ → Caller
  call_within zero c args here line = fails k.NoMatch here line
  call_within (suc n) c args here line = apply_by (call_within n) (fit_or_last (takes c) args None) c here line

  -- a call with these arguments, tried again with `last` first where it is set
  abbrev pub apply : Callee → List Given → Option Value → Text → ℕ → Run Value
  apply c args last here line = apply_by (call_within (length args)) (fit_or_last (takes c) args last) c here line

  -- a call whose arguments are tried as they are
  abbrev pub direct : Caller
  direct c args here line = apply c args None here line

  -- a call whose arguments are bound by the signature of this number
  abbrev pub performed : Callee → ℕ → Bound → Text → ℕ → Run Value
  performed = applied direct

  -- ---- expressions

  module _ (here : Text) where
    abbrev pub apply_last : Callee → List Given → ℕ → Run Value
    apply_last c args line = λ s. apply c args (lookup last_name s.env) here line s

    -- a variable, or else a call without arguments
    abbrev pub named : Option Value → Text → ℕ → Run Value
    named (Some x) word line = pure x
    named None word line = called here word line >>= (λ c. apply_last c [] line)

    abbrev mutual
      pub value_of : Expr → Run Value
      value_of (int n) = pure (v.Int n)
      value_of (bool holds) = pure (v.Bool holds)
      value_of (str x) = pure (v.Text x)
      value_of (name word line) = λ s. named (variable word s) word line s
      value_of (call word args line) =
          called here word line >>= (λ c. givens_of args [] >>= (λ given. apply_last c given line))
      value_of (method_calls e calls) = value_of e >>= calls_from calls
      value_of (minus e line) = value_of e >>= prefixed here u.Negative line
      value_of (not_ e line) = value_of e >>= prefixed here u.Not line
      value_of (chain e rest) = value_of e >>= steps_from rest
      value_of (compare op l r line) = value_of l >>= (λ x. value_of r >>= compared here op line x)
      value_of (conditional c l r line) =
          value_of c >>= (λ x. lifted (truth here line x) >>= (λ holds. if holds then value_of l else value_of r))
      value_of (group e) = value_of e

      -- arguments, after those before
      pub givens_of : Args → List Given → Run (List Given)
      givens_of no_args before = pure before
      givens_of (arg word e rest) before =
          value_of e >>= (λ x. givens_of rest (before ++ record { name = word; value = x } ∷ []))

      -- method calls, each with the value before it as its first argument
      pub calls_from : MethodCalls → Value → Run Value
      calls_from no_method_calls x = pure x
      calls_from (method word line rest) x =
          called here word line >>= (λ c. apply c (unnamed x ∷ []) None here line) >>= calls_from rest
      calls_from (method_call word args line rest) x =
          called here word line >>= (λ c. givens_of args (unnamed x ∷ []) >>= (λ given. apply c given None here line))
          >>= calls_from rest

      -- the operators of a chain, from the left
      pub steps_from : Steps → Value → Run Value
      steps_from no_steps x = pure x
      steps_from (step op e line rest) x = joined here op line (value_of e) x >>= steps_from rest
