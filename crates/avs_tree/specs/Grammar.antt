-- The grammar of expressions, statements and scripts.
use Rattle.std.specs.Prelude.{◌≡◌, ◌≤◌, ℕ, suc, ◌-◌, max, Bool, true, false, ◌∷◌, Option, Some, None, ◌⊎◌, IsTrue, List, []}
use Rattle.avs_lex.specs.Spelling.{Text}
use Rattle.avs_tree.specs.Lexeme.{Lexemes, precedence_of, line_of, is_name, type_word_of}
use Rattle.avs_tree.specs.Tree.{Expr, int, bool, str, name, call, method_calls, minus, not_, chain, compare, conditional, group, Args, no_args, arg, MethodCalls, no_method_calls, method, method_call, Steps, no_steps, step, Kind, global, assign, return, if_, while, for, value, Arms, no_arms, arm, Else, no_else, else_, Block, no_more, then_, Function, Script, ends_with_brace}
use Rattle.avs_tree.specs.declared.symbol.Punctuation.{Punctuation}
use Rattle.avs_tree.specs.declared.symbol.Punctuation.TheVariants as m
use Rattle.avs_tree.specs.declared.symbol.Symbol.{Symbol}
use Rattle.avs_tree.specs.declared.symbol.Symbol.TheVariants as s
use Rattle.avs_tree.specs.declared.tree.Operator.TheVariants as o
use Rattle.avs_tree.specs.declared.tree.Parameter.{Parameter}
use Rattle.avs_tree.specs.declared.words.Keyword.{Keyword}
use Rattle.avs_tree.specs.declared.words.Keyword.TheVariants as w

-- ==== The grammar of expressions, after `The full AviSynth grammar` of the AviSynth+ documentation. It says of the tokens ts
-- that they are an expression, and then us. A chain of operators of one precedence is a list.

-- ---- one token, and then us

-- in this line
abbrev pub IsAt : Symbol → ℕ → Lexemes → Lexemes → Type 0
IsAt symbol line ts us = (x : Text) × (ts ≡ (symbol, x, line) ∷ us)

-- in any line
abbrev pub Is : Symbol → Lexemes → Lexemes → Type 0
Is symbol ts us = (line : ℕ) × IsAt symbol line ts us

abbrev pub IsPunctuation : Punctuation → Lexemes → Lexemes → Type 0
IsPunctuation punctuation = Is (s.Punctuation punctuation)

abbrev pub IsKeyword : Keyword → Lexemes → Lexemes → Type 0
IsKeyword keyword = Is (s.Keyword keyword)

-- this name, in this line
abbrev pub IsNameAt : Text → ℕ → Lexemes → Lexemes → Type 0
IsNameAt x line ts us = ts ≡ (s.Name, x, line) ∷ us

-- this name, in any line
abbrev pub IsName : Text → Lexemes → Lexemes → Type 0
IsName x ts us = (line : ℕ) × IsNameAt x line ts us

-- a string that says this
abbrev pub IsString : Text → Lexemes → Lexemes → Type 0
IsString x ts us = (line : ℕ) × (ts ≡ (s.Str, x, line) ∷ us)

-- `true` and `yes`, or `false` and `no`
abbrev pub truth : Bool → Keyword
truth true = w.True
truth false = w.False

-- the name of an argument and `=`, or nothing
abbrev pub Labels : Option Text → Lexemes → Lexemes → Type 0
Labels None ts us = ts ≡ us
Labels (Some x) ts us = (vs : Lexemes) × IsName x ts vs × IsPunctuation m.Assign vs us

-- ---- expressions

-- Operators of a chain: all but comparisons, of which no two follow one another.
abbrev pub Chains : Steps → Type 0
Chains no_steps = ⊥
Chains (step op e line ss) = precedence_of op ≡ 5 → ⊥

abbrev pub precedence_of_steps : Steps → ℕ
precedence_of_steps no_steps = 0
precedence_of_steps (step op e line ss) = precedence_of op

abbrev pub HasMethodCall : MethodCalls → Type 0
HasMethodCall no_method_calls = ⊥
HasMethodCall _ = Unit {0}

-- An expression of at most this precedence: 0 is a primary, 1 one with method calls, 2 one with `-` or `!` before it, 3 a
-- product, 4 a sum, 5 a comparison, 6 an `&&`, 7 an `||`, and 8 a conditional.
abbrev mutual
  pub Derives : ℕ → Expr → Lexemes → Lexemes → Type 0
  Derives r (int n) ts us = Is (s.Int n) ts us
  Derives r (bool b) ts us = IsKeyword (truth b) ts us
  Derives r (str x) ts us = IsString x ts us
  Derives r (name x line) ts us = IsNameAt x line ts us
  Derives r (call x es line) ts us = (vs ws : Lexemes) × IsNameAt x line ts vs × IsPunctuation m.LeftParen vs ws × DerivesArgs es ws us
  Derives r (group e) ts us = (vs ws : Lexemes) × IsPunctuation m.LeftParen ts vs × Derives 8 e vs ws × IsPunctuation m.RightParen ws us
  Derives r (method_calls e ds) ts us = (1 ≤ r) × HasMethodCall ds × (vs : Lexemes) × Derives 0 e ts vs × DerivesMethodCalls ds vs us
  Derives r (minus e line) ts us = (2 ≤ r) × (vs : Lexemes) × IsAt (s.Operator o.Minus) line ts vs × Derives 2 e vs us
  Derives r (not_ e line) ts us = (2 ≤ r) × (vs : Lexemes) × IsAt (s.Punctuation m.Not) line ts vs × Derives 2 e vs us
  Derives r (chain e ss) ts us = (precedence_of_steps ss ≤ r) × Chains ss × (vs : Lexemes) × Derives (precedence_of_steps ss - 1) e ts vs × DerivesSteps (precedence_of_steps ss) ss vs us
  Derives r (compare op a b line) ts us =
      (5 ≤ r) × (precedence_of op ≡ 5) × (vs ws : Lexemes) × Derives 4 a ts vs × IsAt (s.Operator op) line vs ws × Derives 4 b ws us
  Derives r (conditional c a b line) ts us =
      (8 ≤ r) × (vs ws xs ys : Lexemes) × Derives 7 c ts vs × IsAt (s.Punctuation m.Question) line vs ws × Derives 8 a ws xs × IsPunctuation m.Colon xs ys × Derives 8 b ys us

  -- operators of one precedence, each with the operand after it
  pub DerivesSteps : ℕ → Steps → Lexemes → Lexemes → Type 0
  DerivesSteps r no_steps ts us = ts ≡ us
  DerivesSteps r (step op e line ss) ts us =
      (precedence_of op ≡ r) × (vs ws : Lexemes) × IsAt (s.Operator op) line ts vs × Derives (r - 1) e vs ws × DerivesSteps r ss ws us

  -- method calls, with arguments or without
  pub DerivesMethodCalls : MethodCalls → Lexemes → Lexemes → Type 0
  DerivesMethodCalls no_method_calls ts us = ts ≡ us
  DerivesMethodCalls (method x line ds) ts us = (vs ws : Lexemes) × IsPunctuation m.Dot ts vs × IsNameAt x line vs ws × DerivesMethodCalls ds ws us
  DerivesMethodCalls (method_call x es line ds) ts us =
      (vs ws xs ys : Lexemes) × IsPunctuation m.Dot ts vs × IsNameAt x line vs ws × IsPunctuation m.LeftParen ws xs × DerivesArgs es xs ys × DerivesMethodCalls ds ys us

  -- arguments and their right parenthesis
  pub DerivesArgs : Args → Lexemes → Lexemes → Type 0
  DerivesArgs no_args ts us = IsPunctuation m.RightParen ts us
  DerivesArgs (arg x e es) ts us = (vs ws : Lexemes) × Labels x ts vs × Derives 8 e vs ws × DerivesMoreArgs es ws us

  -- further arguments and their right parenthesis
  pub DerivesMoreArgs : Args → Lexemes → Lexemes → Type 0
  DerivesMoreArgs no_args ts us = IsPunctuation m.RightParen ts us
  DerivesMoreArgs (arg x e es) ts us = (vs ws xs : Lexemes) × IsPunctuation m.Comma ts vs × Labels x vs ws × Derives 8 e ws xs × DerivesMoreArgs es xs us

-- ---- nesting

-- The nesting of an expression: parentheses, `-` and `!` before an operand, and the branches of a `?` are each one level.
abbrev mutual
  pub nesting : Expr → ℕ
  nesting (int n) = 0
  nesting (bool b) = 0
  nesting (str x) = 0
  nesting (name x line) = 0
  nesting (call x es line) = suc (args_nesting es)
  nesting (group e) = suc (nesting e)
  nesting (method_calls e ds) = max (nesting e) (method_calls_nesting ds)
  nesting (minus e line) = suc (nesting e)
  nesting (not_ e line) = suc (nesting e)
  nesting (chain e ss) = max (nesting e) (steps_nesting ss)
  nesting (compare op a b line) = max (nesting a) (nesting b)
  nesting (conditional c a b line) = max (nesting c) (suc (max (nesting a) (nesting b)))

  pub steps_nesting : Steps → ℕ
  steps_nesting no_steps = 0
  steps_nesting (step op e line ss) = max (nesting e) (steps_nesting ss)

  pub method_calls_nesting : MethodCalls → ℕ
  method_calls_nesting no_method_calls = 0
  method_calls_nesting (method x line ds) = method_calls_nesting ds
  method_calls_nesting (method_call x es line ds) = max (suc (args_nesting es)) (method_calls_nesting ds)

  pub args_nesting : Args → ℕ
  args_nesting no_args = 0
  args_nesting (arg x e es) = max (nesting e) (args_nesting es)

-- ==== The grammar of statements and scripts, after `The full AviSynth grammar` of the AviSynth+ documentation, and the nesting
-- of a script.

-- ---- between statements

-- any number of newlines, and then us
abbrev pub Newlines : Lexemes → Lexemes → Type 0
Newlines [] us = [] ≡ us
Newlines (t ∷ ts) us = ((t ∷ ts) ≡ us) ⊎ ((t.0 ≡ s.Punctuation m.Newline) × Newlines ts us)

-- `}` or the end comes next
abbrev pub Closes : Lexemes → Type 0
Closes ts = (us : Lexemes) × (IsPunctuation m.RightBrace ts us ⊎ IsPunctuation m.End ts us)

-- One or more newlines, or nothing where the statement ended with a brace or where `}` or the end comes next.
abbrev pub Separates : Bool → Lexemes → Lexemes → Type 0
Separates ended ts us = ((vs : Lexemes) × IsPunctuation m.Newline ts vs × Newlines vs us) ⊎ ((IsTrue ended ⊎ Closes ts) × (ts ≡ us))

-- ---- statements

-- an expression in parentheses
abbrev pub Condition : Expr → Lexemes → Lexemes → Type 0
Condition e ts us = (vs ws : Lexemes) × IsPunctuation m.LeftParen ts vs × Derives 8 e vs ws × IsPunctuation m.RightParen ws us

-- braces with these inside
abbrev pub Braces : (Lexemes → Lexemes → Type 0) → Lexemes → Lexemes → Type 0
Braces Inside ts us =
    (t1 t2 t3 t4 : Lexemes) × Newlines ts t1 × IsPunctuation m.LeftBrace t1 t2 × Newlines t2 t3 × Inside t3 t4 × IsPunctuation m.RightBrace t4 us

-- the step of a `for`, or nothing
abbrev pub ForStep : Option Expr → Lexemes → Lexemes → Type 0
ForStep None ts us = ts ≡ us
ForStep (Some e) ts us = (vs : Lexemes) × IsPunctuation m.Comma ts vs × Derives 8 e vs us

-- the head of a `for`
abbrev pub ForHead : Text → Expr → Expr → Option Expr → Lexemes → Lexemes → Type 0
ForHead x a b c ts us =
    (t1 t2 t3 t4 t5 t6 t7 : Lexemes) × IsPunctuation m.LeftParen ts t1 × IsName x t1 t2 × IsPunctuation m.Assign t2 t3 × Derives 8 a t3 t4 × IsPunctuation m.Comma t4 t5
    × Derives 8 b t5 t6 × ForStep c t6 t7 × IsPunctuation m.RightParen t7 us

abbrev mutual
  pub DerivesKind : Kind → Lexemes → Lexemes → Type 0
  DerivesKind (global x e) ts us = (t1 t2 t3 : Lexemes) × IsKeyword w.Global ts t1 × IsName x t1 t2 × IsPunctuation m.Assign t2 t3 × Derives 8 e t3 us
  DerivesKind (assign x e) ts us = (t1 t2 : Lexemes) × IsName x ts t1 × IsPunctuation m.Assign t1 t2 × Derives 8 e t2 us
  DerivesKind (return e) ts us = (t1 : Lexemes) × IsKeyword w.Return ts t1 × Derives 8 e t1 us
  DerivesKind (if_ no_arms other) ts us = ⊥
  DerivesKind (if_ (arm e b rest) other) ts us =
      (t1 t2 t3 t4 : Lexemes) × IsKeyword w.If ts t1 × Condition e t1 t2 × Braces (λ vs ws. DerivesAll b vs ws) t2 t3 × DerivesElseIfs rest t3 t4 × DerivesElse other t4 us
  DerivesKind (while e b) ts us = (t1 t2 : Lexemes) × IsKeyword w.While ts t1 × Condition e t1 t2 × Braces (λ vs ws. DerivesAll b vs ws) t2 us
  DerivesKind (for x a b c d) ts us = (t1 t2 : Lexemes) × IsKeyword w.For ts t1 × ForHead x a b c t1 t2 × Braces (λ vs ws. DerivesAll d vs ws) t2 us
  DerivesKind (value e) ts us = Derives 8 e ts us

  -- `else if`, any number of times
  pub DerivesElseIfs : Arms → Lexemes → Lexemes → Type 0
  DerivesElseIfs no_arms ts us = ts ≡ us
  DerivesElseIfs (arm e b rest) ts us =
      (t1 t2 t3 t4 t5 : Lexemes) × Newlines ts t1 × IsKeyword w.Else t1 t2 × IsKeyword w.If t2 t3 × Condition e t3 t4 × Braces (λ vs ws. DerivesAll b vs ws) t4 t5
      × DerivesElseIfs rest t5 us

  pub DerivesElse : Else → Lexemes → Lexemes → Type 0
  DerivesElse no_else ts us = ts ≡ us
  DerivesElse (else_ b) ts us = (t1 t2 : Lexemes) × Newlines ts t1 × IsKeyword w.Else t1 t2 × Braces (λ vs ws. DerivesAll b vs ws) t2 us

  -- statements, each with what separates it from the next
  pub DerivesAll : Block → Lexemes → Lexemes → Type 0
  DerivesAll no_more ts us = ts ≡ us
  DerivesAll (then_ k line rest) ts us =
      (line_of ts ≡ line) × (t1 t2 : Lexemes) × DerivesKind k ts t1 × Separates (ends_with_brace k) t1 t2 × DerivesAll rest t2 us

-- ---- functions

-- a name, or a string whose text is a name where the parameter is optional
abbrev pub ParameterName : Bool → Text → Lexemes → Lexemes → Type 0
ParameterName false x ts us = IsName x ts us
ParameterName true x ts us = IsTrue (is_name x) × IsString x ts us

-- a type and a name
abbrev pub DerivesParameter : Parameter → Lexemes → Lexemes → Type 0
DerivesParameter p ts us = (x : Text) × (vs : Lexemes) × IsName x ts vs × (type_word_of x ≡ Some p.word) × ParameterName p.optional p.name vs us

-- Further parameters. After an optional one all are optional.
abbrev pub MoreParameters : Bool → List Parameter → Lexemes → Lexemes → Type 0
MoreParameters must [] ts us = ts ≡ us
MoreParameters must (p ∷ ps) ts us =
    (IsTrue must → IsTrue p.optional) × (vs ws : Lexemes) × IsPunctuation m.Comma ts vs × DerivesParameter p vs ws × MoreParameters p.optional ps ws us

abbrev pub Parameters : List Parameter → Lexemes → Lexemes → Type 0
Parameters [] ts us = ts ≡ us
Parameters (p ∷ ps) ts us = (vs : Lexemes) × DerivesParameter p ts vs × MoreParameters p.optional ps vs us

abbrev pub DerivesFunction : Function → Lexemes → Lexemes → Type 0
DerivesFunction f ts us =
    (line_of ts ≡ f.line) × (t1 t2 t3 t4 t5 : Lexemes) × IsKeyword w.Function ts t1 × IsName f.name t1 t2 × IsPunctuation m.LeftParen t2 t3 × Parameters f.params t3 t4
    × IsPunctuation m.RightParen t4 t5 × Braces (λ vs ws. DerivesAll f.body vs ws) t5 us

-- ---- scripts

-- functions and statements in the order of the text
pub data Items : Type 0 where
  no_items : Items
  function_then : Function → Items → Items
  statement_then : Kind → ℕ → Items → Items

abbrev pub functions_of : Items → List Function
functions_of no_items = []
functions_of (function_then f rest) = f ∷ functions_of rest
functions_of (statement_then k line rest) = functions_of rest

abbrev pub statements_of : Items → Block
statements_of no_items = no_more
statements_of (function_then f rest) = statements_of rest
statements_of (statement_then k line rest) = then_ k line (statements_of rest)

abbrev pub DerivesItems : Items → Lexemes → Lexemes → Type 0
DerivesItems no_items ts us = ts ≡ us
DerivesItems (function_then f rest) ts us = (t1 t2 : Lexemes) × DerivesFunction f ts t1 × Separates true t1 t2 × DerivesItems rest t2 us
DerivesItems (statement_then k line rest) ts us =
    (line_of ts ≡ line) × (t1 t2 : Lexemes) × DerivesKind k ts t1 × Separates (ends_with_brace k) t1 t2 × DerivesItems rest t2 us

-- The tokens are this script and no more.
pub record IsScript (ts : Lexemes) (tree : Script) : Type 0 where
  pub items : Items
  pub functions : functions_of items ≡ tree.functions
  pub statements : statements_of items ≡ tree.statements
  pub start : Lexemes
  pub end : Lexemes
  pub blank : Newlines ts start
  pub derived : DerivesItems items start end
  pub ended : IsPunctuation m.End end []

-- ---- nesting: that of the expressions, and one level for parentheses and one for braces around them

abbrev pub step_nesting : Option Expr → ℕ
step_nesting None = 0
step_nesting (Some e) = nesting e

abbrev mutual
  pub kind_nesting : Kind → ℕ
  kind_nesting (global x e) = nesting e
  kind_nesting (assign x e) = nesting e
  kind_nesting (return e) = nesting e
  kind_nesting (if_ arms other) = max (arms_nesting arms) (else_nesting other)
  kind_nesting (while e b) = suc (max (nesting e) (block_nesting b))
  kind_nesting (for x a b c d) = suc (max (max (nesting a) (max (nesting b) (step_nesting c))) (block_nesting d))
  kind_nesting (value e) = nesting e

  pub arms_nesting : Arms → ℕ
  arms_nesting no_arms = 0
  arms_nesting (arm e b rest) = max (suc (max (nesting e) (block_nesting b))) (arms_nesting rest)

  pub else_nesting : Else → ℕ
  else_nesting no_else = 0
  else_nesting (else_ b) = suc (block_nesting b)

  pub block_nesting : Block → ℕ
  block_nesting no_more = 0
  block_nesting (then_ k line rest) = max (kind_nesting k) (block_nesting rest)

abbrev pub functions_nesting : List Function → ℕ
functions_nesting [] = 0
functions_nesting (f ∷ fs) = max (suc (block_nesting f.body)) (functions_nesting fs)

abbrev pub script_nesting : Script → ℕ
script_nesting tree = max (functions_nesting tree.functions) (block_nesting tree.statements)

-- how many parentheses, braces, prefixes and branches may be open at once
abbrev pub nesting_limit : ℕ
nesting_limit = 32

-- The tokens are this script, and its nesting is within the limit.
pub record HasTree (ts : Lexemes) (tree : Script) : Type 0 where
  pub derived : IsScript ts tree
  pub shallow : script_nesting tree ≤ nesting_limit

-- Tokens are at most one script.
abbrev pub OneTree : Type 0
OneTree = (ts : Lexemes) (one other : Script) → IsScript ts one → IsScript ts other → one ≡ other
