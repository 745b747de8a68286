-- Statements have no more expressions than tokens.
use Rattle.std.proofs.Common.{◌≡◌, ap, ℕ, suc, ◌+◌, ◌<◌, ◌≤◌, arith, Bool, true, false, inl, inr, List, [], ◌∷◌, length, Option, Some, None}
use Rattle.avs_lex.specs.Spelling.{Text}
use Rattle.avs_tree.specs.Lexeme.{Lexemes}
use Rattle.avs_tree.specs.Tree.{Expr, int, bool, str, name, call, method_calls, minus, not_, chain, compare, conditional, group, Args, no_args, arg, MethodCalls, no_method_calls, method, method_call, Steps, no_steps, step, Kind, global, assign, return, if_, while, for, value, Arms, no_arms, arm, Else, no_else, else_, Block, no_more, then_, Function, Script, ends_with_brace}
use Rattle.avs_tree.specs.Grammar.{IsAt, Is, IsName, Labels, Chains, HasMethodCall, Derives, DerivesSteps, DerivesMethodCalls, DerivesArgs, DerivesMoreArgs, Newlines, Separates, Condition, Braces, ForStep, ForHead, DerivesKind, DerivesElseIfs, DerivesElse, DerivesAll, ParameterName, DerivesParameter, MoreParameters, Parameters, DerivesFunction, Items, no_items, function_then, statement_then, functions_of, statements_of, DerivesItems, IsScript}
use Rattle.avs_tree.specs.Sizes.{size, steps_size, method_calls_size, args_size, step_size, arms_size, IsShort, ArmsAreShort, IsElseShort, AreShort, FunctionsAreShort, IsScriptShort}
use Rattle.avs_tree.specs.declared.symbol.Symbol.{Symbol}
use Rattle.avs_tree.specs.declared.tree.Parameter.{Parameter}

-- ---- tokens

at_token : (symbol : Symbol) (line : ℕ) (ts us : Lexemes) → IsAt symbol line ts us → length ts ≡ suc (length us)
at_token symbol line ts us (x, is) = ap length is

token : (symbol : Symbol) (ts us : Lexemes) → Is symbol ts us → length ts ≡ suc (length us)
token symbol ts us (line, is) = at_token symbol line ts us is

named : (x : Text) (ts us : Lexemes) → IsName x ts us → length ts ≡ suc (length us)
named x ts us (line, is) = ap length is

labelled : (x : Option Text) (ts us : Lexemes) → Labels x ts us → length us ≤ length ts
labelled None ts us is = let same = ap length is in omega (arith, same)
labelled (Some x) ts us (vs, is, sign) = omega (arith, named x ts vs is, token _ vs us sign)

newlines : (ts us : Lexemes) → Newlines ts us → length us ≤ length ts
newlines [] us is = let same = ap length is in omega (arith, same)
newlines (t ∷ ts) us (inl is) = let same = ap length is in omega (arith, same)
newlines (t ∷ ts) us (inr (is, more)) = let rest = newlines ts us more in omega (arith, rest)

separated : (ended : Bool) (ts us : Lexemes) → Separates ended ts us → length us ≤ length ts
separated ended ts us (inl (vs, newline, more)) = omega (arith, token _ ts vs newline, newlines vs us more)
separated ended ts us (inr (or, is)) = let same = ap length is in omega (arith, same)

-- ---- expressions

mutual
  size_fits : (e : Expr) (r : ℕ) (ts us : Lexemes) → Derives r e ts us → length us + size e ≤ length ts
  size_fits (int n) r ts us is = omega (arith, token _ ts us is)
  size_fits (bool b) r ts us is = omega (arith, token _ ts us is)
  size_fits (str x) r ts us (line, is) = let one = ap length is in omega (arith, one)
  size_fits (name x line) r ts us is = let one = ap length is in omega (arith, one)
  size_fits (call x es line) r ts us (vs, ws, is, left, args) = let one = ap length is in omega (arith, one, token _ vs ws left, args_fit es ws us args)
  size_fits (group e) r ts us (vs, ws, left, is, right) = omega (arith, token _ ts vs left, size_fits e 8 vs ws is, token _ ws us right)
  size_fits (method_calls e ds) r ts us (low, some, vs, is, calls) = omega (arith, size_fits e 0 ts vs is, (calls_fit ds vs us calls).1 some)
  size_fits (minus e line) r ts us (low, vs, sign, is) = omega (arith, at_token _ line ts vs sign, size_fits e 2 vs us is)
  size_fits (not_ e line) r ts us (low, vs, sign, is) = omega (arith, at_token _ line ts vs sign, size_fits e 2 vs us is)
  size_fits (chain e ss) r ts us (low, some, vs, is, steps) = omega (arith, size_fits e _ ts vs is, (steps_fit ss _ vs us steps).1 some)
  size_fits (compare op a b line) r ts us (low, level, vs, ws, left, sign, right) =
      omega (arith, size_fits a 4 ts vs left, at_token _ line vs ws sign, size_fits b 4 ws us right)
  size_fits (conditional c a b line) r ts us (low, vs, ws, xs, ys, test, question, one, colon, other) =
      omega (arith, size_fits c 7 ts vs test, at_token _ line vs ws question, size_fits a 8 ws xs one, token _ xs ys colon, size_fits b 8 ys us other)

  steps_fit : (ss : Steps) (r : ℕ) (ts us : Lexemes) → DerivesSteps r ss ts us
      → (length us + steps_size ss ≤ length ts) × (Chains ss → length us + steps_size ss < length ts)
  steps_fit no_steps r ts us is = let same = ap length is in (omega (arith, same), λ some. absurd some)
  steps_fit (step op e line ss) r ts us (level, vs, ws, sign, is, rest) =
      let fits : length us + (size e + steps_size ss) < length ts = omega (arith, at_token _ line ts vs sign, size_fits e _ vs ws is, (steps_fit ss r ws us rest).0) in
      (omega (arith, fits), λ some. fits)

  calls_fit : (ds : MethodCalls) (ts us : Lexemes) → DerivesMethodCalls ds ts us
      → (length us + method_calls_size ds ≤ length ts) × (HasMethodCall ds → length us + method_calls_size ds < length ts)
  calls_fit no_method_calls ts us is = let same = ap length is in (omega (arith, same), λ some. absurd some)
  calls_fit (method x line ds) ts us (vs, ws, dot, is, rest) =
      let one = ap length is in
      let fits : length us + suc (method_calls_size ds) < length ts = omega (arith, token _ ts vs dot, one, (calls_fit ds ws us rest).0) in
      (omega (arith, fits), λ some. fits)
  calls_fit (method_call x es line ds) ts us (vs, ws, xs, ys, dot, is, left, args, rest) =
      let one = ap length is in
      let fits : length us + suc (args_size es + method_calls_size ds) < length ts =
      omega (arith, token _ ts vs dot, one, token _ ws xs left, args_fit es xs ys args, (calls_fit ds ys us rest).0)
      in
      (omega (arith, fits), λ some. fits)

  args_fit : (es : Args) (ts us : Lexemes) → DerivesArgs es ts us → length us + args_size es < length ts
  args_fit no_args ts us is = omega (arith, token _ ts us is)
  args_fit (arg x e es) ts us (vs, ws, label, is, rest) = omega (arith, labelled x ts vs label, size_fits e 8 vs ws is, more_args_fit es ws us rest)

  more_args_fit : (es : Args) (ts us : Lexemes) → DerivesMoreArgs es ts us → length us + args_size es < length ts
  more_args_fit no_args ts us is = omega (arith, token _ ts us is)
  more_args_fit (arg x e es) ts us (vs, ws, xs, comma, label, is, rest) =
      omega (arith, token _ ts vs comma, labelled x vs ws label, size_fits e 8 ws xs is, more_args_fit es xs us rest)

-- ---- statements: each ends before the last token, and is short where there are so many tokens and one more

abbrev Fits : ℕ → Type 0 → Lexemes → Lexemes → Type 0
Fits most Short ts us = (length us ≤ length ts) × (0 < length us → length ts ≤ suc most → Short)

condition_fits : (e : Expr) (ts us : Lexemes) → Condition e ts us → length us + size e < length ts
condition_fits e ts us (vs, ws, left, is, right) = omega (arith, token _ ts vs left, size_fits e 8 vs ws is, token _ ws us right)

module _ (most : ℕ) where
  braces_fit : (Inside : Lexemes → Lexemes → Type 0) (Short : Type 0) → ((ts us : Lexemes) → Inside ts us → Fits most Short ts us)
      → (ts us : Lexemes) → Braces Inside ts us → (length us < length ts) × (length ts ≤ suc most → Short)
  braces_fit Inside Short fits ts us (t1, t2, t3, t4, blank, left, more, is, right) =
      let inside = fits t3 t4 is in
      let first = newlines ts t1 blank in
      let opens = token _ t1 t2 left in
      let next = newlines t2 t3 more in
      let close = token _ t4 us right in
      let shrinks = inside.0 in
      (omega (arith, first, opens, next, close, shrinks), λ few. inside.1 (omega (arith, close)) (omega (arith, first, opens, next, few)))

  step_fits : (c : Option Expr) (ts us : Lexemes) → ForStep c ts us → length us + step_size c ≤ length ts
  step_fits None ts us is = let same = ap length is in omega (arith, same)
  step_fits (Some e) ts us (vs, comma, is) = omega (arith, token _ ts vs comma, size_fits e 8 vs us is)

  head_fits : (x : Text) (a b : Expr) (c : Option Expr) (ts us : Lexemes) → ForHead x a b c ts us → length us + (size a + (size b + step_size c)) < length ts
  head_fits x a b c ts us (t1, t2, t3, t4, t5, t6, t7, left, is, sign, first, comma, last, by, right) =
      omega (arith, token _ ts t1 left, named x t1 t2 is, token _ t2 t3 sign, size_fits a 8 t3 t4 first, token _ t4 t5 comma, size_fits b 8 t5 t6 last, step_fits c t6 t7 by, token _ t7 us right)

  expression_fits : (e : Expr) (ts us : Lexemes) → length us + size e ≤ length ts → Fits most (size e ≤ most) ts us
  expression_fits e ts us fits = (omega (arith, fits), λ some few. omega (arith, fits, some, few))

  mutual
    kind_fits : (k : Kind) (ts us : Lexemes) → DerivesKind k ts us → Fits most (IsShort most k) ts us
    kind_fits (global x e) ts us (t1, t2, t3, word, x_is, sign, is) =
        expression_fits e ts us (omega (arith, token _ ts t1 word, named x t1 t2 x_is, token _ t2 t3 sign, size_fits e 8 t3 us is))
    kind_fits (assign x e) ts us (t1, t2, x_is, sign, is) = expression_fits e ts us (omega (arith, named x ts t1 x_is, token _ t1 t2 sign, size_fits e 8 t2 us is))
    kind_fits (return e) ts us (t1, word, is) = expression_fits e ts us (omega (arith, token _ ts t1 word, size_fits e 8 t1 us is))
    kind_fits (if_ no_arms other) ts us is = absurd is
    kind_fits (if_ (arm e b rest) other) ts us (t1, t2, t3, t4, word, test, body, more, last) =
        let one = token _ ts t1 word in
        let first = condition_fits e t1 t2 test in
        let inner = braces_fit _ (AreShort most b) (λ vs ws. block_fits b vs ws) t2 t3 body in
        let arms = arms_fit rest t3 t4 more in
        let end = else_fits other t4 us last in (
          omega (arith, one, first, inner.0, arms.0, end.0),
          λ some few. (
            omega (arith, one, first, inner.0, arms.0, end.0, some, few),
            (inner.1 (omega (arith, one, first, few)), arms.1 (omega (arith, one, first, inner.0, few))),
            end.1 some (omega (arith, one, first, inner.0, arms.0, few)),
          ),
        )
    kind_fits (while e b) ts us (t1, t2, word, test, body) =
        let one = token _ ts t1 word in
        let first = condition_fits e t1 t2 test in
        let inner = braces_fit _ (AreShort most b) (λ vs ws. block_fits b vs ws) t2 us body in
        (omega (arith, one, first, inner.0), λ some few. (omega (arith, one, first, inner.0, few), inner.1 (omega (arith, one, first, few))))
    kind_fits (for x a b c d) ts us (t1, t2, word, head, body) =
        let one = token _ ts t1 word in
        let first = head_fits x a b c t1 t2 head in
        let inner = braces_fit _ (AreShort most d) (λ vs ws. block_fits d vs ws) t2 us body in
        (omega (arith, one, first, inner.0), λ some few. (omega (arith, one, first, inner.0, few), inner.1 (omega (arith, one, first, few))))
    kind_fits (value e) ts us is = expression_fits e ts us (size_fits e 8 ts us is)

    -- the conditions too
    arms_fit : (arms : Arms) (ts us : Lexemes) → DerivesElseIfs arms ts us → (length us + arms_size arms ≤ length ts) × (length ts ≤ suc most → ArmsAreShort most arms)
    arms_fit no_arms ts us is = let same = ap length is in (omega (arith, same), λ few. tt)
    arms_fit (arm e b rest) ts us (t1, t2, t3, t4, t5, blank, word, sign, test, body, more) =
        let first = newlines ts t1 blank in
        let one = token _ t1 t2 word in
        let two = token _ t2 t3 sign in
        let condition = condition_fits e t3 t4 test in
        let inner = braces_fit _ (AreShort most b) (λ vs ws. block_fits b vs ws) t4 t5 body in
        let arms = arms_fit rest t5 us more in (
          omega (arith, first, one, two, condition, inner.0, arms.0),
          λ few. (inner.1 (omega (arith, first, one, two, condition, few)), arms.1 (omega (arith, first, one, two, condition, inner.0, few))),
        )

    else_fits : (other : Else) (ts us : Lexemes) → DerivesElse other ts us → Fits most (IsElseShort most other) ts us
    else_fits no_else ts us is = let same = ap length is in (omega (arith, same), λ some few. tt)
    else_fits (else_ b) ts us (t1, t2, blank, word, body) =
        let first = newlines ts t1 blank in
        let one = token _ t1 t2 word in
        let inner = braces_fit _ (AreShort most b) (λ vs ws. block_fits b vs ws) t2 us body in
        (omega (arith, first, one, inner.0), λ some few. inner.1 (omega (arith, first, one, few)))

    block_fits : (b : Block) (ts us : Lexemes) → DerivesAll b ts us → Fits most (AreShort most b) ts us
    block_fits no_more ts us is = let same = ap length is in (omega (arith, same), λ some few. tt)
    block_fits (then_ k line rest) ts us (begins, t1, t2, is, apart, more) =
        let first = kind_fits k ts t1 is in
        let next = separated (ends_with_brace k) t1 t2 apart in
        let last = block_fits rest t2 us more in
        (omega (arith, first.0, next, last.0), λ some few. (first.1 (omega (arith, next, last.0, some)) few, last.1 some (omega (arith, first.0, next, few))))

  -- ---- scripts

  parameter_name : (optional : Bool) (x : Text) (ts us : Lexemes) → ParameterName optional x ts us → length us ≤ length ts
  parameter_name false x ts us is = omega (arith, named x ts us is)
  parameter_name true x ts us (word, (line, is)) = let one = ap length is in omega (arith, one)

  parameter : (p : Parameter) (ts us : Lexemes) → DerivesParameter p ts us → length us ≤ length ts
  parameter p ts us (x, vs, word, kind, is) = omega (arith, named x ts vs word, parameter_name p.optional p.name vs us is)

  more_parameters : (must : Bool) (ps : List Parameter) (ts us : Lexemes) → MoreParameters must ps ts us → length us ≤ length ts
  more_parameters must [] ts us is = let same = ap length is in omega (arith, same)
  more_parameters must (p ∷ ps) ts us (later, vs, ws, comma, is, rest) =
      omega (arith, token _ ts vs comma, parameter p vs ws is, more_parameters p.optional ps ws us rest)

  parameters : (ps : List Parameter) (ts us : Lexemes) → Parameters ps ts us → length us ≤ length ts
  parameters [] ts us is = let same = ap length is in omega (arith, same)
  parameters (p ∷ ps) ts us (vs, is, rest) = omega (arith, parameter p ts vs is, more_parameters p.optional ps vs us rest)

  function_fits : (f : Function) (ts us : Lexemes) → DerivesFunction f ts us → (length us ≤ length ts) × (length ts ≤ suc most → AreShort most f.body)
  function_fits f ts us (begins, t1, t2, t3, t4, t5, word, is, left, params, right, body) =
      let one = token _ ts t1 word in
      let two = named f.name t1 t2 is in
      let opens = token _ t2 t3 left in
      let more = parameters f.params t3 t4 params in
      let close = token _ t4 t5 right in
      let inner = braces_fit _ (AreShort most f.body) (λ vs ws. block_fits f.body vs ws) t5 us body in
      (omega (arith, one, two, opens, more, close, inner.0), λ few. inner.1 (omega (arith, one, two, opens, more, close, few)))

  items_fit : (items : Items) (ts us : Lexemes) → DerivesItems items ts us
      → Fits most (FunctionsAreShort most (functions_of items) × AreShort most (statements_of items)) ts us
  items_fit no_items ts us is = let same = ap length is in (omega (arith, same), λ some few. (tt, tt))
  items_fit (function_then f rest) ts us (t1, t2, is, apart, more) =
      let first = function_fits f ts t1 is in
      let next = separated _ t1 t2 apart in
      let last = items_fit rest t2 us more in
      (omega (arith, first.0, next, last.0), λ some few. let others = last.1 some (omega (arith, first.0, next, few)) in ((first.1 few, others.0), others.1))
  items_fit (statement_then k line rest) ts us (begins, t1, t2, is, apart, more) =
      let first = kind_fits k ts t1 is in
      let next = separated (ends_with_brace k) t1 t2 apart in
      let last = items_fit rest t2 us more in (
        omega (arith, first.0, next, last.0),
        λ some few. let others = last.1 some (omega (arith, first.0, next, few)) in (others.0, (first.1 (omega (arith, next, last.0, some)) few, others.1)),
      )

  -- of tokens that are a script, of which the last is its end
  pub script_fits : (ts : Lexemes) (tree : Script) → IsScript ts tree → length ts ≤ suc most → IsScriptShort most tree
  script_fits ts tree h few =
      let blank = newlines ts h.start h.blank in
      let end = token _ h.end [] h.ended in
      let all = (items_fit h.items h.start h.end h.derived).1 (omega (arith, end)) (omega (arith, blank, few)) in
      (rw (← h.functions) all.0, rw (← h.statements) all.1)

-- ---- what is short is so for more

module _ (m n : ℕ) (le : m ≤ n) where
  mutual
    pub kind_shorter : (k : Kind) → IsShort m k → IsShort n k
    kind_shorter (global x e) few = omega (arith, few, le)
    kind_shorter (assign x e) few = omega (arith, few, le)
    kind_shorter (return e) few = omega (arith, few, le)
    kind_shorter (if_ arms other) (few, inner, last) = (omega (arith, few, le), arms_shorter arms inner, else_shorter other last)
    kind_shorter (while e b) (few, inner) = (omega (arith, few, le), block_shorter b inner)
    kind_shorter (for x a b c d) (few, inner) = (omega (arith, few, le), block_shorter d inner)
    kind_shorter (value e) few = omega (arith, few, le)

    arms_shorter : (arms : Arms) → ArmsAreShort m arms → ArmsAreShort n arms
    arms_shorter no_arms few = tt
    arms_shorter (arm e b rest) (inner, more) = (block_shorter b inner, arms_shorter rest more)

    else_shorter : (other : Else) → IsElseShort m other → IsElseShort n other
    else_shorter no_else few = tt
    else_shorter (else_ b) few = block_shorter b few

    pub block_shorter : (b : Block) → AreShort m b → AreShort n b
    block_shorter no_more few = tt
    block_shorter (then_ k line rest) (first, more) = (kind_shorter k first, block_shorter rest more)

  pub functions_shorter : (fs : List Function) → FunctionsAreShort m fs → FunctionsAreShort n fs
  functions_shorter [] few = tt
  functions_shorter (f ∷ fs) (first, more) = (block_shorter f.body first, functions_shorter fs more)

  pub script_shorter : (tree : Script) → IsScriptShort m tree → IsScriptShort n tree
  script_shorter tree (functions, statements) = (functions_shorter tree.functions functions, block_shorter tree.statements statements)
