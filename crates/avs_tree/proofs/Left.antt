-- An expression from its left end: a first operand, and what continues it.
use Rattle.std.proofs.Common.{◌≡◌, ℕ, ◌-◌, ◌<◌, ◌≤◌, arith}
use Rattle.avs_tree.specs.Lexeme.{Lexemes, precedence_of}
use Rattle.avs_tree.specs.Tree.{Expr, int, bool, str, call, method_calls, minus, not_, chain, compare, conditional, group, MethodCalls, Steps, no_steps, step}
use Rattle.avs_tree.specs.Tree as t
use Rattle.avs_tree.specs.Grammar.{IsAt, IsPunctuation, HasMethodCall, Derives, DerivesSteps, DerivesMethodCalls, Chains, precedence_of_steps}
use Rattle.avs_tree.specs.declared.symbol.Symbol.TheVariants as s
use Rattle.avs_tree.specs.declared.symbol.Punctuation.TheVariants as m
use Rattle.avs_tree.specs.declared.tree.Operator.{Operator}
use Rattle.avs_tree.specs.declared.tree.Operator.TheVariants as o

-- The expression e, of precedence k, with these tokens after it is one of precedence r at most.
pub data Grows : ℕ → ℕ → Expr → Lexemes → Lexemes → Expr → Type 0 where
  grown : {k r : ℕ} {e : Expr} {ts : Lexemes} → Grows k r e ts ts e
  by_methods : {k r : ℕ} {e e' : Expr} {ts us : Lexemes} (ds : MethodCalls) (vs : Lexemes) → k < 1 → 1 ≤ r → HasMethodCall ds → DerivesMethodCalls ds ts vs
      → Grows 1 r (method_calls e ds) vs us e' → Grows k r e ts us e'
  by_chain : {k r : ℕ} {e e' : Expr} {ts us : Lexemes} (ss : Steps) (vs : Lexemes) → k < precedence_of_steps ss → precedence_of_steps ss ≤ r → Chains ss
      → DerivesSteps (precedence_of_steps ss) ss ts vs → Grows (precedence_of_steps ss) r (chain e ss) vs us e' → Grows k r e ts us e'
  by_compare : {k r : ℕ} {e e' : Expr} {ts us : Lexemes} (op : Operator) (b : Expr) (line : ℕ) (vs ws : Lexemes) → k < 5 → 5 ≤ r → precedence_of op ≡ 5
      → IsAt (s.Operator op) line ts vs → Derives 4 b vs ws → Grows 5 r (compare op e b line) ws us e' → Grows k r e ts us e'
  by_question : {k r : ℕ} {e e' : Expr} {ts us : Lexemes} (a b : Expr) (line : ℕ) (vs ws xs ys : Lexemes) → k < 8 → 8 ≤ r → IsAt (s.Punctuation m.Question) line ts vs
      → Derives 8 a vs ws → IsPunctuation m.Colon ws xs → Derives 8 b xs ys → Grows 8 r (conditional e a b line) ys us e' → Grows k r e ts us e'

pub lower : {k k' r : ℕ} {e e' : Expr} {ts us : Lexemes} → k ≤ k' → Grows k' r e ts us e' → Grows k r e ts us e'
lower le grown = grown
lower le (by_methods ds vs a b c d g) = by_methods ds vs (omega arith) b c d g
lower le (by_chain ss vs a b c d g) = by_chain ss vs (omega arith) b c d g
lower le (by_compare op x line vs ws a b c d h g) = by_compare op x line vs ws (omega arith) b c d h g
lower le (by_question x y line vs ws xs ys a b c d h i g) = by_question x y line vs ws xs ys (omega arith) b c d h i g

-- one growth after another
pub then_grows : {k p k' r : ℕ} {e e' e'' : Expr} {ts vs us : Lexemes} → k ≤ k' → p ≤ k' → p ≤ r → Grows k p e ts vs e' → Grows k' r e' vs us e'' → Grows k r e ts us e''
then_grows le le' low grown more = lower le more
then_grows le le' low (by_methods ds vs a b c d g) more = by_methods ds vs a (omega arith) c d (then_grows (omega arith) le' low g more)
then_grows le le' low (by_chain ss vs a b c d g) more = by_chain ss vs a (omega arith) c d (then_grows (omega arith) le' low g more)
then_grows le le' low (by_compare op x line vs ws a b c d h g) more = by_compare op x line vs ws a (omega arith) c d h (then_grows (omega arith) le' low g more)
then_grows le le' low (by_question x y line vs ws xs ys a b c d h i g) more = by_question x y line vs ws xs ys a (omega arith) c d h i (then_grows (omega arith) le' low g more)

pub positive : (op : Operator) → 3 ≤ precedence_of op
positive o.Times = omega arith
positive o.Divide = omega arith
positive o.Remainder = omega arith
positive o.Plus = omega arith
positive o.Minus = omega arith
positive o.PlusPlus = omega arith
positive o.Equal = omega arith
positive o.NotEqual = omega arith
positive o.Less = omega arith
positive o.LessEqual = omega arith
positive o.Greater = omega arith
positive o.GreaterEqual = omega arith
positive o.And = omega arith
positive o.Or = omega arith

pub steps_positive : (ss : Steps) → Chains ss → 3 ≤ precedence_of_steps ss
steps_positive no_steps h = absurd h
steps_positive (step op e line ss) h = positive op

-- What is derived at a precedence is derived at each higher one.
pub raise : (r r' : ℕ) (e : Expr) (ts us : Lexemes) → r ≤ r' → Derives r e ts us → Derives r' e ts us
raise r r' (int n) ts us le h = h
raise r r' (bool b) ts us le h = h
raise r r' (str x) ts us le h = h
raise r r' (t.name x line) ts us le h = h
raise r r' (call x es line) ts us le h = h
raise r r' (group e) ts us le h = h
raise r r' (method_calls e ds) ts us le (low, calls_read, vs, a, b) = (omega arith, calls_read, vs, a, b)
raise r r' (minus e line) ts us le (low, vs, a, b) = (omega arith, vs, a, b)
raise r r' (not_ e line) ts us le (low, vs, a, b) = (omega arith, vs, a, b)
raise r r' (chain e ss) ts us le (low, chains, vs, a, b) = (omega arith, chains, vs, a, b)
raise r r' (compare op x y line) ts us le (low, is, vs, ws, a, b, c) = (omega arith, is, vs, ws, a, b, c)
raise r r' (conditional x y z line) ts us le (low, vs, ws, xs, ys, a, b, c, d, e) = (omega arith, vs, ws, xs, ys, a, b, c, d, e)

-- the first operand of an expression, or the sign before it
pub data Front : ℕ → Lexemes → Lexemes → Expr → Type 0 where
  primary : {r : ℕ} {ts us : Lexemes} {e' : Expr} (e : Expr) (vs : Lexemes) → Derives 0 e ts vs → Grows 0 r e vs us e' → Front r ts us e'
  by_minus : {r : ℕ} {ts us : Lexemes} {e' : Expr} (e : Expr) (line : ℕ) (vs ws : Lexemes) → 2 ≤ r → IsAt (s.Operator o.Minus) line ts vs → Derives 2 e vs ws
      → Grows 2 r (minus e line) ws us e' → Front r ts us e'
  by_not : {r : ℕ} {ts us : Lexemes} {e' : Expr} (e : Expr) (line : ℕ) (vs ws : Lexemes) → 2 ≤ r → IsAt (s.Punctuation m.Not) line ts vs → Derives 2 e vs ws
      → Grows 2 r (not_ e line) ws us e' → Front r ts us e'

extend : {p k r : ℕ} {ts vs us : Lexemes} {e e' : Expr} → p ≤ k → p ≤ r → Front p ts vs e → Grows k r e vs us e' → Front r ts us e'
extend le low (primary e vs d g) more = primary e vs d (then_grows (omega arith) le low g more)
extend le low (by_minus e line vs ws two is d g) more = by_minus e line vs ws (omega arith) is d (then_grows (omega arith) le low g more)
extend le low (by_not e line vs ws two is d g) more = by_not e line vs ws (omega arith) is d (then_grows (omega arith) le low g more)

pub front : (r : ℕ) (e : Expr) (ts us : Lexemes) → Derives r e ts us → Front r ts us e
front r (int n) ts us h = primary (int n) us h grown
front r (bool b) ts us h = primary (bool b) us h grown
front r (str x) ts us h = primary (str x) us h grown
front r (t.name x line) ts us h = primary (t.name x line) us h grown
front r (call x es line) ts us h = primary (call x es line) us h grown
front r (group e) ts us h = primary (group e) us h grown
front r (method_calls e ds) ts us (low, calls_read, vs, a, b) = extend {k = 0} (omega arith) (omega arith) (front 0 e ts vs a) (by_methods ds us (omega arith) low calls_read b grown)
front r (minus e line) ts us (low, vs, a, b) = by_minus e line vs us low a b grown
front r (not_ e line) ts us (low, vs, a, b) = by_not e line vs us low a b grown
front r (chain e ss) ts us (low, chains, vs, a, b) =
    let some = steps_positive ss chains in
    extend {k = precedence_of_steps ss - 1} (omega arith) (omega arith) (front (precedence_of_steps ss - 1) e ts vs a) (by_chain ss us (omega arith) low chains b grown)
front r (compare op x y line) ts us (low, is, vs, ws, a, b, c) = extend {k = 4} (omega arith) (omega arith) (front 4 x ts vs a) (by_compare op y line ws us (omega arith) low is b c grown)
front r (conditional x y z line) ts us (low, vs, ws, xs, ys, a, b, c, d, e) =
    extend {k = 7} (omega arith) (omega arith) (front 7 x ts vs a) (by_question y z line ws xs ys us (omega arith) low b c d e grown)

-- and back
pub derived : {k r : ℕ} {e e' : Expr} {vs us : Lexemes} (ts : Lexemes) → k ≤ r → Derives k e ts vs → Grows k r e vs us e' → Derives r e' ts us
derived {k = k} {r = r} {e = e} {vs = vs} ts le d grown = raise k r e ts vs le d
derived {k = k} {e = e} {vs = vs} ts le d (by_methods ds ws a b c h g) = derived ts b (omega arith, c, vs, raise k 0 e ts vs (omega arith) d, h) g
derived {k = k} {e = e} {vs = vs} ts le d (by_chain ss ws a b c h g) =
    derived ts b (omega arith, c, vs, raise k (precedence_of_steps ss - 1) e ts vs (omega arith) d, h) g
derived {k = k} {e = e} {vs = vs} ts le d (by_compare op x line ws xs a b c h i g) =
    derived ts b (omega arith, c, vs, ws, raise k 4 e ts vs (omega arith) d, h, i) g
derived {k = k} {e = e} {vs = vs} ts le d (by_question x y line ws xs ys zs a b c h i j g) =
    derived ts b (omega arith, vs, ws, xs, ys, raise k 7 e ts vs (omega arith) d, c, h, i, j) g
