-- The words of an expression are read again as that expression, apart from lines.
use Rattle.std.proofs.Common.{◌≡◌, refl, ap, ◌∙◌, ℕ, ◌-◌, ◌<◌, true, false, [], ◌∷◌, ◌++◌, length, length-append, arith}
use Rattle.avs_lex.specs.declared.token.TokenKind.TheVariants as k
use Rattle.avs_lex.specs.Spelling.{spelling}
use Rattle.avs_tree.specs.Lexeme.{Lexemes}
use Rattle.avs_tree.specs.Tree.{Expr, int, bool, str, call, method_calls, minus, not_, chain, compare, conditional, group, Args, no_args, arg, MethodCalls, no_method_calls, method, method_call, Steps, no_steps, step}
use Rattle.avs_tree.specs.Tree as t
use Rattle.avs_tree.specs.Grammar.{IsPunctuation, Chains, precedence_of_steps, HasMethodCall, Derives, DerivesSteps, DerivesMethodCalls, DerivesArgs, DerivesMoreArgs, truth}
use Rattle.avs_tree.specs.declared.symbol.Punctuation.TheVariants as m
use Rattle.avs_print.specs.WithoutLines.{without_lines, args_without_lines, method_calls_without_lines, steps_without_lines}
use Rattle.avs_print.specs.Printed.{word_as, ident, punctuation, keyword, quoted, number, operator_kind, label_words, expr_words, args_words, method_calls_words, steps_words}
use Rattle.avs_print.proofs.Plain.{Plain, PlainSteps, PlainMethodCalls, PlainArgs}
use Rattle.avs_print.proofs.Shows.{Shows, ShowsOne, shows_both, shows_last, is_shown, operator_shown, named_shown, said_shown, keyword_shown, label_shown}

pub record Again (r : ℕ) (e : Expr) (ts us : Lexemes) : Type 0 where
  pub tree : Expr
  pub derived : Derives r tree ts us
  pub same : without_lines tree ≡ without_lines e

record AgainSteps (r : ℕ) (ss : Steps) (ts us : Lexemes) : Type 0 where
  tree : Steps
  derived : DerivesSteps r tree ts us
  same : steps_without_lines tree ≡ steps_without_lines ss
  precedence : precedence_of_steps tree ≡ precedence_of_steps ss
  chains : Chains ss → Chains tree

record AgainMethodCalls (ds : MethodCalls) (ts us : Lexemes) : Type 0 where
  tree : MethodCalls
  derived : DerivesMethodCalls tree ts us
  same : method_calls_without_lines tree ≡ method_calls_without_lines ds
  calls : HasMethodCall ds → HasMethodCall tree

-- the first argument has no comma before it
record AgainArgs (es : Args) (ts us : Lexemes) : Type 0 where
  tree : Args
  derived : DerivesArgs tree ts us
  same : args_without_lines tree ≡ args_without_lines es

record AgainMore (es : Args) (ts us : Lexemes) : Type 0 where
  tree : Args
  derived : DerivesMoreArgs tree ts us
  same : args_without_lines tree ≡ args_without_lines es

pub ap_two : {A B C : Type 0} (f : A → B → C) {a a' : A} {b b' : B} → a ≡ a' → b ≡ b' → f a b ≡ f a' b'
ap_two f {a = a} {b' = b'} one two = ap (f a) two ∙ ap (λ z. f z b') one

pub left_shown : (ts us : Lexemes) → ShowsOne (punctuation k.LeftParen) ts us → IsPunctuation m.LeftParen ts us
left_shown = is_shown k.LeftParen (spelling k.LeftParen)

pub right_shown : (ts us : Lexemes) → ShowsOne (punctuation k.RightParen) ts us → IsPunctuation m.RightParen ts us
right_shown = is_shown k.RightParen (spelling k.RightParen)

pub comma_shown : (ts us : Lexemes) → ShowsOne (punctuation k.Comma) ts us → IsPunctuation m.Comma ts us
comma_shown = is_shown k.Comma (spelling k.Comma)

dot_shown : (ts us : Lexemes) → ShowsOne (punctuation k.Dot) ts us → IsPunctuation m.Dot ts us
dot_shown = is_shown k.Dot (spelling k.Dot)

mutual
  pub again : (e : Expr) (r : ℕ) → Plain r e → (ts us : Lexemes) → Shows (expr_words e) ts us → Again r e ts us
  again (int n) r p ts us h = record { tree = int n; derived = is_shown (k.Int n) (number n) ts us (shows_last (word_as (k.Int n) (number n)) ts us h); same = refl }
  again (bool b) r p ts us h = record { tree = bool b; derived = keyword_shown (truth b) ts us (shows_last (keyword (truth b)) ts us h); same = refl }
  again (str x) r p ts us h = record { tree = str x; derived = said_shown x ts us p (shows_last (word_as k.Str (quoted x)) ts us h); same = refl }
  again (t.name x line) r p ts us h = let is = named_shown x ts us p (shows_last (ident x) ts us h) in record { tree = t.name x is.0; derived = is.1; same = refl }
  again (call x es line) r (named, plain) ts us (v1, one, (v2, left, h)) =
      let is = named_shown x ts v1 named one in
      let inside = shows_both (args_words true es) (punctuation k.RightParen ∷ []) v2 us h in
      let args = again_args es plain v2 inside.0 us inside.1 (right_shown inside.0 us (shows_last (punctuation k.RightParen) inside.0 us inside.2)) in
      record { tree = call x args.tree is.0; derived = (v1, v2, is.1, left_shown v1 v2 left, args.derived); same = ap (λ z. call x z 0) args.same }
  again (method_calls e ds) r (low, calls, p, q) ts us h =
      let parts = shows_both (expr_words e) (method_calls_words ds) ts us h in
      let first = again e 0 p ts parts.0 parts.1 in
      let rest = again_method_calls ds q parts.0 us parts.2 in
      record { tree = method_calls first.tree rest.tree; derived = (low, rest.calls calls, parts.0, first.derived, rest.derived); same = ap_two method_calls first.same rest.same }
  again (minus e line) r (low, p) ts us (v1, one, h) =
      let is = is_shown k.Minus (spelling k.Minus) ts v1 one in
      let inside = again e 2 p v1 us h in
      record { tree = minus inside.tree is.0; derived = (low, v1, is.1, inside.derived); same = ap (λ z. minus z 0) inside.same }
  again (not_ e line) r (low, p) ts us (v1, one, h) =
      let is = is_shown k.Not (spelling k.Not) ts v1 one in
      let inside = again e 2 p v1 us h in
      record { tree = not_ inside.tree is.0; derived = (low, v1, is.1, inside.derived); same = ap (λ z. not_ z 0) inside.same }
  again (chain e ss) r (low, chains, p, q) ts us h =
      let parts = shows_both (expr_words e) (steps_words ss) ts us h in
      let first = again e (precedence_of_steps ss - 1) p ts parts.0 parts.1 in
      let rest = again_steps (precedence_of_steps ss) ss q parts.0 us parts.2 in
      record {
        tree = chain first.tree rest.tree;
        derived = (rw rest.precedence low, rest.chains chains, parts.0, rw rest.precedence first.derived, rw rest.precedence rest.derived);
        same = ap_two chain first.same rest.same;
      }
  again (compare op a b line) r (low, five, p, q) ts us h =
      let parts = shows_both (expr_words a) (punctuation (operator_kind op) ∷ expr_words b) ts us h in
      let first = again a 4 p ts parts.0 parts.1 in
      let after = parts.2 in
      let is = operator_shown op parts.0 after.0 after.1 in
      let second = again b 4 q after.0 us after.2 in
      record { tree = compare op first.tree second.tree is.0; derived = (low, five, parts.0, after.0, first.derived, is.1, second.derived); same = ap_two (λ y z. compare op y z 0) first.same second.same }
  again (conditional c a b line) r (low, p, q, s) ts us h =
      let parts = shows_both (expr_words c) (punctuation k.Question ∷ (expr_words a ++ punctuation k.Colon ∷ expr_words b)) ts us h in
      let after = parts.2 in
      let branches = shows_both (expr_words a) (punctuation k.Colon ∷ expr_words b) after.0 us after.2 in
      let other = branches.2 in
      let is = is_shown k.Question (spelling k.Question) parts.0 after.0 after.1 in
      let colon = is_shown k.Colon (spelling k.Colon) branches.0 other.0 other.1 in
      let first = again c 7 p ts parts.0 parts.1 in
      let second = again a 8 q after.0 branches.0 branches.1 in
      let third = again b 8 s other.0 us other.2 in
      record {
        tree = conditional first.tree second.tree third.tree is.0;
        derived = (low, parts.0, after.0, branches.0, other.0, first.derived, is.1, second.derived, colon, third.derived);
        same = ap_two (λ x y. conditional x y (without_lines third.tree) 0) first.same second.same ∙ ap (λ z. conditional (without_lines c) (without_lines a) z 0) third.same;
      }
  again (group e) r p ts us (v1, left, h) =
      let parts = shows_both (expr_words e) (punctuation k.RightParen ∷ []) v1 us h in
      let inside = again e 8 p v1 parts.0 parts.1 in
      record {
        tree = group inside.tree;
        derived = (v1, parts.0, left_shown ts v1 left, inside.derived, right_shown parts.0 us (shows_last (punctuation k.RightParen) parts.0 us parts.2));
        same = ap group inside.same;
      }

  again_steps : (r : ℕ) (ss : Steps) → PlainSteps r ss → (ts us : Lexemes) → Shows (steps_words ss) ts us → AgainSteps r ss ts us
  again_steps r no_steps p ts us h = record { tree = no_steps; derived = h; same = refl; precedence = refl; chains = λ z. z }
  again_steps r (step op e line ss) (of_precedence, p, q) ts us (v1, one, h) =
      let is = operator_shown op ts v1 one in
      let parts = shows_both (expr_words e) (steps_words ss) v1 us h in
      let first = again e (r - 1) p v1 parts.0 parts.1 in
      let rest = again_steps r ss q parts.0 us parts.2 in
      record {
        tree = step op first.tree is.0 rest.tree;
        derived = (of_precedence, v1, parts.0, is.1, first.derived, rest.derived);
        same = ap_two (λ y z. step op y 0 z) first.same rest.same;
        precedence = refl;
        chains = λ z. z;
      }

  again_method_calls : (ds : MethodCalls) → PlainMethodCalls ds → (ts us : Lexemes) → Shows (method_calls_words ds) ts us → AgainMethodCalls ds ts us
  again_method_calls no_method_calls p ts us h = record { tree = no_method_calls; derived = h; same = refl; calls = λ z. z }
  again_method_calls (method x line ds) (named, p) ts us (v1, punctuation_, (v2, one, h)) =
      let is = named_shown x v1 v2 named one in
      let rest = again_method_calls ds p v2 us h in
      record { tree = method x is.0 rest.tree; derived = (v1, v2, dot_shown ts v1 punctuation_, is.1, rest.derived); same = ap (λ z. method x 0 z) rest.same; calls = λ z. z }
  again_method_calls (method_call x es line ds) (named, p, q) ts us (v1, punctuation_, (v2, one, (v3, left, h))) =
      let is = named_shown x v1 v2 named one in
      let parts = shows_both (args_words true es) (punctuation k.RightParen ∷ method_calls_words ds) v3 us h in
      let after = parts.2 in
      let args = again_args es p v3 parts.0 after.0 parts.1 (right_shown parts.0 after.0 after.1) in
      let rest = again_method_calls ds q after.0 us after.2 in
      record {
        tree = method_call x args.tree is.0 rest.tree;
        derived = (v1, v2, v3, after.0, dot_shown ts v1 punctuation_, is.1, left_shown v2 v3 left, args.derived, rest.derived);
        same = ap_two (λ y z. method_call x y 0 z) args.same rest.same;
        calls = λ z. z;
      }

  again_args : (es : Args) → PlainArgs es → (ts vs us : Lexemes) → Shows (args_words true es) ts vs → IsPunctuation m.RightParen vs us → AgainArgs es ts us
  again_args no_args p ts vs us h right = record { tree = no_args; derived = rw h right; same = refl }
  again_args (arg x e es) (label, p, q) ts vs us h right =
      let named = shows_both (label_words x) (expr_words e ++ args_words false es) ts vs h in
      let parts = shows_both (expr_words e) (args_words false es) named.0 vs named.2 in
      let first = again e 8 p named.0 parts.0 parts.1 in
      let rest = again_more es q parts.0 vs us parts.2 right in
      record {
        tree = arg x first.tree rest.tree;
        derived = (named.0, parts.0, label_shown x ts named.0 label named.1, first.derived, rest.derived);
        same = ap_two (λ y z. arg x y z) first.same rest.same;
      }

  again_more : (es : Args) → PlainArgs es → (ts vs us : Lexemes) → Shows (args_words false es) ts vs → IsPunctuation m.RightParen vs us → AgainMore es ts us
  again_more no_args p ts vs us h right = record { tree = no_args; derived = rw h right; same = refl }
  again_more (arg x e es) (label, p, q) ts vs us (v1, comma, h) right =
      let named = shows_both (label_words x) (expr_words e ++ args_words false es) v1 vs h in
      let parts = shows_both (expr_words e) (args_words false es) named.0 vs named.2 in
      let first = again e 8 p named.0 parts.0 parts.1 in
      let rest = again_more es q parts.0 vs us parts.2 right in
      record {
        tree = arg x first.tree rest.tree;
        derived = (v1, named.0, parts.0, comma_shown ts v1 comma, label_shown x v1 named.0 label named.1, first.derived, rest.derived);
        same = ap_two (λ y z. arg x y z) first.same rest.same;
      }

-- an expression has words
pub some_words : (e : Expr) → 0 < length (expr_words e)
some_words (int n) = omega arith
some_words (bool b) = omega arith
some_words (str x) = omega arith
some_words (t.name x line) = omega arith
some_words (call x es line) = omega arith
some_words (method_calls e ds) = omega (arith, some_words e, length-append (expr_words e) (method_calls_words ds))
some_words (minus e line) = omega arith
some_words (not_ e line) = omega arith
some_words (chain e ss) = omega (arith, some_words e, length-append (expr_words e) (steps_words ss))
some_words (compare op a b line) = omega (arith, some_words a, length-append (expr_words a) (punctuation (operator_kind op) ∷ expr_words b))
some_words (conditional c a b line) = omega (arith, some_words c, length-append (expr_words c) (punctuation k.Question ∷ (expr_words a ++ punctuation k.Colon ∷ expr_words b)))
some_words (group e) = omega arith
