-- What the grammar reads of tokens is plain, and the rest are tokens still.
use Rattle.std.proofs.Common.{subst, ℕ, ℤ, ◌-◌, Bool, true, false, inl, inr, List, [], ◌∷◌, Option, Some, None}
use Rattle.avs_tree.specs.Lexeme.{Lexemes}
use Rattle.avs_lex.specs.Spelling.{Text}
use Rattle.avs_tree.specs.Tree.{Expr, int, bool, str, call, method_calls, minus, not_, chain, compare, conditional, group, Args, no_args, arg, MethodCalls, no_method_calls, method, method_call, Steps, no_steps, step, Kind, global, assign, return, if_, while, for, value, Arms, no_arms, arm, Else, no_else, else_, Block, no_more, then_, Function, Script, ends_with_brace}
use Rattle.avs_tree.specs.Tree as t
use Rattle.avs_tree.specs.Grammar.{Is, IsAt, IsNameAt, IsName, IsString, Labels, precedence_of_steps, Derives, DerivesSteps, DerivesMethodCalls, DerivesArgs, DerivesMoreArgs, Newlines, Separates, Condition, Braces, ForStep, ForHead, DerivesKind, DerivesElseIfs, DerivesElse, DerivesAll, ParameterName, DerivesParameter, MoreParameters, Parameters, DerivesFunction, Items, no_items, function_then, statement_then, functions_of, statements_of, DerivesItems, IsScript}
use Rattle.avs_tree.specs.declared.symbol.Symbol.{Symbol}
use Rattle.avs_tree.specs.declared.symbol.Symbol.TheVariants as s
use Rattle.avs_tree.specs.declared.tree.Parameter.{Parameter}
use Rattle.avs_print.proofs.WordLemmas.{named, said_inside}
use Rattle.avs_print.proofs.NumberLemmas.{number_written}
use Rattle.avs_print.proofs.Plain.{AllFit, IsNamed, IsSaid, IsNumber, PlainLabel, Plain, PlainSteps, PlainMethodCalls, PlainArgs, PlainStep, PlainKind, PlainArms, PlainElse, PlainBlock, PlainName, PlainParams, PlainFunction, PlainFunctions, PlainScript}

-- ---- one token

-- after a token on a line
after_at : (symbol : Symbol) (line : ℕ) (ts us : Lexemes) → AllFit ts → IsAt symbol line ts us → AllFit us
after_at symbol line ts us fit (x, is) = (subst AllFit is fit).1

after : (symbol : Symbol) (ts us : Lexemes) → AllFit ts → Is symbol ts us → AllFit us
after symbol ts us fit (line, is) = after_at symbol line ts us fit is

-- ---- between statements

after_newlines : (ts us : Lexemes) → AllFit ts → Newlines ts us → AllFit us
after_newlines [] us fit is = subst AllFit is fit
after_newlines (t ∷ ts) us fit (inl is) = subst AllFit is fit
after_newlines (t ∷ ts) us fit (inr (punctuation, rest)) = after_newlines ts us fit.1 rest

after_separator : (ended : Bool) (ts us : Lexemes) → AllFit ts → Separates ended ts us → AllFit us
after_separator ended ts us fit (inl (vs, punctuation, rest)) = after_newlines vs us (after _ ts vs fit punctuation) rest
after_separator ended ts us fit (inr (why, is)) = subst AllFit is fit

-- what is in braces
plain_braces : (Inside : Lexemes → Lexemes → Type 0) (Found : Type 0) (ts us : Lexemes) → ((vs ws : Lexemes) → AllFit vs → Inside vs ws → Found × AllFit ws) → AllFit ts → Braces Inside ts us
    → Found × AllFit us
plain_braces Inside Found ts us inside fit (t1, t2, t3, t4, blank, left, blank', all, right) =
    let start = after_newlines t2 t3 (after _ t1 t2 (after_newlines ts t1 fit blank) left) blank' in
    let here = inside t3 t4 start all in
    (here.0, after _ t4 us here.1 right)

plain_name_at : (x : Text) (line : ℕ) (ts us : Lexemes) → AllFit ts → IsNameAt x line ts us → IsNamed x × AllFit us
plain_name_at x line ts us fit is = let here = subst AllFit is fit in (named x line here.0, here.1)

plain_name : (x : Text) (ts us : Lexemes) → AllFit ts → IsName x ts us → IsNamed x × AllFit us
plain_name x ts us fit (line, is) = plain_name_at x line ts us fit is

plain_string : (x : Text) (ts us : Lexemes) → AllFit ts → IsString x ts us → IsSaid x × AllFit us
plain_string x ts us fit (line, is) = let here = subst AllFit is fit in (said_inside x line here.0, here.1)

plain_number : (n : ℤ) (ts us : Lexemes) → AllFit ts → Is (s.Int n) ts us → IsNumber n × AllFit us
plain_number n ts us fit (line, (x, is)) = let here = subst AllFit is fit in (number_written n x line here.0, here.1)

plain_label : (x : Option Text) (ts us : Lexemes) → AllFit ts → Labels x ts us → PlainLabel x × AllFit us
plain_label None ts us fit is = (tt, subst AllFit is fit)
plain_label (Some x) ts us fit (vs, here, punctuation) = let first = plain_name x ts vs fit here in (first.0, after _ vs us first.1 punctuation)

-- ---- expressions

mutual
  plain : (r : ℕ) (e : Expr) (ts us : Lexemes) → AllFit ts → Derives r e ts us → Plain r e × AllFit us
  plain r (int n) ts us fit is = plain_number n ts us fit is
  plain r (bool b) ts us fit is = (tt, after _ ts us fit is)
  plain r (str x) ts us fit is = plain_string x ts us fit is
  plain r (t.name x line) ts us fit is = plain_name_at x line ts us fit is
  plain r (call x es line) ts us fit (vs, ws, is, paren, all) =
      let first = plain_name_at x line ts vs fit is in
      let rest = plain_args es ws us (after _ vs ws first.1 paren) all in
      ((first.0, rest.0), rest.1)
  plain r (group e) ts us fit (vs, ws, left, inside, right) =
      let here = plain 8 e vs ws (after _ ts vs fit left) inside in
      (here.0, after _ ws us here.1 right)
  plain r (method_calls e ds) ts us fit (low, calls, vs, first, rest) =
      let one = plain 0 e ts vs fit first in
      let more = plain_method_calls ds vs us one.1 rest in
      ((low, calls, one.0, more.0), more.1)
  plain r (minus e line) ts us fit (low, vs, op, inside) =
      let here = plain 2 e vs us (after_at _ line ts vs fit op) inside in
      ((low, here.0), here.1)
  plain r (not_ e line) ts us fit (low, vs, op, inside) =
      let here = plain 2 e vs us (after_at _ line ts vs fit op) inside in
      ((low, here.0), here.1)
  plain r (chain e ss) ts us fit (low, chains, vs, first, rest) =
      let one = plain (precedence_of_steps ss - 1) e ts vs fit first in
      let more = plain_steps (precedence_of_steps ss) ss vs us one.1 rest in
      ((low, chains, one.0, more.0), more.1)
  plain r (compare op a b line) ts us fit (low, is, vs, ws, left, punctuation, right) =
      let first = plain 4 a ts vs fit left in
      let second = plain 4 b ws us (after_at _ line vs ws first.1 punctuation) right in
      ((low, is, first.0, second.0), second.1)
  plain r (conditional c a b line) ts us fit (low, vs, ws, xs, ys, first, punctuation, one, colon, other) =
      let asked = plain 7 c ts vs fit first in
      let chosen = plain 8 a ws xs (after_at _ line vs ws asked.1 punctuation) one in
      let otherwise = plain 8 b ys us (after _ xs ys chosen.1 colon) other in
      ((low, asked.0, chosen.0, otherwise.0), otherwise.1)

  plain_steps : (r : ℕ) (ss : Steps) (ts us : Lexemes) → AllFit ts → DerivesSteps r ss ts us → PlainSteps r ss × AllFit us
  plain_steps r no_steps ts us fit is = (tt, subst AllFit is fit)
  plain_steps r (step op e line ss) ts us fit (is, vs, ws, punctuation, one, rest) =
      let here = plain (r - 1) e vs ws (after_at _ line ts vs fit punctuation) one in
      let more = plain_steps r ss ws us here.1 rest in
      ((is, here.0, more.0), more.1)

  plain_method_calls : (ds : MethodCalls) (ts us : Lexemes) → AllFit ts → DerivesMethodCalls ds ts us → PlainMethodCalls ds × AllFit us
  plain_method_calls no_method_calls ts us fit is = (tt, subst AllFit is fit)
  plain_method_calls (method x line ds) ts us fit (vs, ws, punctuation, is, rest) =
      let here = plain_name_at x line vs ws (after _ ts vs fit punctuation) is in
      let more = plain_method_calls ds ws us here.1 rest in
      ((here.0, more.0), more.1)
  plain_method_calls (method_call x es line ds) ts us fit (vs, ws, xs, ys, punctuation, is, paren, all, rest) =
      let here = plain_name_at x line vs ws (after _ ts vs fit punctuation) is in
      let inside = plain_args es xs ys (after _ ws xs here.1 paren) all in
      let more = plain_method_calls ds ys us inside.1 rest in
      ((here.0, inside.0, more.0), more.1)

  plain_args : (es : Args) (ts us : Lexemes) → AllFit ts → DerivesArgs es ts us → PlainArgs es × AllFit us
  plain_args no_args ts us fit close = (tt, after _ ts us fit close)
  plain_args (arg x e es) ts us fit (vs, ws, label, one, rest) =
      let first = plain_label x ts vs fit label in
      let here = plain 8 e vs ws first.1 one in
      let more = plain_more es ws us here.1 rest in
      ((first.0, here.0, more.0), more.1)

  -- further arguments
  plain_more : (es : Args) (ts us : Lexemes) → AllFit ts → DerivesMoreArgs es ts us → PlainArgs es × AllFit us
  plain_more no_args ts us fit close = (tt, after _ ts us fit close)
  plain_more (arg x e es) ts us fit (vs, ws, xs, comma, label, one, rest) =
      let first = plain_label x vs ws (after _ ts vs fit comma) label in
      let here = plain 8 e ws xs first.1 one in
      let more = plain_more es xs us here.1 rest in
      ((first.0, here.0, more.0), more.1)

-- ---- statements

plain_condition : (e : Expr) (ts us : Lexemes) → AllFit ts → Condition e ts us → Plain 8 e × AllFit us
plain_condition e ts us fit (vs, ws, left, inside, right) =
    let here = plain 8 e vs ws (after _ ts vs fit left) inside in
    (here.0, after _ ws us here.1 right)

plain_step : (c : Option Expr) (ts us : Lexemes) → AllFit ts → ForStep c ts us → PlainStep c × AllFit us
plain_step None ts us fit is = (tt, subst AllFit is fit)
plain_step (Some e) ts us fit (vs, comma, inside) = plain 8 e vs us (after _ ts vs fit comma) inside

plain_head : (x : Text) (a b : Expr) (c : Option Expr) (ts us : Lexemes) → AllFit ts → ForHead x a b c ts us → (IsNamed x × Plain 8 a × Plain 8 b × PlainStep c) × AllFit us
plain_head x a b c ts us fit (t1, t2, t3, t4, t5, t6, t7, left, is, punctuation, first, comma, last, more, right) =
    let counter = plain_name x t1 t2 (after _ ts t1 fit left) is in
    let start = plain 8 a t3 t4 (after _ t2 t3 counter.1 punctuation) first in
    let end = plain 8 b t5 t6 (after _ t4 t5 start.1 comma) last in
    let by = plain_step c t6 t7 end.1 more in
    ((counter.0, start.0, end.0, by.0), after _ t7 us by.1 right)

mutual
  plain_kind : (k : Kind) (ts us : Lexemes) → AllFit ts → DerivesKind k ts us → PlainKind k × AllFit us
  plain_kind (global x e) ts us fit (t1, t2, t3, key, is, punctuation, inside) =
      let to = plain_name x t1 t2 (after _ ts t1 fit key) is in
      let here = plain 8 e t3 us (after _ t2 t3 to.1 punctuation) inside in
      ((to.0, here.0), here.1)
  plain_kind (assign x e) ts us fit (t1, t2, is, punctuation, inside) =
      let to = plain_name x ts t1 fit is in
      let here = plain 8 e t2 us (after _ t1 t2 to.1 punctuation) inside in
      ((to.0, here.0), here.1)
  plain_kind (return e) ts us fit (t1, key, inside) = plain 8 e t1 us (after _ ts t1 fit key) inside
  plain_kind (if_ no_arms other) ts us fit none = absurd none
  plain_kind (if_ (arm e b rest) other) ts us fit (t1, t2, t3, t4, key, asked, body, more, last) =
      let when = plain_condition e t1 t2 (after _ ts t1 fit key) asked in
      let here = plain_braces (λ vs ws. DerivesAll b vs ws) (PlainBlock b) t2 t3 (plain_all b) when.1 body in
      let others = plain_else_ifs rest t3 t4 here.1 more in
      let end = plain_else other t4 us others.1 last in
      ((when.0, here.0, others.0, end.0), end.1)
  plain_kind (while e b) ts us fit (t1, t2, key, asked, body) =
      let when = plain_condition e t1 t2 (after _ ts t1 fit key) asked in
      let here = plain_braces (λ vs ws. DerivesAll b vs ws) (PlainBlock b) t2 us (plain_all b) when.1 body in
      ((when.0, here.0), here.1)
  plain_kind (for x a b c d) ts us fit (t1, t2, key, head, body) =
      let first = plain_head x a b c t1 t2 (after _ ts t1 fit key) head in
      let here = plain_braces (λ vs ws. DerivesAll d vs ws) (PlainBlock d) t2 us (plain_all d) first.1 body in
      ((first.0.0, first.0.1, first.0.2, first.0.3, here.0), here.1)
  plain_kind (value e) ts us fit inside = plain 8 e ts us fit inside

  plain_else_ifs : (rest : Arms) (ts us : Lexemes) → AllFit ts → DerivesElseIfs rest ts us → PlainArms rest × AllFit us
  plain_else_ifs no_arms ts us fit is = (tt, subst AllFit is fit)
  plain_else_ifs (arm e b rest) ts us fit (t1, t2, t3, t4, t5, blank, key, again, asked, body, more) =
      let after_else = after _ t1 t2 (after_newlines ts t1 fit blank) key in
      let when = plain_condition e t3 t4 (after _ t2 t3 after_else again) asked in
      let here = plain_braces (λ vs ws. DerivesAll b vs ws) (PlainBlock b) t4 t5 (plain_all b) when.1 body in
      let others = plain_else_ifs rest t5 us here.1 more in
      ((when.0, here.0, others.0), others.1)

  plain_else : (other : Else) (ts us : Lexemes) → AllFit ts → DerivesElse other ts us → PlainElse other × AllFit us
  plain_else no_else ts us fit is = (tt, subst AllFit is fit)
  plain_else (else_ b) ts us fit (t1, t2, blank, key, body) =
      plain_braces (λ vs ws. DerivesAll b vs ws) (PlainBlock b) t2 us (plain_all b) (after _ t1 t2 (after_newlines ts t1 fit blank) key) body

  plain_all : (b : Block) (ts us : Lexemes) → AllFit ts → DerivesAll b ts us → PlainBlock b × AllFit us
  plain_all no_more ts us fit is = (tt, subst AllFit is fit)
  plain_all (then_ k line rest) ts us fit (at, t1, t2, derived, separated, more) =
      let here = plain_kind k ts t1 fit derived in
      let others = plain_all rest t2 us (after_separator (ends_with_brace k) t1 t2 here.1 separated) more in
      ((here.0, others.0), others.1)

-- ---- functions

plain_parameter_name : (optional : Bool) (x : Text) (ts us : Lexemes) → AllFit ts → ParameterName optional x ts us → PlainName optional x × AllFit us
plain_parameter_name false x ts us fit is = plain_name x ts us fit is
plain_parameter_name true x ts us fit (fine, is) = let here = plain_string x ts us fit is in ((fine, here.0), here.1)

-- the word for the type is a name too
plain_parameter : (p : Parameter) (ts us : Lexemes) → AllFit ts → DerivesParameter p ts us → PlainName p.optional p.name × AllFit us
plain_parameter p ts us fit (x, vs, typed, is, here) = plain_parameter_name p.optional p.name vs us (plain_name x ts vs fit typed).1 here

plain_more_parameters : (must : Bool) (ps : List Parameter) (ts us : Lexemes) → AllFit ts → MoreParameters must ps ts us → PlainParams must ps × AllFit us
plain_more_parameters must [] ts us fit is = (tt, subst AllFit is fit)
plain_more_parameters must (p ∷ ps) ts us fit (rule, vs, ws, comma, one, rest) =
    let here = plain_parameter p vs ws (after _ ts vs fit comma) one in
    let others = plain_more_parameters p.optional ps ws us here.1 rest in
    ((rule, here.0, others.0), others.1)

plain_parameters : (ps : List Parameter) (ts us : Lexemes) → AllFit ts → Parameters ps ts us → PlainParams false ps × AllFit us
plain_parameters [] ts us fit is = (tt, subst AllFit is fit)
plain_parameters (p ∷ ps) ts us fit (vs, one, rest) =
    let here = plain_parameter p ts vs fit one in
    let others = plain_more_parameters p.optional ps vs us here.1 rest in
    (((λ never. absurd (cc)), here.0, others.0), others.1)

plain_function : (f : Function) (ts us : Lexemes) → AllFit ts → DerivesFunction f ts us → PlainFunction f × AllFit us
plain_function f ts us fit (at, t1, t2, t3, t4, t5, key, is, left, params, right, inside) =
    let called = plain_name f.name t1 t2 (after _ ts t1 fit key) is in
    let takes = plain_parameters f.params t3 t4 (after _ t2 t3 called.1 left) params in
    let here = plain_braces (λ vs ws. DerivesAll f.body vs ws) (PlainBlock f.body) t5 us (plain_all f.body) (after _ t4 t5 takes.1 right) inside in
    (record { name = called.0; params = takes.0; body = here.0 }, here.1)

-- ---- scripts

plain_items : (items : Items) (ts us : Lexemes) → AllFit ts → DerivesItems items ts us → PlainFunctions (functions_of items) × PlainBlock (statements_of items) × AllFit us
plain_items no_items ts us fit is = (tt, tt, subst AllFit is fit)
plain_items (function_then f rest) ts us fit (t1, t2, derived, separated, more) =
    let here = plain_function f ts t1 fit derived in
    let others = plain_items rest t2 us (after_separator true t1 t2 here.1 separated) more in
    ((here.0, others.0), others.1, others.2)
plain_items (statement_then k line rest) ts us fit (at, t1, t2, derived, separated, more) =
    let here = plain_kind k ts t1 fit derived in
    let others = plain_items rest t2 us (after_separator (ends_with_brace k) t1 t2 here.1 separated) more in
    (others.0, (here.0, others.1), others.2)

-- A tree that the grammar reads of tokens is plain.
pub script_plain : (ts : Lexemes) (tree : Script) → AllFit ts → IsScript ts tree → PlainScript tree
script_plain ts tree fit is =
    let all = plain_items is.items is.start is.end (after_newlines ts is.start fit is.blank) is.derived in
    record { functions = subst PlainFunctions is.functions all.0; statements = subst PlainBlock is.statements all.1 }
