-- The words of a script are read again as that script, apart from lines.
use Rattle.std.proofs.Common.{◌≡◌, refl, ap, subst, ◌∙◌, inl, ◌<◌, Bool, true, false, List, [], ◌∷◌, ◌++◌, map, length, append_assoc, Option, Some, None, option_map, arith}
use Rattle.avs_lex.specs.declared.token.TokenKind.TheVariants as k
use Rattle.avs_lex.specs.Spelling.{spelling, Text}
use Rattle.avs_tree.specs.Lexeme.{Lexemes, line_of, keyword_of, type_word_of, word_of_type}
use Rattle.avs_tree.specs.Tree.{Expr, Kind, global, assign, return, if_, while, for, value, Arms, no_arms, arm, Else, no_else, else_, Block, no_more, then_, Function, Script, ends_with_brace}
use Rattle.avs_tree.specs.Grammar.{IsPunctuation, Newlines, Separates, Condition, Braces, ForStep, ForHead, DerivesKind, DerivesElseIfs, DerivesElse, DerivesAll, ParameterName, DerivesParameter, MoreParameters, Parameters, DerivesFunction, Items, no_items, function_then, statement_then, functions_of, statements_of, DerivesItems, IsScript}
use Rattle.avs_tree.specs.declared.symbol.Punctuation.TheVariants as m
use Rattle.avs_tree.specs.declared.tree.Parameter.{Parameter}
use Rattle.avs_tree.specs.declared.words.Keyword.TheVariants as reserved
use Rattle.avs_tree.specs.declared.words.TypeWord.{TypeWord}
use Rattle.avs_tree.specs.declared.words.TypeWord.TheVariants as y
use Rattle.avs_print.specs.WithoutLines.{without_lines, kind_without_lines, arms_without_lines, else_without_lines, block_without_lines, function_without_lines, script_without_lines}
use Rattle.avs_print.specs.Printed.{punctuation, ended, expr_words, condition_words, step_words, head_words, braces_words, kind_words, arms_words, else_words, block_words, param_name, param_words, params_words, function_words, functions_words, script_words}
use Rattle.avs_print.proofs.PrintLemmas.{open_kind, open_function}
use Rattle.avs_print.proofs.Plain.{IsNamed, Plain, PlainStep, PlainKind, PlainArms, PlainElse, PlainBlock, PlainName, PlainParams, PlainFunction, PlainFunctions, PlainScript}
use Rattle.avs_print.proofs.Shows.{Shows, ShowsOne, shows_both, shows_last, shows_ended, is_shown, free_shown, named_shown, said_shown, keyword_shown}
use Rattle.avs_print.proofs.AgainExpr.{again, ap_two, left_shown, right_shown, comma_shown, some_words}

-- ---- between words

assign_shown : (ts us : Lexemes) → ShowsOne (punctuation k.Assign) ts us → IsPunctuation m.Assign ts us
assign_shown = is_shown k.Assign (spelling k.Assign)

no_newlines : (ts : Lexemes) → Newlines ts ts
no_newlines [] = refl
no_newlines (t ∷ ts) = inl refl

-- a newline separates
line_separates : (ended : Bool) (ts us : Lexemes) → IsPunctuation m.Newline ts us → Separates ended ts us
line_separates ended ts us newline = inl (us, newline, no_newlines us)

-- ---- heads of statements

record AgainCondition (e : Expr) (ts us : Lexemes) : Type 0 where
  tree : Expr
  derived : Condition tree ts us
  same : without_lines tree ≡ without_lines e

again_condition : (e : Expr) → Plain 8 e → (ts us : Lexemes) → Shows (condition_words e) ts us → AgainCondition e ts us
again_condition e p ts us (v1, left, h) =
    let parts = shows_both (expr_words e) (punctuation k.RightParen ∷ []) v1 us h in
    let inside = again e 8 p v1 parts.0 parts.1 in
    record {
      tree = inside.tree;
      derived = (v1, parts.0, left_shown ts v1 left, inside.derived, right_shown parts.0 us (shows_last (punctuation k.RightParen) parts.0 us parts.2));
      same = inside.same;
    }

record AgainStep (c : Option Expr) (ts us : Lexemes) : Type 0 where
  tree : Option Expr
  derived : ForStep tree ts us
  same : option_map without_lines tree ≡ option_map without_lines c

again_step : (c : Option Expr) → PlainStep c → (ts us : Lexemes) → Shows (step_words c) ts us → AgainStep c ts us
again_step None p ts us h = record { tree = None; derived = h; same = refl }
again_step (Some e) p ts us (v1, comma, h) =
    let inside = again e 8 p v1 us h in
    record { tree = Some inside.tree; derived = (v1, comma_shown ts v1 comma, inside.derived); same = ap Some inside.same }

record AgainHead (x : Text) (a b : Expr) (c : Option Expr) (ts us : Lexemes) : Type 0 where
  first : Expr
  last : Expr
  step : Option Expr
  derived : ForHead x first last step ts us
  same_first : without_lines first ≡ without_lines a
  same_last : without_lines last ≡ without_lines b
  same_step : option_map without_lines step ≡ option_map without_lines c

again_head : (x : Text) (a b : Expr) (c : Option Expr) → IsNamed x → Plain 8 a → Plain 8 b → PlainStep c → (ts us : Lexemes) → Shows (head_words x a b c) ts us → AgainHead x a b c ts us
again_head x a b c named p q r ts us (v1, left, (v2, one, (v3, is, h))) =
    let firsts = shows_both (expr_words a) (punctuation k.Comma ∷ (expr_words b ++ (step_words c ++ punctuation k.RightParen ∷ []))) v3 us h in
    let after = firsts.2 in
    let lasts = shows_both (expr_words b) (step_words c ++ punctuation k.RightParen ∷ []) after.0 us after.2 in
    let steps = shows_both (step_words c) (punctuation k.RightParen ∷ []) lasts.0 us lasts.2 in
    let first = again a 8 p v3 firsts.0 firsts.1 in
    let last = again b 8 q after.0 lasts.0 lasts.1 in
    let step = again_step c r lasts.0 steps.0 steps.1 in
    let right = right_shown steps.0 us (shows_last (punctuation k.RightParen) steps.0 us steps.2) in
    record {
      first = first.tree;
      last = last.tree;
      step = step.tree;
      derived = (
        v1,
        v2,
        v3,
        firsts.0,
        after.0,
        lasts.0,
        steps.0,
        left_shown ts v1 left,
        named_shown x v1 v2 named one,
        assign_shown v2 v3 is,
        first.derived,
        comma_shown firsts.0 after.0 after.1,
        last.derived,
        step.derived,
        right,
      );
      same_first = first.same;
      same_last = last.same;
      same_step = step.same;
    }

-- ---- statements

record AgainKind (q : Kind) (ts us : Lexemes) : Type 0 where
  tree : Kind
  derived : DerivesKind tree ts us
  same : kind_without_lines tree ≡ kind_without_lines q

record AgainArms (arms : Arms) (ts us : Lexemes) : Type 0 where
  tree : Arms
  derived : DerivesElseIfs tree ts us
  same : arms_without_lines tree ≡ arms_without_lines arms

record AgainElse (other : Else) (ts us : Lexemes) : Type 0 where
  tree : Else
  derived : DerivesElse tree ts us
  same : else_without_lines tree ≡ else_without_lines other

record AgainBlock (b : Block) (ts us : Lexemes) : Type 0 where
  tree : Block
  derived : DerivesAll tree ts us
  same : block_without_lines tree ≡ block_without_lines b

record AgainBraces (b : Block) (ts us : Lexemes) : Type 0 where
  tree : Block
  derived : Braces (λ vs ws. DerivesAll tree vs ws) ts us
  same : block_without_lines tree ≡ block_without_lines b

braced : (b : Block) → ((ts us : Lexemes) → Shows (block_words b) ts us → AgainBlock b ts us) → (ts us : Lexemes) → Shows (braces_words (block_words b)) ts us → AgainBraces b ts us
braced b inner ts us (v1, left, h) =
    let parts = shows_both (block_words b) (punctuation k.RightBrace ∷ []) v1 us h in
    let inside = inner v1 parts.0 parts.1 in
    let right = is_shown k.RightBrace (spelling k.RightBrace) parts.0 us (shows_last (punctuation k.RightBrace) parts.0 us parts.2) in
    record {
      tree = inside.tree;
      derived = (ts, v1, v1, parts.0, no_newlines ts, is_shown k.LeftBrace (spelling k.LeftBrace) ts v1 left, no_newlines v1, inside.derived, right);
      same = inside.same;
    }

-- a statement has words
some_kind : (q : Kind) → PlainKind q → 0 < length (kind_words q)
some_kind (global x e) p = omega arith
some_kind (assign x e) p = omega arith
some_kind (return e) p = omega arith
some_kind (if_ no_arms other) p = absurd p
some_kind (if_ (arm e b rest) other) p = omega arith
some_kind (while e b) p = omega arith
some_kind (for x a b c d) p = omega arith
some_kind (value e) p = some_words e

mutual
  again_kind : (q : Kind) → PlainKind q → (ts us : Lexemes) → Shows (kind_words q) ts us → AgainKind q ts us
  again_kind (global x e) (named, p) ts us (v1, word, (v2, one, (v3, is, h))) =
      let inside = again e 8 p v3 us h in
      record {
        tree = global x inside.tree;
        derived = (v1, v2, v3, keyword_shown reserved.Global ts v1 word, named_shown x v1 v2 named one, assign_shown v2 v3 is, inside.derived);
        same = ap (λ z. global x z) inside.same;
      }
  again_kind (assign x e) (named, p) ts us (v1, one, (v2, is, h)) =
      let inside = again e 8 p v2 us h in
      record { tree = assign x inside.tree; derived = (v1, v2, named_shown x ts v1 named one, assign_shown v1 v2 is, inside.derived); same = ap (λ z. assign x z) inside.same }
  again_kind (return e) p ts us (v1, word, h) =
      let inside = again e 8 p v1 us h in
      record { tree = return inside.tree; derived = (v1, keyword_shown reserved.Return ts v1 word, inside.derived); same = ap return inside.same }
  again_kind (if_ no_arms other) p ts us h = absurd p
  again_kind (if_ (arm e b rest) other) (p, q, r, s) ts us (v1, word, h) =
      let whole = shows_both (condition_words e ++ (braces_words (block_words b) ++ arms_words false rest)) (else_words other) v1 us h in
      let heads = shows_both (condition_words e) (braces_words (block_words b) ++ arms_words false rest) v1 whole.0 whole.1 in
      let bodies = shows_both (braces_words (block_words b)) (arms_words false rest) heads.0 whole.0 heads.2 in
      let condition = again_condition e p v1 heads.0 heads.1 in
      let body = braced b (again_block b q) heads.0 bodies.0 bodies.1 in
      let more = again_arms rest r bodies.0 whole.0 bodies.2 in
      let last = again_else other s whole.0 us whole.2 in
      record {
        tree = if_ (arm condition.tree body.tree more.tree) last.tree;
        derived = (v1, heads.0, bodies.0, whole.0, keyword_shown reserved.If ts v1 word, condition.derived, body.derived, more.derived, last.derived);
        same = ap_two if_ (ap_two (λ y z. arm y z (arms_without_lines more.tree)) condition.same body.same ∙ ap (λ z. arm (without_lines e) (block_without_lines b) z) more.same) last.same;
      }
  again_kind (while e b) (p, q) ts us (v1, word, h) =
      let heads = shows_both (condition_words e) (braces_words (block_words b)) v1 us h in
      let condition = again_condition e p v1 heads.0 heads.1 in
      let body = braced b (again_block b q) heads.0 us heads.2 in
      record { tree = while condition.tree body.tree; derived = (v1, heads.0, keyword_shown reserved.While ts v1 word, condition.derived, body.derived); same = ap_two while condition.same body.same }
  again_kind (for x a b c d) (named, p, q, r, s) ts us (v1, word, h) =
      let heads = shows_both (head_words x a b c) (braces_words (block_words d)) v1 us h in
      let head = again_head x a b c named p q r v1 heads.0 heads.1 in
      let body = braced d (again_block d s) heads.0 us heads.2 in
      record {
        tree = for x head.first head.last head.step body.tree;
        derived = (v1, heads.0, keyword_shown reserved.For ts v1 word, head.derived, body.derived);
        same = ap_two (λ y z. for x y z (option_map without_lines head.step) (block_without_lines body.tree)) head.same_first head.same_last ∙ ap_two (λ y z. for x (without_lines a) (without_lines b) y z) head.same_step body.same;
      }
  again_kind (value e) p ts us h = let inside = again e 8 p ts us h in record { tree = value inside.tree; derived = inside.derived; same = ap value inside.same }

  again_arms : (arms : Arms) → PlainArms arms → (ts us : Lexemes) → Shows (arms_words false arms) ts us → AgainArms arms ts us
  again_arms no_arms p ts us h = record { tree = no_arms; derived = h; same = refl }
  again_arms (arm e b rest) (p, q, r) ts us (v1, word, (v2, second, h)) =
      let heads = shows_both (condition_words e) (braces_words (block_words b) ++ arms_words false rest) v2 us h in
      let bodies = shows_both (braces_words (block_words b)) (arms_words false rest) heads.0 us heads.2 in
      let condition = again_condition e p v2 heads.0 heads.1 in
      let body = braced b (again_block b q) heads.0 bodies.0 bodies.1 in
      let more = again_arms rest r bodies.0 us bodies.2 in
      record {
        tree = arm condition.tree body.tree more.tree;
        derived = (ts, v1, v2, heads.0, bodies.0, no_newlines ts, keyword_shown reserved.Else ts v1 word, keyword_shown reserved.If v1 v2 second, condition.derived, body.derived, more.derived);
        same = ap_two (λ y z. arm y z (arms_without_lines more.tree)) condition.same body.same ∙ ap (λ z. arm (without_lines e) (block_without_lines b) z) more.same;
      }

  again_else : (other : Else) → PlainElse other → (ts us : Lexemes) → Shows (else_words other) ts us → AgainElse other ts us
  again_else no_else p ts us h = record { tree = no_else; derived = h; same = refl }
  again_else (else_ b) p ts us (v1, word, h) =
      let body = braced b (again_block b p) v1 us h in
      record { tree = else_ body.tree; derived = (ts, v1, no_newlines ts, keyword_shown reserved.Else ts v1 word, body.derived); same = ap else_ body.same }

  again_block : (b : Block) → PlainBlock b → (ts us : Lexemes) → Shows (block_words b) ts us → AgainBlock b ts us
  again_block no_more p ts us h = record { tree = no_more; derived = h; same = refl }
  again_block (then_ q line rest) (p, r) ts us h =
      let parts = shows_both (ended (kind_words q)) (block_words rest) ts us h in
      let one = shows_ended (kind_words q) ts parts.0 (open_kind q) (some_kind q p) parts.1 in
      let first = again_kind q p ts one.0 one.1 in
      let more = again_block rest r parts.0 us parts.2 in
      record {
        tree = then_ first.tree (line_of ts) more.tree;
        derived = (refl, one.0, parts.0, first.derived, line_separates (ends_with_brace first.tree) one.0 parts.0 one.2, more.derived);
        same = ap_two (λ y z. then_ y 0 z) first.same more.same;
      }

-- ---- functions

type_free : (word : TypeWord) → keyword_of (word_of_type word) ≡ None
unfolding keyword_of
type_free y.Clip = refl
type_free _ = refl

type_is : (word : TypeWord) → type_word_of (word_of_type word) ≡ Some word
unfolding type_word_of
type_is y.Clip = refl
type_is _ = refl

again_name : (optional : Bool) (x : Text) → PlainName optional x → (ts us : Lexemes) → ShowsOne (param_name optional x) ts us → ParameterName optional x ts us
again_name false x named ts us one = named_shown x ts us named one
again_name true x p ts us one = (p.0, said_shown x ts us p.1 one)

again_param : (p : Parameter) → PlainName p.optional p.name → (ts us : Lexemes) → Shows (param_words p) ts us → DerivesParameter p ts us
again_param p plain ts us (v1, word, h) = (
  word_of_type p.word,
  v1,
  free_shown (word_of_type p.word) ts v1 (type_free p.word) word,
  type_is p.word,
  again_name p.optional p.name plain v1 us (shows_last (param_name p.optional p.name) v1 us h),
)

again_more : (must : Bool) (ps : List Parameter) → PlainParams must ps → (ts us : Lexemes) → Shows (params_words false ps) ts us → MoreParameters must ps ts us
again_more must [] plain ts us h = h
again_more must (p ∷ ps) (optional, named, plain) ts us (v1, comma, h) =
    let parts = shows_both (param_words p) (params_words false ps) v1 us h in
    (optional, v1, parts.0, comma_shown ts v1 comma, again_param p named v1 parts.0 parts.1, again_more p.optional ps plain parts.0 us parts.2)

again_params : (ps : List Parameter) → PlainParams false ps → (ts us : Lexemes) → Shows (params_words true ps) ts us → Parameters ps ts us
again_params [] plain ts us h = h
again_params (p ∷ ps) (optional, named, plain) ts us h =
    let parts = shows_both (param_words p) (params_words false ps) ts us h in
    (parts.0, again_param p named ts parts.0 parts.1, again_more p.optional ps plain parts.0 us parts.2)

record AgainFunction (f : Function) (ts us : Lexemes) : Type 0 where
  tree : Function
  derived : DerivesFunction tree ts us
  same : function_without_lines tree ≡ function_without_lines f

again_function : (f : Function) → PlainFunction f → (ts us : Lexemes) → Shows (function_words f) ts us → AgainFunction f ts us
again_function f plain ts us (v1, word, (v2, one, (v3, left, h))) =
    let parts = shows_both (params_words true f.params) (punctuation k.RightParen ∷ braces_words (block_words f.body)) v3 us h in
    let after = parts.2 in
    let body = braced f.body (again_block f.body plain.body) after.0 us after.2 in
    record {
      tree = record { name = f.name; params = f.params; body = body.tree; line = line_of ts };
      derived = (
        refl,
        v1,
        v2,
        v3,
        parts.0,
        after.0,
        keyword_shown reserved.Function ts v1 word,
        named_shown f.name v1 v2 plain.name one,
        left_shown v2 v3 left,
        again_params f.params plain.params v3 parts.0 parts.1,
        right_shown parts.0 after.0 after.1,
        body.derived,
      );
      same = ap (λ z. record { name = f.name; params = f.params; body = z; line = 0 }) body.same;
    }

-- ---- scripts

items_of : Block → Items
items_of no_more = no_items
items_of (then_ q line rest) = statement_then q line (items_of rest)

block_items : (b : Block) (ts us : Lexemes) → DerivesAll b ts us → DerivesItems (items_of b) ts us
unfolding items_of
block_items no_more ts us h = h
block_items (then_ q line rest) ts us (is, v1, v2, a, b, h) = (is, v1, v2, a, b, block_items rest v2 us h)

no_functions : (b : Block) → functions_of (items_of b) ≡ []
unfolding items_of
no_functions no_more = refl
no_functions (then_ q line rest) = no_functions rest

all_statements : (b : Block) → statements_of (items_of b) ≡ b
unfolding items_of
all_statements no_more = refl
all_statements (then_ q line rest) = ap (λ z. then_ q line z) (all_statements rest)

record AgainItems (fs : List Function) (b : Block) (ts us : Lexemes) : Type 0 where
  items : Items
  derived : DerivesItems items ts us
  functions : map function_without_lines (functions_of items) ≡ map function_without_lines fs
  statements : block_without_lines (statements_of items) ≡ block_without_lines b

again_items : (fs : List Function) (b : Block) → PlainFunctions fs → PlainBlock b → (ts us : Lexemes) → Shows (functions_words fs ++ block_words b) ts us → AgainItems fs b ts us
again_items [] b plain p ts us h =
    let block = again_block b p ts us h in
    record {
      items = items_of block.tree;
      derived = block_items block.tree ts us block.derived;
      functions = ap (map function_without_lines) (no_functions block.tree);
      statements = ap block_without_lines (all_statements block.tree) ∙ block.same;
    }
again_items (f ∷ fs) b (one, plain) p ts us h =
    let rest = functions_words fs ++ block_words b in
    let parts = shows_both (ended (function_words f)) rest ts us (subst (λ z. Shows z ts us) (append_assoc (ended (function_words f)) (functions_words fs) (block_words b)) h) in
    let line = shows_ended (function_words f) ts parts.0 (open_function f) (omega arith) parts.1 in
    let first = again_function f one ts line.0 line.1 in
    let more = again_items fs b plain p parts.0 us parts.2 in
    record {
      items = function_then first.tree more.items;
      derived = (line.0, parts.0, first.derived, line_separates true line.0 parts.0 line.2, more.derived);
      functions = ap_two (λ y z. y ∷ z) first.same more.functions;
      statements = more.statements;
    }

pub record AgainScript (tree : Script) (ts : Lexemes) : Type 0 where
  pub again : Script
  pub derived : IsScript ts again
  pub same : script_without_lines again ≡ script_without_lines tree

pub again_script : (tree : Script) → PlainScript tree → (ts us : Lexemes) → Shows (script_words tree) ts us → IsPunctuation m.End us [] → AgainScript tree ts
again_script tree plain ts us h end =
    let items = again_items tree.functions tree.statements plain.functions plain.statements ts us h in
    record {
      again = record { functions = functions_of items.items; statements = statements_of items.items };
      derived = record { items = items.items; functions = refl; statements = refl; start = ts; end = us; blank = no_newlines ts; derived = items.derived; ended = end };
      same = ap_two (λ y z. record { functions = y; statements = z }) items.functions items.statements;
    }
