-- A text is an expression exactly where the relations of tokens and of the grammar say so.
use Rattle.std.proofs.Common.{◌≡◌, ℕ, ◌≤◌, Bool, true, false, List, [], length, Option, Some, None, Result, Ok, Err, refl, subst, arith}
use Rattle.std.specs.Prelude.{nat_le, if◌then◌else◌}
use Rattle.std.proofs.lemmas.Bool.Decides.{nat_tests}
use Rattle.avs_lex.specs.Spelling.{Text}
use Rattle.avs_tree.specs.Tree.{Loaded, NoTree}
use Rattle.avs_tree.specs.Tree as t
use Rattle.avs_parse.specs.Load.{script_of}
use Rattle.avs_parse.specs.Laws.{HasScript}
use Rattle.avs_parse.proofs.LoadLemmas.{script_found, tree_is}
use Rattle.clip_term.specs.Expression.{Expr, is_number}
use Rattle.avs_meaning.specs.Arguments.{expression_in, length_limit, part_of, planes_of, typed, of_kind, of_functions, of_script}
use Rattle.avs_runtime.specs.Laws.{IsExpression, ExpressionIsFound}

-- ---- what the function gives is what the text has

not_none : (e : Expr) → None ≡ Some e → ⊥
not_none e h = cc

-- a number, and the expression that it is
record IsTyped (chroma : Bool) (found : Option Expr) (e : Expr) : Type 0 where
  pub found_is : found ≡ Some e
  pub number : is_number (planes_of chroma) e ≡ true

typed_by : (chroma : Bool) (a e : Expr) (t : Bool) → is_number (planes_of chroma) a ≡ t → (if t then Some a else None) ≡ Some e → IsTyped chroma (Some a) e
typed_by chroma a e true is h = let same : a ≡ e = cc in record { found_is = h; number = subst (λ (x : Expr). is_number (planes_of chroma) x ≡ true) same is }
typed_by chroma a e false is h = absurd (not_none e h)

typed_is : (chroma : Bool) (found : Option Expr) (e : Expr) → typed chroma found ≡ Some e → IsTyped chroma found e
typed_is chroma None e h = absurd (not_none e h)
typed_is chroma (Some a) e h = typed_by chroma a e (is_number (planes_of chroma) a) refl h

-- the text has this script
abbrev HasOne : Text → List t.Function → t.Block → ℕ → Type 0
HasOne text functions statements last = HasScript text (record { tree = record { functions = functions; statements = statements }; last_line = last })

has_kind : (chroma : Bool) (text : Text) (e : Expr) (kind : t.Kind) (line last : ℕ)
    → length text ≤ length_limit → HasOne text [] (t.then_ kind line t.no_more) last → of_kind chroma kind ≡ Some e → IsExpression chroma text e
has_kind chroma text e (t.value x) line last short has h =
    let made = typed_is chroma (part_of x) e h in
    record { short = short; tokens = has.tokens; tokens_are = has.tokens_are; statement = x; line = line; tree_is = has.tree_is; parts_are = made.found_is; number = made.number }
has_kind chroma text e _ line last short has h = absurd (not_none e h)

has_by : (chroma : Bool) (text : Text) (e : Expr) (functions : List t.Function) (statements : t.Block) (last : ℕ)
    → length text ≤ length_limit → HasOne text functions statements last → of_functions chroma functions statements ≡ Some e → IsExpression chroma text e
has_by chroma text e [] (t.then_ kind line t.no_more) last short has h = has_kind chroma text e kind line last short has h
has_by chroma text e _ _ last short has h = absurd (not_none e h)

loaded_has : (chroma : Bool) (text : Text) (e : Expr) (found : Result Loaded NoTree) → script_of text ≡ found → length text ≤ length_limit → of_script chroma found ≡ Some e → IsExpression chroma text e
loaded_has chroma text e (Ok loaded) is short h = has_by chroma text e loaded.tree.functions loaded.tree.statements loaded.last_line short ((script_found text loaded).0 is) h
loaded_has chroma text e (Err fault) is short h = absurd (not_none e h)

short_has : (chroma : Bool) (text : Text) (e : Expr) (t : Bool) → nat_le (length text) length_limit ≡ t → (if t then of_script chroma (script_of text) else None) ≡ Some e → IsExpression chroma text e
short_has chroma text e true is h = loaded_has chroma text e (script_of text) refl (grind (arith, nat_tests)) h
short_has chroma text e false is h = absurd (not_none e h)

text_has : (chroma : Bool) (text : Text) (e : Expr) → expression_in script_of chroma text ≡ Some e → IsExpression chroma text e
unfolding expression_in
text_has chroma text e h = short_has chroma text e (nat_le (length text) length_limit) refl h

-- ---- what a text has is what the function gives

short_is : (text : Text) → length text ≤ length_limit → nat_le (length text) length_limit ≡ true
short_is text short = grind (arith, nat_tests)

has_text : (chroma : Bool) (text : Text) (e : Expr) → IsExpression chroma text e → expression_in script_of chroma text ≡ Some e
unfolding expression_in
has_text chroma text e is =
    rw (short_is text is.short)
    (rw (tree_is text is.tokens (record { functions = []; statements = t.then_ (t.value is.statement) is.line t.no_more }) is.tokens_are is.tree_is)
    (rw is.parts_are (rw is.number refl)))

pub expression_found : ExpressionIsFound
expression_found chroma text e = (text_has chroma text e, has_text chroma text e)
