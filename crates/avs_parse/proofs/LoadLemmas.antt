-- The tree that is computed is the text's own, and so is the fault.
use Rattle.std.proofs.Common.{◌≡◌, ℕ, zero, suc, ◌-◌, ◌<◌, ◌≤◌, sym, subst, refl, ap, ◌∙◌, arith, List, length, drop, Result, Ok, Err}
use Rattle.avs_lex.specs.declared.fault.LexKind.{LexKind}
use Rattle.avs_lex.specs.declared.token.Token.{Token}
use Rattle.avs_lex.specs.Spelling.{Text}
use Rattle.avs_lex.specs.Tokens.{Tokens, LexFault, IsFault}
use Rattle.avs_lex.specs.declared.fault.LexError.{LexError}
use Rattle.avs_lex.specs.declared.fault.LexError.TheVariants as l
use Rattle.avs_tree.specs.Lexeme as x
use Rattle.avs_tree.specs.Lexeme.{Lexemes, lexemes}
use Rattle.avs_tree.specs.Tree.{Script, Loaded, NoTree, lexical, syntax, nests}
use Rattle.avs_tree.specs.Grammar.{HasTree}
use Rattle.avs_tree.specs.Place.{Verdict, accepts, stops, too_deep, verdict, StopsAt, DeepAt, Answers}
use Rattle.avs_tree.proofs.CallerLemmas.{exact, accepted}
use Rattle.avs_parse.specs.Load.{Reading, tokens_of, last_line, line_at, tree_by, script_by, script_of}
use Rattle.avs_parse.specs.Loads.{Loads, of_tokens, of_text}
use Rattle.avs_parse.specs.Place.{TellsPlace, TellsLine}
use Rattle.avs_parse.specs.declared.fault.ParseError.{ParseError}
use Rattle.avs_parse.specs.declared.fault.ParseError.TheVariants as p
use Rattle.avs_parse.specs.Laws.{HasScript, HasPlace, ScriptIsFound, FirstFaultIsTold, SyntaxIsTold, NestingIsTold}
use Rattle.avs_parse.proofs.TokenLemmas.{Has, reading_has, tokens_are, fault_is}
use Rattle.avs_parse.proofs.PlaceLemmas.{stop_some, deep_some, verdict_stop, verdict_deep, tokens_told}

-- ---- what a text has is what the function gives

pub lexical_fault : (text : Text) (kind : LexKind) (line : ℕ) → LexFault text kind line → script_of text ≡ Err (lexical kind line)
unfolding script_of
lexical_fault text kind line fault = rw (fault_is text kind line fault) refl

by_verdict : (text : Text) (tokens : List Token) (v : Verdict) → Tokens text tokens → verdict (lexemes text tokens) ≡ v → script_of text ≡ tree_by v (lexemes text tokens) (last_line tokens)
unfolding script_of
by_verdict text tokens v are is = ap (script_by text) (tokens_are text tokens are) ∙ ap (λ z. tree_by z (lexemes text tokens) (last_line tokens)) is

pub tree_is : (text : Text) (tokens : List Token) (tree : Script) → Tokens text tokens → HasTree (lexemes text tokens) tree → script_of text ≡ Ok (record { tree = tree; last_line = last_line tokens })
tree_is text tokens tree are has = by_verdict text tokens (accepts tree) are (accepted (lexemes text tokens) tree has.derived has.shallow)

-- the number of a token, from how many are left
number_of : (size left token : ℕ) → left ≡ size - token → 0 < left → size - left ≡ token
number_of size left token is some = omega (arith, is, some)

line_of_place : (ts : Lexemes) (left token line : ℕ) → left ≡ length ts - token → 0 < left → line ≡ x.line_of (drop token ts) → line_at left ts ≡ line
line_of_place ts left token line is some line_is = ap (λ z. x.line_of (drop z ts)) (number_of (length ts) left token is some) ∙ sym line_is

pub syntax_is : (text : Text) (tokens : List Token) (token line : ℕ) → Tokens text tokens → StopsAt (lexemes text tokens) (length (lexemes text tokens) - token) → line ≡ x.line_of (drop token (lexemes text tokens)) → script_of text ≡ Err (syntax line)
syntax_is text tokens token line are stop line_is =
    let ts = lexemes text tokens in
    let left = length ts - token in
    by_verdict text tokens (stops left) are (verdict_stop ts left stop) ∙ ap (λ z. Err (syntax z)) (line_of_place ts left token line refl ((stop_some ts left stop).0) line_is)

pub nesting_is : (text : Text) (tokens : List Token) (token line : ℕ) → Tokens text tokens → DeepAt (lexemes text tokens) (length (lexemes text tokens) - token) → line ≡ x.line_of (drop token (lexemes text tokens)) → script_of text ≡ Err (nests line)
nesting_is text tokens token line are deep line_is =
    let ts = lexemes text tokens in
    let left = length ts - token in
    by_verdict text tokens (too_deep left) are (verdict_deep ts left (tokens_told text tokens are) deep) ∙ ap (λ z. Err (nests z)) (line_of_place ts left token line refl ((deep_some ts left deep).0) line_is)

-- ---- what the code answers

pub loads_tokens : (text : Text) (tokens : List Token) → Tokens text tokens → (fault : ParseError) → TellsPlace (lexemes text tokens) fault → TellsLine (lexemes text tokens) fault → Loads (script_of text) (Err (of_tokens fault))
loads_tokens text tokens are (p.Syntax token line) place line_is = syntax_is text tokens token line are place line_is
loads_tokens text tokens are (p.NestLimit token line) place line_is = nesting_is text tokens token line are place line_is
loads_tokens text tokens are p.Memory place line_is = tt

pub loads_text : (text : Text) (fault : LexError) → IsFault text fault → Loads (script_of text) (Err (of_text fault))
loads_text text (l.Fault kind line) is = lexical_fault text kind line is
loads_text text l.Memory is = tt

-- ---- what the function gives is what the text has

abbrev Says : Text → Result Loaded NoTree → Type 0
Says text (Ok loaded) = HasScript text loaded
Says text (Err (lexical kind line)) = LexFault text kind line
Says text (Err (syntax line)) = HasPlace StopsAt text line
Says text (Err (nests line)) = HasPlace DeepAt text line

-- how many are left, from the number of the first of them
again : (size left : ℕ) → left ≤ size → size - (size - left) ≡ left
again size left within = omega (arith, within)

place_of : (Is : Lexemes → ℕ → Type 0) (text : Text) (tokens : List Token) (left : ℕ) → Tokens text tokens → left ≤ length (lexemes text tokens) → Is (lexemes text tokens) left → HasPlace Is text (line_at left (lexemes text tokens))
place_of Is text tokens left are within holds = record {
  tokens = tokens;
  tokens_are = are;
  token = length (lexemes text tokens) - left;
  place = subst (Is (lexemes text tokens)) (sym (again (length (lexemes text tokens)) left within)) holds;
  line_is = refl;
}

says_by : (text : Text) (tokens : List Token) → Tokens text tokens → (v : Verdict) → verdict (lexemes text tokens) ≡ v → Answers (lexemes text tokens) v → Says text (tree_by v (lexemes text tokens) (last_line tokens))
says_by text tokens are (accepts tree) is (script, shallow) = record { tokens = tokens; tokens_are = are; tree_is = record { derived = script; shallow = shallow }; ends_on = refl }
says_by text tokens are (stops zero) is begins = absurd (tokens_told text tokens are is)
says_by text tokens are (stops (suc n)) is stop = place_of StopsAt text tokens (suc n) are ((stop_some (lexemes text tokens) (suc n) stop).1) stop
says_by text tokens are (too_deep n) is deep = place_of DeepAt text tokens n are ((deep_some (lexemes text tokens) n deep).1) deep

says_read : (text : Text) (x : Reading) → Has text x → Says text (script_by text x)
says_read text (Ok tokens) are = says_by text tokens are (verdict (lexemes text tokens)) refl (exact (lexemes text tokens))
says_read text (Err fault) is = is

says : (text : Text) → Says text (script_of text)
unfolding script_of
says text = says_read text (tokens_of text) (reading_has text)

pub script_found : ScriptIsFound
script_found text loaded = (
  λ same. subst (Says text) same (says text),
  λ has. let found = tree_is text has.tokens loaded.tree has.tokens_are has.tree_is in rw (sym has.ends_on) found,
)

pub fault_told : FirstFaultIsTold
fault_told text kind line = (λ same. subst (Says text) same (says text), λ fault. lexical_fault text kind line fault)

pub syntax_told : SyntaxIsTold
syntax_told text line = (λ same. subst (Says text) same (says text), λ has. syntax_is text has.tokens has.token line has.tokens_are has.place has.line_is)

pub nesting_told : NestingIsTold
nesting_told text line = (λ same. subst (Says text) same (says text), λ has. nesting_is text has.tokens has.token line has.tokens_are has.place has.line_is)
