-- What is printed of a script is read again as that script.
use Rattle.std.proofs.Common.{◌≡◌, refl, ap, sym, subst, ◌∙◌, suc, ◌≤◌, Bool, true, false, List, [], ◌∷◌, map, if◌then◌else◌, arith, All}
use Rattle.avs_lex.specs.declared.token.Token.{Token}
use Rattle.avs_lex.specs.declared.token.TokenKind.{TokenKind}
use Rattle.avs_lex.specs.declared.token.TokenKind.TheVariants as k
use Rattle.avs_lex.specs.Spelling.{newline, Text}
use Rattle.avs_lex.specs.Tokens.{Tokens, bytes_of, IsTokenOf, IsTokenList}
use Rattle.avs_lex.specs.Written.{Word, spelled_of}
use Rattle.avs_tree.specs.Lexeme.{Lexemes, said, symbol_by, lexeme_of, lexemes}
use Rattle.avs_tree.specs.Tree.{Script}
use Rattle.avs_tree.specs.Grammar.{IsPunctuation, IsScript, HasTree, script_nesting, nesting_limit}
use Rattle.avs_tree.specs.declared.symbol.Punctuation.TheVariants as m
use Rattle.avs_tree.proofs.CallerLemmas.{one_tree}
use Rattle.avs_lex.proofs.CallerLemmas.{one_reading, written_is_read}
use Rattle.avs_print.specs.WithoutLines.{script_without_lines}
use Rattle.avs_print.specs.Printed.{script_words, printed}
use Rattle.avs_print.specs.Laws.{ReadsBackAs}
use Rattle.avs_print.proofs.Plain.{Fit, AllFit}
use Rattle.avs_print.proofs.PlainLemmas.{script_plain}
use Rattle.avs_print.proofs.NestingLemmas.{script_nesting_without_lines}
use Rattle.avs_print.proofs.WordsLemmas.{words_are}
use Rattle.avs_print.proofs.AgainScript.{again_script}
use Rattle.avs_print.proofs.Shows.{EndsAs, Shows}

-- ---- what the tokens of words show

abbrev spelling_of : Text → Token → TokenKind × Text
spelling_of text t = (t.kind, bytes_of text t)

lexeme_is : (text : Text) (t : Token) (kind : TokenKind) (bytes : Text) → spelling_of text t ≡ (kind, bytes) → lexeme_of text t ≡ (symbol_by kind (said kind bytes), said kind bytes, t.line)
unfolding lexeme_of
lexeme_is text t kind bytes is = ap (λ z. (symbol_by z.0 (said z.0 z.1), said z.0 z.1, t.line)) is

first_same : {A : Type 0} {x y : A} {xs ys : List A} → x ∷ xs ≡ y ∷ ys → x ≡ y
first_same is = cc (is)

rest_same : {A : Type 0} {x y : A} {xs ys : List A} → x ∷ xs ≡ y ∷ ys → xs ≡ ys
rest_same is = cc (is)

-- the words are shown, and then the end
record ShowsAll (words : List Word) (ts : Lexemes) : Type 0 where
  us : Lexemes
  shows : Shows words ts us
  end : IsPunctuation m.End us []

-- after a word, where a line may end
record ShowsAfter (ends_line : Bool) (words : List Word) (ts : Lexemes) : Type 0 where
  vs : Lexemes
  ends : EndsAs ends_line ts vs
  all : ShowsAll words vs

lexeme_first : (text : Text) (t : Token) (ts : List Token) (kind : TokenKind) (bytes : Text) → spelling_of text t ≡ (kind, bytes)
    → lexemes text (t ∷ ts) ≡ (symbol_by kind (said kind bytes), said kind bytes, t.line) ∷ lexemes text ts
lexeme_first text t ts kind bytes is = ap (λ z. z ∷ lexemes text ts) (lexeme_is text t kind bytes is)

shows_after : (text : Text) (ends_line : Bool) (words : List Word) (tokens : List Token)
    → ((ts : List Token) → map (spelling_of text) ts ≡ spelled_of words → ShowsAll words (lexemes text ts))
    → map (spelling_of text) tokens ≡ (if ends_line then (k.Newline, newline ∷ []) ∷ spelled_of words else spelled_of words)
    → ShowsAfter ends_line words (lexemes text tokens)
shows_after text false words tokens go same = record { vs = lexemes text tokens; ends = refl; all = go tokens same }
shows_after text true words [] go same = absurd (cc (same))
shows_after text true words (t ∷ ts) go same =
    record {
      vs = lexemes text ts;
      ends = (t.line, (newline ∷ [], lexeme_first text t ts k.Newline (newline ∷ []) (first_same same)));
      all = go ts (rest_same same);
    }

shows_all : (text : Text) (words : List Word) (tokens : List Token) → map (spelling_of text) tokens ≡ spelled_of words → ShowsAll words (lexemes text tokens)
shows_all text [] [] same = absurd (cc (same))
shows_all text [] (t ∷ []) same = record { us = lexemes text (t ∷ []); shows = refl; end = (t.line, ([], lexeme_first text t [] k.End [] (first_same same))) }
shows_all text [] (t ∷ u ∷ ts) same = absurd (cc (same))
shows_all text (w ∷ words) [] same = absurd (cc (same))
shows_all text (w ∷ words) (t ∷ ts) same =
    let more = shows_after text w.ends_line words ts (shows_all text words) (rest_same same) in
    record {
      us = more.all.us;
      shows = (more.vs, (t.line, lexemes text ts, lexeme_first text t ts w.kind w.bytes (first_same same), more.ends), more.all.shows);
      end = more.all.end;
    }

-- ---- what the grammar sees of tokens

token_fits : (text : Text) (t : Token) → IsTokenOf text t → Fit (lexeme_of text t)
unfolding lexeme_of
token_fits text t is = record { kind = t.kind; bytes = bytes_of text t; spelled = is.spelled; symbol = refl; content = refl }

tokens_fit : (text : Text) (tokens : List Token) → All (IsTokenOf text) tokens → AllFit (lexemes text tokens)
tokens_fit text [] all = tt
tokens_fit text (t ∷ ts) all = (token_fits text t (all 0 t (omega arith)), tokens_fit text ts (λ i d h. all (suc i) d (omega (arith, h))))

-- ---- the law

-- Lines don't matter to nesting.
as_shallow : (again tree : Script) → script_without_lines again ≡ script_without_lines tree → script_nesting tree ≤ nesting_limit → script_nesting again ≤ nesting_limit
as_shallow again tree same shallow = omega (arith, shallow, sym (script_nesting_without_lines again) ∙ ap script_nesting same ∙ script_nesting_without_lines tree)

-- the tokens of a text are one list, and their tree is one
only : (text : Text) (tokens others : List Token) (again other : Script) → Tokens text tokens → Tokens text others → HasTree (lexemes text tokens) again → HasTree (lexemes text others) other → other ≡ again
only text tokens others again other are others_are tree others_tree =
    one_tree (lexemes text tokens) other again (subst (λ z. IsScript (lexemes text z) other) ((one_reading text).one_list others tokens others_are are) others_tree.derived) tree.derived

pub printed_is_read : (text : Text) (tokens : List Token) (tree : Script) → IsTokenList text tokens → HasTree (lexemes text tokens) tree → ReadsBackAs (printed tree) tree
printed_is_read text tokens tree list has =
    let plain = script_plain (lexemes text tokens) tree (tokens_fit text tokens list.each) has.derived in
    let read = written_is_read (script_words tree) (words_are tree plain) in
    let shown = shows_all (printed tree) (script_words tree) read.tokens read.same in
    let found = again_script tree plain (lexemes (printed tree) read.tokens) shown.us shown.shows shown.end in
    let tree_is : HasTree (lexemes (printed tree) read.tokens) found.again = record { derived = found.derived; shallow = as_shallow found.again tree found.same has.shallow } in
    record {
      tokens = read.tokens;
      tokens_are = read.are;
      again = found.again;
      tree_is = tree_is;
      same = λ others other are other_is. ap script_without_lines (only (printed tree) read.tokens others found.again other read.are are tree_is other_is) ∙ found.same;
    }
