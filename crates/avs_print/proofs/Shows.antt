-- What the grammar sees of words that were read.
use Rattle.std.proofs.Common.{◌≡◌, refl, ap, ◌∙◌, ℕ, ◌<◌, Bool, true, false, List, [], ◌∷◌, ◌++◌, length, Option, Some, None, arith}
use Rattle.avs_lex.specs.declared.token.TokenKind.{TokenKind}
use Rattle.avs_lex.specs.declared.token.TokenKind.TheVariants as k
use Rattle.avs_lex.specs.Spelling.{spelling, Text}
use Rattle.avs_lex.specs.Written.{Word}
use Rattle.avs_tree.specs.Lexeme.{Lexemes, said, symbol_by, word_of, keyword_of, word_of_keyword}
use Rattle.avs_tree.specs.Grammar.{Is, IsAt, IsPunctuation, IsKeyword, IsName, IsString, Labels}
use Rattle.avs_tree.specs.declared.symbol.Symbol.TheVariants as s
use Rattle.avs_tree.specs.declared.words.Keyword.{Keyword}
use Rattle.avs_tree.specs.declared.words.Keyword.TheVariants as w
use Rattle.avs_tree.specs.declared.symbol.Punctuation.TheVariants as m
use Rattle.avs_tree.specs.declared.tree.Operator.{Operator}
use Rattle.avs_tree.specs.declared.tree.Operator.TheVariants as o
use Rattle.avs_print.specs.Printed.{word_as, ident, punctuation, ended, Open, keyword, quoted, operator_kind, label_words}
use Rattle.avs_print.proofs.Plain.{IsNamed, IsSaid, PlainLabel}

-- a newline where a line ends
abbrev pub EndsAs : Bool → Lexemes → Lexemes → Type 0
EndsAs false ts us = ts ≡ us
EndsAs true ts us = IsPunctuation m.Newline ts us

-- these are a word, and then us
abbrev pub ShowsOne : Word → Lexemes → Lexemes → Type 0
ShowsOne v ts us = (line : ℕ) × (vs : Lexemes) × (ts ≡ (symbol_by v.kind (said v.kind v.bytes), said v.kind v.bytes, line) ∷ vs) × EndsAs v.ends_line vs us

-- these are words, and then us
abbrev pub Shows : List Word → Lexemes → Lexemes → Type 0
Shows [] ts us = ts ≡ us
Shows (v ∷ words) ts us = (vs : Lexemes) × ShowsOne v ts vs × Shows words vs us

pub shows_both : (a b : List Word) (ts us : Lexemes) → Shows (a ++ b) ts us → (vs : Lexemes) × Shows a ts vs × Shows b vs us
shows_both [] b ts us h = (ts, refl, h)
shows_both (v ∷ a) b ts us (vs, one, rest) = let both = shows_both a b vs us rest in (both.0, (vs, one, both.1), both.2)

pub shows_last : (v : Word) (ts us : Lexemes) → Shows (v ∷ []) ts us → ShowsOne v ts us
shows_last v ts us (vs, one, same) = rw same at one

-- ---- single words that end no line

pub shown : (kind : TokenKind) (bytes : Text) (ts us : Lexemes) → ShowsOne (word_as kind bytes) ts us
    → (line : ℕ) × (ts ≡ (symbol_by kind (said kind bytes), said kind bytes, line) ∷ us)
shown kind bytes ts us (line, vs, is, same) = (line, is ∙ ap (λ z. (symbol_by kind (said kind bytes), said kind bytes, line) ∷ z) same)

pub is_shown : (kind : TokenKind) (bytes : Text) (ts us : Lexemes) → ShowsOne (word_as kind bytes) ts us → Is (symbol_by kind (said kind bytes)) ts us
is_shown kind bytes ts us one = let h = shown kind bytes ts us one in (h.0, (said kind bytes, h.1))

operator_symbol : (op : Operator) (x : Text) → symbol_by (operator_kind op) x ≡ s.Operator op
operator_symbol o.Or x = refl
operator_symbol o.And x = refl
operator_symbol o.Equal x = refl
operator_symbol o.NotEqual x = refl
operator_symbol o.Less x = refl
operator_symbol o.LessEqual x = refl
operator_symbol o.Greater x = refl
operator_symbol o.GreaterEqual x = refl
operator_symbol o.Plus x = refl
operator_symbol o.Minus x = refl
operator_symbol o.PlusPlus x = refl
operator_symbol o.Times x = refl
operator_symbol o.Divide x = refl
operator_symbol o.Remainder x = refl

pub operator_shown : (op : Operator) (ts us : Lexemes) → ShowsOne (punctuation (operator_kind op)) ts us → (line : ℕ) × IsAt (s.Operator op) line ts us
operator_shown op ts us one =
    let kind = operator_kind op in
    let x = said kind (spelling kind) in
    let h = shown kind (spelling kind) ts us one in
    (h.0, (x, h.1 ∙ ap (λ z. (z, x, h.0) ∷ us) (operator_symbol op x)))

pub free_shown : (x : Text) (ts us : Lexemes) → keyword_of x ≡ None → ShowsOne (ident x) ts us → IsName x ts us
free_shown x ts us free one = let h = shown k.Ident x ts us one in (h.0, h.1 ∙ ap (λ z. (word_of z, x, h.0) ∷ us) free)

pub named_shown : (x : Text) (ts us : Lexemes) → IsNamed x → ShowsOne (ident x) ts us → IsName x ts us
named_shown x ts us named = free_shown x ts us named.free

pub said_shown : (x : Text) (ts us : Lexemes) → IsSaid x → ShowsOne (word_as k.Str (quoted x)) ts us → IsString x ts us
said_shown x ts us inside one = let h = shown k.Str (quoted x) ts us one in (h.0, h.1 ∙ ap (λ z. (s.Str, z, h.0) ∷ us) inside.inside)

-- a keyword is read back
keyword_is : (word : Keyword) → keyword_of (word_of_keyword word) ≡ Some word
unfolding keyword_of
keyword_is w.Function = refl
keyword_is _ = refl

pub keyword_shown : (word : Keyword) (ts us : Lexemes) → ShowsOne (keyword word) ts us → IsKeyword word ts us
keyword_shown word ts us one =
    let x = word_of_keyword word in
    let h = shown k.Ident x ts us one in
    (h.0, (x, h.1 ∙ ap (λ z. (word_of z, x, h.0) ∷ us) (keyword_is word)))

pub label_shown : (x : Option Text) (ts us : Lexemes) → PlainLabel x → Shows (label_words x) ts us → Labels x ts us
label_shown None ts us plain h = h
label_shown (Some x) ts us named (vs, one, h) = (vs, named_shown x ts vs named one, is_shown k.Assign (spelling k.Assign) vs us (shows_last (punctuation k.Assign) vs us h))

-- ---- the last word of a line

-- no line ends after the last word
stays : (v : Word) (ts : Lexemes) → v.ends_line ≡ false → EndsAs v.ends_line ts ts
stays v ts open_ = rw open_ refl

pub shows_ended : (words : List Word) (ts us : Lexemes) → Open words → 0 < length words → Shows (ended words) ts us → (vs : Lexemes) × Shows words ts vs × IsPunctuation m.Newline vs us
shows_ended [] ts us open_ some h = absurd (omega (arith, some))
shows_ended (v ∷ []) ts us open_ some (v1, (line, v2, is, newline), same) = (v2, (v2, (line, v2, is, stays v v2 open_), refl), rw same at newline)
shows_ended (v ∷ u ∷ words) ts us open_ some (v1, one, h) =
    let rest = shows_ended (u ∷ words) v1 us open_ (omega arith) h in
    (rest.0, (v1, one, rest.1), rest.2)
