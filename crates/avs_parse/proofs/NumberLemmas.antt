-- The number of a token is at most the offset at which it starts, and so it fits into 32 bits.
use Rattle.std.proofs.Common.{◌≡◌, inl, inr, ℕ, zero, suc, ◌+◌, ◌-◌, ◌<◌, ◌≤◌, refl, ap, subst, arith, List, [], ◌∷◌, length, slice_index_or, take, drop, add-one, nat_lt}
use Rattle.std.proofs.lemmas.Bool.Decides.{nat_tests}
use Rattle.std.proofs.lemmas.List.{length-map}
use Rattle.avs_lex.specs.declared.token.Token.{Token}
use Rattle.avs_lex.specs.declared.token.TokenKind.{TokenKind}
use Rattle.avs_lex.specs.declared.token.TokenKind.TheVariants.{Ident, Int, Str, Newline, End, LeftParen, RightParen, LeftBrace, RightBrace, Comma, Dot, Assign, Equal, NotEqual, Less, LessEqual, Greater, GreaterEqual, Plus, PlusPlus, Minus, Times, Divide, Remainder, AndAnd, OrOr, Not, Question, Colon}
use Rattle.avs_lex.specs.Spelling.{Text, Spells}
use Rattle.avs_lex.specs.Tokens.{bytes_of, IsTokenOf, IsTokenList}
use Rattle.avs_tree.specs.Lexeme.{lexeme_of, lexemes, line_of}
use Rattle.avs_lex.proofs.CallerLemmas.{either}
use Rattle.avs_tree.specs.Tree.{Script}
use Rattle.avs_tree.specs.Grammar.{HasTree}
use Rattle.avs_tree.specs.Sizes.{IsScriptShort}
use Rattle.avs_tree.proofs.CallerLemmas.{script_fits}

-- only the end is spelled as nothing
nothing_spells : (kind : TokenKind) → Spells kind [] → kind ≡ End
nothing_spells End is = refl
nothing_spells Ident is = absurd (cc (is.begins))
nothing_spells (Int n) (inl is) = absurd (omega (arith, is.some))
nothing_spells (Int n) (inr is) = absurd (omega (arith, is.some))
nothing_spells Str is = absurd (omega (arith, is.long))
nothing_spells Newline is = absurd (cc (is))
nothing_spells LeftParen is = absurd (cc (is))
nothing_spells RightParen is = absurd (cc (is))
nothing_spells LeftBrace is = absurd (cc (is))
nothing_spells RightBrace is = absurd (cc (is))
nothing_spells Comma is = absurd (cc (is))
nothing_spells Dot is = absurd (cc (is))
nothing_spells Assign is = absurd (cc (is))
nothing_spells Equal is = absurd (cc (is))
nothing_spells NotEqual is = absurd (cc (is))
nothing_spells Less is = absurd (cc (is))
nothing_spells LessEqual is = absurd (cc (is))
nothing_spells Greater is = absurd (cc (is))
nothing_spells GreaterEqual is = absurd (cc (is))
nothing_spells Plus is = absurd (cc (is))
nothing_spells PlusPlus is = absurd (cc (is))
nothing_spells Minus is = absurd (cc (is))
nothing_spells Times is = absurd (cc (is))
nothing_spells Divide is = absurd (cc (is))
nothing_spells Remainder is = absurd (cc (is))
nothing_spells AndAnd is = absurd (cc (is))
nothing_spells OrOr is = absurd (cc (is))
nothing_spells Not is = absurd (cc (is))
nothing_spells Question is = absurd (cc (is))
nothing_spells Colon is = absurd (cc (is))

no_bytes : (text : Text) (t : Token) → IsTokenOf text t → t.end ≤ t.start → bytes_of text t ≡ []
no_bytes text t is empty = let none : t.end - t.start ≡ 0 = omega (arith, empty) in ap (λ n. take n (drop t.start text)) none

-- a token that is not the end has characters
has_bytes : (text : Text) (t : Token) → IsTokenOf text t → (t.kind ≡ End → ⊥) → t.start < t.end
has_bytes text t is other =
    either (nat_lt t.start t.end) (t.start < t.end) (λ yes_. grind (arith, nat_tests))
    (λ no_. let empty : t.end ≤ t.start = grind (arith, nat_tests) in absurd (other (nothing_spells t.kind (subst (Spells t.kind) (no_bytes text t is empty) is.spelled))))

pub number_below : (text : Text) (tokens : List Token) → IsTokenList text tokens → (k : ℕ) (d : Token) → k < length tokens → k ≤ (slice_index_or tokens k d).start
number_below text tokens list zero d few = omega arith
number_below text tokens list (suc k) d few =
    let below = number_below text tokens list k d (omega (arith, few)) in
    let apart = list.apart k d (omega (arith, few)) in
    let long = has_bytes text (slice_index_or tokens k d) (list.each k d (omega (arith, few))) (λ end. let last = (list.ended k d (omega (arith, few))).0 end in omega (arith, last, few)) in
    let after : k + 1 ≤ (slice_index_or tokens (k + 1) d).start = omega (arith, below, apart, long) in
    rw add-one at after

pub line_is : (text : Text) (tokens : List Token) (k : ℕ) → k < length tokens → (d : Token) → (slice_index_or tokens k d).line ≡ line_of (drop k (lexemes text tokens))
unfolding lexeme_of
line_is text [] k few d = absurd (omega (arith, few))
line_is text (t ∷ ts) zero few d = refl
line_is text (t ∷ ts) (suc k) few d = line_is text ts k (omega (arith, few)) d

-- a text has at most one token more than it has bytes, the end
few_tokens : (text : Text) (tokens : List Token) → IsTokenList text tokens → length tokens ≤ suc (length text)
few_tokens text [] list = omega arith
few_tokens text (t ∷ ts) list =
    let low = number_below text (t ∷ ts) list (length ts) t (omega arith) in
    let last = list.each (length ts) t (omega arith) in
    let ordered = last.ordered in
    let inside = last.inside in
    omega (arith, low, ordered, inside)

-- no statement of a text has more expressions than the text has bytes
pub short_script : (text : Text) (tokens : List Token) (tree : Script) → IsTokenList text tokens → HasTree (lexemes text tokens) tree → IsScriptShort (length text) tree
short_script text tokens tree list has =
    let few = few_tokens text tokens list in
    let same = length-map tokens (lexeme_of text) in
    script_fits (length text) (lexemes text tokens) tree has.derived (omega (arith, few, same))
