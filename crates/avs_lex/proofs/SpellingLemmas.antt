-- How the kinds of the punctuation are spelled.
use Rattle.std.proofs.Common.{◌≡◌, ◌∙◌, ◌-◌, sym, refl, ap, arith, List, [], ◌∷◌, ◌++◌, length, get_or, Bool, true, false, cond, ◌&&◌, nat_lt, Some, find, nat_eq}
use Rattle.std.specs.List.{list_all, starts_with}
use Rattle.avs_lex.specs.declared.token.TokenKind.{TokenKind}
use Rattle.avs_lex.specs.declared.token.TokenKind.TheVariants.{Ident, Int, Str, Newline, End}
use Rattle.avs_lex.proofs.TestLemmas.{by_test}
use Rattle.avs_lex.specs.Spelling.{Text, spelling, pairs, singles, first_of, Spells}

-- what is found passes the test, and any test that all pass
pub found_passes : (test : TokenKind → Bool) (kinds : List TokenKind) (kind : TokenKind) → find test kinds ≡ Some kind → test kind ≡ true
found_passes test [] kind is = cc
found_passes test (k ∷ kinds) kind is =
    by_test (test k) (λ b. cond b (Some k) (find test kinds) ≡ Some kind → test kind ≡ true)
    (λ passes is. let e : k ≡ kind = cc in ap test (sym e) ∙ passes)
    (λ _ is. found_passes test kinds kind is) is

pub found_among : (all test : TokenKind → Bool) (kinds : List TokenKind) (kind : TokenKind) → list_all all kinds ≡ true → find test kinds ≡ Some kind → all kind ≡ true
found_among all test [] kind each is = cc
found_among all test (k ∷ kinds) kind each is =
    let here : all k ≡ true = grind arith in
    let rest : list_all all kinds ≡ true = grind arith in
    by_test (test k) (λ b. cond b (Some k) (find test kinds) ≡ Some kind → all kind ≡ true)
    (λ passes is. let e : k ≡ kind = cc in ap all (sym e) ∙ here)
    (λ _ is. found_among all test kinds kind rest is) is

-- punctuation
abbrev pub is_punctuation : TokenKind → Bool
is_punctuation Ident = false
is_punctuation (Int n) = false
is_punctuation Str = false
is_punctuation Newline = false
is_punctuation End = false
is_punctuation kind = true

-- it has characters, and the last is an ASCII character
abbrev pub ends_ascii : TokenKind → Bool
ends_ascii kind = nat_lt 0 (length (spelling kind)) && nat_lt (get_or (spelling kind) (length (spelling kind) - 1) 0) 128

pub Spells-punctuation : (kind : TokenKind) (bytes : Text) → is_punctuation kind ≡ true → bytes ≡ spelling kind → Spells kind bytes
Spells-punctuation Ident bytes is spelled = cc
Spells-punctuation (Int n) bytes is spelled = cc
Spells-punctuation Str bytes is spelled = cc
Spells-punctuation kind bytes is spelled = spelled

pub record IsPunctuationAt (kind : TokenKind) (rest : Text) : Type 0 where
  pub starts : starts_with nat_eq rest (spelling kind) ≡ true
  pub punctuation : is_punctuation kind ≡ true
  pub ascii : ends_ascii kind ≡ true

pub first_of_punctuation : (rest : Text) (kind : TokenKind) → first_of (pairs ++ singles) rest ≡ Some kind → IsPunctuationAt kind rest
first_of_punctuation rest kind is = record {
  starts = found_passes (λ kind. starts_with nat_eq rest (spelling kind)) (pairs ++ singles) kind is;
  punctuation = found_among is_punctuation (λ kind. starts_with nat_eq rest (spelling kind)) (pairs ++ singles) kind refl is;
  ascii = found_among ends_ascii (λ kind. starts_with nat_eq rest (spelling kind)) (pairs ++ singles) kind refl is;
}
