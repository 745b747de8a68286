-- What the tests of the next token say.
use Rattle.std.proofs.Common.{◌≡◌, refl, ap, subst, ℕ, ◌<◌, ◌≤◌, Bool, true, false, ◌&&◌, [], ◌∷◌, Option, Some, None, rules, arith, nat_eq, nat_lt, nat_le, if◌then◌else◌}
use Rattle.std.proofs.lemmas.Bool.Decides.{nat_tests}
use denote.Enum.Bare.{same_true}
use Rattle.avs_tree.specs.contracts.symbol.Punctuation.{the_type}
use Rattle.avs_tree.specs.Lexeme.{Lexemes, precedence_of, line_of, peek, content_at, tail, punctuation_by, is_punctuation, operator_by}
use Rattle.avs_tree.specs.Grammar.{Is, IsPunctuation}
use Rattle.avs_tree.specs.declared.symbol.Symbol.{Symbol}
use Rattle.avs_tree.specs.declared.symbol.Symbol.TheVariants as s
use Rattle.avs_tree.specs.declared.symbol.Punctuation.{Punctuation}
use Rattle.avs_tree.specs.declared.tree.Operator.{Operator}

pub next_is : (ts : Lexemes) (symbol : Symbol) → peek ts ≡ Some symbol → ts ≡ (symbol, content_at ts, line_of ts) ∷ tail ts
next_is [] symbol h = absurd (cc)
next_is (t ∷ ts) symbol h = let e : t.0 ≡ symbol = cc in ap (λ x. (x, t.1, t.2) ∷ ts) e

pub is_next : (ts : Lexemes) (symbol : Symbol) → peek ts ≡ Some symbol → Is symbol ts (tail ts)
is_next ts symbol h = (line_of ts, (content_at ts, next_is ts symbol h))

pub punctuation_by_is : (punctuation : Punctuation) (o : Option Symbol) → punctuation_by punctuation o ≡ true → o ≡ Some (s.Punctuation punctuation)
punctuation_by_is punctuation (Some (s.Punctuation next)) h = ap (λ x. Some (s.Punctuation x)) (same_true the_type (search rules) next punctuation h)
punctuation_by_is punctuation _ h = absurd (cc)

pub is_here : (punctuation : Punctuation) (ts : Lexemes) → is_punctuation punctuation ts ≡ true → IsPunctuation punctuation ts (tail ts)
unfolding is_punctuation
is_here punctuation ts h = is_next ts (s.Punctuation punctuation) (punctuation_by_is punctuation (peek ts) h)

-- each way that a choice may have gone
pub on_if : {A : Type 0} (P : A → Type 0) (Q : Type 0) (b : Bool) (x y : A) → (b ≡ true → P x → Q) → (b ≡ false → P y → Q) → P (if b then x else y) → Q
on_if P Q true x y f g h = f refl h
on_if P Q false x y f g h = g refl h

pub in_if : {A : Type 0} (P : A → Type 0) (b : Bool) (x y : A) → (b ≡ true → P x) → (b ≡ false → P y) → P (if b then x else y)
in_if P true x y f g = f refl
in_if P false x y f g = g refl

pub grows_low : (k r n : ℕ) → (nat_lt k n && nat_le n r) ≡ true → k < n
grows_low k r n h = grind (arith, nat_tests)

pub grows_high : (k r n : ℕ) → (nat_lt k n && nat_le n r) ≡ true → n ≤ r
grows_high k r n h = grind (arith, nat_tests)

pub five : (op : Operator) → nat_eq (precedence_of op) 5 ≡ true → precedence_of op ≡ 5
five op h = grind (arith, nat_tests)

pub not_five : (op : Operator) → nat_eq (precedence_of op) 5 ≡ false → precedence_of op ≡ 5 → ⊥
not_five op h is = grind (arith, nat_tests)

operator_if : (b : Bool) (op op' : Operator) → (if b then Some op else None) ≡ Some op' → (b ≡ true) × (op ≡ op')
operator_if true op op' h = (refl, cc)
operator_if false op op' h = absurd (cc)

pub operator_is : (r : ℕ) (x : Option Symbol) (op : Operator) → operator_by r x ≡ Some op → (x ≡ Some (s.Operator op)) × (precedence_of op ≡ r)
operator_is r (Some (s.Operator op')) op h =
    let both = operator_if (nat_eq (precedence_of op') r) op' op h in
    let same : precedence_of op' ≡ r = grind (arith, nat_tests, both.0) in
    (ap (λ z. Some (s.Operator z)) both.1, subst (λ z. precedence_of z ≡ r) both.1 same)
operator_is r _ op h = absurd (cc)
