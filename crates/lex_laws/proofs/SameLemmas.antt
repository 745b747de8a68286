-- Tests, choices and searches that are the same on both sides.
use Rattle.std.proofs.Common.{◌≡◌, List, [], ◌∷◌, ◌++◌, length, get_or, Bool, true, false, ◌&&◌, ◌||◌, find, if◌then◌else◌, refl, arith}
use Rattle.std.specs.List.{list_all}
use Rattle.avs_lex.specs.Spelling.{Text}

pub both_same : (a b c d : Bool) → a ≡ b → c ≡ d → (a && c) ≡ (b && d)
both_same a b c d one two = rw (one, two) refl

pub either_same : (a b c d : Bool) → a ≡ b → c ≡ d → (a || c) ≡ (b || d)
either_same a b c d one two = rw (one, two) refl

pub choice_same : {X : Type 0} (a b : Bool) (one other none some : X) → a ≡ b → one ≡ other → none ≡ some → (if a then one else none) ≡ (if b then other else some)
choice_same a b one other none some test then_same else_same = rw (test, then_same, else_same) refl

-- a search by two tests that agree on what passes a third, as all do here
pub find_same : {X : Type 0} (one other good : X → Bool) (xs : List X) → ((x : X) → good x ≡ true → one x ≡ other x) → list_all good xs ≡ true → find one xs ≡ find other xs
find_same one other good [] is all = refl
find_same one other good (x ∷ xs) is all =
    let here : good x ≡ true = grind arith in
    let later : list_all good xs ≡ true = grind arith in
    rw (is x here, find_same one other good xs is later) refl

pub left_true : (a b : Bool) → (a && b) ≡ true → a ≡ true
left_true true b is = refl
left_true false b is = is

pub right_true : (a b : Bool) → (a && b) ≡ true → b ≡ true
right_true true b is = is
right_true false b is = cc

-- what comes after a text
pub at_length : (xs after : Text) → get_or (xs ++ after) (length xs) 0 ≡ get_or after 0 0
at_length [] after = refl
at_length (x ∷ xs) after = at_length xs after
