-- A nested comment ends where its grammar says.
use Rattle.std.proofs.Common.{◌≡◌, ◌∙◌, ℕ, zero, suc, ◌+◌, ◌-◌, ◌<◌, ap, sym, subst, refl, arith, [], ◌∷◌, length, drop, Option, Some, false, ◌&&◌, ◌==◌, if◌then◌else◌, length-drop, ◌↔◌}
use Rattle.std.proofs.lemmas.Bool.Decides.{nat_tests}
use Rattle.avs_lex.specs.Spelling.{Text, star, left_bracket, right_bracket}
use Rattle.avs_lex.specs.NestedComment.{begins_opening, begins_closing, ClosesComment, closing, character, comment, IsNestedComment}
use Rattle.avs_lex.specs.Piece.{nested_end}
use Rattle.avs_lex.proofs.TestLemmas.{by_test}
use Rattle.avs_lex.proofs.CommentLemmas.{nested_found}

-- one comment more than this many is closed
abbrev ClosesMore : ℕ → Text → Text → Type 0
ClosesMore zero text rest = ClosesComment text rest
ClosesMore (suc k) text rest = (middle : Text) × ClosesComment text middle × ClosesMore k middle rest

more_character : (k c : ℕ) (text rest : Text) → begins_opening (c ∷ text) ≡ false → begins_closing (c ∷ text) ≡ false → ClosesMore k text rest → ClosesMore k (c ∷ text) rest
more_character zero c text rest opens closes h = character c opens closes h
more_character (suc k) c text rest opens closes (middle, h, more) = (middle, character c opens closes h, more)

more_comment : (k : ℕ) (inside rest : Text) → ClosesMore (suc k) inside rest → ClosesMore k (left_bracket ∷ star ∷ inside) rest
more_comment zero inside rest (middle, h, more) = comment h more
more_comment (suc k) inside rest (middle, h, (next, g, more)) = (next, comment h g, more)

closes_at : (inner from : ℕ) (text : Text) (end : ℕ) → nested_end inner from text ≡ Some end → ClosesMore inner text (drop (end - from) text)
closes_at inner from [] end is = cc
closes_at inner from (c ∷ []) end is = cc
closes_at inner from (c ∷ d ∷ text) end is =
    by_test (c == left_bracket && d == star)
    (λ b. (c == left_bracket && d == star) ≡ b → (if b then nested_end (inner + 1) (from + 2) text else (if c == star && d == right_bracket then (if inner == 0 then Some (from + 2) else nested_end (inner - 1) (from + 2) text) else nested_end inner (from + 1) (d ∷ text))) ≡ Some end → ClosesMore inner (c ∷ d ∷ text) (drop (end - from) (c ∷ d ∷ text)))
    (λ opens _ is.
    let first : c ≡ left_bracket = grind (arith, nat_tests) in
    let second : d ≡ star = grind (arith, nat_tests) in
    let found = nested_found (inner + 1) (from + 2) text end is in
    let deeper : inner + 1 ≡ suc inner = omega arith in
    let next = subst (λ k. ClosesMore k text (drop (end - (from + 2)) text)) deeper (closes_at (inner + 1) (from + 2) text end is) in
    let later : end - from ≡ suc (suc (end - (from + 2))) = omega (arith, found.after) in
    rw (first, second, later) (more_comment inner text (drop (end - (from + 2)) text) next))
    (λ opens _. by_test (c == star && d == right_bracket)
    (λ b. (c == star && d == right_bracket) ≡ b → (if b then (if inner == 0 then Some (from + 2) else nested_end (inner - 1) (from + 2) text) else nested_end inner (from + 1) (d ∷ text)) ≡ Some end → ClosesMore inner (c ∷ d ∷ text) (drop (end - from) (c ∷ d ∷ text)))
    (λ closes _.
    let first : c ≡ star = grind (arith, nat_tests) in
    let second : d ≡ right_bracket = grind (arith, nat_tests) in
    by_test (inner == 0) (λ b. (if b then Some (from + 2) else nested_end (inner - 1) (from + 2) text) ≡ Some end → ClosesMore inner (c ∷ d ∷ text) (drop (end - from) (c ∷ d ∷ text)))
    (λ none is.
    let last : inner ≡ 0 = grind (arith, nat_tests) in
    let e : from + 2 ≡ end = cc in
    let two : end - from ≡ 2 = omega arith in
    rw (first, second, last, two) (closing text))
    (λ some is.
    let one : inner ≡ suc (inner - 1) = grind (arith, nat_tests) in
    let found = nested_found (inner - 1) (from + 2) text end is in
    let later : end - from ≡ suc (suc (end - (from + 2))) = omega (arith, found.after) in
    let next = closes_at (inner - 1) (from + 2) text end is in
    rw (first, second, later) (subst (λ k. ClosesMore k (star ∷ right_bracket ∷ text) (drop (end - (from + 2)) text)) (sym one) (text, closing text, next))))
    (λ closes _ is.
    let found = nested_found inner (from + 1) (d ∷ text) end is in
    let later : end - from ≡ suc (end - (from + 1)) = omega (arith, found.after) in
    rw later (more_character inner c (d ∷ text) (drop (end - (from + 1)) (d ∷ text)) opens closes (closes_at inner (from + 1) (d ∷ text) end is)))
    refl)
    refl is

shorter : (text rest : Text) → ClosesComment text rest → length rest < length text
shorter text rest (closing r) = omega arith
shorter text rest (character {text = t} c opens closes h) = omega (arith, shorter t rest h)
shorter text rest (comment {inside = i} {text = t} h g) = omega (arith, shorter i t h, shorter t rest g)

-- what follows once a comment is closed
abbrev once_closed : ℕ → ℕ → Text → Option ℕ
once_closed inner offset rest = if inner == 0 then Some offset else nested_end (inner - 1) offset rest

pass : (inner from c : ℕ) (text : Text) → 0 < length text → begins_opening (c ∷ text) ≡ false → begins_closing (c ∷ text) ≡ false → nested_end inner from (c ∷ text) ≡ nested_end inner (from + 1) text
pass inner from c [] some opens closes = absurd (omega arith)
pass inner from c (d ∷ text) some opens closes = rw (opens, closes) refl

end_at : (text rest : Text) → ClosesComment text rest → (inner from : ℕ) → nested_end inner from text ≡ once_closed inner (from + (length text - length rest)) rest
end_at text rest (closing r) inner from = let two : from + (suc (suc (length r)) - length r) ≡ from + 2 = omega arith in rw two refl
end_at text rest (character {text = t} c opens closes h) inner from =
    let less = shorter t rest h in
    let sum : from + 1 + (length t - length rest) ≡ from + (suc (length t) - length rest) = omega (arith, less) in
    pass inner from c t (omega (arith, less)) opens closes ∙ end_at t rest h inner (from + 1) ∙ ap (λ m. once_closed inner m rest) sum
end_at text rest (comment {inside = i} {text = t} h g) inner from =
    let some : (inner + 1 == 0) ≡ false = grind (arith, nat_tests) in
    let back : inner + 1 - 1 ≡ inner = omega arith in
    let middle = from + 2 + (length i - length t) in
    let deeper : nested_end (inner + 1) (from + 2) i ≡ nested_end inner middle t = end_at i t h (inner + 1) (from + 2) ∙ rw (some, back) refl in
    let sum : middle + (length t - length rest) ≡ from + (suc (suc (length i)) - length rest) = omega (arith, shorter i t h, shorter t rest g) in
    deeper ∙ end_at t rest g inner middle ∙ ap (λ m. once_closed inner m rest) sum

pub nested_comment_ends : (inside : Text) (size : ℕ) → (nested_end 0 2 inside ≡ Some size) ↔ IsNestedComment (left_bracket ∷ star ∷ inside) size
nested_comment_ends inside size = (
  (λ is.
      let found = nested_found 0 2 inside size is in
      let later : size ≡ suc (suc (size - 2)) = omega (arith, found.after) in
      let at : drop (size - 2) inside ≡ drop size (left_bracket ∷ star ∷ inside) = ap (λ n. drop n (left_bracket ∷ star ∷ inside)) (sym later) in
      record { inside = inside; opens = refl; within = omega (arith, found.within); closes = subst (ClosesComment inside) at (closes_at 0 2 inside size is) }),
  (λ h.
      let same : h.inside ≡ inside = cc (h.opens) in
      let rest = drop size (left_bracket ∷ star ∷ inside) in
      let closes = subst (λ t. ClosesComment t rest) same h.closes in
      let less = shorter inside rest closes in
      let sum : 2 + (length inside - length rest) ≡ size = omega (arith, less, h.within, length-drop size (left_bracket ∷ star ∷ inside)) in
      end_at inside rest closes 0 2 ∙ ap Some sum),
)
