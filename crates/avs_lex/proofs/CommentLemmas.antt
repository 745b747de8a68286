-- One step through a nested comment.
use Rattle.std.proofs.Common.{◌≡◌, ◌∙◌, ℕ, suc, ◌+◌, ◌-◌, ◌<◌, ◌≤◌, ap, refl, arith, [], ◌∷◌, length, drop, get_or, Some, None, ◌&&◌, if◌then◌else◌, ◌==◌, false, length-drop}
use Rattle.std.proofs.lemmas.List.{drop_more}
use Rattle.std.proofs.lemmas.Bool.Decides.{nat_tests}
use Rattle.avs_lex.proofs.TestLemmas.{by_test}
use Rattle.avs_lex.specs.Spelling.{Text, star, left_bracket, right_bracket}
use Rattle.avs_lex.specs.Piece.{nested_end}

-- two characters are left
pub nested_end_step : (rest : Text) (inner offset : ℕ) → offset + 1 < length rest
    → nested_end inner offset (drop offset rest)
    ≡ (if get_or rest offset 0 == left_bracket && get_or rest (offset + 1) 0 == star then nested_end (inner + 1) (offset + 2) (drop (offset + 2) rest)
    else (if get_or rest offset 0 == star && get_or rest (offset + 1) 0 == right_bracket then (if inner == 0 then Some (offset + 2) else nested_end (inner - 1) (offset + 2) (drop (offset + 2) rest))
    else nested_end inner (offset + 1) (drop (offset + 1) rest)))
nested_end_step rest inner offset more =
    let here : drop offset rest ≡ get_or rest offset 0 ∷ drop (offset + 1) rest = drop_more rest offset 0 (omega arith) in
    let two : offset + 1 + 1 ≡ offset + 2 = omega arith in
    let next : drop (offset + 1) rest ≡ get_or rest (offset + 1) 0 ∷ drop (offset + 2) rest = drop_more rest (offset + 1) 0 more ∙ ap (λ i. get_or rest (offset + 1) 0 ∷ drop i rest) two in
    rw (here, next)

-- one is left, or none
few : (rest : Text) (inner offset : ℕ) → length rest ≤ 1 → nested_end inner offset rest ≡ None
few [] inner offset short = refl
few (c ∷ []) inner offset short = refl
few (c ∷ d ∷ rest) inner offset short = absurd (omega arith)

pub nested_end_over : (rest : Text) (inner offset : ℕ) → length rest ≤ offset + 1 → nested_end inner offset (drop offset rest) ≡ None
nested_end_over rest inner offset over = few (drop offset rest) inner offset (omega (arith, length-drop offset rest))

-- `*]`, which closes a comment inside
pub nested_end_close : (rest : Text) (inner offset : ℕ) → offset + 1 < length rest → get_or rest offset 0 ≡ star → get_or rest (offset + 1) 0 ≡ right_bracket → 0 < inner
    → nested_end inner offset (drop offset rest) ≡ nested_end (inner - 1) (offset + 2) (drop (offset + 2) rest)
nested_end_close rest inner offset more first second open_ =
    let none : (inner == 0) ≡ false = grind (arith, nat_tests) in
    nested_end_step rest inner offset more ∙ rw (first, second, none)

-- neither `[*` nor `*]`
pub nested_end_pass : (rest : Text) (inner offset : ℕ) → offset + 1 < length rest
    → (get_or rest offset 0 == left_bracket && get_or rest (offset + 1) 0 == star) ≡ false → (get_or rest offset 0 == star && get_or rest (offset + 1) 0 == right_bracket) ≡ false
    → nested_end inner offset (drop offset rest) ≡ nested_end inner (offset + 1) (drop (offset + 1) rest)
nested_end_pass rest inner offset more opens closes = nested_end_step rest inner offset more ∙ rw (opens, closes)

pub ruleset steps = (nested_end_step, nested_end_close, nested_end_over)

-- the comment ends with `]`
pub record EndsComment (from : ℕ) (rest : Text) (end : ℕ) : Type 0 where
  pub after : from + 2 ≤ end
  pub within : end ≤ from + length rest
  pub last : get_or rest (end - from - 1) 0 ≡ right_bracket

further : (c d : ℕ) (from : ℕ) (rest : Text) (end : ℕ) → EndsComment (from + 2) rest end → EndsComment from (c ∷ d ∷ rest) end
further c d from rest end next =
    let later : end - from - 1 ≡ suc (suc (end - (from + 2) - 1)) = omega (arith, next.after) in
    record { after = omega (arith, next.after); within = omega (arith, next.within); last = rw later next.last }

pub nested_found : (inner from : ℕ) (rest : Text) (end : ℕ) → nested_end inner from rest ≡ Some end → EndsComment from rest end
nested_found inner from [] end is = cc
nested_found inner from (c ∷ []) end is = cc
nested_found inner from (c ∷ d ∷ rest) end is =
    by_test (c == left_bracket && d == star)
    (λ b. (if b then nested_end (inner + 1) (from + 2) rest else (if c == star && d == right_bracket then (if inner == 0 then Some (from + 2) else nested_end (inner - 1) (from + 2) rest) else nested_end inner (from + 1) (d ∷ rest))) ≡ Some end → EndsComment from (c ∷ d ∷ rest) end)
    (λ opens is. further c d from rest end (nested_found (inner + 1) (from + 2) rest end is))
    (λ _. by_test (c == star && d == right_bracket)
    (λ b. (if b then (if inner == 0 then Some (from + 2) else nested_end (inner - 1) (from + 2) rest) else nested_end inner (from + 1) (d ∷ rest)) ≡ Some end → EndsComment from (c ∷ d ∷ rest) end)
    (λ closes. by_test (inner == 0) (λ b. (if b then Some (from + 2) else nested_end (inner - 1) (from + 2) rest) ≡ Some end → EndsComment from (c ∷ d ∷ rest) end)
    (λ _ is.
    let e : from + 2 ≡ end = cc in
    let one : end - from - 1 ≡ 1 = omega arith in
    let bracket : d ≡ right_bracket = grind (arith, nat_tests) in
    record { after = omega arith; within = omega arith; last = rw one bracket })
    (λ _ is. further c d from rest end (nested_found (inner - 1) (from + 2) rest end is)))
    (λ _ is.
    let next = nested_found inner (from + 1) (d ∷ rest) end is in
    let later : end - from - 1 ≡ suc (end - (from + 1) - 1) = omega (arith, next.after) in
    record { after = omega (arith, next.after); within = omega (arith, next.within); last = rw later next.last }))
    is
