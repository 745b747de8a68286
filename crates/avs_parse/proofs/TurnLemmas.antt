-- One turn of the machine.
use Rattle.std.proofs.Common.{◌≡◌, refl, ap, sym, subst, ◌∙◌, slice_index_or, take, drop, ◌+◌, ◌-◌, ◌*◌, All, ℕ, suc, ◌<◌, ◌≤◌, List, [], ◌∷◌, length, arith}
use Rattle.std.proofs.Math.Seq.{take-length}
use Rattle.avs_lex.specs.Spelling.{Text}
use Rattle.avs_lex.specs.declared.token.Token.{Token}
use Rattle.avs_tree.specs.Lexeme.{Lexeme, Lexemes, lexeme_of, lexemes}
use Rattle.avs_tree.specs.Machine.{State, Step, advance}
use Rattle.avs_tree.specs.Place.{go_on, run}
use Rattle.avs_tree.proofs.CallerLemmas.{same_advance}

module _ (state : State) (t : Lexeme) (ts : Lexemes) where
  turn : (x : Step) → advance state (t ∷ []) ≡ x → run state (t ∷ ts) ≡ go_on x ts (λ next. run next ts)
  turn x is = ap (λ z. go_on z ts (λ next. run next ts)) (same_advance t ts [] state ∙ is)

-- the same of the first of the tokens that are left
module _ (text : Text) (state : State) (t : Lexeme) (d : Token) where
  pub first_step : (rest : List Token) (x : Step) → 0 < length rest → t ≡ lexeme_of text (slice_index_or rest 0 d) → x ≡ advance state (t ∷ []) → run state (lexemes text rest) ≡ go_on x (lexemes text (drop 1 rest)) (λ next. run next (lexemes text (drop 1 rest)))
  first_step [] x some is step = absurd (omega (arith, some))
  first_step (r ∷ rs) x some is step = turn state (lexeme_of text r) (lexemes text rs) x (subst (λ z. advance state (z ∷ []) ≡ x) is (sym step))

  pub first_again : (rest : List Token) (next : State) → 0 < length rest → t ≡ lexeme_of text (slice_index_or rest 0 d) → advance next (t ∷ []) ≡ advance state (t ∷ []) → run next (lexemes text rest) ≡ run state (lexemes text rest)
  first_again [] next some is same = absurd (omega (arith, some))
  first_again (r ∷ rs) next some is same =
      turn next (lexeme_of text r) (lexemes text rs) (advance state (lexeme_of text r ∷ [])) (subst (λ z. advance next (z ∷ []) ≡ advance state (z ∷ [])) is same)
      ∙ sym (turn state (lexeme_of text r) (lexemes text rs) (advance state (lexeme_of text r ∷ [])) refl)

-- ---- the tokens after the first

pub after_is : (rest : List Token) → take (length rest - 1) (drop 1 rest) ≡ drop 1 rest
after_is [] = refl
after_is (r ∷ rs) = let size : length (r ∷ rs) - 1 ≡ length rs = omega arith in ap (λ n. take n rs) size ∙ take-length rs

after_size : (rest : List Token) → 0 < length rest → length (take (length rest - 1) (drop 1 rest)) + 1 ≡ length rest
after_size [] some = absurd (omega (arith, some))
after_size (r ∷ rs) some = let e = ap length (after_is (r ∷ rs)) in omega (arith, e)

-- how many turns are left, and how many are made, after a token that opens at most two things more
pub fewer_left : (rest : List Token) (before now : ℕ) → 0 < length rest → now ≤ before + 2 → 3 * length (take (length rest - 1) (drop 1 rest)) + now < 3 * length rest + before
fewer_left rest before now some few = let e = after_size rest some in omega (arith, e, few)

pub still_few : (rest : List Token) (turns counted before now total : ℕ) → 0 < length rest → now ≤ before + 2 → counted ≤ turns + 1 → turns + (3 * length rest + before) ≤ total → counted + (3 * length (take (length rest - 1) (drop 1 rest)) + now) ≤ total
still_few rest turns counted before now total some few one so_far = let e = after_size rest some in omega (arith, e, few, one, so_far)

rest_holds : (P : Token → Type 0) (rest : List Token) → All P rest → All P (drop 1 rest)
rest_holds P [] all k d few = absurd (omega (arith, few))
rest_holds P (r ∷ rs) all k d few = all (suc k) d (omega (arith, few))

pub each_after : (P : Token → Type 0) (rest : List Token) → All P rest → All P (take (length rest - 1) (drop 1 rest))
each_after P rest all = subst (All P) (sym (after_is rest)) (rest_holds P rest all)
