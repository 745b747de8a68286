-- The ops of a term, counted: an input has fewer.
use Rattle.std.proofs.Common.{◌≡◌, ℕ, zero, suc, ◌+◌, ◌<◌, ◌≤◌, List, [], ◌∷◌, length, map, get_or, arith}
use Rattle.clip_term.specs.declared.term.Term.{Term, out-Term}
use Rattle.clip_term.specs.declared.term.Term.TheOpen.{Term-F}
use Rattle.clip_term.specs.declared.term.Term.TheFolds.{fold-Term, fold_out-Term}

abbrev pub all : List ℕ → ℕ
all [] = 0
all (n ∷ ns) = n + all ns

abbrev count_step : Term-F ℕ → ℕ
count_step term = 1 + all term.inputs.items

unfoldable pub ops_in : Term → ℕ
ops_in = fold-Term ℕ count_step

counted : (t : Term) → ops_in t ≡ 1 + all (map ops_in (out-Term t).inputs.items)
unfolding ops_in
counted t = fold_out-Term ℕ count_step t

one_of_all : (ts : List Term) (i : ℕ) (d : Term) → i < length ts → ops_in (get_or ts i d) ≤ all (map ops_in ts)
one_of_all [] i d h = absurd (omega arith)
one_of_all (t ∷ ts) zero d h = omega arith
one_of_all (t ∷ ts) (suc i) d h = let later = one_of_all ts i d (omega arith) in omega arith

-- what a recursion over a term goes down by
pub fewer : (t input d : Term) (i n : ℕ) → i < length (out-Term t).inputs.items → input ≡ get_or (out-Term t).inputs.items i d → ops_in t ≡ n → ops_in input < n
fewer t input d i n h is e = search (arith, one_of_all, counted)
