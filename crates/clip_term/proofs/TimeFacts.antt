-- What each filter of the group Time owes to the laws.
use Rattle.std.proofs.Common.{◌≡◌, ℕ, ◌+◌, ◌-◌, ◌%◌, ◌<◌, ◌≤◌, List, [], ◌∷◌, length, arith, Bool, true, false}
use Rattle.std.specs.Prelude.{ℤ, ◌==◌, nat_lt, nat_le, if◌then◌else◌}
use Rattle.std.proofs.lemmas.Bool.Decides.{nat_tests}
use Rattle.std.proofs.lemmas.Grind.{common_steps}
use Rattle.fv_plane.specs.declared.format.Info.{Info}
use Rattle.fv_plane.specs.Info.{IsLawful, Rate}
use Rattle.fv_plane.specs.Refusals.{Refusals}
use Rattle.clip_term.specs.declared.fault.FilterFault.{FilterFault}
use Rattle.clip_term.specs.declared.filter.Filter.{Filter}
use Rattle.clip_term.specs.declared.op.Origin.{Origin}
use Rattle.clip_term.specs.declared.op.TimeOp.{TimeOp}
use Rattle.clip_term.specs.Refusals.{info_at, nat_of, disagreements}
use Rattle.clip_term.specs.Time.{TimeRow, time_row, from_input, spliced, bad_rate}
use Rattle.clip_term.proofs.PassedLemmas.{first_of_many, product, Passed, agreed, or_false}
use Rattle.clip_term.proofs.LimitLemmas.{IsSome, at_least_one, own, halved}

-- the rate of a row is one
abbrev IsRated : (Info → List Info → Refusals FilterFault) → (ℕ → Bool) → Bool → (Info → List Info → Rate) → Type 0
IsRated refusals inputs lists rate = (infos : List Info) → Passed (refusals (info_at infos 0) infos) → inputs (length infos) ≡ true → lists ≡ true
    → IsLawful (info_at infos 0) → IsSome (rate (info_at infos 0) infos)

-- What a row owes: it takes a clip; the frame is one of a clip, which has the size of the first; and the rate is one.
pub record TimeFacts (row : TimeRow) : Type 0 where
  pub some : (k : ℕ) → row.inputs k ≡ true → 0 < k
  pub asked : (infos : List Info) (n : ℕ) → row.inputs (length infos) ≡ true → (row.at (info_at infos 0) infos n).input < length infos
  pub local : (infos : List Info) (n : ℕ) → Passed (row.refusals (info_at infos 0) infos) → (row.at (info_at infos 0) infos n).input < length infos
      → (info_at infos (row.at (info_at infos 0) infos n).input).shape ≡ (info_at infos 0).shape
  pub rated : IsRated row.refusals row.inputs row.lists row.rate

-- frames of one clip
of_one : {filter : Filter} {lists : Bool} {refusals : Info → List Info → Refusals FilterFault} {frames : Info → List Info → ℕ} {rate : Info → List Info → Rate} {number : Info → ℕ → ℕ}
    → IsRated refusals (λ k. k == 1) lists rate
    → TimeFacts (record { filter = filter; inputs = λ k. k == 1; lists = lists; refusals = refusals; length = frames; rate = rate; at = λ c infos n. from_input 0 (number c n) })
of_one rated = grind (arith, common_steps)

-- frames of clips that have one size
of_many : {filter : Filter} {frames : Info → List Info → ℕ} {rate : Info → List Info → Rate} {at : List Info → ℕ → Origin}
    → ((infos : List Info) (n : ℕ) → nat_le 2 (length infos) ≡ true → (at infos n).input < length infos)
    → IsRated (λ c infos. disagreements infos) (λ k. nat_le 2 k) true rate
    → TimeFacts (record { filter = filter; inputs = λ k. nat_le 2 k; lists = true; refusals = λ c infos. disagreements infos; length = frames; rate = rate; at = λ c infos n. at infos n })
of_many {at = at} asked rated = search (arith, first_of_many, agreed)

-- RATES

given_rate : (num denominator : ℤ) → bad_rate num denominator ≡ false → IsSome (record { num = nat_of num; den = nat_of denominator })
given_rate num denominator e = grind (arith, common_steps)

-- INPUTS

by_test : (t : Bool) (a b : Origin) (k : ℕ) → a.input < k → b.input < k → (if t then a else b).input < k
by_test t a b k h g = grind (arith, common_steps)

spliced_input : (i : ℕ) (d : Info) (ds : List Info) (n : ℕ) → (spliced i (d ∷ ds) n).input < i + length (d ∷ ds)
spliced_input i d [] n = omega arith
spliced_input i d (e ∷ ds) n =
    by_test (nat_lt n d.frames) (from_input i n) (spliced (i + 1) (e ∷ ds) (n - d.frames)) (i + length (d ∷ e ∷ ds)) (omega arith)
    (let later = spliced_input (i + 1) e ds (n - d.frames) in omega arith)

spliced_below : (infos : List Info) (n : ℕ) → nat_le 2 (length infos) ≡ true → (spliced 0 infos n).input < length infos
spliced_below [] n e = grind (arith, nat_tests)
spliced_below (d ∷ ds) n e = let h = spliced_input 0 d ds n in omega arith

woven_below : (n k : ℕ) → nat_le 2 k ≡ true → n % k < k
woven_below n k e = let h : 2 ≤ k = grind (arith, nat_tests) in omega arith

one_of_two : (t : Bool) (k : ℕ) → k == 2 ≡ true → (if t then 1 else 0) < k
one_of_two t k e = grind (arith, common_steps)

-- EACH FILTER

pub time_facts : (inner : TimeOp) → TimeFacts (time_row inner)
time_facts inner = grind (arith, nat_tests, of_one, own, halved, at_least_one, or_false, product, first_of_many, of_many, woven_below, spliced_below, given_rate, one_of_two, agreed)
