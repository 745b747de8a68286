-- What follows where a row refuses nothing.
use Rattle.std.proofs.Common.{◌≡◌, ℕ, suc, ◌*◌, ◌<◌, List, [], ◌∷◌, length, refl, ap, arith, Result, Ok, Bool, true, false}
use Rattle.std.specs.Prelude.{not, ◌==◌, nat_lt, nat_le, if◌then◌else◌}
use Rattle.std.specs.List.{list_all}
pub use Rattle.std.proofs.lemmas.Bool.{and_parts as both, or_parts as or_false}
use Rattle.std.proofs.lemmas.Bool.Decides.{nat_tests}
use Rattle.std.proofs.lemmas.List.Sums.{AllPass-from_list_all}
use Rattle.std.proofs.lemmas.Grind.{common_steps}
use Rattle.fv_plane.specs.declared.format.Info.{Info}
use Rattle.fv_plane.specs.declared.format.Shape.{Shape}
use Rattle.clip_term.specs.declared.fault.FilterFault.{FilterFault}
use Rattle.clip_term.specs.Terms.{with_first}
use Rattle.fv_plane.specs.Refusals.{Refusals, first_fault}
use Rattle.fv_plane.specs.Info.{Rate, lowest}
use Rattle.clip_term.specs.Refusals.{unless, limits, disagreements, info_at, no_info, same_format}

-- no test is true
abbrev pub Passed : Refusals FilterFault → Type 0
Passed [] = Unit {0}
Passed ((fault, test) ∷ more) = (test ≡ false) × Passed more

pub passed : (refusals : Refusals FilterFault) (rest : Result Info FilterFault) (info : Info) → unless (first_fault refusals) rest ≡ Ok info → Passed refusals × (rest ≡ Ok info)
passed [] rest info e = (tt, e)
passed ((fault, true) ∷ more) rest info e = cc
passed ((fault, false) ∷ more) rest info e = let later = passed more rest info e in ((refl, later.0), later.1)

pub limits_told : (c : Info) (frames : ℕ) (rate : Rate) (shape : Shape) (info : Info) → limits c frames rate shape ≡ Ok info
    → record c { frames = frames; num = (lowest rate).num; den = (lowest rate).den; shape = shape } ≡ info
limits_told c frames rate shape info e = grind (arith, common_steps)

pub limits_shape : (c : Info) (frames : ℕ) (rate : Rate) (shape : Shape) (info : Info) → limits c frames rate shape ≡ Ok info → shape ≡ info.shape
limits_shape c frames rate shape info e = ap (λ (i : Info). i.shape) (limits_told c frames rate shape info e)

-- TESTS

pub not_false : (a : Bool) → not a ≡ false → a ≡ true
not_false a e = grind (arith, common_steps)

pub if_same : {A : Type 0} (t : Bool) (u v w z : A) → (t ≡ true → u ≡ v) → w ≡ z → (if t then u else w) ≡ (if t then v else z)
if_same t u v w z e f = grind (arith, common_steps)

pub all_at : {X : Type 0} (test : X → Bool) (x : X) (xs : List X) → list_all test (x ∷ xs) ≡ true → (test x ≡ true) × (list_all test xs ≡ true)
all_at test x xs e = both (test x) (list_all test xs) e

-- what all clips pass, each does
pub each : (test : Info → Bool) (infos : List Info) → not (list_all test infos) ≡ false → (i : ℕ) → i < length infos → test (info_at infos i) ≡ true
each test infos told i h = AllPass-from_list_all test infos (not_false (list_all test infos) told) i no_info h

pub below_of : (a b : ℕ) → nat_lt a b ≡ true → a < b
below_of a b e = grind (arith, nat_tests)

pub first_of : (k n : ℕ) → k == suc n ≡ true → 0 < k
first_of k n e = grind (arith, nat_tests)

pub first_of_many : (n k : ℕ) → nat_le (suc n) k ≡ true → 0 < k
first_of_many n k e = grind (arith, nat_tests)

pub product : (a b : ℕ) → 0 < a → 0 < b → 0 < a * b
product a b h g = grind arith

-- SHAPES

pub same_number : (a b : ℕ) → a == b ≡ true → a ≡ b
same_number a b e = grind (arith, nat_tests)

-- shapes of one format have one kind and as many bits
pub same_format_is : (a b : Shape) → same_format a b ≡ true → (a.kind ≡ b.kind) × (a.bits ≡ b.bits)
same_format_is a b e = grind (arith, common_steps)

-- clips that agree have the shape of the first
pub agreed : (infos : List Info) → Passed (disagreements infos) → (i : ℕ) → i < length infos → (info_at infos i).shape ≡ (info_at infos 0).shape
agreed infos told i h = grind (arith, common_steps)

-- INPUTS

-- both infos are there
pub record Both (a : Result Info FilterFault) (b : Result (List Info) FilterFault) (infos : List Info) : Type 0 where
  pub first : Info
  pub others : List Info
  pub first_is : a ≡ Ok first
  pub others_are : b ≡ Ok others
  pub whole : first ∷ others ≡ infos

pub both_ok : (a : Result Info FilterFault) (b : Result (List Info) FilterFault) (infos : List Info) → with_first a b ≡ Ok infos → Both a b infos
both_ok a b infos e = grind (arith, common_steps)
