-- What each filter of the group Soft owes to the laws.
use Rattle.std.proofs.Common.{◌≡◌, ℕ, ◌+◌, ◌-◌, ◌*◌, ◌/◌, ◌%◌, ◌<◌, ◌≤◌, List, [], ◌∷◌, length, map, refl, ap, ◌∙◌, arith}
use Rattle.std.specs.Prelude.{ℤ, pos, ◌+ℤ◌, ◌*ℤ◌, int_div, if◌then◌else◌, ◌==◌, ◌&&◌, nat_le, min}
use Rattle.std.specs.List.{range_with_len, fold, sum, All}
use Rattle.std.proofs.lemmas.Nat.{div_below}
use Rattle.std.proofs.lemmas.List.FromFn.{length-map-range_with_len}
use Rattle.fv_plane.specs.declared.format.Info.{Info}
use Rattle.fv_plane.specs.declared.format.Shape.{Shape}
use Rattle.fv_plane.specs.Format.{largest_sample, scale, plane_width, plane_height}
use Rattle.fv_plane.specs.Picture.{Look, look_at}
use Rattle.fv_plane.proofs.LookLemmas.{Inside, Agree}
use Rattle.clip_term.specs.declared.op.SoftOp.{SoftOp}
use Rattle.clip_term.specs.declared.op.SoftOp.TheVariants as op
use Rattle.clip_term.specs.Refusals.{info_at, nat_of, below}
use Rattle.clip_term.specs.Time.{from_input, in_range}
use Rattle.clip_term.specs.Soft.{SoftRow, soft_row, near, samples_at, side_of, place, weighed, divisor_of, sample_from}
use Rattle.clip_term.specs.Terms.{AreLawful, IsAsked}
use Rattle.clip_term.proofs.BoundLemmas as bound
use Rattle.clip_term.proofs.BoundLemmas.{IsBounded, AllBounded, bounded_at, if_few}
use Rattle.clip_term.proofs.SeenLemmas.{Agrees, none, more, agree_at, Seen, first_seen, seen_again, one_asked, all_asked}

-- What a row owes: it asks as many frames as it says, and these are frames of its input; what it makes inside its picture needs
-- them only inside theirs; and no sample is over the largest one.
pub record SoftFacts (row : SoftRow) : Type 0 where
  pub count : (infos : List Info) (n : ℕ) → length (row.asked infos n) ≡ row.count
  pub asked : (infos : List Info) (n : ℕ) → AreLawful infos → 0 < length infos → All (IsAsked infos) (row.asked infos n)
  pub local : (infos : List Info) (n : ℕ) (ls ms : List Look) → Seen infos (row.asked infos n) ls ms → Agree (info_at infos 0).shape (row.at (info_at infos 0).shape ls) (row.at (info_at infos 0).shape ms)
  pub bounded : (shape : Shape) (looks : List Look) → length looks ≡ row.count → AllBounded shape looks → IsBounded shape (row.at shape looks)

-- TEMPORALSOFTEN

samples_same : {shape : Shape} {ls ms : List Look} → Agrees shape ls ms → (p x y : ℕ) → Inside shape p x y → samples_at ls p x y ≡ samples_at ms p x y
samples_same none p x y i = refl
samples_same (more {a} {b} {ls} {ms} first rest) p x y i = ap (λ v. v ∷ samples_at ls p x y) (first.same p x y i) ∙ ap (λ vs. b p x y ∷ vs) (samples_same rest p x y i)

sum_few : (shape : Shape) (t m : ℕ) → m ≤ largest_sample shape → {looks : List Look} → AllBounded shape looks → (p x y a : ℕ)
    → fold (λ n v. n + v) a (map (near t m) (samples_at looks p x y)) ≤ a + length looks * largest_sample shape
sum_few shape t m h bound.none p x y a = omega arith
sum_few shape t m h (bound.more {from} {looks} first rest) p x y a =
    let here = if_few (nat_le (from p x y) (m + t) && nat_le m (from p x y + t)) (from p x y) m (largest_sample shape) (first.at p x y) h in
    let later = sum_few shape t m h rest p x y (a + near t m (from p x y)) in
    omega arith

mean_few : (s r m n : ℕ) → n ≡ 2 * r + 1 → s ≤ 0 + n * m → (s + r) / (2 * r + 1) ≤ m
mean_few s r m n e h =
    let f : (m + 1) * n ≡ n * m + n = grind arith in
    let g = rw e at f in
    let k = rw e at h in
    let below = div_below (s + r) (2 * r + 1) (m + 1) (omega arith) (omega arith) in
    omega arith

-- GENERALCONVOLUTION

place_inside : (x step half size z : ℕ) → z < size → place x step half size < size
place_inside x step half size z h = omega arith

weighed_same : (shape : Shape) (a b : Look) → Agree shape a b → (side k : ℕ) (entries : List ℤ) (p x y : ℕ) → Inside shape p x y
    → weighed side k entries shape a p x y ≡ weighed side k entries shape b p x y
weighed_same shape a b agree side k [] p x y i = refl
weighed_same shape a b agree side k (entry ∷ entries) p x y i =
    let here = agree.same p (place x (k % side) (side / 2) (plane_width shape p)) (place y (k / side) (side / 2) (plane_height shape p)) (record {
      plane = i.plane;
      across = place_inside x (k % side) (side / 2) (plane_width shape p) x i.across;
      down = place_inside y (k / side) (side / 2) (plane_height shape p) y i.down;
    }) in
    rw (here, weighed_same shape a b agree side (k + 1) entries p x y i) refl

-- EACH FILTER

pub soft_facts : (inner : SoftOp) → SoftFacts (soft_row inner)
soft_facts (op.TemporalSoften radius luma chroma) = record {
  count = λ infos n. length-map-range_with_len (λ k. in_range infos (from_input 0 (n + k - nat_of radius))) 0 (2 * nat_of radius + 1);
  asked = λ infos n lawful some. all_asked infos lawful (λ k. from_input 0 (n + k - nat_of radius)) 0 (2 * nat_of radius + 1) (λ k h. some);
  local = λ infos n ls ms seen. record {
    same = λ p x y i.
        let agrees = seen_again infos (λ k. n + k - nat_of radius) (range_with_len 0 (2 * nat_of radius + 1)) seen in
        rw ((agree_at agrees (nat_of radius)).same p x y i, samples_same agrees p x y i) refl;
  };
  bounded = λ shape looks long all. record {
    at = λ p x y.
        let r = nat_of radius in
        let t = nat_of (if p == 0 then luma else chroma) * scale shape in
        let m = look_at looks r p x y in
        let middle = (bounded_at all r).at p x y in
        let s = sum (map (near t m) (samples_at looks p x y)) in
        if_few (t == 0) m ((s + r) / (2 * r + 1)) (largest_sample shape) middle (mean_few s r (largest_sample shape) (length looks) long (sum_few shape t m middle all p x y 0));
  };
}
soft_facts (op.GeneralConvolution bias matrix) = record {
  count = λ infos n. refl;
  asked = λ infos n lawful some. one_asked infos lawful (from_input 0 n) some;
  local = λ infos n ls ms seen. record {
    same = λ p x y i.
        let m = matrix.entries in
        let shape = (info_at infos 0).shape in
        ap (λ v. sample_from (largest_sample shape) (int_div v (divisor_of m) +ℤ bias *ℤ pos (scale shape)))
        (weighed_same shape (look_at ls 0) (look_at ms 0) ((first_seen seen).on shape (λ h. refl)) (side_of m) 0 m p x y i);
  };
  bounded = λ shape looks long all. record {
    at = λ p x y.
        let m = matrix.entries in
        let z = int_div (weighed (side_of m) 0 m shape (look_at looks 0) p x y) (divisor_of m) +ℤ bias *ℤ pos (scale shape) in
        if_few (below z 0) 0 (min (nat_of z) (largest_sample shape)) (largest_sample shape) (omega arith) (omega arith);
  };
}
