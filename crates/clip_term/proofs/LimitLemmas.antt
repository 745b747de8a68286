-- A lawful clip passes every limit, and nothing of it changes; and what passes is lawful.
use Rattle.std.proofs.Common.{◌≡◌, ℕ, ◌+◌, ◌*◌, ◌%◌, ◌<◌, ◌≤◌, Ok, true, false, subst, arith}
use Rattle.std.specs.Prelude.{ℤ, nat_lt, ◌==◌, ◌||◌}
use Rattle.std.proofs.Math.Nat.{div-one}
use Rattle.std.proofs.lemmas.Bool.Decides.{nat_tests}
use Rattle.std.proofs.lemmas.Int.{ints}
use Rattle.std.proofs.lemmas.Grind.{common_steps}
use Rattle.fv_plane.specs.declared.format.TheConstants.Info.{MAX_FRAMES, MAX_RATE}
use Rattle.fv_plane.specs.declared.format.TheConstants.Shape.{MAX_SIDE, MAX_BYTES}
use Rattle.fv_plane.specs.declared.format.Info.{Info}
use Rattle.fv_plane.specs.declared.format.Shape.{Shape}
use Rattle.fv_plane.specs.Format.{has_depth, sub_w, sub_h, frame_bytes, IsLegal}
use Rattle.fv_plane.specs.Info.{IsLawful, IsPar, Rate, lowest}
use Rattle.fv_plane.proofs.GcdLemmas.{gcd_found, lowest_terms}
use Rattle.clip_term.specs.Refusals.{rate_of, nat_of, below, limit_refusals, limits, is_whole}
use Rattle.clip_term.proofs.PassedLemmas.{passed, or_false}

less_false : (a b : ℕ) → b < a + 1 → nat_lt a b ≡ false
less_false a b few = grind (arith, nat_tests, few)

pub lawful_passes : (c : Info) → IsLawful c → limits c c.frames (rate_of c) c.shape ≡ Ok c
lawful_passes c is = search (arith, gcd_found, nat_tests, div-one, less_false)

-- SIZES AND RATES

pub at_least_one : (z : ℤ) → below z 1 ≡ false → 0 < nat_of z
at_least_one z e = grind (arith, ints, nat_tests)

pub whole_parts : (shape : Shape) (w h : ℕ) → is_whole shape w h ≡ true → (w % sub_w shape.kind ≡ 0) × (h % sub_h shape.kind ≡ 0)
whole_parts shape w h e = grind (arith, common_steps)

pub record IsSome (rate : Rate) : Type 0 where
  pub num : 0 < rate.num
  pub den : 0 < rate.den

pub own : (c : Info) → IsLawful c → IsSome (rate_of c)
own c lawful = record { num = lawful.rate.some_num; den = lawful.rate.some_den }

pub halved : (c : Info) → IsLawful c → IsSome (record { num = c.num; den = c.den * 2 })
halved c lawful = record { num = lawful.rate.some_num; den = let h = lawful.rate.some_den in omega arith }

-- sides that are not 0 and whole chroma samples
pub record IsSized (shape : Shape) : Type 0 where
  pub depth : has_depth shape.kind shape.bits ≡ true
  pub some_width : 0 < shape.width
  pub some_height : 0 < shape.height
  pub whole_width : shape.width % sub_w shape.kind ≡ 0
  pub whole_height : shape.height % sub_h shape.kind ≡ 0

pub sized_of : (shape : Shape) → IsLegal shape → IsSized shape
sized_of shape legal = record { depth = legal.depth; some_width = legal.some_width; some_height = legal.some_height; whole_width = legal.whole_width; whole_height = legal.whole_height }

pub some_number : (n : ℕ) → n == 0 ≡ false → 0 < n
some_number n e = grind (arith, nat_tests)

few : (most n : ℕ) → nat_lt most n ≡ false → n ≤ most
few most n e = grind (arith, nat_tests)

pub limits_lawful : (c : Info) (frames : ℕ) (rate : Rate) (shape : Shape) (info : Info) → limits c frames rate shape ≡ Ok info
    → IsPar c.par → 0 < rate.num → 0 < rate.den → IsSized shape → IsLawful info
limits_lawful c frames rate shape info e par some more fits =
    let low = lowest rate in
    let made : Info = record c { frames = frames; num = low.num; den = low.den; shape = shape } in
    let told = passed (limit_refusals frames low shape) (Ok made) info e in
    let tests = told.0 in
    let rates = or_false (nat_lt MAX_RATE low.num) (nat_lt MAX_RATE low.den) tests.1.1.0 in
    let sizes = or_false (nat_lt MAX_SIDE shape.width || nat_lt MAX_SIDE shape.height) (nat_lt MAX_BYTES (frame_bytes shape)) tests.1.1.1.0 in
    let sides = or_false (nat_lt MAX_SIDE shape.width) (nat_lt MAX_SIDE shape.height) sizes.0 in
    let most_num = few MAX_RATE low.num rates.0 in
    let most_den = few MAX_RATE low.den rates.1 in
    let lawful : IsLawful made = record {
      shape = record {
        depth = fits.depth;
        some_width = fits.some_width;
        some_height = fits.some_height;
        whole_width = fits.whole_width;
        whole_height = fits.whole_height;
        most_width = few MAX_SIDE shape.width sides.0;
        most_height = few MAX_SIDE shape.height sides.1;
        most_bytes = few MAX_BYTES (frame_bytes shape) sizes.1;
      };
      some = some_number frames tests.0;
      most = few MAX_FRAMES frames tests.1.0;
      rate = lowest_terms rate.num rate.den some more (omega arith) (omega arith);
      par = par;
    } in
    let same : made ≡ info = (let f = told.1 in cc) in
    subst (λ (i : Info). IsLawful i) same lawful
