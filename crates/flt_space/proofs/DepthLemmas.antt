-- Samples of other bits.
use Rattle.std.proofs.Common.{◌≡◌, ◌∙◌, ℕ, ◌+◌, ◌-◌, ◌*◌, ◌/◌, ◌^◌, ◌<◌, ◌≤◌, List, length, get_or, map, refl, ap, sym, inl, inr, arith}
use Rattle.std.specs.Prelude.{ℤ, pos, ◌⊎◌, min, nat_le}
use Rattle.std.proofs.lemmas.Bool.{cases_lt}
use Rattle.std.proofs.lemmas.Bool.Decides.{nat_tests}
use Rattle.std.proofs.lemmas.List.{get_or-map, get_or_past, length-map}
use Rattle.std.proofs.Math.Pow.{pow_mono}
use Rattle.std.proofs.lemmas.Grind.{common_steps}
use Rattle.fv_plane.specs.declared.format.Shape.{Shape}
use Rattle.fv_plane.specs.Picture.{FitsRow, Look, look_in, picture_from, row_from, Picture, IsPicture, row_of}
use Rattle.fv_plane.specs.Format.{IsLegal, planes, plane_width, plane_height}
use Rattle.fv_plane.proofs.CallerLemmas.{length-row}
use Rattle.fv_plane.proofs.FillLemmas.{Filled, filled_done, row_listed}
use Rattle.fv_plane.proofs.PictureLemmas.{five_depths}
use Rattle.fv_plane.proofs.WholePlaneLemmas.{row_seen}
use Rattle.clip_term.specs.declared.op.SpaceOp.TheVariants.{ConvertBits}
use Rattle.clip_term.specs.Refusals.{nat_of}
use Rattle.clip_term.specs.Space.{converted, space_at, space_picture}
use Rattle.clip_term.proofs.BoundedLemmas.{converted_few}
use Rattle.flt_space.specs.Rows.{row_converted}
use Rattle.flt_space.proofs.KeptLemmas.{first_of, second_of}
use Rattle.flt_space.proofs.MapLemmas.{mapped}

-- the bits of a sample are 8 to 16
pub record IsDepth (bits : ℕ) : Type 0 where
  pub least : 8 ≤ bits
  pub most : bits ≤ 16

of_five : (bits : ℕ) → (bits ≡ 8) ⊎ ((bits ≡ 10) ⊎ ((bits ≡ 12) ⊎ ((bits ≡ 14) ⊎ (bits ≡ 16)))) → IsDepth bits
of_five bits h = grind (arith, common_steps)

pub depth_of : (shape : Shape) → IsLegal shape → IsDepth shape.bits
depth_of shape legal = of_five shape.bits (five_depths shape.kind shape.bits legal.depth)

-- to as many bits or to more, a sample is scaled
pub raised : (old new n : ℕ) → old ≤ new → converted old new n ≡ n * 2 ^ (new - old)
raised old new n more = first_of (nat_le old new) _ _ (grind (arith, nat_tests))

-- and to fewer it is rounded
pub lowered : (old new n : ℕ) → new < old → converted old new n ≡ min (2 ^ new - 1) ((n + 2 ^ (old - new - 1)) / 2 ^ (old - new))
lowered old new n fewer = second_of (nat_le old new) _ _ (grind (arith, nat_tests))

-- what is scaled still has two bytes
pub raised_small : (old new n : ℕ) → old ≤ new → new ≤ 16 → n ≤ 2 ^ old - 1 → n * 2 ^ (new - old) ≤ 65535
raised_small old new n more most few =
    let fits = rw (raised old new n more) at (converted_few old new n few) in
    let wide : 2 ^ new ≤ 2 ^ 16 = pow_mono most in
    omega arith

-- the same bits leave it as it is
same_bits : (bits n : ℕ) → converted bits bits n ≡ n
same_bits bits n = grind (arith, common_steps)

-- a row whose samples are scaled
pub scaled_row : (old new factor : ℕ) (row out : List ℕ) → old ≤ new → factor ≡ 2 ^ (new - old) → length out ≡ length row
    → ((k : ℕ) → k < length out → get_or out k 0 ≡ get_or row k 0 * factor) → out ≡ map (converted old new) row
scaled_row old new factor row out more is long each = search (arith, mapped, raised)

-- and one whose samples are rounded
pub rounded_row : (old new bits largest : ℕ) (row out : List ℕ) → new < old → bits ≡ old - new → largest ≡ 2 ^ new - 1 → length out ≡ length row
    → ((k : ℕ) → k < length out → get_or out k 0 ≡ min largest ((get_or row k 0 + 2 ^ (bits - 1)) / 2 ^ bits)) → out ≡ map (converted old new) row
rounded_row old new bits largest row out fewer is most long each = search (arith, mapped, lowered)

module _ (input : Picture) (is : IsPicture input) where
  -- a row in other bits is the one that is listed
  pub converted_row : (bits p z : ℕ) → p < planes input.shape.kind → z < plane_height input.shape p
      → row_converted input bits p z ≡ row_from (space_at (ConvertBits (pos bits)) input.shape (look_in input)) p (plane_width input.shape p) z
  converted_row bits p z there inside =
      let row = row_of input.planes p z in
      row_listed (row_converted input bits p z) (space_at (ConvertBits (pos bits)) input.shape (look_in input)) p (plane_width input.shape p) z
      (length-map row (converted input.shape.bits bits) ∙ length-row input p z is there inside)
      (λ x within. get_or-map (converted input.shape.bits bits) row x 0 0 (omega (arith, within, length-row input p z is there inside)))

  -- and none of its samples is over the largest
  pub converted_fits : (made : Shape) (p z : ℕ) → FitsRow made (row_converted input made.bits p z)
  converted_fits made p z x =
      let row = row_of input.planes p z in
      elim (cases_lt x (length row)) [
        | inl inside ↦ rw (get_or-map (converted input.shape.bits made.bits) row x 0 0 inside) (converted_few input.shape.bits made.bits (get_or row x 0) (is.bounded p x z))
        | inr past ↦ rw (get_or_past (row_converted input made.bits p z) x 0 (omega (arith, length-map row (converted input.shape.bits made.bits)))) (omega arith)
      ]

  kept_rows : ℕ → ℕ → List ℕ
  kept_rows p z = row_of input.planes p z

  -- a picture in its own bits is the picture
  pub own_bits : (bits : ℤ) → nat_of bits ≡ input.shape.bits → input ≡ space_picture (ConvertBits bits) input
  unfolding kept_rows
  own_bits bits same =
      let shape = input.shape in
      let at : Look = λ p x y. converted shape.bits shape.bits (look_in input p x y) in
      let made : ℕ → Picture = λ k. picture_from (record shape { bits = k }) (λ p x y. converted shape.bits k (look_in input p x y)) in
      let filled : Filled kept_rows shape input (planes shape.kind) 0 = record { same = refl; sizes = is; below = λ p z before there. refl; here = λ z before. refl } in
      filled_done kept_rows shape input at (planes shape.kind) 0 filled (omega arith) (omega arith)
      (λ p z there inside. row_seen input p at p (plane_width shape p) z is there inside refl (λ x. sym (same_bits shape.bits (look_in input p x z))))
      ∙ ap made (sym same)
