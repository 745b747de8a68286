-- Rows of samples that are in range, and their bytes.
use Rattle.std.proofs.Common.{◌≡◌, ◌⊎◌, ℕ, zero, suc, ◌≤◌, ◌^◌, List, [], ◌∷◌, map, get_or, arith}
use Rattle.std.specs.List.{range_with_len}
use Rattle.fv_plane.specs.declared.format.Shape.{Shape}
use Rattle.std.proofs.Math.Pow.{pow_mono}
use Rattle.std.proofs.lemmas.Grind.{common_steps}
use Rattle.fv_plane.specs.Format.{IsLegal, largest_sample}
use Rattle.fv_plane.specs.Picture.{bytes_of_row, row_of_bytes, FitsRow, FitBytes, Look, row_from}
use Rattle.fv_plane.proofs.CallerLemmas.{fit_row, row_again}
use Rattle.fv_plane.proofs.PictureLemmas.{five_depths}

listed_few : (f : ℕ → ℕ) (ns : List ℕ) (most : ℕ) → ((n : ℕ) → f n ≤ most) → (k : ℕ) → get_or (map f ns) k 0 ≤ most
listed_few f [] most few k = omega arith
listed_few f (n ∷ ns) most few zero = few n
listed_few f (n ∷ ns) most few (suc k) = listed_few f ns most few k

-- a row of what stands in a picture whose samples are in range
pub row_fits : (at : Look) (shape : Shape) (p width y : ℕ) (row : List ℕ) → ((q x z : ℕ) → at q x z ≤ largest_sample shape) → row ≡ row_from at p width y → FitsRow shape row
row_fits at shape p width y row few is x = rw is (listed_few (λ k. at p k y) (range_with_len 0 width) (largest_sample shape) (λ k. few p k y) x)

-- the bytes of such a row fit a picture of this shape
pub bytes_fit : (shape made : Shape) (row bytes : List ℕ) → made ≡ shape → bytes ≡ bytes_of_row shape row → FitsRow shape row → FitBytes made bytes
bytes_fit shape made row bytes same put fits = rw (put, same) (fit_row shape row fits)

-- and are read there as the row
pub bytes_again : (shape made : Shape) (row bytes : List ℕ) → made ≡ shape → bytes ≡ bytes_of_row shape row → row_of_bytes made bytes ≡ row
bytes_again shape made row bytes same put = rw (put, same) (row_again shape row)

most_by : (bits : ℕ) → (bits ≡ 8) ⊎ ((bits ≡ 10) ⊎ ((bits ≡ 12) ⊎ ((bits ≡ 14) ⊎ (bits ≡ 16)))) → bits ≤ 16
most_by bits h = grind (arith, common_steps)

-- a sample has at most 16 bits
pub most_bits : (shape : Shape) → IsLegal shape → shape.bits ≤ 16
most_bits shape legal = most_by shape.bits (five_depths shape.kind shape.bits legal.depth)

-- so none is above 65535
pub largest_small : (shape : Shape) → IsLegal shape → largest_sample shape ≤ 65535
largest_small shape legal = (let wide : 2 ^ shape.bits ≤ 2 ^ 16 = pow_mono (most_bits shape legal) in omega arith)
