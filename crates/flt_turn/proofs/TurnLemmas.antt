-- Planes turned on their side.
use Rattle.std.proofs.Common.{◌≡◌, ◌≢◌, ◌∙◌, ℕ, ◌+◌, ◌*◌, ◌/◌, ◌%◌, ◌<◌, ◌≤◌, None, refl, sym, ap, arith, List, [], ◌++◌, zero, suc, length, map, take, drop, get_or, set, get_or-take, get_or-set_other, get_or-set_same, length-set, ⊎_elim, inl, inr}
use Rattle.std.proofs.lemmas.Nat.{div-mul-add, mod-mul-add, div_below}
use Rattle.std.proofs.Math.Nat.{suc-mul, mul_comm, div-add-mod, mod-lt}
use Rattle.std.proofs.Math.Seq.{take-append_seam}
use Rattle.std.proofs.lemmas.List.{drop-drop, get_or-drop, get_or_past}
use Rattle.std.proofs.lemmas.Bool.{cases_lt}
use Rattle.std.proofs.lemmas.Grind.{common_steps}
use Rattle.fv_plane.specs.declared.format.PixelType.{PixelType}
use Rattle.fv_plane.specs.Format.{plane_width, plane_height, sample_bytes}
use Rattle.fv_plane.specs.Picture.{row_of_bytes, rows_of_bytes, wide_bytes, Look, row_from}
use Rattle.fv_plane.specs.declared.format.Shape.{Shape}
use Rattle.fv_plane.specs.Refusals.{first_fault}
use Rattle.fv_rows.specs.Rows.{rows_of}
use Rattle.fv_plane.proofs.BytesLemmas.{decoded-rows_of, length-row_of_bytes}
use Rattle.fv_plane.proofs.WideLemmas.{wide_bytes-at}
use Rattle.fv_plane.proofs.FillLemmas.{row_listed}
use Rattle.clip_term.specs.declared.op.SpaceOp.TheVariants.{TurnLeft}
use Rattle.clip_term.specs.Space.{space_refusals}
use Rattle.flt_turn.specs.Rows.{HasRows}

-- a plane of a picture that may be turned is as wide afterwards as it was high
pub turned_width : (kind : PixelType) (bits w h p : ℕ) → first_fault (space_refusals TurnLeft (record { kind = kind; bits = bits; width = w; height = h })) ≡ None
    → plane_width (record { kind = kind; bits = bits; width = h; height = w }) p ≡ plane_height (record { kind = kind; bits = bits; width = w; height = h }) p
turned_width kind bits w h p told = grind (arith, common_steps)

-- ---- places of columns in rows that lie side by side

same_row : (y z w a b : ℕ) → a < w → b < w → y * w + a ≡ z * w + b → y ≡ z
same_row y z w a b h g e = sym (div-mul-add y w a h) ∙ ap (λ n. n / w) e ∙ div-mul-add z w b g

same_column : (y z w a b : ℕ) → a < w → b < w → y * w + a ≡ z * w + b → a ≡ b
same_column y z w a b h g e = sym (mod-mul-add y w a h) ∙ ap (λ n. n % w) e ∙ mod-mul-add z w b g

-- one more sample of column x is put
pub turn_step : (out : List ℕ) (want : ℕ → ℕ → ℕ) (count h x y p v size : ℕ) → length out ≡ size → y < count → x < h → p ≡ y * h + x → p < length out → v ≡ want y x
    → ((b a : ℕ) → b < count → a < x → get_or out (b * h + a) 0 ≡ want b a)
    → ((b : ℕ) → b < y → get_or out (b * h + x) 0 ≡ want b x)
    → (length (set out p v) ≡ size)
    × ((b a : ℕ) → b < count → a < x → get_or (set out p v) (b * h + a) 0 ≡ want b a)
    × ((b : ℕ) → b < y + 1 → get_or (set out p v) (b * h + x) 0 ≡ want b x)
turn_step out want count h x y p v size long ly lx is inside value before here = (
  length-set out p v ∙ long,
  λ b a lb la.
      let below : a < h = omega arith in
      let ne : b * h + a ≢ p = (λ e. let same : a ≡ x = same_column b y h a x below lx (e ∙ is) in omega arith) in
      get_or-set_other out p (b * h + a) v 0 ne ∙ before b a lb la,
  λ b lb.
      ⊎_elim
      (λ (l : b < y).
      let ne : b * h + x ≢ p = (λ e. let same : b ≡ y = same_row b y h x x lx lx (e ∙ is) in omega arith) in
      get_or-set_other out p (b * h + x) v 0 ne ∙ here b l)
      (λ (l : y ≤ b).
      let same : b ≡ y = omega arith in
      ap (λ n. get_or (set out p v) (n * h + x) 0) same ∙ ap (λ n. get_or (set out p v) n 0) (sym is)
      ∙ get_or-set_same out p v 0 inside ∙ value ∙ ap (λ n. want n x) (sym same))
      (cases_lt b y),
)

-- and then column x is done
pub column_done : (out : List ℕ) (want : ℕ → ℕ → ℕ) (count h x : ℕ) → ((b a : ℕ) → b < count → a < x → get_or out (b * h + a) 0 ≡ want b a) → ((b : ℕ) → b < count → get_or out (b * h + x) 0 ≡ want b x)
    → (b a : ℕ) → b < count → a < x + 1 → get_or out (b * h + a) 0 ≡ want b a
column_done out want count h x before here b a few within = grind (arith, common_steps)

-- the whole of a vector is written
pub whole_put : (new old : List ℕ) (n : ℕ) → length new ≡ n → take n (new ++ drop (length new) old) ≡ new
whole_put new old n long = ap (λ m. take m (new ++ drop (length new) old)) (sym long) ∙ take-append_seam new (drop (length new) old)

-- a sample of a row's bytes
pub wide_value : (samples bytes : List ℕ) (x : ℕ) → bytes ≡ wide_bytes samples → get_or bytes (2 * x) 0 + 256 * get_or bytes (2 * x + 1) 0 ≡ get_or samples x 0
wide_value samples bytes x are = search (arith, wide_bytes-at)

-- a row of those that lie side by side
part_at : (samples : List ℕ) (w n k : ℕ) → k < n → get_or (rows_of samples w w n) k [] ≡ take w (drop (k * w) samples)
part_at samples w zero k less = absurd (omega arith)
part_at samples w (suc n) zero less = let none : 0 ≡ 0 * w = omega arith in ap (λ m. take w (drop m samples)) none
part_at samples w (suc n) (suc k) less =
    let next : w + k * w ≡ suc k * w = omega (arith, suc-mul k w) in
    part_at (drop w samples) w n k (omega (arith, less)) ∙ ap (take w) (drop-drop (k * w) w samples ∙ ap (λ m. drop m samples) next)

pub fits_in : (w n k x : ℕ) → k < n → x < w → k * w + x < n * w
fits_in w zero k x less within = absurd (omega (arith, less))
fits_in w (suc n) zero x less within = omega (arith, within, suc-mul n w)
fits_in w (suc n) (suc k) x less within =
    let below : k * w + x < n * w = fits_in w n k x (omega (arith, less)) within in omega (arith, below, suc-mul n w, suc-mul k w)

row_length : (bytes : List ℕ) (w n k : ℕ) → length bytes ≡ n * w → k < n → length (take w (drop (k * w) bytes)) ≡ w
row_length bytes w n k long less = grind (arith, common_steps)

-- the rows that were made are those that are listed
pub rows_are : (shape : Shape) (at : Look) (p plane y n h k : ℕ) (bytes samples : List ℕ) → plane_width shape plane ≡ h → row_of_bytes shape bytes ≡ samples → length samples ≡ n * h → HasRows at p y n h samples → k < n
    → get_or (rows_of_bytes shape plane n bytes) k [] ≡ row_from at p h (y + k)
rows_are shape at p plane y n h k bytes samples same read long has less =
    ap (λ (l : List (List ℕ)). get_or l k []) (decoded-rows_of shape bytes (plane_width shape plane) n ∙ ap (λ v. rows_of (row_of_bytes shape bytes) v v n) same ∙ ap (λ l. rows_of l h h n) read)
    ∙ part_at samples h n k less
    ∙ row_listed (take h (drop (k * h) samples)) at p h (y + k) (row_length samples h n k long less)
    (λ x within. get_or-take h (drop (k * h) samples) x 0 within ∙ get_or-drop (k * h) samples x 0 ∙ has k x less within)

pub rows_count : (shape : Shape) (w n : ℕ) (bytes : List ℕ) → length (map (row_of_bytes shape) (rows_of bytes w w n)) ≡ n
rows_count shape w zero bytes = refl
rows_count shape w (suc n) bytes = ap suc (rows_count shape w n (drop w bytes))

pub times_three : (n w s : ℕ) → n * (w * s) ≡ (n * w) * s
times_three n w s = grind arith

-- the samples of rows that lie side by side
pub samples_count : (shape : Shape) (n w : ℕ) (bytes : List ℕ) → length bytes ≡ n * (w * sample_bytes shape) → length (row_of_bytes shape bytes) ≡ n * w
samples_count shape n w bytes long = length-row_of_bytes shape (n * w) bytes (long ∙ times_three n w (sample_bytes shape))

-- no sample of rows is over the largest
pub rows_fit : (at : Look) (p y n w most : ℕ) (samples : List ℕ) → ((x z : ℕ) → at p x z ≤ most) → length samples ≡ n * w → HasRows at p y n w samples → (i : ℕ) → get_or samples i 0 ≤ most
rows_fit at p y n zero most samples bounded long has i =
    let none : length samples ≤ i = omega (arith, long) in
    rw (get_or_past samples i 0 none) (omega arith)
rows_fit at p y n (suc v) most samples bounded long has i = elim (cases_lt i (n * suc v)) [
  | inl inside ↦
      let k : ℕ = i / suc v in
      let x : ℕ = i % suc v in
      let few : k < n = div_below i (suc v) n (omega arith) inside in
      let within : x < suc v = mod-lt i (omega arith) in
      let place : k * suc v + x ≡ i = (let whole = div-add-mod i (suc v) in rw (mul_comm (suc v) (i / suc v)) at whole) in
      let is : get_or samples i 0 ≡ at p x (y + k) = ap (λ m. get_or samples m 0) (sym place) ∙ has k x few within in
      rw is (bounded x (y + k))
  | inr past ↦ rw (get_or_past samples i 0 (omega (arith, long, past))) (omega arith)
]
