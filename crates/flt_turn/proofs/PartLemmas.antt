-- The samples of bytes of which a part is written.
use Rattle.std.proofs.Common.{◌≡◌, ◌∙◌, ℕ, zero, suc, ◌+◌, ◌-◌, ◌*◌, ◌<◌, ◌≤◌, ◌==◌, Bool, true, false, if◌then◌else◌, List, [], ◌∷◌, ◌++◌, length, get_or, set, length-take-le, refl, ap, sym, arith, inl, inr}
use Rattle.std.proofs.lemmas.Bool.{cases_lt}
use Rattle.std.proofs.lemmas.Grind.{common_steps}
use borrow.Rule.Slice.PartMut.{put_mid}
use Rattle.fv_plane.specs.declared.format.Shape.{Shape}
use Rattle.fv_plane.specs.Format.{plane_width, plane_height, row_bytes, sample_bytes}
use Rattle.fv_plane.specs.Picture.{Picture, sample_of, row_of_bytes, wide_samples}
use Rattle.fv_plane.proofs.BytesLemmas.{length-row_of_bytes, row_of_bytes-take, row_of_bytes-drop}
use Rattle.fv_plane.proofs.CallerLemmas.{narrow_of_bytes, wide_of_bytes}
use Rattle.fv_plane.proofs.WideLemmas.{wide_samples-append}
use Rattle.flt_turn.proofs.BlockLemmas.{length_written, row_done, row_left}
use Rattle.flt_turn.specs.Rows.{HasMoreAbove, HasColumns, size_of_rows, turned_at}
use Rattle.flt_turn.proofs.TurnLemmas.{column_done, fits_in, samples_count, times_three, turn_step}

-- where a sample is a byte, a row has as many bytes as samples
pub narrow_bytes : (shape : Shape) (p : ℕ) → shape.bits ≡ 8 → row_bytes shape p ≡ plane_width shape p
narrow_bytes shape p narrow = rw narrow (omega arith)

-- ---- bytes that are put together

append_by : (b : Bool) (n : ℕ) (front rest : List ℕ) → length front ≡ n * (if b then 1 else 2) → (if b then front ++ rest else wide_samples (front ++ rest)) ≡ (if b then front else wide_samples front) ++ (if b then rest else wide_samples rest)
append_by true n front rest long = refl
append_by false n front rest long = wide_samples-append n front rest long

row_of_bytes-append : (shape : Shape) (n : ℕ) (front rest : List ℕ) → length front ≡ n * sample_bytes shape → row_of_bytes shape (front ++ rest) ≡ row_of_bytes shape front ++ row_of_bytes shape rest
unfolding row_of_bytes
row_of_bytes-append shape n front rest long = append_by (shape.bits == 8) n front rest long

-- where the bytes of whole samples are written, these samples are
pub row_of_bytes-put : (shape : Shape) (a k : ℕ) (bytes part : List ℕ) → a * sample_bytes shape ≤ length bytes → length part ≡ k * sample_bytes shape
    → row_of_bytes shape (put_mid (a * sample_bytes shape) (k * sample_bytes shape) bytes part) ≡ put_mid a k (row_of_bytes shape bytes) (row_of_bytes shape part)
row_of_bytes-put shape a k bytes part inside long = search (arith, row_of_bytes-append, length-take-le, row_of_bytes-take, row_of_bytes-drop)

-- where two bytes are written, one sample is
wide_samples-set : (x low high : ℕ) (bytes : List ℕ) → 2 * x + 1 < length bytes → wide_samples (set (set bytes (2 * x) low) (2 * x + 1) high) ≡ set (wide_samples bytes) x (low + 256 * high)
unfolding wide_samples
wide_samples-set x low high [] inside = absurd (omega arith)
wide_samples-set x low high (a ∷ []) inside = absurd (omega arith)
wide_samples-set zero low high (a ∷ b ∷ bytes) inside = refl
wide_samples-set (suc x) low high (a ∷ b ∷ bytes) inside =
    let first : 2 * suc x ≡ suc (suc (2 * x)) = omega arith in
    let second : 2 * suc x + 1 ≡ suc (suc (2 * x + 1)) = omega arith in
    ap (λ n. wide_samples (set (set (a ∷ b ∷ bytes) n low) (2 * suc x + 1) high)) first
    ∙ ap (λ n. wide_samples (set (set (a ∷ b ∷ bytes) (suc (suc (2 * x))) low) n high)) second
    ∙ ap (λ l. (a + 256 * b) ∷ l) (wide_samples-set x low high bytes (omega arith))

pub wide-set : (shape : Shape) (x low high : ℕ) (bytes : List ℕ) → (shape.bits == 8) ≡ false → 2 * x + 1 < length bytes
    → row_of_bytes shape (set (set bytes (2 * x) low) (2 * x + 1) high) ≡ set (row_of_bytes shape bytes) x (low + 256 * high)
wide-set shape x low high bytes wide inside = search (arith, wide_of_bytes, wide_samples-set)

pub narrow-set : (shape : Shape) (x sample : ℕ) (bytes : List ℕ) → shape.bits ≡ 8 → row_of_bytes shape (set bytes x sample) ≡ set (row_of_bytes shape bytes) x sample
narrow-set shape x sample bytes narrow = narrow_of_bytes shape (set bytes x sample) narrow ∙ ap (λ l. set l x sample) (sym (narrow_of_bytes shape bytes narrow))

-- where the bytes of samples begin
pub one_byte : (shape : Shape) → shape.bits ≡ 8 → sample_bytes shape ≡ 1
one_byte shape narrow = rw narrow refl

pub narrow_place : (shape : Shape) (row high h x : ℕ) → sample_bytes shape ≡ 1 → high ≡ h → row * high + x ≡ (row * h + x) * sample_bytes shape
narrow_place shape row high h x one same = grind (arith, common_steps)

pub wide_place : (shape : Shape) (row high h x : ℕ) → sample_bytes shape ≡ 2 → high ≡ h → 2 * (row * high + x) ≡ (row * h + x) * sample_bytes shape
wide_place shape row high h x two same = grind (arith, common_steps)

pub pair_inside : (shape : Shape) (count high h p size : ℕ) → sample_bytes shape ≡ 2 → high ≡ h → p < count * high → size ≡ count * (h * sample_bytes shape) → 2 * p + 1 < size
pair_inside shape count high h p size two same inside is =
    omega (arith, inside, ap (λ n. count * n) same, times_three count h (sample_bytes shape), ap (λ n. count * h * n) two, is)

-- ---- the columns of a turned plane, one by one

-- the first x columns are made
abbrev pub ColumnsMade : (ℕ → ℕ → ℕ) → (ℕ → ℕ → ℕ) → Picture → ℕ → ℕ → ℕ → ℕ → List ℕ → Type 0
ColumnsMade row column input p y count x bytes = record {
  long : length bytes ≡ size_of_rows input.shape p count;
  before : HasColumns row column input p y count x bytes;
}

-- and of the next one the first k samples
abbrev pub ColumnBegun : (ℕ → ℕ → ℕ) → (ℕ → ℕ → ℕ) → Picture → ℕ → ℕ → ℕ → ℕ → ℕ → List ℕ → Type 0
ColumnBegun row column input p y count x k bytes = record {
  long : length bytes ≡ size_of_rows input.shape p count;
  before : HasColumns row column input p y count x bytes;
  here : (j : ℕ) → j < k → get_or (row_of_bytes input.shape bytes) (j * plane_height input.shape p + x) 0 ≡ turned_at row column input p x (y + j);
}

-- where a sample of a turned plane is read
pub turned_sample : (row column : ℕ → ℕ → ℕ) (input : Picture) (p x z height width r k : ℕ) → height ≡ plane_height input.shape p → width ≡ plane_width input.shape p → r ≡ row height x → k ≡ column width z
    → sample_of input.planes p k r ≡ turned_at row column input p x z
turned_sample row column input p x z height width r k tall wide is_row is_column = rw (is_row, is_column, tall, wide) refl

module _ (row column : ℕ → ℕ → ℕ) (input : Picture) (p y count x k : ℕ) (out : List ℕ) (begun : ColumnBegun row column input p y count x k out) where
  -- one more sample is put
  pub sample_put : (new : List ℕ) (at v : ℕ) → length new ≡ length out → row_of_bytes input.shape new ≡ set (row_of_bytes input.shape out) at v
      → k < count → x < plane_height input.shape p → at ≡ k * plane_height input.shape p + x → v ≡ turned_at row column input p x (y + k)
      → ColumnBegun row column input p y count x (k + 1) new
  sample_put new at v same put inside across place value =
      let shape = input.shape in
      let h : ℕ = plane_height shape p in
      let want : ℕ → ℕ → ℕ = λ j z. turned_at row column input p z (y + j) in
      let samples : length (row_of_bytes shape out) ≡ count * h = samples_count shape count h out begun.long in
      let step = turn_step (row_of_bytes shape out) want count h x k at v (count * h) samples inside across place (omega (arith, samples, fits_in h count k x inside across)) value begun.before begun.here in
      record {
        long = same ∙ begun.long;
        before = λ j z few within. ap (λ l. get_or l (j * h + z) 0) put ∙ step.1 j z few within;
        here = λ j few. ap (λ l. get_or l (j * h + x) 0) put ∙ step.2 j few;
      }

  -- all samples of the column are put
  pub column_made : count ≤ k → ColumnsMade row column input p y count (x + 1) out
  column_made all = search (arith, column_done)

-- ---- 16 more samples of one of the rows that lie side by side

pub part_fits : (shape : Shape) (count h x k a n size : ℕ) → size ≡ count * (h * sample_bytes shape) → k < count → x + 16 ≤ h → a ≡ (k * h + x) * sample_bytes shape → n ≡ 16 * sample_bytes shape → a + n ≤ size
part_fits shape count h x k a n size is below right at whole = grind (arith, common_steps)

module _ (shape : Shape) (out part : List ℕ) (want : ℕ → ℕ → ℕ) (count h x k a n : ℕ) (size : length out ≡ count * (h * sample_bytes shape)) (below : k < count) (right : x + 16 ≤ h)
    (at : a ≡ (k * h + x) * sample_bytes shape) (whole : n ≡ 16 * sample_bytes shape) (long : length part ≡ n) where
  fits : a + n ≤ length out
  fits = part_fits shape count h x k a n (length out) size below right at whole

  bytes_long : length (put_mid a n out part) ≡ count * (h * sample_bytes shape)
  bytes_long = length_written a n out part long fits ∙ size

  samples_put : row_of_bytes shape (put_mid a n out part) ≡ put_mid (k * h + x) 16 (row_of_bytes shape out) (row_of_bytes shape part)
  samples_put =
      ap (λ m. row_of_bytes shape (put_mid m n out part)) at ∙ ap (λ m. row_of_bytes shape (put_mid ((k * h + x) * sample_bytes shape) m out part)) whole
      ∙ row_of_bytes-put shape (k * h + x) 16 out part (omega (arith, fits, at)) (long ∙ whole)

  samples : length (row_of_bytes shape out) ≡ count * h
  samples = samples_count shape count h out size

  sixteen : length (row_of_bytes shape part) ≡ 16
  sixteen = length-row_of_bytes shape 16 part (long ∙ whole)

  module _ (left : (j z : ℕ) → k ≤ j → j < count → z < x → get_or (row_of_bytes shape out) (j * h + z) 0 ≡ want j z) where
    bytes_done : ((i : ℕ) → i < 16 → get_or (row_of_bytes shape part) i 0 ≡ want k (x + i))
        → ((j z : ℕ) → j < k → z < x + 16 → get_or (row_of_bytes shape out) (j * h + z) 0 ≡ want j z)
        → (j z : ℕ) → j < k + 1 → z < x + 16 → get_or (row_of_bytes shape (put_mid a n out part)) (j * h + z) 0 ≡ want j z
    bytes_done here done j z less within =
        ap (λ l. get_or l (j * h + z) 0) samples_put
        ∙ row_done (row_of_bytes shape out) (row_of_bytes shape part) want count h x k (k * h + x) 16 samples below right refl refl sixteen here done left j z less within

    bytes_left : (j z : ℕ) → k + 1 ≤ j → j < count → z < x → get_or (row_of_bytes shape (put_mid a n out part)) (j * h + z) 0 ≡ want j z
    bytes_left j z past less within =
        ap (λ l. get_or l (j * h + z) 0) samples_put
        ∙ row_left (row_of_bytes shape out) (row_of_bytes shape part) want count h x k (k * h + x) 16 samples below right refl refl sixteen left j z past less within

-- ---- 16 columns of a turned plane, row by row

-- the rows before one have 16 columns more than each has
abbrev pub BlocksMade : (ℕ → ℕ → ℕ) → (ℕ → ℕ → ℕ) → Picture → ℕ → ℕ → ℕ → ℕ → ℕ → List ℕ → Type 0
BlocksMade row column input p y count top x bytes = record {
  long : length bytes ≡ size_of_rows input.shape p count;
  made : HasMoreAbove row column input p y count top x bytes;
}

-- 16 columns of one more row are put
pub row_put : (row column : ℕ → ℕ → ℕ) (input : Picture) (p y count x r next a n : ℕ) (out part : List ℕ) → length out ≡ size_of_rows input.shape p count → r < count → x + 16 ≤ plane_height input.shape p → next ≡ r + 1
    → a ≡ (r * plane_height input.shape p + x) * sample_bytes input.shape → n ≡ 16 * sample_bytes input.shape → length part ≡ n
    → ((i : ℕ) → i < 16 → get_or (row_of_bytes input.shape part) i 0 ≡ turned_at row column input p (x + i) (y + r))
    → HasMoreAbove row column input p y count r x out
    → BlocksMade row column input p y count next x (put_mid a n out part)
row_put row column input p y count x r next a n out part size below right more at whole long here made =
    let shape = input.shape in
    let h : ℕ = plane_height shape p in
    let want : ℕ → ℕ → ℕ = λ j z. turned_at row column input p z (y + j) in
    let left : (j z : ℕ) → r ≤ j → j < count → z < x → get_or (row_of_bytes shape out) (j * h + z) 0 ≡ want j z = λ j z past inside before. made.before j z inside before in
    let done = bytes_done shape out part want count h x r a n size below right at whole long left here made.above in
    record {
      long = bytes_long shape out part want count h x r a n size below right at whole long;
      made = record {
        above = λ j z less within. done j z (omega (arith, less, more)) within;
        before = λ j z less within. elim (cases_lt j (r + 1)) [
          | inl under ↦ done j z under (omega (arith, within))
          | inr past ↦ bytes_left shape out part want count h x r a n size below right at whole long left j z past less within
        ];
      };
    }

-- where in a block of 16 columns, from `first` on, a row of the turned plane begins
pub record IsSpot (column first start : ℕ) : Type 0 where
  pub at : ℕ
  pub few : at < 16
  pub is : first + at ≡ column
  pub begins : start ≡ 16 * at

pub spot_of : (column first start : ℕ) → first ≤ column → column < first + 16 → start ≡ 16 * (column - first) → IsSpot column first start
spot_of column first start low high begins = record { at = column - first; few = omega (arith, low, high); is = omega (arith, low); begins = begins }
