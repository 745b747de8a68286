-- The filters that mix a sample with its neighbours, in time or in place (AviSynth+ wiki, "TemporalSoften" and
-- "GeneralConvolution").
use Rattle.std.specs.Prelude.{ℕ, ◌+◌, ◌-◌, ◌*◌, ◌/◌, ◌%◌, min, Bool, true, false, not, ◌&&◌, ◌||◌, if◌then◌else◌, ◌==◌, nat_le, ℤ, pos, ◌+ℤ◌, ◌*ℤ◌, int_lt, int_div, List, [], ◌∷◌, length, map, Result}
use Rattle.std.specs.List.{range_with_len, sum}
use Rattle.fv_plane.specs.declared.format.Info.{Info}
use Rattle.fv_plane.specs.declared.format.Shape.{Shape}
use Rattle.fv_plane.specs.Format.{largest_sample, scale, plane_width, plane_height}
use Rattle.clip_term.specs.declared.fault.FilterFault.{FilterFault}
use Rattle.clip_term.specs.declared.fault.FilterFault.TheVariants.{BadRange}
use Rattle.clip_term.specs.declared.filter.Filter.{Filter}
use Rattle.clip_term.specs.declared.filter.Filter.TheVariants as filters
use Rattle.clip_term.specs.declared.op.Origin.{Origin}
use Rattle.clip_term.specs.declared.op.SoftOp.{SoftOp}
use Rattle.clip_term.specs.declared.op.SoftOp.TheVariants as op
use Rattle.fv_plane.specs.Picture.{Look, look_at}
use Rattle.fv_plane.specs.Refusals.{Refusals, first_fault}
use Rattle.clip_term.specs.Refusals.{is_bias, is_matrix, rate_of, nat_of, below, beyond, info_at, unless, limits}
use Rattle.clip_term.specs.Time.{from_input, in_range}

-- TemporalSoften: a sample that differs by more than the threshold counts as the middle one
abbrev pub near : ℕ → ℕ → ℕ → ℕ
near threshold middle q = if nat_le q (middle + threshold) && nat_le middle (q + threshold) then q else middle

abbrev pub softened : ℕ → ℕ → ℕ → List ℕ → ℕ
softened radius threshold middle samples =
    if threshold == 0 then middle
    else (sum (map (near threshold middle) samples) + radius) / (2 * radius + 1)

abbrev pub samples_at : List Look → ℕ → ℕ → ℕ → List ℕ
samples_at looks p x y = map (λ (from : Look). from p x y) looks

-- GeneralConvolution: a square of side 2h + 1
abbrev pub side_of : List ℤ → ℕ
side_of matrix = if length matrix == 9 then 3 else 5

-- a place beside x, brought into 0 to size - 1
abbrev pub place : ℕ → ℕ → ℕ → ℕ → ℕ
place x step half size = min (x + step - half) (size - 1)

-- the entries from number k on, each times the sample that it lies on
abbrev pub weighed : ℕ → ℕ → List ℤ → Shape → Look → ℕ → ℕ → ℕ → ℤ
weighed side k [] shape from p x y = pos 0
weighed side k (entry ∷ entries) shape from p x y =
    let column = place x (k % side) (side / 2) (plane_width shape p) in
    let row = place y (k / side) (side / 2) (plane_height shape p) in
    entry *ℤ pos (from p column row) +ℤ weighed side (k + 1) entries shape from p x y

abbrev pub total : List ℤ → ℤ
total [] = pos 0
total (entry ∷ entries) = entry +ℤ total entries

abbrev pub divisor_of : List ℤ → ℤ
divisor_of matrix = let d = total matrix in if int_lt d (pos 0) || int_lt (pos 0) d then d else pos 1

-- brought into 0 to the greatest sample
abbrev pub sample_from : ℕ → ℤ → ℕ
sample_from greatest z = if below z 0 then 0 else min (nat_of z) greatest

abbrev pub convolved : ℤ → List ℤ → Shape → Look → Look
convolved bias matrix shape from p x y =
    let sum = weighed (side_of matrix) 0 matrix shape from p x y in
    sample_from (largest_sample shape) (int_div sum (divisor_of matrix) +ℤ bias *ℤ pos (scale shape))

-- What is said of a filter over a clip: whether its list has the numbers that it takes; what it refuses, in this order; how many
-- frames it asks, and which, for frame n; the sample in a plane at x and y; and the planes that it shows as they are in the
-- middle one of these frames.
pub record SoftRow : Type 0 where
  pub filter : Filter
  pub lists : Bool
  pub refusals : Refusals FilterFault
  pub count : ℕ
  pub asked : List Info → ℕ → List Origin
  pub at : Shape → List Look → Look
  pub keeps : ℕ → Bool

abbrev pub soft_row : SoftOp → SoftRow
soft_row (op.TemporalSoften radius luma chroma) =
    let threshold : ℕ → ℕ = λ p. nat_of (if p == 0 then luma else chroma) in
    record {
      filter = filters.TemporalSoften;
      lists = true;
      refusals = (BadRange, beyond radius 7 || beyond luma 255 || beyond chroma 255) ∷ [];
      count = 2 * nat_of radius + 1;
      asked = λ infos n.
          map (λ k. in_range infos (from_input 0 (n + k - nat_of radius))) (range_with_len 0 (2 * nat_of radius + 1));
      at = λ shape looks p x y.
          softened (nat_of radius) (threshold p * scale shape) (look_at looks (nat_of radius) p x y) (samples_at looks p x y);
      keeps = λ p. nat_of radius == 0 || threshold p == 0;
    }
soft_row (op.GeneralConvolution bias matrix) = record {
  filter = filters.GeneralConvolution;
  lists = is_matrix matrix.entries;
  refusals = (BadRange, not (is_bias bias)) ∷ [];
  count = 1;
  asked = λ infos n. in_range infos (from_input 0 n) ∷ [];
  at = λ shape looks p x y. convolved bias matrix.entries shape (look_at looks 0) p x y;
  keeps = λ p. false;
}

-- The words of a row.

abbrev pub soft_filter : SoftOp → Filter
soft_filter op = (soft_row op).filter

abbrev pub soft_lists : SoftOp → Bool
soft_lists op = (soft_row op).lists

abbrev pub soft_refusals : SoftOp → Refusals FilterFault
soft_refusals op = (soft_row op).refusals

abbrev pub soft_asked : SoftOp → List Info → ℕ → List Origin
soft_asked op = (soft_row op).asked

abbrev pub soft_at : SoftOp → Shape → List Look → Look
soft_at op = (soft_row op).at

abbrev pub check_soft : SoftOp → List Info → Result Info FilterFault
check_soft op infos =
    let c = info_at infos 0 in
    unless (first_fault (soft_refusals op)) (limits c c.frames (rate_of c) c.shape)
