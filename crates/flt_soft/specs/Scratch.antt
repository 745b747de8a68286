-- The rows of a scratch.
use Rattle.std.specs.Prelude.{◌≡◌, ℕ, ◌+◌, ◌<◌, ◌≤◌}

-- a padded row is 4 samples wider than the pictures, where these have 3 columns or more
pub record IsPadded (width padded : ℕ) : Type 0 where
  pub narrow : width < 3 → padded ≡ width
  pub wide : 3 ≤ width → padded ≡ width + 4

-- a row of each kind for pictures of this width
pub record HasRows (width padded sums wide_padded totals : ℕ) : Type 0 where
  pub for_padded : IsPadded width padded
  pub for_sums : sums ≡ width
  pub for_wide_padded : IsPadded width wide_padded
  pub for_totals : totals ≡ width
