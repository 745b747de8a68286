-- A table of the nine statistics of a frame: three of each plane.
use Rattle.std.specs.Prelude.{◌≡◌, ℕ, ◌+◌, ◌*◌, ◌||◌, true, List, [], slice_get, slice_index_or}
use Rattle.std.specs.Option.{unwrap_or}
use Rattle.fv_rows.specs.Rows.{flat_rows}
use Rattle.fv_plane.specs.Picture.{look_in, Picture}
use Rattle.clip_term.specs.declared.run.PlaneStat.{PlaneStat}
use Rattle.clip_term.specs.declared.run.PlaneStat.TheVariants.{Least, Greatest, Median}
use Rattle.clip_term.specs.Expression.{Expr, asks, stat_of}

abbrev pub stat_number : PlaneStat → ℕ
stat_number Least = 0
stat_number Greatest = 1
stat_number Median = 2

abbrev pub stats_in : List ℕ → ℕ → PlaneStat → ℕ
stats_in table p stat = unwrap_or (slice_get table (3 * p + stat_number stat)) 0

-- the statistics of a picture
abbrev pub stats_of : Picture → ℕ → PlaneStat → ℕ
stats_of picture = stat_of picture.shape (look_in picture)

-- the samples of a plane of a picture, row by row
abbrev pub plane_samples : Picture → ℕ → List ℕ
plane_samples picture p = flat_rows (slice_index_or picture.planes p [])

-- the table has each statistic that one of two expressions names
abbrev pub HasNamed : Picture → Expr → Expr → List ℕ → Type 0
HasNamed picture first second table = (p : ℕ) (stat : PlaneStat) → asks p stat first || asks p stat second ≡ true
    → stats_in table p stat ≡ stats_of picture p stat
