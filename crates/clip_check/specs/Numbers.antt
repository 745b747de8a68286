-- Sides and rates as shapes and rates, also where they are too large for them.
use Rattle.fv_plane.specs.declared.format.Shape.{Shape}
use Rattle.fv_plane.specs.Info.{Rate}
use Rattle.clip_check.specs.declared.limits.Sides.{Sides}
use Rattle.clip_check.specs.declared.limits.FrameRate.{FrameRate}

abbrev pub shape_in : Sides → Shape
shape_in sides = record { kind = sides.kind; bits = sides.bits; width = sides.width; height = sides.height }

abbrev pub rate_in : FrameRate → Rate
rate_in rate = record { num = rate.num; den = rate.den }
