use Rattle.std.proofs.Common.{◌≡◌, take}
use Rattle.std.specs.Prelude.{max}
use Rattle.std.specs.List.{fold}
use Rattle.fv_plane.specs.Picture.{wide_samples}
use Rattle.flt_choice.proofs.samples.greatest_wide.Given as goal

abbrev pub invariant-loop-x : goal.invariant-loop-x
invariant-loop-x l = l.greatest ≡ fold max l.start (take l.x (wide_samples l.bytes))
