use Rattle.std.proofs.Common.{◌≡◌, drop}
use Rattle.prefetch.specs.Windows.{given}
use Rattle.prefetch.proofs.player.first_of.Given as goal

-- what is left has the frames of all
abbrev pub invariant-loop-frame : goal.invariant-loop-frame
invariant-loop-frame l = given (drop l.frame-index l.frames) ≡ given l.fn.frames
