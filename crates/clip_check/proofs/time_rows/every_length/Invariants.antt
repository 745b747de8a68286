use Rattle.std.proofs.Common.{◌≡◌, length, drop}
use Rattle.std.specs.Prelude.{max}
use Rattle.clip_term.specs.Time.{every_length}
use Rattle.clip_check.proofs.time_rows.every_length.Given as goal

abbrev pub invariant-loop-i : goal.invariant-loop-i
invariant-loop-i l = max l.longest (every_length l.frames l.step (length l.offsets) l.i (drop l.i l.offsets)) ≡ every_length l.frames l.step (length l.offsets) 0 l.offsets
