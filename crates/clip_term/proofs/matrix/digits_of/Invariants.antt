use Rattle.std.proofs.Common.{◌≡◌, min, take}
use Rattle.clip_term.specs.Filters.{digits_of}
use Rattle.clip_term.proofs.matrix.digits_of.Given as goal

abbrev pub invariant-loop-digit : goal.invariant-loop-digit
invariant-loop-digit l = l.number ≡ min (digits_of (take l.digit-index l.digits)) 1025
