use Rattle.std.proofs.Common.{◌≡◌, drop}
use Rattle.avs_lex.specs.Spelling.{through}
use Rattle.avs_lex.proofs.enclosed.through.Given as goal

abbrev pub invariant-loop-offset : goal.invariant-loop-offset
invariant-loop-offset l = through l.word l.offset (drop l.offset l.rest) ≡ through l.word l.fn.from (drop l.fn.from l.rest)
