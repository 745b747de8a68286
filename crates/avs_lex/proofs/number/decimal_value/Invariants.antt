use Rattle.std.proofs.Common.{◌≡◌, ◌+◌, ◌*◌, drop, fold}
use Rattle.std.specs.Char.{digit_value}
use Rattle.avs_lex.specs.Spelling.{value}
use Rattle.avs_lex.proofs.number.decimal_value.Given as goal

abbrev pub invariant-loop-digit : goal.invariant-loop-digit
invariant-loop-digit l = fold (λ n c. 10 * n + digit_value c) l.number (drop l.digit-index l.digits) ≡ value 10 l.digits
