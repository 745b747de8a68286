use Rattle.std.proofs.Common.{◌≡◌, ◌<◌, ◌+◌, ◌*◌, ◌^◌, drop, fold}
use Rattle.std.specs.Char.{digit_value}
use Rattle.avs_lex.specs.Spelling.{value}
use Rattle.avs_lex.proofs.number.hexadecimal_value.Given as goal

abbrev pub invariant-loop-digit : goal.invariant-loop-digit
invariant-loop-digit l = record {
  small : l.number < 16 ^ l.digit-index;
  rest : fold (λ n c. 16 * n + digit_value c) l.number (drop l.digit-index l.digits) ≡ value 16 l.digits;
}
