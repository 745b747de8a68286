use Rattle.std.specs.Char.{is_ascii_hexdigit}
use Rattle.avs_lex.proofs.NumberLemmas.{list_all-taken}
use Rattle.avs_lex.proofs.number.hexadecimal.Goals as goal

pub hexadecimal_value-number-requires-clause-digits : goal.hexadecimal_value-number-requires-clause-digits
hexadecimal_value-number-requires-clause-digits c = rw (c.hexdigits_len-size.ensures.size, list_all-taken is_ascii_hexdigit c.split_at.result.1.now)
