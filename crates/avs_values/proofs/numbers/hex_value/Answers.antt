use Rattle.std.proofs.Common.{rules}
use Rattle.avs_values.proofs.NumberLemmas.{hexadecimal_fits}
use Rattle.avs_values.proofs.numbers.hex_value.Goals as goal

pub returns-in-Err : goal.returns-in-Err
returns-in-Err c = absurd (c.in-Err.ensures.value (hexadecimal_fits c.as_str-text.result.now (search rules)))
