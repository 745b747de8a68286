use Rattle.std.proofs.Common.{arith, ◌<◌, ◌+◌, ◌*◌, ◌^◌, lit<}
use Rattle.std.proofs.lemmas.Grind.{common_steps}
use Rattle.avs_lex.proofs.NumberLemmas.{sixteen_digits, sixteen_times, hexdigit_value}
use Rattle.avs_lex.proofs.number.hexadecimal_value.Goals as goal

pub overflow_mul-number : goal.overflow_mul-number
overflow_mul-number c =
    let n = c.loop-digit.number in
    let i = c.loop-digit.digit-index in
    let more : 16 * n + 0 < 16 ^ (i + 1) = sixteen_times n 0 i c.loop-digit.invariant.small (lit< tt) in
    omega (arith, sixteen_digits (16 * n + 0) (i + 1) more (omega arith))

pub overflow_add-number : goal.overflow_add-number
overflow_add-number c =
    let n = c.loop-digit.number in
    let i = c.loop-digit.digit-index in
    let more : 16 * n + c.from.result < 16 ^ (i + 1) = grind (arith, common_steps, hexdigit_value) in
    omega (arith, sixteen_digits (16 * n + c.from.result) (i + 1) more (omega arith))
