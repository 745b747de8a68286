use Rattle.std.proofs.Common.{arith, sym, ◌∙◌, ◌≤◌, ◌*◌, ◌+◌}
use Rattle.avs_lex.specs.Spelling.{value}
use Rattle.avs_lex.proofs.NumberLemmas.{further, too_large}
use Rattle.avs_lex.proofs.number.decimal_value.Goals as goal

pub returns-in_err-checked_mul : goal.returns-in_err-checked_mul
returns-in_err-checked_mul c =
    let more = further c.loop-digit.number c.args.digits.now c.loop-digit.digit-index (omega arith) in
    let least : c.loop-digit.number * 10 ≤ value 10 c.args.digits.now = omega (arith, more, c.loop-digit.invariant) in
    c.from_residual.ensures ∙ sym (too_large (c.loop-digit.number * 10) (value 10 c.args.digits.now) c.in_err-checked_mul.ensures least)

pub returns-in_err-number : goal.returns-in_err-number
returns-in_err-number c =
    let more = further c.loop-digit.number c.args.digits.now c.loop-digit.digit-index (omega arith) in
    let product = c.in_ok-checked_mul.field-0 in
    let least : product + c.from.result ≤ value 10 c.args.digits.now = omega (arith, more, c.loop-digit.invariant) in
    c.from_residual-in_err-number.ensures ∙ sym (too_large (product + c.from.result) (value 10 c.args.digits.now) c.in_err-number.ensures least)
