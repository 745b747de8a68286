use Rattle.std.proofs.Common.{◌≡◌, ℕ, true, Some, rules, sym, ◌∙◌, ap, arith}
use Rattle.std.specs.List.{list_all}
use Rattle.std.specs.Char.{is_ascii_digit}
use Rattle.y4m_stream.proofs.NumberLemmas.{digits_utf8, parsed, some_number, no_number}
use Rattle.y4m_stream.proofs.numbers.number.Goals as goal

pub returns-in_default-clause-number : goal.returns-in_default-clause-number
returns-in_default-clause-number c = sym (no_number c.args.digits.now (λ all some small. c.in_default.ensures.cases.0 (digits_utf8 c.args.digits.now all)))

pub returns-in_default-parse-clause-number : goal.returns-in_default-parse-clause-number
returns-in_default-parse-clause-number c =
    sym (no_number c.args.digits.now (λ all some small. let read = rw c.in_default-parse.is at (parsed c.args.digits.now c.parse.result all (rw c.in-Ok.ensures.cases.0 at c.parse.ensures.value.0)) in read (some, omega arith)))

pub returns-then-n-le-MAX_NUMBER-clause-number : goal.returns-then-n-le-MAX_NUMBER-clause-number
returns-then-n-le-MAX_NUMBER-clause-number c =
    let all : list_all is_ascii_digit c.args.digits.now ≡ true = search rules in
    let read = rw c.in-Ok-parse.is at (parsed c.args.digits.now c.parse.result all (rw c.in-Ok.ensures.cases.0 at c.parse.ensures.value.0)) in
    ap (λ (n : ℕ). Some n) read.1 ∙ sym (some_number c.args.digits.now all read.0.0 (omega arith) (omega arith))

pub returns-else-n-le-MAX_NUMBER-clause-number : goal.returns-else-n-le-MAX_NUMBER-clause-number
returns-else-n-le-MAX_NUMBER-clause-number c =
    sym (no_number c.args.digits.now (λ all some small. let read = rw c.in-Ok-parse.is at (parsed c.args.digits.now c.parse.result all (rw c.in-Ok.ensures.cases.0 at c.parse.ensures.value.0)) in omega (arith, read.1)))
