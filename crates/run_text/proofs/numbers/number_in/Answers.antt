use Rattle.std.proofs.Common.{sym, arith}
use Rattle.run_text.proofs.ReadLemmas.{digits_utf8, parsed, too_large}
use Rattle.run_text.proofs.numbers.number_in.Goals as goal

pub returns-in_default-clause-number : goal.returns-in_default-clause-number
returns-in_default-clause-number c = absurd (c.in_default.ensures.cases.0 (digits_utf8 c.args.digits.now c.requires))

pub returns-in_default-parse-clause-number : goal.returns-in_default-parse-clause-number
returns-in_default-parse-clause-number c =
    sym (too_large c.args.most c.args.digits.now (omega arith) (rw c.in_default-parse.is at (parsed c.args.digits.now c.parse.result c.requires (rw c.in-Ok.ensures.cases.0 at c.parse.ensures.value.0))))
