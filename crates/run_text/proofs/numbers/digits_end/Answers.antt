use Rattle.std.proofs.Common.{not, sym, ◌∙◌}
use Rattle.std.specs.Char.{is_ascii_digit}
use Rattle.run_text.proofs.ReadLemmas.{end_at, end_past, digits_by}
use Rattle.run_text.proofs.numbers.digits_end.Goals as goal

pub returns-in-Some-clause-end : goal.returns-in-Some-clause-end
returns-in-Some-clause-end c = end_at (λ byte. not (is_ascii_digit byte)) c.args.text.now c.in-Some.end (sym c.in-Some.ensures) ∙ digits_by c.args.text.now

pub returns-in-None-clause-end : goal.returns-in-None-clause-end
returns-in-None-clause-end c = end_past (λ byte. not (is_ascii_digit byte)) c.args.text.now (sym c.in-None.ensures) ∙ digits_by c.args.text.now
