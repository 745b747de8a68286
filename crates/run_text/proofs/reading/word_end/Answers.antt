use Rattle.std.proofs.Common.{sym}
use Rattle.std.specs.Prelude.{◌==◌}
use Rattle.run_text.proofs.ReadLemmas.{end_at, end_past}
use Rattle.run_text.proofs.reading.word_end.Goals as goal

pub returns-in-Some-clause-end : goal.returns-in-Some-clause-end
returns-in-Some-clause-end c = end_at (λ byte. byte == 32) c.args.text.now c.in-Some.end (sym c.in-Some.ensures)

pub returns-in-None-clause-end : goal.returns-in-None-clause-end
returns-in-None-clause-end c = end_past (λ byte. byte == 32) c.args.text.now (sym c.in-None.ensures)
