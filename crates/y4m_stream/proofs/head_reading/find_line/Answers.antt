use Rattle.std.proofs.Common.{sym, rules}
use Rattle.y4m_stream.proofs.HeadLemmas.{is_line}
use Rattle.y4m_stream.proofs.head_reading.find_line.Goals as goal

pub returns-in-Some-clause-line : goal.returns-in-Some-clause-line
returns-in-Some-clause-line c = is_line c.args.bytes.now c.in-Some.end (search rules) (sym c.in-Some.ensures.end)
