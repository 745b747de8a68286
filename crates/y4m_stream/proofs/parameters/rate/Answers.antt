use Rattle.y4m_stream.proofs.GcdLemmas.{default_rate}
use Rattle.y4m_stream.proofs.parameters.rate.Goals as goal

pub returns-in-None-clause-lawful : goal.returns-in-None-clause-lawful
returns-in-None-clause-lawful c = default_rate
