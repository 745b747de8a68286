use Rattle.y4m_stream.proofs.WrittenLemmas.{written_is_stream}
use Rattle.y4m_stream.proofs.laws.what_is_written_is_a_stream.Goals as goal

pub returns : goal.returns
returns c = written_is_stream
