use Rattle.y4m_stream.proofs.ReadingLemmas.{reads_one_way}
use Rattle.y4m_stream.proofs.laws.bytes_read_one_way.Goals as goal

pub returns : goal.returns
returns c = reads_one_way
