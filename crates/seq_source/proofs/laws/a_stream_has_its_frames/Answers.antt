use Rattle.seq_source.proofs.FrameLemmas.{frames_are}
use Rattle.seq_source.proofs.laws.a_stream_has_its_frames.Goals as goal

pub returns : goal.returns
returns c = frames_are
