use Rattle.row_laws.proofs.SmallStreams.{are_streams}
use Rattle.row_laws.proofs.StreamRows.{stream_texts, script_faults}
use Rattle.row_laws.proofs.streams.Goals as goal

pub returns : goal.returns
returns c = record { files = are_streams; texts = stream_texts; faults = script_faults }
