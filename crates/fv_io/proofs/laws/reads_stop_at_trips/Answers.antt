use Rattle.fv_io.proofs.WaitingLemmas.{reads_stop_at_trips}
use Rattle.fv_io.proofs.laws.reads_stop_at_trips.Goals as goal

pub returns : goal.returns
returns c = reads_stop_at_trips
