use Rattle.serve_replay.proofs.VerdictLemmas.{said_once}
use Rattle.serve_replay.proofs.laws.said_once.Goals as goal

pub returns : goal.returns
returns c = said_once
