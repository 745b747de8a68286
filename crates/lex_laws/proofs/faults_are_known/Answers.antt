use Rattle.lex_laws.proofs.FaultBeginsLemmas.{faults_are_known, faults_exclude, fails_or_not}
use Rattle.lex_laws.proofs.faults_are_known.Goals as goal

pub returns : goal.returns
returns c = record { known = faults_are_known; exclude = faults_exclude; one = fails_or_not }
