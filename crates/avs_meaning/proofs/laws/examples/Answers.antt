use Rattle.avs_meaning.proofs.ClipExamples.{clips_of_scripts}
use Rattle.avs_meaning.proofs.FaultExamples.{faults_of_scripts}
use Rattle.avs_meaning.proofs.WorldExamples.{scripts_in_worlds}
use Rattle.avs_meaning.proofs.laws.examples.Goals as goal

pub returns-clause-clips : goal.returns-clause-clips
returns-clause-clips c = clips_of_scripts

pub returns-clause-faults : goal.returns-clause-faults
returns-clause-faults c = faults_of_scripts

pub returns-clause-files : goal.returns-clause-files
returns-clause-files c = scripts_in_worlds
