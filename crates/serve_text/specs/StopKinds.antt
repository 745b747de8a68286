-- The stops of a render, and their exit statuses.
use Rattle.std.specs.Prelude.{ℕ}
use Rattle.avs_meaning.specs.declared.stop.EvalError.{EvalError}
use Rattle.avs_meaning.specs.declared.stop.EvalError.TheVariants as of_script
use Rattle.serve_text.specs.declared.stop.Stop.{Stop}
use Rattle.serve_text.specs.declared.stop.Stop.TheVariants.{Script, Input, Changed, File, Read, Write, Memory}

abbrev pub status_of_stop : Stop → ℕ
status_of_stop (Script kind name line) = 2
status_of_stop (Input name fault) = 3
status_of_stop (Changed name frame want got) = 3
status_of_stop (File name fault) = 3
status_of_stop Read = 4
status_of_stop Write = 5
status_of_stop Memory = 6

-- ---- the stop of a script

abbrev pub stop_of : EvalError → Stop
stop_of (of_script.Fault kind name line) = Script kind name line
stop_of (of_script.Input name fault) = Input name fault
stop_of of_script.Read = Read
stop_of of_script.Memory = Memory
