-- The line is that of the kind.
use Rattle.serve_text.proofs.SayLemmas.{no_message}
use Rattle.serve_text.proofs.say.say_script.Goals as goal

pub returns-in-AssertFailed : goal.returns-in-AssertFailed
returns-in-AssertFailed g c = rw c.in-AssertFailed.is (rw c.as_str.ensures at c.say_assertion.ensures)

pub returns-in_default : goal.returns-in_default
returns-in_default g c = rw (no_message c.args.kind.now c.in_default.not-AssertFailed) (rw c.name.ensures at c.say_script_kind.ensures)
