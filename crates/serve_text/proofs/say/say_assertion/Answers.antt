-- The pieces are the line.
use Rattle.std.specs.Fmt.{decimal}
use Rattle.serve_text.proofs.SayLemmas.{says_as, assertion_line}
use Rattle.serve_text.proofs.say.say_assertion.Goals as goal

pub returns : goal.returns
returns g c =
    says_as g.E.Sink c.args.err.now c.say.new.err _ _
    (rw (c.as_str.ensures, c.format-line.ensures.text) (assertion_line c.args.name.now (decimal c.args.line) c.args.message.now)) c.say.ensures
