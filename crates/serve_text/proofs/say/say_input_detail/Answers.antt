-- The pieces are the line.
use Rattle.serve_text.proofs.SayLemmas.{says_as, detail_line}
use Rattle.serve_text.proofs.say.say_input_detail.Goals as goal

pub returns : goal.returns
returns g c = says_as g.E.Sink c.args.err.now c.say.new.err _ _ (rw c.as_str.ensures (detail_line c.args.name.now c.args.kind.now c.args.detail.now)) c.say.ensures
