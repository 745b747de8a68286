-- The pieces are the line.
use Rattle.std.specs.Fmt.{decimal}
use Rattle.serve_text.proofs.SayLemmas.{says_as, changed_line}
use Rattle.serve_text.proofs.say.say_changed.Goals as goal

pub returns : goal.returns
returns g c =
    says_as g.E.Sink c.args.err.now c.say.new.err _ _
    (rw (c.as_str.ensures, c.format-frame.ensures.text, c.format-want.ensures.text, c.format-got.ensures.text) (changed_line c.args.name.now (decimal c.args.frame) (decimal c.args.want) (decimal c.args.got)))
    c.say.ensures
