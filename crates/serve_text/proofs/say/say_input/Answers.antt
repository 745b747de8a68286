-- The line is that of the kind.
use Rattle.serve_text.proofs.say.say_input.Goals as goal

pub returns-in-NotThere : goal.returns-in-NotThere
returns-in-NotThere g c = rw c.in-NotThere.is c.say_input_kind.ensures

pub returns-in-Y4m : goal.returns-in-Y4m
returns-in-Y4m g c = rw c.in-Y4m.is c.say_y4m.ensures
