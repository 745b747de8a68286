use Rattle.std.proofs.Common.{rules}
use Rattle.avs_state.specs.States.{state_of}
use Rattle.avs_eval.proofs.BodyLemmas.{eval_is}
use Rattle.avs_eval.proofs.walker.Walker.eval_text.Goals as goal

pub returns-clause-told : goal.returns-clause-told
returns-clause-told g c = λ told.
    rw (eval_is g.H.Host c.args.self.now.depth c.args.self.now.script_name.now c.args.line c.args.text.now
    (state_of c.args.state.now) (search rules))
    (c.execute_made.ensures.told told)
