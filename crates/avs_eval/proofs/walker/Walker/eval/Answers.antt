use Rattle.std.proofs.Common.{rules}
use Rattle.avs_state.specs.States.{state_of}
use Rattle.avs_eval.proofs.BodyLemmas.{eval_by}
use Rattle.avs_eval.proofs.walker.Walker.eval.Goals as goal

pub returns-in-Text-clause-told : goal.returns-in-Text-clause-told
returns-in-Text-clause-told g c = λ told.
    rw (eval_by g.H.Host c.args.self.now.depth c.args.self.now.script_name.now c.args.line c.args.values.now (state_of c.args.state.now))
    (search rules)
