use Rattle.std.proofs.Common.{◌≡◌, Err, rules}
use Rattle.avs_parse.specs.Load.{script_of}
use Rattle.avs_state.specs.States.{state_of}
use Rattle.avs_state.specs.declared.stop.Stop.TheVariants as s
use Rattle.avs_eval.specs.Bodies.{body_by, body_view}
use Rattle.avs_eval.proofs.BodyLemmas.{executed, execute_fails}
use Rattle.avs_state.proofs.Failures.{also_fails}
use Rattle.avs_eval.proofs.walker.Walker.execute.Goals as goal

pub returns-clause-told : goal.returns-clause-told
returns-clause-told g c = λ told.
    rw (executed g.H.Host c.args.self.now.depth c.args.from.now c.args.text.now c.args.self.now.script_name.now c.args.line
    (state_of c.args.state.now) (state_of c.load_body.new.state) (body_view c.in_ok-body.body) (search rules) (search rules))
    (search rules)

pub returns-in_err-deeper-clause-told : goal.returns-in_err-deeper-clause-told
returns-in_err-deeper-clause-told g c = λ told.
    rw (executed g.H.Host c.args.self.now.depth c.args.from.now c.args.text.now c.args.self.now.script_name.now c.args.line
    (state_of c.args.state.now) (state_of c.load_body.new.state) (body_view c.in_ok-body.body) (search rules) (search rules))
    (search rules)

pub returns-in_err-body-clause-told : goal.returns-in_err-body-clause-told
returns-in_err-body-clause-told g c = λ told.
    let stop = c.in_err-body.field-0.0 in
    let is : c.from_residual.result ≡ Err (s.Whole stop) = search rules in
    rw is (execute_fails g.H.Host c.args.self.now.depth c.args.from.now c.args.text.now c.args.self.now.script_name.now c.args.line
    (state_of c.args.state.now) stop (search rules)
    (also_fails (body_by (script_of c.args.text.now) c.args.from.now (state_of c.args.state.now)) stop c.in_err-body.ensures.runs.gives))
