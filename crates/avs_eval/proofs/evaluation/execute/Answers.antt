-- The text is loaded, and its statements run.
use Rattle.std.proofs.Common.{◌≡◌, Err, rules}
use Rattle.avs_state.specs.States.{state_of}
use Rattle.avs_state.specs.declared.stop.Stop.TheVariants as s
use Rattle.avs_eval.specs.Bodies.{body_view}
use Rattle.avs_eval.proofs.RunLemmas.{load_fails, loaded_runs}
use Rattle.avs_eval.proofs.evaluation.execute.Goals as goal

pub returns-in_err-body-clause-told : goal.returns-in_err-body-clause-told
returns-in_err-body-clause-told g c = λ told.
    let stop = c.in_err-body.field-0.0 in
    let is : c.from_residual.result ≡ Err (s.Whole stop) = search rules in
    rw is (load_fails g.H.Host.clips g.H.Host.scripts c.args.name.now c.args.text.now (state_of c.args.state.now) stop c.in_err-body.ensures.runs.gives)

pub returns-clause-told : goal.returns-clause-told
returns-clause-told g c = λ told.
    rw (loaded_runs g.H.Host.clips g.H.Host.scripts c.args.name.now c.args.text.now (body_view c.in_ok-body.body)
    (state_of c.args.state.now) (state_of c.load_body.new.state) c.in_ok-body.ensures.runs.gives)
    (search rules)
