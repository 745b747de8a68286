-- The stop of the statements is that of the script.
use Rattle.std.proofs.Common.{◌≡◌, Err, rules}
use Rattle.avs_tree.specs.View.{block_view}
use Rattle.avs_state.specs.States.{state_of}
use Rattle.avs_state.specs.declared.stop.Stop.TheVariants as s
use Rattle.avs_eval.specs.OutsideBy.{outside_by}
use Rattle.avs_eval.proofs.RunLemmas.{run_fails}
use Rattle.avs_eval.proofs.evaluation.clip_of_run.Goals as goal

pub returns-in_err-value-clause-told : goal.returns-in_err-value-clause-told
returns-in_err-value-clause-told g c = λ told.
    let stop = c.in_err-value.field-0.0 in
    let is : c.from_residual.result ≡ Err (s.Whole stop) = search rules in
    rw is (run_fails (outside_by g.H.Host.clips g.H.Host.scripts) c.args.name.now (block_view c.args.statements.now) c.args.last_line
    (state_of c.args.state.now) stop (c.in_err-value.ensures.told told))
