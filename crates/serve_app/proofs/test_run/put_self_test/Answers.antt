-- What was put is the line, cut short.
use Rattle.serve_app.proofs.RunLemmas.{self_prefix}
use Rattle.serve_app.proofs.test_run.put_self_test.Goals as goal

pub returns-clause-stop : goal.returns-clause-stop
returns-clause-stop g c = (
  c.in-Err.ensures.failed,
  self_prefix g.K.Sink c.args.out.now c.put.new.self c.args.number _ c.in_ok-line.ensures
      (rw c.as_bytes.ensures.value at c.in-Err.ensures.cut),
)
