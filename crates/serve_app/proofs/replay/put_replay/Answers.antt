-- What is said is what the text is, or nothing was put.
use Rattle.serve_app.proofs.ReplayLemmas.{judged_replay, no_due}
use Rattle.serve_app.proofs.replay.put_replay.Goals as goal

pub returns-clause-replay : goal.returns-clause-replay
returns-clause-replay g c =
    judged_replay (g.F.Files.world c.args.files.now) c.args.script.now c.args.name c.args.cache g.K.Sink c.args.out.now c.put_judged.new.out _ c.in_ok-graph.field-0
    c.in_ok-graph.ensures.charge c.in_ok-graph.ensures.clip c.put_judged.result (rw c.deref.ensures.value at c.put_judged.ensures.put) (rw c.deref.ensures.value at c.put_judged.ensures.stop)

pub returns-clause-before : goal.returns-clause-before
returns-clause-before g c = no_due g.K.Sink _ _ _ c.put_judged.result _ c.put_judged.ensures.stop

pub returns-clause-unfailed : goal.returns-clause-unfailed
returns-clause-unfailed g c = λ other. c.put_judged.ensures.steady other
