use Rattle.run_check.proofs.StageLemmas.{name_test}
use Rattle.run_check.proofs.tracker.Tracker.may_name.Goals as goal

pub returns : goal.returns
returns c = λ plan root capacity p h. name_test plan root capacity c.args.self.now p c.args.count h
