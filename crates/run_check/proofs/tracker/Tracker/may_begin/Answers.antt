use Rattle.run_check.proofs.StageLemmas.{window_test}
use Rattle.run_check.proofs.tracker.Tracker.may_begin.Goals as goal

pub returns : goal.returns
returns c = λ capacity p h. window_test c.args.graph.now c.args.root capacity c.args.self.now p c.args.first c.args.count c.is_finished.result c.is_window.result h c.is_finished.ensures (c.is_window.ensures capacity)
