use Rattle.run_check.proofs.check.check_journal.Goals as goal

pub returns : goal.returns
returns c = c.judge.ensures c.args.cache (c.in_ok-tracker.ensures c.args.graph.now c.args.root)
