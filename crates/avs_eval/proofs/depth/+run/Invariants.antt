use Rattle.avs_eval.proofs.depth.+run.Given as goal

abbrev pub decreases-run : goal.decreases-run
decreases-run g l = l.depth
