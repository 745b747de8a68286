use Rattle.avs_eval.proofs.walker.Walker.deeper.Goals as goal

pub run-requires : goal.run-requires
run-requires g c = c.requires.deeper.callable c.requires.room _ _ _ _ _ c.requires.short
