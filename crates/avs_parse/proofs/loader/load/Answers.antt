use Rattle.std.proofs.Common.{sym, subst, Err}
use Rattle.avs_parse.specs.Load.{script_of}
use Rattle.avs_parse.specs.Loads.{Loads}
use Rattle.avs_parse.proofs.LoadLemmas.{loads_text}
use Rattle.avs_parse.proofs.loader.load.Goals as goal

pub returns-in-Err-clause-tree : goal.returns-in-Err-clause-tree
returns-in-Err-clause-tree c = subst (λ z. Loads (script_of c.args.text.now) (Err z)) (sym c.fault_of_text.ensures) (loads_text c.args.text.now c.in-Err.fault c.in-Err.ensures.fault)
