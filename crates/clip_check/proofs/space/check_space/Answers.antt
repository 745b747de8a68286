use Rattle.clip_term.specs.Terms.{space}
use Rattle.clip_check.proofs.LawfulLemmas.{checked_lawful}
use Rattle.clip_check.proofs.space.check_space.Goals as goal

pub returns-clause-lawful : goal.returns-clause-lawful
returns-clause-lawful c = checked_lawful c.space_info.result (space c.args.op.now) c.args.infos.now (c.space_info.ensures c.args.infos.now c.of.ensures)
