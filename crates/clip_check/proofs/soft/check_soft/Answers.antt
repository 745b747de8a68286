use Rattle.clip_term.specs.Terms.{soft}
use Rattle.clip_check.proofs.LawfulLemmas.{checked_lawful}
use Rattle.clip_check.proofs.soft.check_soft.Goals as goal

pub returns-clause-lawful : goal.returns-clause-lawful
returns-clause-lawful c = checked_lawful c.soft_info.result (soft c.args.op.now) c.args.infos.now (c.soft_info.ensures c.args.infos.now c.of.ensures)
