use Rattle.clip_term.specs.Terms.{joined}
use Rattle.clip_check.proofs.LawfulLemmas.{checked_lawful}
use Rattle.clip_check.proofs.join.check_join.Goals as goal

pub returns-clause-lawful : goal.returns-clause-lawful
returns-clause-lawful c = checked_lawful c.join_info.result (joined c.args.op.now) c.args.infos.now (c.join_info.ensures c.args.infos.now c.of.ensures)
