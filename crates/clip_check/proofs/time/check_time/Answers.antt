use Rattle.clip_term.specs.Terms.{time}
use Rattle.clip_check.proofs.LawfulLemmas.{checked_lawful}
use Rattle.clip_check.proofs.time.check_time.Goals as goal

pub returns-clause-lawful : goal.returns-clause-lawful
returns-clause-lawful c = checked_lawful c.time_info.result (time c.args.op.now) c.args.infos.now (c.time_info.ensures c.args.infos.now c.of.ensures)
