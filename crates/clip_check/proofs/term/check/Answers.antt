use Rattle.clip_term.specs.Terms.{act_of}
use Rattle.clip_check.proofs.LawfulLemmas.{checked_lawful}
use Rattle.clip_check.proofs.term.check.Goals as goal

pub returns-clause-lawful : goal.returns-clause-lawful
returns-clause-lawful c = checked_lawful c.check_summary.result (act_of c.args.op.now) c.args.infos.now (c.check_summary.ensures c.args.infos.now c.of.ensures)
