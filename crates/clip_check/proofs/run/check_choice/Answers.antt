use Rattle.clip_term.specs.Choice.{run_act}
use Rattle.clip_term.specs.Terms.{choice}
use Rattle.clip_check.proofs.LawfulLemmas.{checked_lawful}
use Rattle.clip_check.proofs.run.check_choice.Goals as goal

pub returns-clause-lawful : goal.returns-clause-lawful
returns-clause-lawful c = checked_lawful c.run_info.result (choice (run_act c.args.op.now)) c.args.infos.now (c.run_info.ensures c.args.infos.now c.of.ensures)
