use Rattle.clip_term.specs.Terms.{fields}
use Rattle.clip_check.proofs.LawfulLemmas.{checked_lawful}
use Rattle.clip_check.proofs.field.check_field.Goals as goal

pub returns-clause-lawful : goal.returns-clause-lawful
returns-clause-lawful c = checked_lawful c.field_info.result (fields c.args.op.now) c.args.infos.now (c.field_info.ensures c.args.infos.now c.of.ensures)
