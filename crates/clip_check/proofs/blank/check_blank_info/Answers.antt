use Rattle.std.proofs.Common.{◌≡◌, rules}
use Rattle.clip_term.specs.Blank.{check_plain}
use Rattle.clip_check.proofs.LawfulLemmas.{blank_lawful}
use Rattle.clip_check.proofs.blank.check_blank_info.Goals as goal

pub returns-in-None-clause-lawful : goal.returns-in-None-clause-lawful
returns-in-None-clause-lawful c =
    let exact : c.limits.result ≡ check_plain c.args.info = search rules in
    blank_lawful c.limits.result c.args.info exact
