-- The script is that of the bytes of its source.
use Rattle.std.proofs.Common.{◌∙◌}
use Rattle.avs_files.proofs.FileLemmas.{bytes_there}
use Rattle.avs_files.proofs.WorldLemmas.{tells_found}
use Rattle.avs_files.proofs.script.read_script.Goals as goal

pub returns-clause-told : goal.returns-clause-told
returns-clause-told g c world is =
    let found = bytes_there _ (c.in-Ok.ensures.there world is) in
    tells_found _ found.0 c.read_source-text.result found.1 (c.read_source-text.ensures.told found.0 (c.in-Ok.ensures.told world is ∙ found.1))
