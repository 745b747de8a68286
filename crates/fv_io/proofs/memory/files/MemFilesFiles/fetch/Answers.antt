-- What the opened source tells is what the world has under the name.
use Rattle.std.proofs.Common.{◌≡◌, Some, None, ◌∙◌, ap, rules}
use Rattle.fv_io.specs.FilesState.{entry_among}
use Rattle.fv_io.specs.SourceState.{told_bytes}
use Rattle.fv_io.proofs.FilesStateLemmas.{not_there, tells_its_bytes, is_there}
use Rattle.fv_io.proofs.memory.files.MemFilesFiles.fetch.Goals as goal

pub returns-in-None-clause-not_there : goal.returns-in-None-clause-not_there
returns-in-None-clause-not_there c missing told honest =
    let found : None ≡ entry_among c.args.self.now.entries c.args.name.now = search rules in
    not_there c.args.self.now told c.args.name.now honest found

pub returns-in-Ok-clause-told : goal.returns-in-Ok-clause-told
returns-in-Ok-clause-told c told honest =
    let found : Some c.in-Some.file.now ≡ entry_among c.args.self.now.entries c.args.name.now = search rules in
    ap told_bytes c.in-Ok.ensures ∙ tells_its_bytes c.args.self.now told c.args.name.now honest c.in-Some.file.now found

pub returns-in-Ok-clause-there : goal.returns-in-Ok-clause-there
returns-in-Ok-clause-there c told honest =
    let found : Some c.in-Some.file.now ≡ entry_among c.args.self.now.entries c.args.name.now = search rules in
    is_there c.args.self.now told c.args.name.now honest c.in-Some.file.now found
