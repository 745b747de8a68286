-- The files tell their world.
use Rattle.std.proofs.Common.{◌≡◌, ◌∙◌, ap, rules}
use Rattle.fv_io.specs.FilesState.{told_world, with_entry}
use Rattle.self_test.proofs.SampleLemmas.{file, no_files, tells}
use Rattle.self_test.proofs.files.workload.Goals as goal

pub returns-clause-world : goal.returns-clause-world
returns-clause-world c =
    let stream = file c.in_ok-name.name c.in_ok-stream.stream.items 65536 c.new.result.items in
    let text = file c.in_ok-name-2.name c.in_ok-script.script.items 65536 c.new-2.result.items in
    let first : c.add.new.self ≡ with_entry no_files stream = c.in_ok-add.ensures.added ∙ ap (λ files. with_entry files stream) c.new-files.ensures in
    let both : c.add-2.new.self ≡ with_entry (with_entry no_files stream) text = c.in_ok-add-2.ensures.added ∙ ap (λ files. with_entry files text) first in
    ap told_world both ∙ tells c.args.number c.in_ok-name.name c.in_ok-stream.stream.items c.in_ok-name-2.name c.in_ok-script.script.items 65536 65536 c.new.result.items c.new-2.result.items
    c.in_ok-name.ensures c.in_ok-stream.ensures c.in_ok-name-2.ensures (search rules)
