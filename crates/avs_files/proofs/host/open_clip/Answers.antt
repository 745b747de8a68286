-- The clip is that of the bytes of its source.
use Rattle.std.proofs.Common.{◌∙◌, ap}
use Rattle.avs_meaning.specs.State.{clip_in}
use Rattle.avs_files.proofs.FileLemmas.{bytes_there, index_of, clip_of, fault_of, fault_shown}
use Rattle.avs_files.proofs.host.open_clip.Goals as goal

pub returns-in-Ok-index-clause-told : goal.returns-in-Ok-index-clause-told
returns-in-Ok-index-clause-told g c world is =
    let found = bytes_there _ (c.in-Ok.ensures.there world is) in
    let opened = c.in-Ok-index.ensures.found found.0 (c.in-Ok.ensures.told world is ∙ found.1) in
    ap clip_in found.1 ∙ clip_of found.0 c.in-Ok-index.index opened.0 opened.1

pub returns-in-Ok-index-clause-is : goal.returns-in-Ok-index-clause-is
returns-in-Ok-index-clause-is g c = record {
  bytes = λ world is. c.index.ensures.keeps.told ∙ c.in-Ok.ensures.told world is;
  indexed = λ world is bytes clip file stream.
      let opened = c.in-Ok-index.ensures.found bytes (c.in-Ok.ensures.told world is ∙ file) in
      index_of bytes c.in-Ok-index.index opened.0 clip opened.1 stream;
  unfailed = c.index.ensures.steady (λ bad. let no : ⊥ = cc in no) ∙ c.in-Ok.ensures.fresh;
}

pub returns-in-Y4m-clause-told : goal.returns-in-Y4m-clause-told
returns-in-Y4m-clause-told g c world is =
    let found = bytes_there _ (c.in-Ok.ensures.there world is) in
    ap clip_in found.1 ∙ fault_of found.0 c.in-Y4m.fault
    (fault_shown found.0 c.in-Err.fault c.in-Y4m.fault c.in-Y4m.is (c.in-Err.ensures.fault found.0 (c.in-Ok.ensures.told world is ∙ found.1)))
