-- What a call over files leaves.
use Rattle.std.specs.Prelude.{◌≡◌, ◌≤◌}
use Rattle.fv_io.specs.declared.files.Files.{Ghosts}
use Rattle.fv_io.specs.Faults.{HasRisen}

-- a call keeps the bytes of each name and the number of open sources, and the counts of fetches and of faults do not fall
pub record KeepsFiles {F S : Type 0} (files : Ghosts F S) (old new : F) : Type 0 where
  pub world : files.world new ≡ files.world old
  pub given : files.given new ≡ files.given old
  pub fetched : files.fetched old ≤ files.fetched new
  pub later : files.faults old ≤ files.faults new

-- the files, or a source that was closed, failed in the call
abbrev pub FilesFailed : {F S : Type 0} → Ghosts F S → F → F → Type 0
FilesFailed files old new = HasRisen (files.faults old) (files.faults new)
