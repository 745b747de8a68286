-- What the closing of sources leaves.
use Rattle.std.specs.Prelude.{◌≡◌, ℕ, List, sum_by}
use Rattle.fv_io.specs.Faults.{with_faults}
use Rattle.fv_io.specs.declared.source.Source.{Ghosts}
use Rattle.seq_source.specs.FrameSource.{FrameSource}

-- the faults of all the sources
abbrev pub faults_among : {S : Type 0} → Ghosts S → List (FrameSource S) → ℕ
faults_among source sources = sum_by (λ it. source.faults it.source) sources

-- the faults of the sources, and no others, count among those of the files
abbrev pub CountsFaults : {S : Type 0} → Ghosts S → List (FrameSource S) → ℕ → ℕ → Type 0
CountsFaults source sources before now = now ≡ with_faults before (faults_among source sources)
