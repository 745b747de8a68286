-- What a fault shows of a frame that was asked for.
use Rattle.std.specs.Prelude.{◌≡◌, ℕ, ◌<◌, List, length, Option, Some}
use Rattle.fv_io.specs.declared.source.Source.{Ghosts}
use Rattle.fv_io.specs.Source.{SourceFailed}
use Rattle.seq_source.specs.declared.fault.SeqFault.{SeqFault}
use Rattle.seq_source.specs.declared.fault.SeqFault.TheVariants.{Read, Changed, Memory}

-- the bytes ended at `got`, which is the source's place now, before `want`, the offset just past frame n
pub record EndsEarly (told : Option (List ℕ)) (place n past frame want got : ℕ) : Type 0 where
  pub frame_is : frame ≡ n
  pub want_is : want ≡ past
  pub early : got < want
  pub at : got ≡ place
  pub ended : (bytes : List ℕ) → told ≡ Some bytes → got ≡ length bytes

-- what the fault shows where frame n, which ends just before offset `past`, was asked for
abbrev pub FaultShows : {S : Type 0} → Ghosts S → S → S → ℕ → ℕ → SeqFault → Type 0
FaultShows source old new n past Read = SourceFailed source old new
FaultShows source old new n past (Changed frame want got) = EndsEarly (source.bytes old) (source.place new) n past frame want got
FaultShows source old new n past Memory = Unit {0}

-- the fault doesn't say that the bytes ended early
abbrev pub IsNoChange : SeqFault → Type 0
IsNoChange Read = Unit {0}
IsNoChange (Changed frame want got) = ⊥
IsNoChange Memory = Unit {0}
