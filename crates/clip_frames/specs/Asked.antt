-- The frames that a frame is made of.
use Rattle.std.specs.Prelude.{ℕ, ◌<◌, List, length, slice_index_or}
use Rattle.std.specs.Result.{IsOkAnd}
use Rattle.fv_plane.specs.declared.format.Info.{Info}
use Rattle.fv_plane.specs.declared.key.Key.{Key}
use Rattle.clip_term.specs.declared.op.Origin.{Origin}
use Rattle.clip_term.specs.Time.{from_input, in_range}
use Rattle.clip_term.specs.Terms.{Act, AreLawful, IsSound, check}
use Rattle.clip_graph.specs.Plan.{Application, infos_among}

-- a frame of one of these places
abbrev pub key_among : List ℕ → Origin → Key
key_among places origin = record { node = slice_index_or places origin.input 0; n = origin.number }

-- the same, after its number was brought into those of the place
abbrev pub key_in_range : List Application → List ℕ → ℕ → ℕ → Key
key_in_range plan places input number = key_among places (in_range (infos_among plan places) (from_input input number))

-- frame n is one of what a filter makes of clips with these infos
pub record IsShown (act : Act) (infos : List Info) (n : ℕ) : Type 0 where
  pub sound : IsSound act (length infos)
  pub lawful : AreLawful infos
  pub shown : IsOkAnd (check act infos) (λ (info : Info). n < info.frames)
