-- The outside of a script, by what a host tells of its files.
use Rattle.std.specs.Prelude.{ℕ, Result}
use Rattle.fv_plane.specs.declared.format.Info.{Info}
use Rattle.avs_values.specs.Values.{Text}
use Rattle.avs_parse.specs.Load.{script_of}
use Rattle.avs_meaning.specs.State.{Context, Outside}
use Rattle.avs_meaning.specs.Meaning.{context_of}
use Rattle.avs_meaning.specs.declared.fault.FileKind.{FileKind}
use Rattle.avs_meaning.specs.declared.fault.InputFault.{InputFault}
use Rattle.avs_state.specs.declared.host.Host as host

-- texts have their trees, and files are what a host tells of them
abbrev pub outside_by : (Text → Result Info InputFault) → (Text → Result Text FileKind) → Outside
outside_by clips scripts = record { trees = script_of; clips = clips; scripts = scripts }

-- what is evaluated in over a host, where n calls may nest
abbrev pub context_in : {H : Type 0} → host.Ghosts H → ℕ → Context
context_in h n = context_of (outside_by h.clips h.scripts) n
