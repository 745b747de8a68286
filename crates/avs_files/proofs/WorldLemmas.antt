-- What is answered of a file, by its bytes.
use Rattle.std.proofs.Common.{◌≡◌, List, ℕ, Option, Some, Result}
use Rattle.avs_values.specs.Values.{Text}
use Rattle.avs_meaning.specs.State.{script_in}
use Rattle.avs_state.specs.Hosts.{TellsScript}
use Rattle.avs_state.specs.declared.host.HostFault.{HostFault}

-- what is told of bytes is told of the file that has them
pub tells_found : (found : Option (List ℕ)) (bytes : List ℕ) (result : Result Text HostFault) → found ≡ Some bytes → TellsScript (script_in (Some bytes)) result → TellsScript (script_in found) result
tells_found found bytes result is told = rw is told
