-- What adding an application to a plan leaves, by the answer.
use Rattle.std.specs.Prelude.{◌≡◌, ◌++◌, ℕ, ◌<◌, ◌≤◌, List, [], ◌∷◌, length, Result, Ok, Err}
use Rattle.clip_graph.specs.declared.graph.GraphFault.{GraphFault}
use Rattle.clip_graph.specs.declared.graph.GraphFault.TheVariants.{NodeLimit, DepthLimit, Memory}
use Rattle.clip_graph.specs.declared.graph.TheConstants.Graph.{MAX_NODES, MAX_DEPTH}
use Rattle.clip_graph.specs.Plan.{Application}

-- the limit of applications comes before that of how many stand one on another, and `Memory` after both
abbrev pub Added : List Application → Application → Result ℕ GraphFault → List Application → Type 0
Added old application (Ok n) new = (length old < MAX_NODES) × (application.depth ≤ MAX_DEPTH) × (n ≡ length old) × (new ≡ old ++ application ∷ [])
Added old application (Err NodeLimit) new = (length old ≡ MAX_NODES) × (new ≡ old)
Added old application (Err DepthLimit) new = (length old < MAX_NODES) × (MAX_DEPTH < application.depth) × (new ≡ old)
Added old application (Err Memory) new = (length old < MAX_NODES) × (application.depth ≤ MAX_DEPTH) × (new ≡ old)
