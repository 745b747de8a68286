-- The sources of a plan.
use Rattle.std.specs.Prelude.{◌≡◌, List, [], ◌∷◌, ◌++◌, Option, Some, None, Result, OnOk}
use Rattle.clip_term.specs.Terms.{Act, SourcePart, source_part}
use Rattle.clip_graph.specs.Plan.{Application}
use Rattle.avs_meaning.specs.declared.state.SourceClip.{SourceClip}
use Rattle.avs_state.specs.States.{state_of}
use Rattle.avs_state.specs.declared.run_state.RunState.{RunState}

abbrev clip_read : Option SourcePart → List SourceClip
clip_read (Some part) = record { name = part.name; info = part.info } ∷ []
clip_read None = []

-- the clip that a source reads
abbrev pub source_of : Act → List SourceClip
source_of act = clip_read (source_part act)

-- the clips that the sources of a plan read, in order
abbrev pub sources_of : List Application → List SourceClip
sources_of [] = []
sources_of (application ∷ rest) = source_of application.act ++ sources_of rest

-- the clips that were opened stay those of the sources of the plan
abbrev pub Lists : {X E : Type 0} → RunState → Result X E → RunState → Type 0
Lists old result new =
    sources_of (state_of old).plan ≡ (state_of old).opened
    → OnOk result (sources_of (state_of new).plan ≡ (state_of new).opened)
