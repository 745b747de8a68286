-- The sources that a plan reads.
use Rattle.std.specs.Prelude.{◌≡◌, List, map}
use Rattle.std.specs.List.{filter_map}
use Rattle.fv_plane.specs.declared.format.Info.{Info}
use Rattle.seq_source.specs.FrameSource.{FrameSource}
use Rattle.clip_term.specs.Terms.{source_info}
use Rattle.clip_graph.specs.Plan.{Application}

-- the infos of a plan's sources, in order
abbrev pub source_infos : List Application → List Info
source_infos plan = filter_map (λ (application : Application). source_info application.act) plan

-- a source for each source of the plan, in order, with the same info
abbrev pub AreSources : {S : Type 0} → List Application → List (FrameSource S) → Type 0
AreSources {S} plan sources = map (λ (it : FrameSource S). it.index.info) sources ≡ source_infos plan
