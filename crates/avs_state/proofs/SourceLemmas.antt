-- The sources of a plan with one more application.
use Rattle.std.proofs.Common.{◌≡◌, ◌∙◌, sym, ap, List, [], ◌∷◌, ◌++◌, append_assoc, append-nil}
use Rattle.clip_graph.specs.Plan.{Application}
use Rattle.avs_state.specs.Sources.{source_of, sources_of}

pub sources_more : (plan : List Application) (x : Application)
    → sources_of (plan ++ x ∷ []) ≡ sources_of plan ++ source_of x.act
sources_more [] x = append-nil (source_of x.act)
sources_more (y ∷ plan) x =
    ap (λ z. source_of y.act ++ z) (sources_more plan x) ∙ sym (append_assoc (source_of y.act) (sources_of plan) (source_of x.act))
