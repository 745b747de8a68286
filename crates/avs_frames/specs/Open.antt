-- How many levels of nesting are open.
use Rattle.std.specs.Prelude.{ℕ, [], ◌∷◌}
use Rattle.avs_tree.specs.Machine.{open_level}
use Rattle.avs_frames.specs.declared.state.Open.{Open}
use Rattle.avs_frames.specs.ExprViews.{open_view}

abbrev pub opens : Open → ℕ
opens f = open_level (open_view f ∷ [])
