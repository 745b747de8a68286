-- What other crates may cite: frames that are collected as `input_at` names them, and the source that a node reads.
use Rattle.std.proofs.Common.{◌≡◌, ℕ, ◌<◌, List, length, Some, false, refl, sym, subst}
use Rattle.std.specs.Prelude.{if◌then◌else◌}
use Rattle.std.specs.List.{slice_get}
use Rattle.std.proofs.lemmas.Option.{slice_get_within, get_or_from_slice_get}
use Rattle.fv_io.specs.declared.text.Text.{Text}
use Rattle.fv_plane.specs.declared.format.Info.{Info}
use Rattle.fv_plane.specs.declared.key.Key.{Key}
use Rattle.clip_term.specs.declared.op.Op.{Op}
use Rattle.clip_term.specs.declared.op.Op.TheVariants as op
use Rattle.clip_term.specs.Terms.{act_of}
use Rattle.clip_graph.specs.Plan.{Application, is_source, IsPlan, IsKeyBelow, input_keys}
use Rattle.clip_graph.proofs.UnfoldingLemmas.{inputs_are_keys}

-- FRAMES

-- what is named is a frame of an earlier node
pub input_below : (plan : List Application) (key : Key) (i : ℕ) (input : Key) → IsPlan plan → key.node < length plan → Some input ≡ slice_get (input_keys plan key) i → IsKeyBelow plan key.node input
input_below plan key i input is within found =
    let keys = input_keys plan key in
    subst (λ (k : Key). IsKeyBelow plan key.node k) (get_or_from_slice_get keys i input input (sym found)) (inputs_are_keys plan key is within i input (slice_get_within keys i input (sym found)))

-- SOURCES

-- an op that is none
pub not_source : (code : Op) → ((name : Text) (number : ℕ) (info : Info) → code ≡ op.Source name number info → ⊥) → is_source (act_of code) ≡ false
not_source (op.Source name number info) none = absurd (none name number info refl)
not_source _ none = refl
