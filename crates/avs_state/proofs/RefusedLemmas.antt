-- A filter that refuses its clips, and one that takes them.
use Rattle.std.proofs.Common.{◌≡◌, refl, ℕ, List, true, Ok, Err}
use Rattle.avs_meaning.specs.Faults.{script}
use Rattle.avs_meaning.specs.Filters as f
use Rattle.avs_meaning.specs.State.{State}
use Rattle.avs_meaning.specs.declared.fault.ScriptKind.TheVariants as k
use Rattle.avs_values.specs.Values.{Text}
use Rattle.clip_graph.specs.Plan.{infos_among}
use Rattle.clip_term.specs.Terms.{Act, check}
use Rattle.clip_term.specs.declared.fault.FilterFault.{FilterFault}
use Rattle.clip_term.specs.declared.filter.Filter.{Filter}
use Rattle.fv_plane.specs.declared.format.Info.{Info}
use Rattle.mt_modes.specs.Modes.{mode_in}

pub refused : (here : Text) (filter : Filter) (act : Act) (inputs : List ℕ) (line : ℕ) (s : State) (fault : FilterFault) → f.are_places inputs s.plan ≡ true
    → check act (infos_among s.plan inputs) ≡ Err fault → f.made here filter act inputs line s ≡ Err (script (k.Filter fault) here line)
refused here filter act inputs line s fault places is = rw (places, is) refl

pub allowed : (here : Text) (filter : Filter) (act : Act) (inputs : List ℕ) (line : ℕ) (s : State) (info : Info) → f.are_places inputs s.plan ≡ true
    → check act (infos_among s.plan inputs) ≡ Ok info → f.made here filter act inputs line s ≡ f.add here act inputs info (mode_in s.modes filter) line s
allowed here filter act inputs line s info places is = rw (places, is) refl
