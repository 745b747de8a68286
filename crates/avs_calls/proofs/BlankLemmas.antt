-- `BlankClip` whose clip comes first.
use Rattle.std.proofs.Common.{◌≡◌, refl, ℕ, zero, suc, List}
use Rattle.std.specs.Prelude.{slice_get}
use Rattle.avs_values.specs.Values.{Text}
use Rattle.avs_values.specs.declared.value.Value.{Value}
use Rattle.avs_meaning.specs.Filters as f
use Rattle.avs_meaning.specs.State.{State}

pub blank_first : (here : Text) (n : ℕ) (values : List Value) (line : ℕ) (s : State) → (n ≡ 0 → ⊥)
    → f.blank here n values line s ≡ f.blank_of here (slice_get values 0) (f.blank_args values 1) line s
blank_first here zero values line s other = absurd (other refl)
blank_first here (suc n) values line s other = refl
