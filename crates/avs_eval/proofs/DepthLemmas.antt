-- One call deeper.
use Rattle.std.proofs.Common.{◌≡◌, ap, ℕ, suc, ◌-◌, ◌<◌, arith}
use Rattle.avs_tree.specs.Tree.{Block}
use Rattle.avs_values.specs.Values.{Text}
use Rattle.avs_meaning.specs.Meaning.{below, run}
use Rattle.avs_meaning.specs.State.{Outside}

-- where calls may still nest
pub below_is : (outside : Outside) (n : ℕ) (here : Text) (body : Block) → 0 < n → below outside n here body ≡ run outside (n - 1) here body
unfolding below
below_is outside n here body h = let less : n ≡ suc (n - 1) = omega arith in ap (λ k. below outside k here body) less
