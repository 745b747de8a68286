-- The frames that a list names, in their order.
use Rattle.std.specs.Prelude.{◌≡◌, ℕ, ◌<◌, ◌≤◌, ℤ, List, true, false}
use Rattle.clip_term.specs.Time.{is_named}

-- no number from low on is named
abbrev pub NoneFrom : List ℤ → ℕ → Type 0
NoneFrom fs low = (k : ℕ) → low ≤ k → is_named fs k ≡ false

-- f is the least named number from low on
pub record IsNext (fs : List ℤ) (low f : ℕ) : Type 0 where
  pub from : low ≤ f
  pub named : is_named fs f ≡ true
  pub first : (k : ℕ) → low ≤ k → k < f → is_named fs k ≡ false
