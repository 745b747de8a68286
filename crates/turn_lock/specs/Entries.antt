-- Lists of entries, and whose they are.
use Rattle.std.specs.Prelude.{◌≡◌, ℕ, ◌==◌, nat_lt, List, ◌++◌, length, filter, All, if◌then◌else◌}
pub use mathlib.Core.List.{IsPrefix}

-- the entries of one number, in their order
abbrev pub entries_of : {E : Type 0} → (E → ℕ) → ℕ → List E → List E
entries_of by number entries = filter (λ e. by e == number) entries

-- the entries afterwards are those before, and then some of this number alone
abbrev pub AddsOnly : {E : Type 0} → (E → ℕ) → ℕ → List E → List E → Type 0
AddsOnly {E} by number before after = (added : List E) × (after ≡ before ++ added) × All (λ e. by e ≡ number) added

-- of two lists with which a third one begins, the one that begins with the other
abbrev pub longer : {E : Type 0} → List E → List E → List E
longer xs ys = if nat_lt (length xs) (length ys) then ys else xs
