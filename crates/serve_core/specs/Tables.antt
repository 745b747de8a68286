-- A table between two uses of its instances.
use Rattle.std.specs.Prelude.{ℕ, List, [], ◌∷◌, map, Option, Some, None}
use Rattle.fv_plane.specs.declared.format.Info.{Info}
use Rattle.inst_table.specs.declared.place.Place.{Place}
use Rattle.inst_table.specs.declared.place.Slot.{Slot}
use Rattle.inst_table.specs.declared.place.Slot.TheVariants.{Free, Leased}
use Rattle.serve_core.specs.Sources.{faults_at}

-- no instance is out
abbrev pub AllFree : {I : Type 0} → List (Place × Slot I) → Type 0
AllFree [] = Unit {0}
AllFree ((p, Free x) ∷ es) = AllFree es
AllFree ((p, Leased w) ∷ es) = ⊥

-- the places of the table, each with the info of the source that the instance there keeps, where it keeps one
abbrev pub held_at : {I : Type 0} → (I → Option Info) → Place × Slot I → Place × Option Info
held_at holds (p, Free x) = (p, holds x)
held_at holds (p, Leased w) = (p, None)

abbrev pub held_in : {I : Type 0} → (I → Option Info) → List (Place × Slot I) → List (Place × Option Info)
held_in holds table = map (held_at holds) table

-- how often each instance in the table has failed
abbrev pub counts_in : {I : Type 0} → (I → ℕ) → List (Place × Slot I) → List ℕ
counts_in faults table = map (λ e. faults_at faults (Some e.1)) table
