-- The world that files in memory tell, and the file that a name finds.
use Rattle.std.proofs.Common.{◌≡◌, ℕ, List, [], ◌∷◌, Option, Some, None, Bool, true, false, cond, ◌&&◌, is_none, refl, sym, ◌∙◌, ap, map}
use Rattle.std.specs.Option.{option_map}
use Rattle.std.specs.List.{list_all}
use Rattle.std.specs.Str.{bytes_eq}
use Rattle.std.specs.Ordering.{nat_cmp}
use Rattle.std.specs.Cmp.Lexicographic.{slice_cmp, nat_list_cmp_total}
use Rattle.std.proofs.lemmas.Map.Text.{is_eq-slice_cmp}
use Rattle.std.specs.FinMap.{find, get, get-from_entries}
use Rattle.fv_io.specs.FilesState.{Entry, entry_among, world_of, told_world, opened, FilesState}
use Rattle.fv_io.specs.SourceState.{told_bytes}
use Rattle.fv_io.specs.World.{World}

first_of_name : (entries : List Entry) (name : List ℕ) → find (slice_cmp nat_cmp) name (map (λ entry. (entry.name, entry.first)) entries) ≡ option_map (λ entry. entry.first) (entry_among entries name)
first_of_name [] name = refl
first_of_name (entry ∷ entries) name =
    let rest = find (slice_cmp nat_cmp) name (map (λ (e : Entry). (e.name, e.first)) entries) in
    ap (λ test. cond test (Some entry.first) rest) (is_eq-slice_cmp name entry.name)
    ∙ elim (bytes_eq name entry.name) as (λ test. cond test (Some entry.first) rest ≡ option_map (λ (e : Entry). e.first) (cond test (Some entry) (entry_among entries name))) [ true ↦ refl | false ↦ first_of_name entries name ]

pub get-world_of : (entries : List Entry) (name : List ℕ) → get (world_of entries) name ≡ option_map (λ entry. entry.first) (entry_among entries name)
get-world_of entries name = get-from_entries nat_list_cmp_total (map (λ entry. (entry.name, entry.first)) entries) name ∙ first_of_name entries name

both_true : (a b : Bool) → (a && b) ≡ true → (a ≡ true) × (b ≡ true)
both_true true b is = (refl, is)
both_true false b is = absurd (let no : ⊥ = cc in no)

no_later : (later : Option (List ℕ)) → is_none later ≡ true → later ≡ None
no_later None is = refl
no_later (Some bytes) is = absurd (let no : ⊥ = cc in no)

-- a file among files none of which changes tells its bytes
keeps : (entries : List Entry) (name : List ℕ) (entry : Entry) → list_all (λ entry. is_none entry.later) entries ≡ true → entry_among entries name ≡ Some entry → entry.later ≡ None
keeps [] name entry whole found = absurd (let no : ⊥ = cc in no)
keeps (first ∷ entries) name entry whole found = chosen (bytes_eq name first.name) found (keeps entries name entry (both_true _ _ whole).1)
  where
    chosen : (test : Bool) → cond test (Some first) (entry_among entries name) ≡ Some entry → (entry_among entries name ≡ Some entry → entry.later ≡ None) → entry.later ≡ None
    chosen true same rest = let is : first ≡ entry = cc in rw (← is) (no_later first.later (both_true _ _ whole).0)
    chosen false same rest = rest same

tells : (whole : Bool) (world told : World) → cond whole (Some world) None ≡ Some told → (whole ≡ true) × (world ≡ told)
tells true world told is = (refl, cc)
tells false world told is = absurd (let no : ⊥ = cc in no)

module _ (state : FilesState) (told : World) (name : List ℕ) (honest : told_world state ≡ Some told) where
  answers : get told name ≡ option_map (λ entry. entry.first) (entry_among state.entries name)
  answers = ap (λ world. get world name) (sym (tells _ (world_of state.entries) told honest).1) ∙ get-world_of state.entries name

  -- a name that isn't found isn't in the world
  pub not_there : None ≡ entry_among state.entries name → get told name ≡ None
  not_there none = answers ∙ ap (option_map (λ entry. entry.first)) (sym none)

  module _ (entry : Entry) (found : Some entry ≡ entry_among state.entries name) where
    there : get told name ≡ Some entry.first
    there = answers ∙ ap (option_map (λ entry. entry.first)) (sym found)

    -- a source over the file that was found tells what the world has
    pub tells_its_bytes : told_bytes (opened entry) ≡ get told name
    tells_its_bytes =
        ap (λ later. cond (is_none later) (Some entry.first) None) (keeps state.entries name entry (tells _ (world_of state.entries) told honest).0 (sym found)) ∙ sym there

    pub is_there : get told name ≡ None → ⊥
    is_there none = let no : ⊥ = cc (there, none) in no
