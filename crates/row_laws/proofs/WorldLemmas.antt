-- What a world of files tells is what the list of its files tells.
use Rattle.std.proofs.Common.{◌≡◌, ℕ, List, [], ◌∷◌, Option, Some, true, false, cond, refl, sym, ◌∙◌, ap, map}
use Rattle.std.specs.Option.{option_map}
use Rattle.std.specs.Str.{bytes_eq}
use Rattle.std.specs.Ordering.{nat_cmp}
use Rattle.std.specs.Cmp.Lexicographic.{slice_cmp, nat_list_cmp_total}
use Rattle.std.specs.FinMap.{find, get, get-from_entries}
use Rattle.std.proofs.lemmas.Map.Text.{is_eq-slice_cmp}
use Rattle.fv_io.specs.FilesState.{Entry, entry_among, world_of}
use Rattle.avs_values.specs.Values.{Text}
use Rattle.avs_parse.specs.Load.{script_of}
use Rattle.avs_meaning.specs.State.{Outside, clip_in, script_in}
use Rattle.row_laws.specs.Worlds.{outside_with}

abbrev bytes_in : List Entry → Text → Option (List ℕ)
bytes_in files name = option_map (λ (entry : Entry). entry.first) (entry_among files name)

first_of_name : (files : List Entry) (name : Text)
    → find (slice_cmp nat_cmp) name (map (λ (file : Entry). (file.name, file.first)) files) ≡ bytes_in files name
first_of_name [] name = refl
first_of_name (file ∷ files) name =
    let rest = find (slice_cmp nat_cmp) name (map (λ (e : Entry). (e.name, e.first)) files) in
    ap (λ test. cond test (Some file.first) rest) (is_eq-slice_cmp name file.name)
    ∙ elim (bytes_eq name file.name) as (λ test. cond test (Some file.first) rest
    ≡ option_map (λ (e : Entry). e.first) (cond test (Some file) (entry_among files name))) [ true ↦ refl | false ↦ first_of_name files name ]

finds : (files : List Entry) (name : Text) → get (world_of files) name ≡ bytes_in files name
finds files name =
    get-from_entries nat_list_cmp_total (map (λ (file : Entry). (file.name, file.first)) files) name ∙ first_of_name files name

-- the outside of a list of files
abbrev pub listed : List Entry → Outside
listed files = record {
  trees = script_of;
  clips = λ name. clip_in (bytes_in files name);
  scripts = λ name. script_in (bytes_in files name);
}

tells_listed : outside_with ≡ listed
tells_listed = λ i files. record {
  trees = script_of;
  clips = λ name. clip_in (finds files name i);
  scripts = λ name. script_in (finds files name i);
}

pub listed_tells : listed ≡ outside_with
listed_tells = sym tells_listed
