-- What the definitions determine.
use Rattle.std.specs.Prelude.{◌≡◌, ℕ, List, Some, Ok, Err, map}
use Rattle.fv_plane.specs.Picture.{Clip}
use Rattle.y4m_stream.specs.declared.fault.Y4mFault.{Y4mFault}
use Rattle.y4m_stream.specs.Stream.{Stream, HasFault}
use Rattle.clip_term.specs.Filters as filters
use Rattle.clip_term.specs.declared.filter.Filter.{Filter}
use Rattle.avs_meaning.specs.State.{clip_in}
use Rattle.avs_meaning.specs.Table.{builtins, builtin_of, maker_of, name_of}
use Rattle.avs_meaning.specs.declared.fault.InputFault.TheVariants as i

-- What bytes are as a file of a world is what they are as a stream.
pub record ClipsAreStreams : Type 0 where
  pub clip : (bytes : List ℕ) (c : Clip) → Stream bytes c → clip_in (Some bytes) ≡ Ok c.info
  pub fault : (bytes : List ℕ) (wrong : Y4mFault) → HasFault bytes wrong → clip_in (Some bytes) ≡ Err (i.Y4m wrong)

-- Each built-in function is the one of its name.
abbrev pub NamesDiffer : Type 0
NamesDiffer = map (λ function. builtin_of (name_of function)) builtins ≡ map Some builtins

-- Each filter is called by its name.
abbrev pub FiltersAreKnown : Type 0
FiltersAreKnown = (filter : Filter) → builtin_of (filters.name_of filter) ≡ Some (maker_of filter)
