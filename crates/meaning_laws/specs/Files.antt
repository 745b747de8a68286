-- What the files of a world tell a script, by relations.
use Rattle.std.specs.Prelude.{◌≡◌, ◌↔◌, ℕ, ◌<◌, ◌≤◌, List, length, true, false, Some, None, Ok, Err}
use Rattle.std.specs.FinMap.{get}
use Rattle.std.specs.Str.{is_utf8}
use Rattle.fv_io.specs.World.{World}
use Rattle.fv_plane.specs.Picture.{Clip}
use Rattle.fv_plane.specs.declared.format.Info.{Info}
use Rattle.y4m_stream.specs.Stream.{Stream, HasFault}
use Rattle.avs_lex.specs.Tokens.{LexFault}
use Rattle.avs_tree.specs.Tree.{Loaded, NoTree, lexical, syntax, nests}
use Rattle.avs_tree.specs.Place.{StopsAt, DeepAt}
use Rattle.avs_parse.specs.Laws.{HasScript, HasPlace}
use Rattle.avs_parse.specs.Load.{script_of}
use Rattle.avs_values.specs.Values.{text_limit, Text}
use Rattle.avs_meaning.specs.State.{Outside, outside_of}
use Rattle.avs_meaning.specs.declared.fault.FileKind.{FileKind}
use Rattle.avs_meaning.specs.declared.fault.FileKind.TheVariants as f
use Rattle.avs_meaning.specs.declared.fault.InputFault.{InputFault}
use Rattle.avs_meaning.specs.declared.fault.InputFault.TheVariants as i

-- why a text has no tree: its first lexical fault, or the first token at which no script goes on, or at which the nesting
-- becomes too deep
abbrev pub HasNoTree : Text → NoTree → Type 0
HasNoTree text (lexical kind line) = LexFault text kind line
HasNoTree text (syntax line) = HasPlace StopsAt text line
HasNoTree text (nests line) = HasPlace DeepAt text line

-- the file of this name is there, with these bytes
abbrev pub IsThere : World → Text → List ℕ → Type 0
IsThere world name bytes = get world name ≡ Some bytes

-- the file's bytes are the stream of a clip of this info
pub record IsClipFile (world : World) (name : Text) (info : Info) : Type 0 where
  pub bytes : List ℕ
  pub there : IsThere world name bytes
  pub clip : Clip
  pub stream : Stream bytes clip
  pub info_is : clip.info ≡ info

-- why they are none
abbrev pub IsNoClipFile : World → Text → InputFault → Type 0
IsNoClipFile world name i.NotThere = get world name ≡ None
IsNoClipFile world name (i.Y4m fault) = (bytes : List ℕ) × IsThere world name bytes × HasFault bytes fault

-- the file's bytes are this text
pub record IsScriptFile (world : World) (name text : Text) : Type 0 where
  pub there : IsThere world name text
  pub short : length text ≤ text_limit
  pub utf8 : is_utf8 text ≡ true

-- why they are none
abbrev pub IsNoScriptFile : World → Text → FileKind → Type 0
IsNoScriptFile world name f.NotThere = get world name ≡ None
IsNoScriptFile world name f.ScriptTooLong = (bytes : List ℕ) × IsThere world name bytes × (text_limit < length bytes)
IsNoScriptFile world name f.NotUtf8 =
    (bytes : List ℕ) × IsThere world name bytes × (length bytes ≤ text_limit) × (is_utf8 bytes ≡ false)

-- what an outside tells is what is so in this world
pub record TellsWorld (world : World) (outside : Outside) : Type 0 where
  pub tree : (text : Text) (loaded : Loaded) → (outside.trees text ≡ Ok loaded) ↔ HasScript text loaded
  pub no_tree : (text : Text) (why : NoTree) → (outside.trees text ≡ Err why) ↔ HasNoTree text why
  pub clip : (name : Text) (info : Info) → (outside.clips name ≡ Ok info) ↔ IsClipFile world name info
  pub no_clip : (name : Text) (why : InputFault) → (outside.clips name ≡ Err why) ↔ IsNoClipFile world name why
  pub script : (name text : Text) → (outside.scripts name ≡ Ok text) ↔ IsScriptFile world name text
  pub no_script : (name : Text) (why : FileKind) → (outside.scripts name ≡ Err why) ↔ IsNoScriptFile world name why

-- the outside in which the scripts of a world are executed
abbrev pub outside_in : World → Outside
outside_in world = outside_of script_of world
