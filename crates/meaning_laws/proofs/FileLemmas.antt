-- What the files of a world tell.
use Rattle.std.proofs.Common.{◌≡◌, ◌∙◌, ◌⊎◌, ◌↔◌, ℕ, ◌<◌, ◌≤◌, nat_lt, Bool, true, false, if◌then◌else◌, List, length, Option, Some, None, Ok, Err, inl, inr, refl, sym, ap, subst, arith}
use Rattle.std.specs.FinMap.{get}
use Rattle.std.specs.Str.{is_utf8}
use Rattle.std.proofs.lemmas.Bool.Decides.{nat_tests}
use Rattle.fv_io.specs.World.{World}
use Rattle.fv_plane.specs.Picture.{Clip}
use Rattle.fv_plane.specs.declared.format.Info.{Info}
use Rattle.y4m_stream.specs.Stream.{Stream, HasFault}
use Rattle.y4m_stream.specs.declared.fault.Y4mFault.{Y4mFault}
use Rattle.y4m_stream.proofs.ReadingLemmas.{reads_one_way}
use Rattle.avs_tree.specs.Tree.{NoTree, lexical, syntax, nests}
use Rattle.avs_parse.specs.Load.{script_of}
use Rattle.avs_parse.proofs.LoadLemmas.{script_found, fault_told, syntax_told, nesting_told}
use Rattle.avs_values.specs.Values.{text_limit, Text}
use Rattle.avs_meaning.specs.State.{script_in, clip_in}
use Rattle.avs_meaning.specs.declared.fault.FileKind.{FileKind}
use Rattle.avs_meaning.specs.declared.fault.FileKind.TheVariants as f
use Rattle.avs_meaning.specs.declared.fault.InputFault.{InputFault}
use Rattle.avs_meaning.specs.declared.fault.InputFault.TheVariants as i
use Rattle.avs_meaning.proofs.StreamLemmas.{clips_are_streams}
use Rattle.meaning_laws.specs.Files.{HasNoTree, IsClipFile, IsNoClipFile, IsScriptFile, IsNoScriptFile, TellsWorld, outside_in}

-- ---- trees

pub no_tree_found : (text : Text) (why : NoTree) → (script_of text ≡ Err why) ↔ HasNoTree text why
no_tree_found text (lexical kind line) = fault_told text kind line
no_tree_found text (syntax line) = syntax_told text line
no_tree_found text (nests line) = nesting_told text line

-- ---- clips

module _ (world : World) (name : Text) where
  clip_by : (bytes : List ℕ) → get world name ≡ Some bytes → ((clip : Clip) × Stream bytes clip) ⊎ ((fault : Y4mFault) × HasFault bytes fault)
      → (info : Info) → clip_in (Some bytes) ≡ Ok info → IsClipFile world name info
  clip_by bytes there (inl (clip, stream)) info is =
      let both : Ok clip.info ≡ Ok info = sym (clips_are_streams.clip bytes clip stream) ∙ is in
      record { bytes = bytes; there = there; clip = clip; stream = stream; info_is = cc }
  clip_by bytes there (inr (fault, has)) info is = let both : Err (i.Y4m fault) ≡ Ok info = sym (clips_are_streams.fault bytes fault has) ∙ is in absurd (cc)

  fault_by : (bytes : List ℕ) → get world name ≡ Some bytes → ((clip : Clip) × Stream bytes clip) ⊎ ((fault : Y4mFault) × HasFault bytes fault)
      → (why : InputFault) → clip_in (Some bytes) ≡ Err why → IsNoClipFile world name why
  fault_by bytes there (inl (clip, stream)) why is = let both : Ok clip.info ≡ Err why = sym (clips_are_streams.clip bytes clip stream) ∙ is in absurd (cc)
  fault_by bytes there (inr (fault, has)) why is =
      let both : Err (i.Y4m fault) ≡ Err why = sym (clips_are_streams.fault bytes fault has) ∙ is in
      let same : i.Y4m fault ≡ why = cc in
      subst (IsNoClipFile world name) same (bytes, there, has)

  clip_at : (o : Option (List ℕ)) → get world name ≡ o → (info : Info) → clip_in o ≡ Ok info → IsClipFile world name info
  clip_at None there info is = absurd (cc)
  clip_at (Some bytes) there info is = clip_by bytes there (reads_one_way.some bytes) info is

  fault_at : (o : Option (List ℕ)) → get world name ≡ o → (why : InputFault) → clip_in o ≡ Err why → IsNoClipFile world name why
  fault_at None there why is = let same : i.NotThere ≡ why = cc in subst (IsNoClipFile world name) same there
  fault_at (Some bytes) there why is = fault_by bytes there (reads_one_way.some bytes) why is

  told_fault : (why : InputFault) → IsNoClipFile world name why → clip_in (get world name) ≡ Err why
  told_fault i.NotThere none = rw none refl
  told_fault (i.Y4m fault) (bytes, there, has) = rw there (clips_are_streams.fault bytes fault has)

  clip_found : (info : Info) → (clip_in (get world name) ≡ Ok info) ↔ IsClipFile world name info
  clip_found info = (clip_at (get world name) refl info, λ is. rw is.there (clips_are_streams.clip is.bytes is.clip is.stream ∙ ap Ok is.info_is))

  no_clip_found : (why : InputFault) → (clip_in (get world name) ≡ Err why) ↔ IsNoClipFile world name why
  no_clip_found why = (fault_at (get world name) refl why, told_fault why)

-- ---- scripts

more : (n most : ℕ) → nat_lt most n ≡ true → most < n
more n most is = grind (arith, nat_tests)

few : (n most : ℕ) → nat_lt most n ≡ false → n ≤ most
few n most is = grind (arith, nat_tests)

is_more : (n most : ℕ) → most < n → nat_lt most n ≡ true
is_more n most is = grind (arith, nat_tests)

is_few : (n most : ℕ) → n ≤ most → nat_lt most n ≡ false
is_few n most is = grind (arith, nat_tests)

module _ (world : World) (name : Text) where
  -- what a script is by its length and its characters
  script_by : (bytes : List ℕ) → get world name ≡ Some bytes → (long utf8 : Bool) → nat_lt text_limit (length bytes) ≡ long → is_utf8 bytes ≡ utf8
      → (text : Text) → (if long then Err f.ScriptTooLong else (if utf8 then Ok bytes else Err f.NotUtf8)) ≡ Ok text → IsScriptFile world name text
  script_by bytes there true utf8 long whole text is = absurd (cc)
  script_by bytes there false true long whole text is =
      let same : bytes ≡ text = cc in
      subst (IsScriptFile world name) same (record { there = there; short = few (length bytes) text_limit long; utf8 = whole })
  script_by bytes there false false long whole text is = absurd (cc)

  kind_by : (bytes : List ℕ) → get world name ≡ Some bytes → (long utf8 : Bool) → nat_lt text_limit (length bytes) ≡ long → is_utf8 bytes ≡ utf8
      → (why : FileKind) → (if long then Err f.ScriptTooLong else (if utf8 then Ok bytes else Err f.NotUtf8)) ≡ Err why → IsNoScriptFile world name why
  kind_by bytes there true utf8 long whole why is =
      let same : f.ScriptTooLong ≡ why = cc in
      subst (IsNoScriptFile world name) same (bytes, there, more (length bytes) text_limit long)
  kind_by bytes there false true long whole why is = absurd (cc)
  kind_by bytes there false false long whole why is =
      let same : f.NotUtf8 ≡ why = cc in
      subst (IsNoScriptFile world name) same (bytes, there, few (length bytes) text_limit long, whole)

  script_at : (o : Option (List ℕ)) → get world name ≡ o → (text : Text) → script_in o ≡ Ok text → IsScriptFile world name text
  script_at None there text is = absurd (cc)
  script_at (Some bytes) there text is = script_by bytes there (nat_lt text_limit (length bytes)) (is_utf8 bytes) refl refl text is

  kind_at : (o : Option (List ℕ)) → get world name ≡ o → (why : FileKind) → script_in o ≡ Err why → IsNoScriptFile world name why
  kind_at None there why is = let same : f.NotThere ≡ why = cc in subst (IsNoScriptFile world name) same there
  kind_at (Some bytes) there why is = kind_by bytes there (nat_lt text_limit (length bytes)) (is_utf8 bytes) refl refl why is

  told_kind : (why : FileKind) → IsNoScriptFile world name why → script_in (get world name) ≡ Err why
  told_kind f.NotThere none = rw none refl
  told_kind f.ScriptTooLong (bytes, there, long) = rw (there, is_more (length bytes) text_limit long) refl
  told_kind f.NotUtf8 (bytes, there, short, not) = rw (there, is_few (length bytes) text_limit short, not) refl

  pub script_file : (text : Text) → (script_in (get world name) ≡ Ok text) ↔ IsScriptFile world name text
  script_file text = (script_at (get world name) refl text, λ is. rw (is.there, is_few (length text) text_limit is.short, is.utf8) refl)

  pub no_script_file : (why : FileKind) → (script_in (get world name) ≡ Err why) ↔ IsNoScriptFile world name why
  no_script_file why = (kind_at (get world name) refl why, told_kind why)

-- ---- all of it

pub tells_world : (world : World) → TellsWorld world (outside_in world)
tells_world world = record {
  tree = script_found;
  no_tree = no_tree_found;
  clip = clip_found world;
  no_clip = no_clip_found world;
  script = script_file world;
  no_script = no_script_file world;
}
