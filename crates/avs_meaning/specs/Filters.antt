-- What calls on clips do: filters, functions that tell of a clip, and settings.
use Rattle.std.specs.List.{list_all}
use Rattle.std.specs.Prelude.{ℕ, zero, suc, ◌+◌, nat_lt, nat_le, List, [], ◌∷◌, ◌++◌, length, slice_get, Bool, ℤ, Option, Some, None, Result, Ok, Err, if◌then◌else◌, pos, ◌&&◌, ◌==◌, negsuc, false}
use Rattle.fv_plane.specs.Format.{format_name}
use Rattle.fv_plane.specs.Refusals.{first_fault}
use Rattle.fv_plane.specs.declared.format.Info.{Info}
use Rattle.fv_plane.specs.declared.format.PixelType.{PixelType}
use Rattle.fv_plane.specs.declared.format.PixelType.TheVariants.{Y8, YV12, YV16, YV24, YV411}
use Rattle.avs_tree.specs.Tree.{Loaded, NoTree}
use Rattle.avs_values.specs.Binding.{Bound}
use Rattle.avs_values.specs.Values.{Text, Outcome, number}
use Rattle.avs_values.specs.declared.value.Value.{Value}
use Rattle.avs_values.specs.declared.value.Value.TheVariants as v
use Rattle.clip_term.specs.Blank.{BlankArgs, default_clip, colour_given, blank_info, colour_of, blank_refusals}
use Rattle.clip_term.specs.Refusals.{same_kind, nat_of}
use Rattle.clip_term.specs.Terms.{Act, source, plain, time, check}
use Rattle.clip_term.specs.declared.fault.FilterFault.{FilterFault}
use Rattle.clip_term.specs.declared.filter.Filter.{Filter}
use Rattle.clip_term.specs.declared.filter.Filter.TheVariants as f
use Rattle.clip_term.specs.declared.op.TimeOp.TheVariants as t
use Rattle.clip_graph.specs.Plan.{Application, deepest, infos_among, sources_in}
use Rattle.clip_graph.specs.declared.graph.TheConstants.Graph.{MAX_NODES, MAX_DEPTH}
use Rattle.mt_modes.specs.Modes.{mode_in, Setting, is_mode, with_setting}
use Rattle.avs_meaning.specs.Arguments.{Reading, takes, number_at, text_at, clips_given, all_fit_filters, out_of_range}
use Rattle.avs_meaning.specs.Faults.{input}
use Rattle.avs_meaning.specs.State.{Outside, Run, ◌>>=◌, pure, fails, Numbers, crew_in}
use Rattle.avs_meaning.specs.Table.{reading}
use Rattle.avs_meaning.specs.declared.builtin.ClipFn.{ClipFn}
use Rattle.avs_meaning.specs.declared.builtin.ClipFn.TheVariants as c
use Rattle.avs_meaning.specs.declared.fault.InputFault.{InputFault}
use Rattle.avs_meaning.specs.declared.fault.ScriptKind.TheVariants as k

-- ==== Filters: their arguments become what they do, and the plan grows where a filter refuses nothing (AviSynth+ wiki,
-- "Internal filters"). Values that no signature lets through are NoMatch.

-- the seven arguments of BlankClip beside its clip, from a place on
abbrev pub blank_args : List Value → ℕ → BlankArgs
blank_args values i = record {
  length = number_at values i;
  width = number_at values (i + 1);
  height = number_at values (i + 2);
  pixel_type = text_at values (i + 3);
  fps = number_at values (i + 4);
  fps_denominator = number_at values (i + 5);
  color_yuv = number_at values (i + 6);
}

-- ---- the plan

abbrev pub are_places : List ℕ → List Application → Bool
are_places inputs plan = list_all (λ i. nat_lt i (length plan)) inputs

abbrev pub next_application : Act → List ℕ → Info → ℕ → List Application → Application
next_application act inputs info mode plan =
    record { act = act; inputs = inputs; info = info; mode = mode; depth = deepest plan inputs + 1 }

-- in the text of this name
module _ (here : Text) where
  -- NodeLimit comes before DepthLimit
  abbrev pub add : Act → List ℕ → Info → ℕ → ℕ → Run Value
  add act inputs info mode line = λ s.
      let next = next_application act inputs info mode s.plan in
      if nat_le MAX_NODES (length s.plan) then fails k.NodeLimit here line s
      else (if nat_lt MAX_DEPTH next.depth then fails k.DepthLimit here line s
      else Ok (v.Clip (length s.plan), record s { plan = s.plan ++ next ∷ [] }))

  abbrev pub add_by : Result Info FilterFault → Act → List ℕ → ℕ → ℕ → Run Value
  add_by (Ok info) act inputs mode line = add act inputs info mode line
  add_by (Err fault) act inputs mode line = fails (k.Filter fault) here line

  -- what a filter does with these places, as far as it refuses nothing, in the mode that is set for it now
  abbrev pub made : Filter → Act → List ℕ → ℕ → Run Value
  made filter act inputs line = λ s.
      if are_places inputs s.plan then add_by (check act (infos_among s.plan inputs)) act inputs (mode_in s.modes filter) line s
      else fails k.TypeFault here line s

  abbrev pub info_by : Option Application → ℕ → Run Info
  info_by (Some application) line = pure application.info
  info_by None line = fails k.TypeFault here line

  -- the info of a place
  abbrev pub info_of : ℕ → ℕ → Run Info
  info_of i line = λ s. info_by (slice_get s.plan i) line s

  -- ---- filters

  -- the faults of the file come first
  abbrev pub open_by : Result Info InputFault → Text → ℕ → Run Value
  open_by (Err fault) name line = λ s. Err (input name fault)
  open_by (Ok info) name line = λ s.
      made f.Y4MSource (source name (sources_in s.plan) info) [] line
      (record s { opened = s.opened ++ record { name = name; info = info } ∷ [] })

  abbrev pub open_source : Outside → List Value → ℕ → Run Value
  open_source outside (v.Text name ∷ []) line = open_by (outside.clips name) name line
  open_source outside _ line = fails k.NoMatch here line

  abbrev pub blank_by : Option FilterFault → Info → BlankArgs → ℕ → Run Value
  blank_by (Some fault) info args line = fails (k.Filter fault) here line
  blank_by None info args line = made f.BlankClip (plain (blank_info info args) (colour_of (colour_given args))) [] line

  -- what isn't given is that of the info
  abbrev pub blank_like : Info → BlankArgs → ℕ → Run Value
  blank_like info args line = blank_by (first_fault (blank_refusals info args)) info args line

  -- what isn't given is that of the clip, if there is one
  abbrev pub blank_of : Option Value → BlankArgs → ℕ → Run Value
  blank_of (Some (v.Clip i)) args line = info_of i line >>= (λ info. blank_like info args line)
  blank_of _ args line = blank_like default_clip args line

  -- The clip comes last in the signature of number 0, and first in the other one.
  abbrev pub blank : ℕ → List Value → ℕ → Run Value
  blank zero values line = blank_of (slice_get values 7) (blank_args values 0) line
  blank (suc n) values line = blank_of (slice_get values 0) (blank_args values 1) line

  -- what a filter does with its clips
  abbrev pub applied_by : Reading → Filter → List ℕ → ℕ → Run Value
  applied_by (Err kind) filter inputs line = fails kind here line
  applied_by (Ok act) filter inputs line =
      if takes act (length inputs) then made filter act inputs line else fails k.NoMatch here line

  -- where texts have these trees
  abbrev pub applied : (Text → Result Loaded NoTree) → Filter → Bound → List ℕ → ℕ → Run Value
  applied trees filter given [] line = fails k.NoMatch here line
  applied trees filter given (i ∷ rest) line =
      info_of i line >>= (λ info.
      applied_by (reading trees given info filter) filter (i ∷ rest) line)

  -- a filter with its arguments, which are bound by the signature of this number
  abbrev pub filtered : Outside → Filter → ℕ → Bound → ℕ → Run Value
  filtered outside f.Y4MSource n given line = open_source outside given.values line
  filtered outside f.BlankClip n given line =
      if all_fit_filters given.values then blank n given.values line else fails out_of_range here line
  filtered outside filter n given line =
      applied outside.trees filter given (clips_given given) line

  -- ApplyRange shows what its function gave in a range of frames of the clip, and the clip elsewhere.
  abbrev pub ranged : ℕ → ℤ → ℤ → ℕ → Value → Run Value
  ranged i first last line (v.Clip j) = made f.ApplyRange (time (t.ApplyRange first last)) (i ∷ j ∷ []) line
  ranged i first last line _ = fails k.TypeFault here line

-- ==== What the functions on clips tell of a clip's info (AviSynth+ wiki, 'Script functions': "Clip properties").

-- of eight bits
abbrev pub has_format : PixelType → Info → Outcome
has_format kind info = Ok (v.Bool (same_kind info.shape.kind kind && info.shape.bits == 8))

abbrev pub clip_value : ClipFn → Info → Outcome
clip_value c.Width info = number (pos info.shape.width)
clip_value c.Height info = number (pos info.shape.height)
clip_value c.FrameCount info = number (pos info.frames)
clip_value c.FrameRateNumerator info = number (pos info.num)
clip_value c.FrameRateDenominator info = number (pos info.den)
clip_value c.IsY8 info = has_format Y8 info
clip_value c.IsYV12 info = has_format YV12 info
clip_value c.IsYV16 info = has_format YV16 info
clip_value c.IsYV24 info = has_format YV24 info
clip_value c.IsYV411 info = has_format YV411 info
clip_value c.PixelType info = Ok (v.Text (format_name info.shape))
clip_value c.BitsPerComponent info = number (pos info.shape.bits)

-- ==== SetFilterMTMode and Prefetch (AviSynth+ wiki, "SetFilterMTMode" and "Prefetch").

-- Without a word on it a setting has no force.
abbrev pub is_forced : Value → Bool
is_forced (v.Bool force) = force
is_forced _ = false

-- A negative number is in no range, as 0 is.
abbrev pub count_of : ℤ → ℕ
count_of (pos n) = n
count_of (negsuc n) = 0

abbrev pub frames_given : Value → Option ℕ
frames_given (v.Int frames) = Some (count_of frames)
frames_given _ = None

-- the workers, and the frames of a window where they are given
abbrev pub crew_of : ℤ → Value → Option Numbers
crew_of threads frames = crew_in (count_of threads) (frames_given frames)

-- in the text of this name
module _ (here : Text) where
  abbrev pub set_mode_of : Text → ℤ → Bool → ℕ → Run Value
  set_mode_of name mode force line = λ s.
      let setting : Setting = record { name = name; mode = nat_of mode; force = force } in
      if is_mode mode then Ok (v.Undefined, record s { modes = with_setting s.modes setting })
      else fails k.ModeRefused here line s

  abbrev pub set_mode : List Value → ℕ → Run Value
  set_mode (v.Text name ∷ v.Int mode ∷ force ∷ []) line = set_mode_of name mode (is_forced force) line
  set_mode _ line = fails k.NoMatch here line

  abbrev pub with_crew : Option Numbers → ℕ → ℕ → Run Value
  with_crew (Some crew) i line = λ s. Ok (v.Clip i, record s { crew = Some crew })
  with_crew None i line = fails k.PrefetchRange here line

  -- The clip is given on. Of several calls the last one counts.
  abbrev pub prefetch : List Value → ℕ → Run Value
  prefetch (v.Clip i ∷ v.Int threads ∷ frames ∷ []) line = with_crew (crew_of threads frames) i line
  prefetch _ line = fails k.NoMatch here line
