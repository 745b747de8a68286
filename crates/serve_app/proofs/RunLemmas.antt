-- What a run leaves, from what its parts show.
use Rattle.std.proofs.Common.{◌≡◌, ◌⊎◌, ℕ, ◌≤◌, List, [], Option, Some, None, Result, Ok, Err, inl, inr, refl, sym, ◌∙◌, ap, ap₂, subst, codes, arith}
use Rattle.fv_io.specs.declared.files.Files as of_files
use Rattle.fv_io.specs.declared.sink.Sink.{Ghosts}
use Rattle.fv_io.specs.Files.{FilesFailed}
use Rattle.fv_io.specs.Sink.{PutsPrefix, IsLater, SinkFailed}
use Rattle.fv_io.specs.World.{World, InWorld}
use Rattle.fv_io.specs.Told.{with_piece}
use Rattle.fv_io.proofs.CallerLemmas.{gets_all, gets_none}
use Rattle.fv_plane.specs.Picture.{Clip}
use Rattle.fv_plane.specs.declared.format.Info.{Info}
use Rattle.y4m_stream.specs.Stream.{stream}
use Rattle.avs_meaning.specs.Faults.{Fault, input}
use Rattle.avs_meaning.specs.Faults as of_fault
use Rattle.serve_text.specs.declared.stop.Stop.{Stop}
use Rattle.serve_text.specs.declared.stop.FileFault.{FileFault}
use Rattle.serve_text.specs.declared.stop.Stop.TheVariants as of_stop
use Rattle.serve_text.specs.declared.stop.Stop.TheVariants.{Script, Input, Changed, Read, Write, Memory}
use Rattle.serve_text.specs.StopKinds.{status_of_stop}
use Rattle.serve_app.specs.Info.{IsInfoOf, IsToldInfo, InfoShows, PutsInfo}
use Rattle.serve_app.specs.Renders.{PutsClip}
use Rattle.serve_app.specs.Meaning.{ReadsOnce, Meaning, a_clip, a_fault, MeansClip, Means, status_of, status_of_fault, script_status}
use Rattle.prefetch.specs.Rendered.{PutsNothing, PutsWholeFrames, PutsFramesOnly, EndsInFrame, PutsHead, PutsNoHead, IsUntorn, file_at, TellsStop, HeadShows}
use Rattle.serve_app.specs.Stop.{IsOfScript, ScriptHasClip, HasInfo, HasFault, HasChanged, IsScriptFault, IsByScript, RenderShows}
use Rattle.serve_text.specs.Lines.{Says, stop_line, read_line, memory_line}
use Rattle.prefetch.specs.declared.pool_size.PoolSize.{PoolSize}
use Rattle.command_line.specs.declared.command.Tells.{Tells}
use Rattle.command_line.specs.declared.command.Tells.TheVariants as of_tells
use Rattle.serve_app.specs.declared.entry.Telling.{Telling}
use Rattle.serve_app.specs.declared.entry.Telling.TheVariants as telling
use Rattle.serve_app.specs.Headline.{EndsByScript, EndsByInput, EndsByChange, EndsBy, WriteFails, Causes, PutsWhole, EndsInText, Quiet, Unwritten, Headline, RenderJournal, InfoEnds}
use Rattle.serve_app.specs.Journals.{IsScriptRendered, ScriptCuts}
use Rattle.serve_text.specs.Report.{CutsReport, Reports, report}
use Rattle.serve_app.specs.SelfTest.{IsLineOf, IsSelfLine, PutsSelfLine, SelfTestShows, SelfTestEnds}
use Rattle.serve_app.specs.Run.{Prints, Finishes}
use Rattle.clip_graph.specs.Plan.{Application}
use Rattle.serve_machine.specs.declared.event.WindowStop.{WindowStop}
use Rattle.serve_machine.specs.declared.event.WindowStop.TheVariants as worker
use Rattle.serve_machine.specs.declared.windows.Record.{Record}
use Rattle.serve_machine.specs.Events.{windows_of}
use Rattle.serve_text.specs.InfoText.{info_text}
use Rattle.avs_meaning.specs.State.{workers, window}
use Rattle.self_test.specs.Workload.{digest_line, self_world}
use Rattle.serve_app.proofs.MeaningLemmas.{means_one_thing, same_plan, same_root, same_crew}
use Rattle.serve_app.proofs.TextLemmas.{none_is_prefix, frames_are_prefix}

clip_of : (one other : Clip) → a_clip one ≡ a_clip other → one ≡ other
clip_of one other is = cc

-- ---- statuses of stops

pub never_zero : (stop : Stop) → status_of_stop stop ≡ 0 → ⊥
never_zero (Script kind name line) is = omega (arith, is)
never_zero (Input name fault) is = omega (arith, is)
never_zero (Changed name frame want got) is = omega (arith, is)
never_zero (of_stop.File name fault) is = omega (arith, is)
never_zero Read is = omega (arith, is)
never_zero Write is = omega (arith, is)
never_zero Memory is = omega (arith, is)

pub known_of : (stop : Stop) → (status_of_stop stop ≡ 0) ⊎ (2 ≤ status_of_stop stop) × (status_of_stop stop ≤ 6)
known_of (Script kind name line) = inr (omega arith, omega arith)
known_of (Input name fault) = inr (omega arith, omega arith)
known_of (Changed name frame want got) = inr (omega arith, omega arith)
known_of (of_stop.File name fault) = inr (omega arith, omega arith)
known_of Read = inr (omega arith, omega arith)
known_of Write = inr (omega arith, omega arith)
known_of Memory = inr (omega arith, omega arith)

module _ {F S K E : Type 0} (files : of_files.Ghosts F S) (sink : Ghosts K) (lines : Ghosts E) (f g : F) (out new : K) (err said : E) (script : List ℕ) where
  -- no fault of the files was counted, and each was fetched as often as the script reads it
  abbrev ReadsThem : Type 0
  ReadsThem = ReadsOnce (files.world f) script (files.faults f) (files.faults g) (files.fetched f) (files.fetched g)

  -- where the script has no clip no fault of the files was counted
  abbrev pub Before : Stop → Type 0
  Before stop = IsByScript stop → files.faults g ≡ files.faults f

  -- ---- causes

  memory_of : (stop : Stop) → Says lines err said (stop_line stop) → status_of_stop stop ≡ 6 → Says lines err said memory_line
  memory_of (Script kind name line) says is = absurd (omega (arith, is))
  memory_of (Input name fault) says is = absurd (omega (arith, is))
  memory_of (Changed name frame want got) says is = absurd (omega (arith, is))
  memory_of (of_stop.File name fault) says is = absurd (omega (arith, is))
  memory_of Read says is = absurd (omega (arith, is))
  memory_of Write says is = absurd (omega (arith, is))
  memory_of Memory says is = says

  -- what a stop shows, whatever was to be put, and by what one of a list shows
  module _ (OfList : List ℕ → FileFault → Type 0) where
    abbrev pub Cause : Stop → Type 0
    Cause (Script kind name line) = IsScriptFault (files.world f) script kind name line × PutsNothing sink out new
    Cause (Input name fault) = HasFault (files.world f) script (input name fault) × PutsNothing sink out new
    Cause (Changed name frame want got) = HasChanged (files.world f)
    Cause (of_stop.File name fault) = OfList name fault
    Cause Read = FilesFailed files f g
    Cause Write = SinkFailed sink out new × ScriptHasClip (files.world f) script
    Cause Memory = Unit {0}

    script_of : (stop : Stop) → Cause stop → Before stop → Says lines err said (stop_line stop) → status_of_stop stop ≡ 2 → EndsByScript files sink lines f g out new err said script
    script_of (Script kind name line) shown before says is = record { kind = kind; name = name; at = line; is = shown.0; line = says; put = shown.1; steady = before tt }
    script_of (Input name fault) shown before says is = absurd (omega (arith, is))
    script_of (Changed name frame want got) shown before says is = absurd (omega (arith, is))
    script_of (of_stop.File name fault) shown before says is = absurd (omega (arith, is))
    script_of Read shown before says is = absurd (omega (arith, is))
    script_of Write shown before says is = absurd (omega (arith, is))
    script_of Memory shown before says is = absurd (omega (arith, is))

    read_of : (stop : Stop) → Cause stop → Says lines err said (stop_line stop) → status_of_stop stop ≡ 4 → FilesFailed files f g × Says lines err said read_line
    read_of (Script kind name line) shown says is = absurd (omega (arith, is))
    read_of (Input name fault) shown says is = absurd (omega (arith, is))
    read_of (Changed name frame want got) shown says is = absurd (omega (arith, is))
    read_of (of_stop.File name fault) shown says is = absurd (omega (arith, is))
    read_of Read shown says is = (shown, says)
    read_of Write shown says is = absurd (omega (arith, is))
    read_of Memory shown says is = absurd (omega (arith, is))

    write_of : (stop : Stop) → Cause stop → Says lines err said (stop_line stop) → status_of_stop stop ≡ 5 → WriteFails files sink lines f g out new err said script
    write_of (Script kind name line) shown says is = absurd (omega (arith, is))
    write_of (Input name fault) shown says is = absurd (omega (arith, is))
    write_of (Changed name frame want got) shown says is = absurd (omega (arith, is))
    write_of (of_stop.File name fault) shown says is = absurd (omega (arith, is))
    write_of Read shown says is = absurd (omega (arith, is))
    write_of Write shown says is = (shown.0, shown.1, says)
    write_of Memory shown says is = absurd (omega (arith, is))

    -- the status that is due, where a list's fault has that of the fault
    module _ (due : World → Meaning → ℕ) (of_fault_is : (world : World) (fault : Fault) → due world (a_fault fault) ≡ status_of_fault fault)
        (of_list_is : (name : List ℕ) (fault : FileFault) → OfList name fault → (world : World) (meaning : Meaning) → files.world f ≡ Some world → Means world script meaning → 3 ≡ due world meaning) where
      by_fault : (world : World) (fault : Fault) (meaning : Meaning) → HasFault (files.world f) script fault → files.world f ≡ Some world → Means world script meaning → status_of_fault fault ≡ due world meaning
      by_fault world fault meaning has is means = sym (of_fault_is world fault) ∙ ap (due world) (means_one_thing world script (a_fault fault) meaning (has world is) means)

      complete_of : (stop : Stop) → Cause stop → Says lines err said (stop_line stop) → (world : World) (meaning : Meaning) → files.world f ≡ Some world → Means world script meaning
          → (FilesFailed files f g → ⊥) → (WriteFails files sink lines f g out new err said script → ⊥) → (status_of_stop stop ≡ due world meaning) ⊎ (status_of_stop stop ≡ 6)
      complete_of (Script kind name line) shown says world meaning is means no_fault no_failure = inl (by_fault world (of_fault.script kind name line) meaning shown.0 is means)
      complete_of (Input name fault) shown says world meaning is means no_fault no_failure = inl (by_fault world (input name fault) meaning shown.0 is means)
      complete_of (Changed name frame want got) shown says world meaning is means no_fault no_failure = absurd (shown world is)
      complete_of (of_stop.File name fault) shown says world meaning is means no_fault no_failure = inl (of_list_is name fault shown world meaning is means)
      complete_of Read shown says world meaning is means no_fault no_failure = absurd (no_fault shown)
      complete_of Write shown says world meaning is means no_fault no_failure = absurd (no_failure (shown.0, shown.1, says))
      complete_of Memory shown says world meaning is means no_fault no_failure = inr refl

      -- where a failed write to the output shows that a write failed
      pub causes_of : (Well ByInput Failed : Type 0) → (WriteFails files sink lines f g out new err said script → Failed) → (stop : Stop) → Cause stop → Before stop → Says lines err said (stop_line stop) → (status_of_stop stop ≡ 3 → ByInput)
          → Causes files sink lines f g out new err said script Well ByInput Failed due (status_of_stop stop)
      causes_of Well ByInput Failed fails stop shown before says by_input = record {
        known = known_of stop;
        quiet = λ zero. absurd (never_zero stop zero);
        by_script = script_of stop shown before says;
        by_input = by_input;
        read = read_of stop shown says;
        write = λ is. fails (write_of stop shown says is);
        memory = memory_of stop says;
        complete = λ world meaning is means no_fault no_failure. complete_of stop shown says world meaning is means no_fault (λ failed. no_failure (fails failed));
      }

  abbrev pub Fails : Type 0
  Fails = WriteFails files sink lines f g out new err said script

  -- no list is read
  abbrev pub NoList : List ℕ → FileFault → Type 0
  NoList name fault = ⊥

  module _ (Well ByInput Failed : Type 0) where
    abbrev Caused : ℕ → Type 0
    Caused status = Causes files sink lines f g out new err said script Well ByInput Failed script_status status

    script_causes : (WriteFails files sink lines f g out new err said script → Failed) → (stop : Stop) → Cause NoList stop → Before stop → Says lines err said (stop_line stop) → (status_of_stop stop ≡ 3 → ByInput) → Caused (status_of_stop stop)
    script_causes fails stop shown before says by_input =
        causes_of NoList script_status (λ world fault. refl) (λ name fault none world meaning is means. absurd none) Well ByInput Failed fails stop shown before says by_input

    -- nothing was wrong, and the status 0 is due
    pub causes_of_whole : (due : World → Meaning → ℕ) → ((world : World) (meaning : Meaning) → files.world f ≡ Some world → Means world script meaning → 0 ≡ due world meaning) → Well
        → Causes files sink lines f g out new err said script Well ByInput Failed due 0
    causes_of_whole due zero_is quiet = record {
      known = inl refl;
      quiet = λ zero. quiet;
      by_script = λ is. absurd (omega (arith, is));
      by_input = λ is. absurd (omega (arith, is));
      read = λ is. absurd (omega (arith, is));
      write = λ is. absurd (omega (arith, is));
      memory = λ is. absurd (omega (arith, is));
      complete = λ world meaning is means no_fault no_failure. inl (zero_is world meaning is means);
    }

    pub zero_due : ScriptHasClip (files.world f) script → (world : World) (meaning : Meaning) → files.world f ≡ Some world → Means world script meaning → 0 ≡ script_status world meaning
    zero_due has world meaning is means = let one = has world is in ap status_of (means_one_thing world script (a_clip one.0) meaning one.1 means)

    -- a write failed after the whole text
    causes_of_cut : Failed → Caused 5
    causes_of_cut unwritten = record {
      known = inr (omega arith, omega arith);
      quiet = λ is. absurd (omega (arith, is));
      by_script = λ is. absurd (omega (arith, is));
      by_input = λ is. absurd (omega (arith, is));
      read = λ is. absurd (omega (arith, is));
      write = λ is. unwritten;
      memory = λ is. absurd (omega (arith, is));
      complete = λ world meaning is means no_fault no_failure. absurd (no_failure unwritten);
    }

  -- ---- a render

  has_clip : (frames : ℕ) → InWorld (files.world f) (λ world. PutsClip sink world script out new frames) → ScriptHasClip (files.world f) script
  has_clip frames whole world is = let one = whole world is in (one.clip, one.means)

  whole_of : (frames : ℕ) → InWorld (files.world f) (λ world. PutsClip sink world script out new frames) → PutsWhole files sink lines f g out new err said script
  whole_of frames whole world is = let one = whole world is in (one.clip, one.means, one.put)

  prefix_of_whole : (frames : ℕ) → InWorld (files.world f) (λ world. PutsClip sink world script out new frames) → (clip : Clip) → IsOfScript (files.world f) script clip → PutsPrefix sink out new (stream clip)
  prefix_of_whole frames whole clip is =
      let one = whole is.world is.told_is in
      let same = clip_of one.clip clip (means_one_thing is.world script (a_clip one.clip) (a_clip clip) one.means is.means) in
      gets_all (sink.bytes out) (sink.bytes new) (stream clip) (rw same at one.put)

  -- an input is at fault, or changed after whole frames and a part of one
  abbrev InputFails : Type 0
  InputFails = EndsByInput files sink lines f g out new err said script ⊎ EndsByChange files sink lines f g out new err said script (EndsInFrame sink out new)

  module _ (capacity : ℕ) (pool_size : PoolSize) (journal : Option Record) where
    abbrev Well : Tells → Type 0
    Well asked = Quiet files sink lines f g out new err said script capacity pool_size journal asked

    abbrev pub Failed : Tells → Type 0
    Failed asked = Unwritten files sink lines f g out new err said script capacity pool_size journal asked

    abbrev Ended : Tells → ℕ → Type 0
    Ended asked status = Headline files sink lines f g out new err said script capacity pool_size journal asked status

    -- the whole text was put, and what is on `err` shows the status
    headline_by : (asked : Tells) (status frames : ℕ) → InWorld (files.world f) (λ world. PutsClip sink world script out new frames) → ReadsThem → PutsFramesOnly sink out new → ((status ≡ 0) ⊎ (status ≡ 5))
        → Caused (Well asked) InputFails (Failed asked) status → Ended asked status
    headline_by asked status frames whole reads put which causes = record {
      whole = λ zero. whole_of frames whole;
      prefix = prefix_of_whole frames whole;
      nothing = λ world is none. (let one = whole world is in absurd (none one.clip one.means));
      whole_frames = λ other. absurd (omega (arith, which, other));
      untorn = λ other. inr put;
      steady = λ zero. reads.steady;
      fetched = λ zero. reads.fetched;
      causes = causes;
    }

    pub headline_of_whole : (asked : Tells) (frames : ℕ) → InWorld (files.world f) (λ world. PutsClip sink world script out new frames) → ReadsThem → PutsFramesOnly sink out new → Well asked → Ended asked 0
    headline_of_whole asked frames whole reads put quiet = headline_by asked 0 frames whole reads put (inl refl)
        (causes_of_whole (Well asked) InputFails (Failed asked) script_status (zero_due (Well asked) InputFails (Failed asked) (has_clip frames whole)) quiet)

    -- a text was cut short after it
    pub cut_in : (IsText : List ℕ → Type 0) (frames : ℕ) → InWorld (files.world f) (λ world. PutsClip sink world script out new frames) → (text : List ℕ) → IsText text → CutsReport lines err said text
        → EndsInText files sink lines f g out new err said script capacity pool_size journal IsText
    cut_in IsText frames whole text is cut = record { whole = whole_of frames whole; text = text; is = is; cut = cut }

    pub headline_of_cut : (asked : Tells) (frames : ℕ) → InWorld (files.world f) (λ world. PutsClip sink world script out new frames) → ReadsThem → PutsFramesOnly sink out new → Failed asked → Ended asked 5
    headline_of_cut asked frames whole reads put failed = headline_by asked 5 frames whole reads put (inr refl) (causes_of_cut (Well asked) InputFails (Failed asked) failed)

  module _ (stop : Stop) where
    abbrev Shown : Type 0
    Shown = RenderShows (FilesFailed files f g) sink (files.world f) script out new stop

  cause_of : (stop : Stop) → Shown stop → Cause NoList stop
  cause_of (Script kind name line) shown = shown
  cause_of (Input name fault) shown = shown
  cause_of (Changed name frame want got) shown = shown.0
  cause_of (of_stop.File name fault) shown = absurd shown
  cause_of Read shown = shown.0
  cause_of Write shown = (shown.0, (let front = shown.1 in front.has_one))
  cause_of Memory shown = tt

  input_of : (stop : Stop) → Shown stop → Before stop → Says lines err said (stop_line stop) → status_of_stop stop ≡ 3 → InputFails
  input_of (Script kind name line) shown before says is = absurd (omega (arith, is))
  input_of (Input name fault) shown before says is = inl (record { name = name; fault = fault; is = shown.0; line = says; put = shown.1; steady = before tt })
  input_of (Changed name frame want got) shown before says is = inr (record { name = name; frame = frame; want = want; got = got; is = shown.0; line = says; put = shown.1 })
  input_of (of_stop.File name fault) shown before says is = absurd shown
  input_of Read shown before says is = absurd (omega (arith, is))
  input_of Write shown before says is = absurd (omega (arith, is))
  input_of Memory shown before says is = absurd (omega (arith, is))

  prefix_of : (stop : Stop) → Shown stop → (clip : Clip) → IsOfScript (files.world f) script clip → PutsPrefix sink out new (stream clip)
  prefix_of (Script kind name line) shown clip is = none_is_prefix sink out new clip shown.1
  prefix_of (Input name fault) shown clip is = none_is_prefix sink out new clip shown.1
  prefix_of (Changed name frame want got) shown clip is = absurd (shown.0 is.world is.told_is)
  prefix_of (of_stop.File name fault) shown clip is = absurd shown
  prefix_of Read shown clip is = frames_are_prefix sink out new clip _ _ is shown.1
  prefix_of Write shown clip is = (let front = shown.1 in front.prefix clip is)
  prefix_of Memory shown clip is = frames_are_prefix sink out new clip _ _ is shown

  nothing_of : (stop : Stop) → Shown stop → InWorld (files.world f) (λ world. ((clip : Clip) → MeansClip world script clip → ⊥) → PutsNothing sink out new)
  nothing_of stop shown world is none = by_stop stop shown
    where
      no_clip : ScriptHasClip (files.world f) script → ⊥
      no_clip has = let one = has world is in none one.0 one.1

      no_frames : PutsWholeFrames sink out new (IsOfScript (files.world f) script) (ScriptHasClip (files.world f) script) → PutsNothing sink out new
      no_frames (inl put) = put
      no_frames (inr some) = absurd (no_clip some.has_one)

      by_stop : (stop : Stop) → Shown stop → PutsNothing sink out new
      by_stop (Script kind name line) shown = shown.1
      by_stop (Input name fault) shown = shown.1
      by_stop (Changed name frame want got) shown = absurd (shown.0 world is)
      by_stop (of_stop.File name fault) shown = absurd shown
      by_stop Read shown = no_frames shown.1
      by_stop Write shown = absurd (no_clip (let front = shown.1 in front.has_one))
      by_stop Memory shown = no_frames shown

  frames_of : (stop : Stop) → Shown stop → (status_of_stop stop ≡ 4) ⊎ (status_of_stop stop ≡ 6) → PutsWholeFrames sink out new (IsOfScript (files.world f) script) (ScriptHasClip (files.world f) script)
  frames_of (Script kind name line) shown which = absurd (omega (arith, which))
  frames_of (Input name fault) shown which = absurd (omega (arith, which))
  frames_of (Changed name frame want got) shown which = absurd (omega (arith, which))
  frames_of (of_stop.File name fault) shown which = absurd shown
  frames_of Read shown which = shown.1
  frames_of Write shown which = absurd (omega (arith, which))
  frames_of Memory shown which = shown

  part_is_whole : PutsWholeFrames sink out new (IsOfScript (files.world f) script) (ScriptHasClip (files.world f) script) → IsUntorn sink out new
  part_is_whole (inl none) = inl none
  part_is_whole (inr some) = inr (record { part = some.part; pictures = some.pictures; put = some.put })

  untorn_of : (stop : Stop) → Shown stop → (status_of_stop stop ≡ 5 → ⊥) → IsUntorn sink out new
  untorn_of (Script kind name line) shown other = inl shown.1
  untorn_of (Input name fault) shown other = inl shown.1
  untorn_of (Changed name frame want got) shown other = (let ended = shown.1 in inr (record { part = ended.part; pictures = ended.pictures; put = ended.put }))
  untorn_of (of_stop.File name fault) shown other = absurd shown
  untorn_of Read shown other = part_is_whole shown.1
  untorn_of Write shown other = absurd (other refl)
  untorn_of Memory shown other = part_is_whole shown

  module _ (capacity : ℕ) (pool_size : PoolSize) (journal : Option Record) where
    fails_by : (asked : Tells) → Fails → Failed capacity pool_size journal asked
    fails_by of_tells.Nothing failed = failed
    fails_by of_tells.Report failed = inl failed
    fails_by of_tells.Journal failed = inl failed

    pub headline_of_stop : (asked : Tells) (stop : Stop) → Shown stop → Before stop → Says lines err said (stop_line stop) → Ended capacity pool_size journal asked (status_of_stop stop)
    headline_of_stop asked stop shown before says = record {
      whole = λ zero. absurd (never_zero stop zero);
      prefix = prefix_of stop shown;
      nothing = nothing_of stop shown;
      whole_frames = frames_of stop shown;
      untorn = untorn_of stop shown;
      steady = λ zero. absurd (never_zero stop zero);
      fetched = λ zero. absurd (never_zero stop zero);
      causes = script_causes (Well capacity pool_size journal asked) InputFails (Failed capacity pool_size journal asked) (fails_by asked) stop (cause_of stop shown) before says (input_of stop shown before says);
    }

  -- ---- what is known of the clip

  one_info : (world : World) (one other : List ℕ) → IsInfoOf world script one → IsInfoOf world script other → one ≡ other
  one_info world one other a b =
      let same = sym a.means ∙ b.means in
      let plan = same_plan a.plan b.plan a.root b.root a.crew b.crew same in
      let root = same_root a.plan b.plan a.root b.root a.crew b.crew same in
      let crew = same_crew a.plan b.plan a.root b.root a.crew b.crew same in
      a.text_is ∙ ap₂ (λ p r. info_text p r (workers a.crew) (window a.crew)) plan root
      ∙ ap (λ c. info_text b.plan b.root (workers c) (window c)) crew ∙ sym b.text_is

  abbrev OneInput : Type 0
  OneInput = EndsByInput files sink lines f g out new err said script

  pub info_of_whole : InWorld (files.world f) (λ world. PutsInfo sink world script out new) → ScriptHasClip (files.world f) script → ReadsThem → said ≡ err
      → InfoEnds files sink lines f g out new err said script 0
  info_of_whole whole has reads quiet = record {
    whole = λ zero world is. (let one = whole world is in (one.text, one.info, one.put));
    prefix = λ text is.
        (let one = whole is.world is.told_is in
        gets_all (sink.bytes out) (sink.bytes new) text (rw (one_info is.world one.text text one.info is.info) at one.put));
    nothing = λ world is none. (let one = has world is in absurd (none one.0 one.1));
    unwritten = λ which. absurd (omega (arith, which));
    steady = λ zero. reads.steady;
    fetched = λ zero. reads.fetched;
    causes = causes_of_whole (said ≡ err) OneInput Fails script_status (zero_due (said ≡ err) OneInput Fails has) quiet;
  }

  module _ (stop : Stop) where
    abbrev Told : Type 0
    Told = InfoShows (FilesFailed files f g) sink (files.world f) script out new stop

  info_cause : (stop : Stop) → Told stop → Cause NoList stop
  info_cause (Script kind name line) shown = shown
  info_cause (Input name fault) shown = shown
  info_cause (Changed name frame want got) shown = absurd shown
  info_cause (of_stop.File name fault) shown = absurd shown
  info_cause Read shown = shown.0
  info_cause Write shown = (shown.0, shown.1)
  info_cause Memory shown = tt

  nothing_cut : (text : List ℕ) → PutsNothing sink out new → PutsPrefix sink out new text
  nothing_cut text none = rw none (gets_none (sink.bytes out) text)

  info_prefix : (stop : Stop) → Told stop → (text : List ℕ) → IsToldInfo (files.world f) script text → PutsPrefix sink out new text
  info_prefix (Script kind name line) shown text is = nothing_cut text shown.1
  info_prefix (Input name fault) shown text is = nothing_cut text shown.1
  info_prefix (Changed name frame want got) shown text is = absurd shown
  info_prefix (of_stop.File name fault) shown text is = absurd shown
  info_prefix Read shown text is = nothing_cut text shown.1
  info_prefix Write shown text is = shown.2 text is
  info_prefix Memory shown text is = nothing_cut text shown

  info_nothing : (stop : Stop) → Told stop → InWorld (files.world f) (λ world. ((clip : Clip) → MeansClip world script clip → ⊥) → PutsNothing sink out new)
  info_nothing (Script kind name line) shown world is none = shown.1
  info_nothing (Input name fault) shown world is none = shown.1
  info_nothing (Changed name frame want got) shown world is none = absurd shown
  info_nothing (of_stop.File name fault) shown world is none = absurd shown
  info_nothing Read shown world is none = shown.1
  info_nothing Write shown world is none = (let one = shown.1 world is in absurd (none one.0 one.1))
  info_nothing Memory shown world is none = shown

  info_unwritten : (stop : Stop) → Told stop → (status_of_stop stop ≡ 4) ⊎ (status_of_stop stop ≡ 6) → PutsNothing sink out new
  info_unwritten (Script kind name line) shown which = shown.1
  info_unwritten (Input name fault) shown which = shown.1
  info_unwritten (Changed name frame want got) shown which = absurd shown
  info_unwritten (of_stop.File name fault) shown which = absurd shown
  info_unwritten Read shown which = shown.1
  info_unwritten Write shown which = absurd (omega (arith, which))
  info_unwritten Memory shown which = shown

  info_input : (stop : Stop) → Told stop → Before stop → Says lines err said (stop_line stop) → status_of_stop stop ≡ 3 → EndsByInput files sink lines f g out new err said script
  info_input (Script kind name line) shown before says is = absurd (omega (arith, is))
  info_input (Input name fault) shown before says is = record { name = name; fault = fault; is = shown.0; line = says; put = shown.1; steady = before tt }
  info_input (Changed name frame want got) shown before says is = absurd shown
  info_input (of_stop.File name fault) shown before says is = absurd shown
  info_input Read shown before says is = absurd (omega (arith, is))
  info_input Write shown before says is = absurd (omega (arith, is))
  info_input Memory shown before says is = absurd (omega (arith, is))

  pub info_of_stop : (stop : Stop) → Told stop → Before stop → Says lines err said (stop_line stop) → InfoEnds files sink lines f g out new err said script (status_of_stop stop)
  info_of_stop stop shown before says = record {
    whole = λ zero. absurd (never_zero stop zero);
    prefix = info_prefix stop shown;
    nothing = info_nothing stop shown;
    unwritten = info_unwritten stop shown;
    steady = λ zero. absurd (never_zero stop zero);
    fetched = λ zero. absurd (never_zero stop zero);
    causes = script_causes (said ≡ err) OneInput Fails (λ failed. failed) stop (info_cause stop shown) before says (info_input stop shown before says);
  }

-- ---- the self test

one_line : (world : World) (script one other : List ℕ) → IsLineOf world script one → IsLineOf world script other → one ≡ other
one_line world script one other a b =
    let same = clip_of a.clip b.clip (means_one_thing world script (a_clip a.clip) (a_clip b.clip) a.means b.means) in
    a.line_is ∙ ap (λ (clip : Clip). digest_line clip.info.frames (stream clip)) same ∙ sym b.line_is

pub same_line : (number : ℕ) (one other : List ℕ) → IsSelfLine number one → IsSelfLine number other → one ≡ other
same_line number one other a b = one_line (self_world number) (codes "self.avs") one other a b

-- a line that failed to be put is a prefix of each line of the self test
pub self_prefix : {K : Type 0} (sink : Ghosts K) (out new : K) (number : ℕ) (line : List ℕ) → IsSelfLine number line → PutsPrefix sink out new line
    → (other : List ℕ) → IsSelfLine number other → PutsPrefix sink out new other
self_prefix sink out new number line is cut other too = rw (same_line number line other is too) at cut

module _ {K E : Type 0} (sink : Ghosts K) (lines : Ghosts E) (out new : K) (err said : E) (number : ℕ) where
  pub self_test_of_whole : PutsSelfLine sink out new number → said ≡ err → SelfTestEnds sink lines out new err said number 0
  self_test_of_whole put quiet = record {
    whole = λ zero. put;
    prefix = λ line is. gets_all (sink.bytes out) (sink.bytes new) line (rw (same_line number put.line line put.is is) at put.put);
    known = inl refl;
    quiet = λ zero. quiet;
    write = λ is. absurd (omega (arith, is));
    memory = λ is. absurd (omega (arith, is));
  }

  pub self_test_of_stop : (stop : Stop) → SelfTestShows sink out new number stop → Says lines err said (stop_line stop) → SelfTestEnds sink lines out new err said number (status_of_stop stop)
  self_test_of_stop (Script kind name line) shown says = absurd shown
  self_test_of_stop (Input name fault) shown says = absurd shown
  self_test_of_stop (Changed name frame want got) shown says = absurd shown
  self_test_of_stop (of_stop.File name fault) shown says = absurd shown
  self_test_of_stop Read shown says = absurd shown
  self_test_of_stop Write shown says = record {
    whole = λ is. absurd (omega (arith, is));
    prefix = shown.1;
    known = inr (inl refl);
    quiet = λ is. absurd (omega (arith, is));
    write = λ is. (shown.0, says);
    memory = λ is. absurd (omega (arith, is));
  }
  self_test_of_stop Memory shown says = record {
    whole = λ is. absurd (omega (arith, is));
    prefix = λ line is. rw shown (gets_none (sink.bytes out) line);
    known = inr (inr refl);
    quiet = λ is. absurd (omega (arith, is));
    write = λ is. absurd (omega (arith, is));
    memory = λ is. says;
  }

-- a report or a journal that was put, or cut short
module _ {E : Type 0} (lines : Ghosts E) (err said : E) (done : Result Telling Stop) (journal : Option Record) (status : ℕ) (tells : Telling) where
  pub finishes_reported : (plan : List Application) (log : Record) → done ≡ Ok tells → tells ≡ telling.Report plan → journal ≡ Some log → Reports lines err said (report plan (windows_of log)) status
      → Finishes lines err said done journal status
  finishes_reported plan log is report there reports = rw (is, report, there) reports

  pub finishes_printed : (workers : ℕ) (log : Record) → done ≡ Ok tells → tells ≡ telling.Journal workers → journal ≡ Some log → Prints lines err said workers log status
      → Finishes lines err said done journal status
  finishes_printed workers log is text there prints = rw (is, text, there) prints

-- the line that names a cause leaves no fewer faults
pub said_later : {E : Type 0} (lines : Ghosts E) (err said : E) (done : Result Telling Stop) (journal : Option Record) (status : ℕ) → Finishes lines err said done journal status
    → IsLater lines err said
said_later lines err said (Ok telling.Nothing) journal status is = rw is.1 (omega arith)
said_later lines err said (Ok (telling.Report plan)) None status is = absurd is
said_later lines err said (Ok (telling.Report plan)) (Some log) status is = is.later
said_later lines err said (Ok (telling.Journal workers)) None status is = absurd is
said_later lines err said (Ok (telling.Journal workers)) (Some log) status is = let put = is.put in put.later
said_later lines err said (Err stop) journal status is = let says = is.1 in says.later

-- a head that was not put whole, and one that was
module _ {K : Type 0} (sink : Ghosts K) (out new : K) (IsIts : Info → Type 0) where
  pub unheaded : (told : Option Stop) (journal : Option Record) (status : ℕ) → HeadShows sink out new IsIts told journal → (told ≡ Some Write → status ≡ 5) → journal ≡ None → PutsNoHead sink out new IsIts (status ≡ 5)
  unheaded told None status (inl nothing) wrote none = inl nothing
  unheaded told None status (inr (failed, cut)) wrote none = inr (wrote failed, cut)
  unheaded told (Some log) status headed wrote none = absurd (cc)

  pub headed_of : (told : Option Stop) (journal : Option Record) → HeadShows sink out new IsIts told journal → (log : Record) → journal ≡ Some log → PutsHead sink out new IsIts
  headed_of told None shown log there = absurd (cc)
  headed_of told (Some other) shown log there = shown

-- a failed write has its status
pub wrote_of : (stop : Stop) (status : ℕ) → status ≡ status_of_stop stop → Some stop ≡ Some Write → status ≡ 5
wrote_of stop status is told = let same : stop ≡ Write = cc in is ∙ ap status_of_stop same

-- the line of a stream that a digest holds
pub self_line : {K : Type 0} (sink : Ghosts K) (world : World) (script : List ℕ) (out new : K) (frames : ℕ) (bytes line : List ℕ)
    → PutsClip sink world script out new frames → sink.bytes out ≡ Some [] → sink.bytes new ≡ Some bytes → line ≡ digest_line frames bytes → IsLineOf world script line
self_line sink world script out new frames bytes line puts none all is =
    let put : Some bytes ≡ Some (stream puts.clip) = sym all ∙ puts.put ∙ ap (λ told. with_piece told (stream puts.clip)) none in
    let same : bytes ≡ stream puts.clip = cc in
    record { clip = puts.clip; means = puts.means; line_is = is ∙ ap (λ n. digest_line n bytes) puts.frames_are ∙ ap (digest_line (let clip = puts.clip in clip.info.frames)) same }

module _ {F S K E : Type 0} (files : of_files.Ghosts F S) (sink : Ghosts K) (lines : Ghosts E) (f g : F) (out new : K) (err said : E) (script : List ℕ) where
  abbrev Ending : ℕ → List Application → Option WindowStop → Type 0
  Ending status = EndsBy files sink lines f g out new err said script status

  -- the status and the line are of the stop that was told
  pub ends_by : (told : Stop) (plan : List Application) (stop : Option WindowStop) → Says lines err said (stop_line told) → TellsStop (Some told) plan stop → Ending (status_of_stop told) plan stop
  ends_by told plan None says (inl is) = absurd (cc)
  ends_by told plan None says (inr (inl is)) = let same : told ≡ Write = cc in inl (ap status_of_stop same)
  ends_by told plan None says (inr (inr is)) = let same : told ≡ Memory = cc in inr (ap status_of_stop same)
  ends_by told plan (Some (worker.Read node)) says is = let same : told ≡ Read = cc in ap status_of_stop same
  ends_by told plan (Some (worker.Changed node frame want got)) says (inl is) =
      let same : told ≡ Changed (file_at plan node) frame want got = cc in
      inl (ap status_of_stop same, subst (λ stop. Says lines err said (stop_line stop)) same says)
  ends_by told plan (Some (worker.Changed node frame want got)) says (inr is) = let same : told ≡ Memory = cc in inr (ap status_of_stop same)
  ends_by told plan (Some worker.Memory) says is = let same : told ≡ Memory = cc in ap status_of_stop same

  -- no window was cut short where all was put
  ends_whole : (plan : List Application) (stop : Option WindowStop) (status : ℕ) → status ≡ 5 → TellsStop None plan stop → Ending status plan stop
  ends_whole plan None status five is = inl five
  ends_whole plan (Some (worker.Read node)) status five is = absurd (cc)
  ends_whole plan (Some (worker.Changed node frame want got)) status five (inl is) = absurd (cc)
  ends_whole plan (Some (worker.Changed node frame want got)) status five (inr is) = absurd (cc)
  ends_whole plan (Some worker.Memory) status five is = absurd (cc)

  module _ (capacity : ℕ) (pool_size : PoolSize) (journal : Option Record) where
    abbrev Left : ℕ → Type 0
    Left status = RenderJournal files sink lines f g out new err said script capacity pool_size journal status

    cuts_by : (One Other : List Application → Option WindowStop → Type 0) → ((plan : List Application) (stop : Option WindowStop) → One plan stop → Other plan stop) → (log : Option Record)
        → ScriptCuts (files.world f) script capacity pool_size sink out new One log → ScriptCuts (files.world f) script capacity pool_size sink out new Other log
    cuts_by One Other so None cut = tt
    cuts_by One Other so (Some log) cut = record { plan = cut.plan; root = cut.root; is_plan = cut.is_plan; stop = cut.stop; ends = so cut.plan cut.stop cut.ends; cut = cut.cut }

    abbrev Heads : Option Stop → Type 0
    Heads told = HeadShows sink out new (HasInfo (files.world f) script) told journal

    -- the journal of a whole render, and of one that stopped
    pub journal_of_whole : (status : ℕ) → (status ≡ 0) ⊎ (status ≡ 5) → IsScriptRendered (files.world f) script capacity pool_size journal → ScriptCuts (files.world f) script capacity pool_size sink out new (TellsStop None) journal → Heads None → Left status
    journal_of_whole status which serial cut head = record {
      rendered = λ is. serial;
      cut = λ more. (let five = not_zero status which more in cuts_by (TellsStop None) (Ending status) (λ plan stop. ends_whole plan stop status five) journal cut);
      headed = headed_of sink out new _ None journal head;
      unheaded = unheaded sink out new _ None journal status head (λ bad. absurd (cc));
    }
      where
        not_zero : (status : ℕ) → (status ≡ 0) ⊎ (status ≡ 5) → (status ≡ 0 → ⊥) → status ≡ 5
        not_zero status (inl zero) more = absurd (more zero)
        not_zero status (inr five) more = five

    pub journal_of_stop : (stop : Stop) (status : ℕ) → status ≡ status_of_stop stop → Says lines err said (stop_line stop) → ScriptCuts (files.world f) script capacity pool_size sink out new (TellsStop (Some stop)) journal → Heads (Some stop) → Left status
    journal_of_stop stop status is says cut head = record {
      rendered = λ zero. absurd (never_zero stop (sym is ∙ zero));
      cut = λ more. subst (λ s. ScriptCuts (files.world f) script capacity pool_size sink out new (Ending s) journal) (sym is) (cuts_by (TellsStop (Some stop)) (Ending (status_of_stop stop)) (λ plan cut_by. ends_by stop plan cut_by says) journal cut);
      headed = headed_of sink out new _ (Some stop) journal head;
      unheaded = unheaded sink out new _ (Some stop) journal status head (wrote_of stop status is);
    }

pub zero_or_five : (status : ℕ) (P Q : Type 0) → ((status ≡ 0) × P) ⊎ ((status ≡ 5) × Q) → (status ≡ 0) ⊎ (status ≡ 5)
zero_or_five status P Q (inl put) = inl put.0
zero_or_five status P Q (inr cut) = inr cut.0
