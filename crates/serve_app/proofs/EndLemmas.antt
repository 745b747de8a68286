-- What a run leaves, whatever the words ask for.
use Rattle.std.proofs.Common.{◌≡◌, ◌⊎◌, ℕ, ◌≤◌, List, Option, Some, None, Result, Ok, Err, OnOk, IfErr, IsErrOf, inl, inr, refl, sym, ◌∙◌, ap, ap₂, subst, arith}
use Rattle.std.specs.List.{AllByRecursion}
use Rattle.fv_io.specs.declared.files.Files as of_files
use Rattle.fv_io.specs.declared.sink.Sink.{Ghosts}
use Rattle.fv_io.specs.Files.{KeepsFiles, FilesFailed}
use Rattle.fv_io.specs.Sink.{Puts, IsLater}
use Rattle.fv_io.specs.World.{World, InWorld}
use Rattle.fv_io.proofs.CallerLemmas.{gets_none}
use Rattle.clip_graph.specs.Plan.{Application}
use Rattle.command_line.specs.Command.{command_in}
use Rattle.command_line.specs.declared.command.Command.{Command}
use Rattle.command_line.specs.declared.command.Command.TheVariants as c
use Rattle.command_line.specs.declared.command.RenderOptions.{RenderOptions}
use Rattle.command_line.specs.declared.command.Tells.{Tells}
use Rattle.command_line.specs.declared.command.Tells.TheVariants as of_tells
use Rattle.run_text.specs.Lines.{LineFits, journal_lines, journal_text}
use Rattle.serve_machine.specs.declared.windows.Record.{Record}
use Rattle.serve_machine.specs.Events.{windows_of}
use Rattle.serve_text.specs.Lines.{Says, usage_line, memory_line}
use Rattle.serve_text.specs.Report.{report, CutsReport}
use Rattle.serve_text.specs.declared.stop.Stop.{Stop}
use Rattle.serve_text.specs.declared.stop.Stop.TheVariants.{Write, Memory}
use Rattle.serve_text.specs.StopKinds.{status_of_stop}
use Rattle.prefetch.specs.Rendered.{PutsFramesOnly, stop_in, TellsStop, HeadShows}
use Rattle.prefetch.specs.declared.pool_size.PoolSize.{PoolSize}
use Rattle.prefetch.specs.declared.stream.RenderedClip.{RenderedClip}
use Rattle.serve_app.specs.declared.entry.Telling.{Telling}
use Rattle.serve_app.specs.declared.entry.Telling.TheVariants as telling
use Rattle.serve_app.specs.Headline.{Quiet, Headline, RenderJournal, InfoEnds, SessionEnds, SessionJournal, ReplayEnds, IsRefused, CommandEnds, CommandJournal, Ends, LeavesJournal}
use Rattle.serve_app.specs.Journals.{cache_of, IsScriptRendered, IsRunOf, IsReport, IsJournalText, IsLawful, ScriptCuts}
use Rattle.serve_app.specs.Renders.{PutsClip, IsScriptRender}
use Rattle.serve_app.specs.Meaning.{ReadsOnce}
use Rattle.serve_app.specs.Run.{told_in, HasLog, IsToldOf, RenderDoes, Does, LeavesNone, Finishes}
use Rattle.serve_app.specs.SelfTest.{SelfTestEnds}
use Rattle.serve_app.specs.Stop.{HasInfo, IsByScript}
use Rattle.serve_app.proofs.RunLemmas.{never_zero, headline_of_whole, cut_in, headline_of_cut, headline_of_stop, info_of_whole, info_of_stop, self_test_of_whole, self_test_of_stop, journal_of_whole, journal_of_stop, zero_or_five}
use Rattle.serve_app.proofs.LawfulLemmas.{lawful_by}
use Rattle.serve_app.proofs.ReplayEnds.{replay_whole, replay_stop}
use Rattle.serve_app.proofs.SessionEnds.{session_whole, session_stop}

module _ {F S K E : Type 0} (files : of_files.Ghosts F S) (sink : Ghosts K) (lines : Ghosts E) (f g : F) (out new : K) (err said : E) (by : RenderOptions → PoolSize) (words : List (List ℕ)) (journal : Option Record) where
  -- what every run leaves, by its status
  abbrev Leaves : ℕ → Type 0
  Leaves status = KeepsFiles files f g × IsLater sink out new × IsLater lines err said
      × ((status ≡ 5 → ⊥) → sink.faults new ≡ sink.faults out) × (status ≡ 0 → lines.faults said ≡ lines.faults err)

  -- what every command leaves, with its journal
  abbrev Both : ℕ → Type 0
  Both status = Ends files sink lines f g out new err said by words status journal × LeavesJournal files sink lines f g out new err said by words status journal

  abbrev OfCommand : Command → ℕ → Type 0
  OfCommand command status = CommandEnds files sink lines f g out new err said by journal command status

  abbrev LogOf : Command → ℕ → Type 0
  LogOf command status = CommandJournal files sink lines f g out new err said by journal command status

  ends_of_command : (command : Command) (status : ℕ) → command_in words ≡ Some command → OfCommand command status → LogOf command status → (status ≡ 1 → ⊥) → Leaves status → Both status
  ends_of_command command status asked ends log more leaves = (
    record {
      asked = λ other is. subst (λ (one : Command). OfCommand one status) (same other is) ends;
      refused = λ none. (let both : Some command ≡ None = sym asked ∙ none in absurd (cc));
      usage = λ one. absurd (more one);
      keeps = leaves.0;
      later = leaves.1;
      later_lines = leaves.2;
      unfailed = leaves.3;
      unfailed_lines = leaves.4;
    },
    record {
      asked = λ other is. subst (λ (one : Command). LogOf one status) (same other is) log;
      refused = λ none. (let both : Some command ≡ None = sym asked ∙ none in absurd (cc));
    },
  )
    where
      same : (other : Command) → command_in words ≡ Some other → command ≡ other
      same other is = let both : Some command ≡ Some other = sym asked ∙ is in cc

  not_one : (status : ℕ) → (status ≡ 0) ⊎ (2 ≤ status) × (status ≤ 6) → status ≡ 1 → ⊥
  not_one status (inl zero) one = omega (arith, zero, one)
  not_one status (inr more) one = omega (arith, more, one)

  ends_of_render : (script : List ℕ) (options : RenderOptions) (status : ℕ) → command_in words ≡ Some (c.Render script options)
      → Headline files sink lines f g out new err said script (cache_of options.cache) (by options) journal options.tells status
      → RenderJournal files sink lines f g out new err said script (cache_of options.cache) (by options) journal status → Leaves status → Both status
  ends_of_render script options status asked ends log leaves = ends_of_command (c.Render script options) status asked ends log (not_one status (let causes = ends.causes in causes.known)) leaves

  ends_of_info : (script : List ℕ) (status : ℕ) → command_in words ≡ Some (c.Info script) → InfoEnds files sink lines f g out new err said script status → journal ≡ None → Leaves status → Both status
  ends_of_info script status asked ends empty leaves = ends_of_command (c.Info script) status asked ends empty (not_one status (let causes = ends.causes in causes.known)) leaves

  self_not_one : (status : ℕ) → (status ≡ 0) ⊎ ((status ≡ 5) ⊎ (status ≡ 6)) → status ≡ 1 → ⊥
  self_not_one status (inl zero) one = omega (arith, zero, one)
  self_not_one status (inr (inl five)) one = omega (arith, five, one)
  self_not_one status (inr (inr six)) one = omega (arith, six, one)

  ends_of_self_test : (number status : ℕ) → command_in words ≡ Some (c.SelfTest number) → SelfTestEnds sink lines out new err said number status → g ≡ f → journal ≡ None → Leaves status → Both status
  ends_of_self_test number status asked ends stay empty leaves = ends_of_command (c.SelfTest number) status asked (ends, stay) empty (self_not_one status ends.known) leaves

  ends_of_session : (script list : List ℕ) (cache : Option ℕ) (status : ℕ) → command_in words ≡ Some (c.Session script list cache) → SessionEnds files sink lines f g out new err said script list status
      × SessionJournal files sink lines f g out new err said script list (cache_of cache) journal status → Leaves status → Both status
  ends_of_session script list cache status asked (ends, log) leaves = ends_of_command (c.Session script list cache) status asked ends log (not_one status (let causes = ends.causes in causes.known)) leaves

  ends_of_replay : (script name : List ℕ) (cache : Option ℕ) (status : ℕ) → command_in words ≡ Some (c.Replay script name cache) → ReplayEnds files sink lines f g out new err said script name (cache_of cache) status
      → journal ≡ None → Leaves status → Both status
  ends_of_replay script name cache status asked ends empty leaves =
      ends_of_command (c.Replay script name cache) status asked ends empty (not_one status (let causes = ends.causes in causes.known)) leaves

  -- a render by what was done and what was said of it
  module _ (script : List ℕ) (options : RenderOptions) where
    abbrev Reading : Type 0
    Reading = ReadsOnce (files.world f) script (files.faults f) (files.faults g) (files.fetched f) (files.fetched g)

    abbrev capacity : ℕ
    capacity = cache_of options.cache

    abbrev Rendered : Tells → ℕ → Type 0
    Rendered tells status = Headline files sink lines f g out new err said script capacity (by options) journal tells status

    abbrev Well : Tells → Type 0
    Well tells = Quiet files sink lines f g out new err said script capacity (by options) journal tells

    abbrev OfPlan : List Application → ℕ → Type 0
    OfPlan plan workers = IsRunOf (files.world f) script capacity (by options) journal plan workers

    abbrev Reported : List ℕ → Type 0
    Reported text = IsReport (files.world f) script capacity (by options) journal text

    abbrev Printed : List ℕ → Type 0
    Printed text = IsJournalText (files.world f) script capacity (by options) journal text

    abbrev Putting : ℕ → Type 0
    Putting frames = InWorld (files.world f) (λ world. PutsClip sink world script out new frames)

    whole_by : (tells : Tells) (frames status : ℕ) → Putting frames → Reading → PutsFramesOnly sink out new → status ≡ 0 → Well tells → Rendered tells status
    whole_by tells frames status whole reads put zero well =
        subst (Rendered tells) (sym zero) (headline_of_whole files sink lines f g out new err said script capacity (by options) journal tells frames whole reads put well)

    reported : (frames status : ℕ) (text : List ℕ) → Putting frames → Reading → PutsFramesOnly sink out new → Reported text → ((status ≡ 0) × Puts lines err said text) ⊎ ((status ≡ 5) × CutsReport lines err said text)
        → Rendered of_tells.Report status
    reported frames status text whole reads untorn is (inl put) = whole_by of_tells.Report frames status whole reads untorn put.0 (record { text = text; is = is; put = put.1 })
    reported frames status text whole reads untorn is (inr cut) =
        subst (Rendered of_tells.Report) (sym cut.0) (headline_of_cut files sink lines f g out new err said script capacity (by options) journal of_tells.Report frames whole reads untorn
        (inr (cut_in files sink lines f g out new err said script capacity (by options) journal Reported frames whole text is cut.1)))

    printed : (frames status : ℕ) (text : List ℕ) → Putting frames → Reading → PutsFramesOnly sink out new → (is : Printed text) → (status ≡ 0 → IsLawful (files.world f) script capacity (by options) is)
        → ((status ≡ 0) × Puts lines err said text) ⊎ ((status ≡ 5) × CutsReport lines err said text) → Rendered of_tells.Journal status
    printed frames status text whole reads untorn is lawful (inl put) =
        whole_by of_tells.Journal frames status whole reads untorn put.0 (record { text = text; is = is; put = put.1; lawful = lawful put.0 })
    printed frames status text whole reads untorn is lawful (inr cut) =
        subst (Rendered of_tells.Journal) (sym cut.0) (headline_of_cut files sink lines f g out new err said script capacity (by options) journal of_tells.Journal frames whole reads untorn
        (inr (cut_in files sink lines f g out new err said script capacity (by options) journal Printed frames whole text is cut.1)))

    same_log : (log : Record) → journal ≡ Some log → (run : IsScriptRendered (files.world f) script capacity (by options) journal) → log ≡ (let serial = run.rendered in serial.log)
    same_log log there run =
        let serial = run.rendered in
        let both : Some log ≡ Some serial.log = sym there ∙ serial.there in
        cc

    -- the report, or the text, is that of the journal
    report_is : (log : Record) (plan : List Application) (workers : ℕ) → journal ≡ Some log → OfPlan plan workers → Reported (report plan (windows_of log))
    report_is log plan workers there is = record { run = is.run; text_is = ap₂ (λ (p : List Application) (l : Record). report p (windows_of l)) (sym is.plan_is) (same_log log there is.run) }

    text_is : (log : Record) (plan : List Application) (workers : ℕ) → journal ≡ Some log → OfPlan plan workers → Printed (journal_text workers (windows_of log))
    text_is log plan workers there is = record { run = is.run; text_is = ap₂ (λ (w : ℕ) (l : Record). journal_text w (windows_of l)) (sym is.workers_are) (same_log log there is.run) }

    lawful_is : (log : Record) (plan : List Application) (workers : ℕ) (there : journal ≡ Some log) (is : OfPlan plan workers) → AllByRecursion LineFits (journal_lines workers (windows_of log))
        → IsLawful (files.world f) script capacity (by options) (text_is log plan workers there is)
    unfolding text_is
    lawful_is log plan workers there is fits =
        lawful_by (files.world f) script capacity (by options) journal is.run workers (windows_of log) is.workers_are (ap windows_of (same_log log there is.run)) fits

    -- what was told
    tells_of : (tells : Telling) (frames : ℕ) (log : Option Record) (status : ℕ) → journal ≡ log → Putting frames → Reading → PutsFramesOnly sink out new → IsToldOf files sink f g out new journal script options (by options) tells
        → Finishes lines err said (Ok tells) log status → Rendered options.tells status
    tells_of telling.Nothing frames log status there whole reads untorn (asked, serial) (zero, quiet) =
        subst (λ t. Rendered t status) (sym asked) (whole_by of_tells.Nothing frames status whole reads untorn zero quiet)
    tells_of (telling.Report plan) frames None status there whole reads untorn of said_so = absurd said_so
    tells_of (telling.Report plan) frames (Some log) status there whole reads untorn (asked, workers, is) said_so =
        subst (λ t. Rendered t status) (sym asked) (reported frames status (report plan (windows_of log)) whole reads untorn (report_is log plan workers there is) said_so.ends)
    tells_of (telling.Journal workers) frames None status there whole reads untorn of said_so = absurd said_so
    tells_of (telling.Journal workers) frames (Some log) status there whole reads untorn (asked, plan, is) said_so =
        subst (λ t. Rendered t status) (sym asked) (printed frames status (journal_text workers (windows_of log)) whole reads untorn (text_is log plan workers there is)
        (λ zero. lawful_is log plan workers there is (said_so.fits zero)) (let put = said_so.put in put.ends))

    run_of : (tells : Telling) → IsToldOf files sink f g out new journal script options (by options) tells → IsScriptRendered (files.world f) script capacity (by options) journal
    run_of telling.Nothing (asked, serial) = serial
    run_of (telling.Report plan) (asked, workers, is) = is.run
    run_of (telling.Journal workers) (asked, plan, is) = is.run

  -- a text is put whole or cut short, or nothing is told
  zero_or_cut : (tells : Telling) (log : Option Record) (status : ℕ) → Finishes lines err said (Ok tells) log status → (status ≡ 0) ⊎ (status ≡ 5)
  zero_or_cut telling.Nothing log status said_so = inl said_so.0
  zero_or_cut (telling.Report plan) None status said_so = absurd said_so
  zero_or_cut (telling.Report plan) (Some log) status said_so = zero_or_five status _ _ said_so.ends
  zero_or_cut (telling.Journal workers) None status said_so = absurd said_so
  zero_or_cut (telling.Journal workers) (Some log) status said_so = zero_or_five status _ _ (let put = said_so.put in put.ends)

  ends_of_done : (script : List ℕ) (options : RenderOptions) (done : Result Telling Stop) (log : Option Record) (status : ℕ) → journal ≡ log → command_in words ≡ Some (c.Render script options)
      → RenderDoes files sink f g out new journal script options (by options) done → ScriptCuts (files.world f) script (cache_of options.cache) (by options) sink out new (TellsStop (stop_in done)) journal
      → HeadShows sink out new (HasInfo (files.world f) script) (stop_in done) journal → IfErr done (λ stop. IsByScript stop → files.faults g ≡ files.faults f)
      → Finishes lines err said done log status → Leaves status → Both status
  ends_of_done script options (Ok tells) log status there asked (whole, reads, untorn, of) cut head before said_so leaves =
      ends_of_render script options status asked (tells_of script options tells whole.0 log status there whole.1 reads untorn of said_so)
      (journal_of_whole files sink lines f g out new err said script (cache_of options.cache) (by options) journal status (zero_or_cut tells log status said_so) (run_of script options tells of) cut head) leaves
  ends_of_done script options (Err stop) log status there asked shown cut head before (is, says) leaves =
      ends_of_render script options status asked (subst (Rendered script options options.tells) (sym is) (headline_of_stop files sink lines f g out new err said script (cache_of options.cache) (by options) journal options.tells stop shown before says))
      (journal_of_stop files sink lines f g out new err said script (cache_of options.cache) (by options) journal stop status is says cut head) leaves

  -- by what was done and what was said of it
  pub ends_of : (command : Command) (done : Result Telling Stop) (status : ℕ) → command_in words ≡ Some command → Does files sink f g out new journal by command done → LeavesNone command journal → IfErr done (λ stop. IsByScript stop → files.faults g ≡ files.faults f)
      → Finishes lines err said done journal status → Leaves status → Both status
  ends_of (c.Render script options) done status asked (does, cut, head) empty before said_so leaves = ends_of_done script options done journal status refl asked does cut head before said_so leaves
  ends_of (c.Info script) (Ok telling.Nothing) status asked done empty before said_so leaves =
      ends_of_info script status asked (subst (λ n. InfoEnds files sink lines f g out new err said script n) (sym said_so.0)
      (info_of_whole files sink lines f g out new err said script done.0 done.1 done.2 said_so.1)) empty leaves
  ends_of (c.Info script) (Ok (telling.Report plan)) status asked done empty before said_so leaves = absurd done
  ends_of (c.Info script) (Ok (telling.Journal workers)) status asked done empty before said_so leaves = absurd done
  ends_of (c.Info script) (Err stop) status asked done empty before said_so leaves =
      ends_of_info script status asked (subst (λ n. InfoEnds files sink lines f g out new err said script n) (sym said_so.0)
      (info_of_stop files sink lines f g out new err said script stop done before said_so.1)) empty leaves
  ends_of (c.SelfTest number) (Ok telling.Nothing) status asked done empty before said_so leaves =
      ends_of_self_test number status asked (subst (λ n. SelfTestEnds sink lines out new err said number n) (sym said_so.0)
      (self_test_of_whole sink lines out new err said number done.0 said_so.1)) done.1 empty leaves
  ends_of (c.SelfTest number) (Ok (telling.Report plan)) status asked done empty before said_so leaves = absurd done
  ends_of (c.SelfTest number) (Ok (telling.Journal workers)) status asked done empty before said_so leaves = absurd done
  ends_of (c.SelfTest number) (Err stop) status asked done empty before said_so leaves =
      ends_of_self_test number status asked (subst (λ n. SelfTestEnds sink lines out new err said number n) (sym said_so.0)
      (self_test_of_stop sink lines out new err said number stop done.0 said_so.1)) done.1 empty leaves
  ends_of (c.Session script list cache) (Ok telling.Nothing) status asked done empty before said_so leaves =
      ends_of_session script list cache status asked (subst (λ n. SessionEnds files sink lines f g out new err said script list n × SessionJournal files sink lines f g out new err said script list (cache_of cache) journal n) (sym said_so.0)
      (session_whole files sink lines f g out new err said script list (cache_of cache) journal done said_so.1)) leaves
  ends_of (c.Session script list cache) (Ok (telling.Report plan)) status asked done empty before said_so leaves = absurd done
  ends_of (c.Session script list cache) (Ok (telling.Journal workers)) status asked done empty before said_so leaves = absurd done
  ends_of (c.Session script list cache) (Err stop) status asked done empty before said_so leaves =
      ends_of_session script list cache status asked (subst (λ n. SessionEnds files sink lines f g out new err said script list n × SessionJournal files sink lines f g out new err said script list (cache_of cache) journal n) (sym said_so.0)
      (session_stop files sink lines f g out new err said script list (cache_of cache) journal stop done before said_so.1)) leaves
  ends_of (c.Replay script name cache) (Ok telling.Nothing) status asked done empty before said_so leaves =
      ends_of_replay script name cache status asked (subst (λ n. ReplayEnds files sink lines f g out new err said script name (cache_of cache) n) (sym said_so.0)
      (replay_whole files sink lines f g out new err said script name (cache_of cache) done said_so.1)) empty leaves
  ends_of (c.Replay script name cache) (Ok (telling.Report plan)) status asked done empty before said_so leaves = absurd done
  ends_of (c.Replay script name cache) (Ok (telling.Journal workers)) status asked done empty before said_so leaves = absurd done
  ends_of (c.Replay script name cache) (Err stop) status asked done empty before said_so leaves =
      ends_of_replay script name cache status asked (subst (λ n. ReplayEnds files sink lines f g out new err said script name (cache_of cache) n) (sym said_so.0)
      (replay_stop files sink lines f g out new err said script name (cache_of cache) stop done before said_so.1)) empty leaves

-- what is told of a render stops as it does
pub before_told : (tells : Tells) (done : Result RenderedClip Stop) (P : Stop → Type 0) → IfErr done P → IfErr (told_in tells done) P
before_told tells (Ok all) P holds = tt
before_told tells (Err stop) P holds = holds

pub unfailed_told : (tells : Tells) (done : Result RenderedClip Stop) (P : Type 0) → ((IsErrOf done Write → ⊥) → P) → (IsErrOf (told_in tells done) Write → ⊥) → P
unfailed_told tells (Ok all) P holds other = holds (λ is. (let no : ⊥ = cc is in no))
unfailed_told tells (Err stop) P holds other = holds (λ is. other (let same : stop ≡ Write = cc is in ap Err same))

-- what a render leaves is what the command shows
module _ {F S K : Type 0} (files : of_files.Ghosts F S) (sink : Ghosts K) (f g : F) (out new : K) (journal : Option Record) (by : RenderOptions → PoolSize) where
  by_telling : (script : List ℕ) (options : RenderOptions) (tells : Tells) (done : Result RenderedClip Stop) → options.tells ≡ tells
      → IsScriptRender (files.world f) script (cache_of options.cache) (by options) (FilesFailed files f g) sink out new journal done
      → OnOk done (ReadsOnce (files.world f) script (files.faults f) (files.faults g) (files.fetched f) (files.fetched g))
      → RenderDoes files sink f g out new journal script options (by options) (told_in tells done)
  by_telling script options of_tells.Nothing (Ok all) asked is reads = ((all.frames, is.whole), reads, is.untorn, (asked, (let of = is.rendered in of.run)))
  by_telling script options of_tells.Report (Ok all) asked is reads = ((all.frames, is.whole), reads, is.untorn, (asked, all.workers, is.rendered))
  by_telling script options of_tells.Journal (Ok all) asked is reads = ((all.frames, is.whole), reads, is.untorn, (asked, all.graph, is.rendered))
  by_telling script options tells (Err stop) asked is reads = is.stop

  same_stop : (tells : Tells) (done : Result RenderedClip Stop) → stop_in done ≡ stop_in (told_in tells done)
  same_stop tells (Ok all) = refl
  same_stop tells (Err stop) = refl

  pub render_does : (script : List ℕ) (options : RenderOptions) (done : Result RenderedClip Stop)
      → IsScriptRender (files.world f) script (cache_of options.cache) (by options) (FilesFailed files f g) sink out new journal done
      → OnOk done (ReadsOnce (files.world f) script (files.faults f) (files.faults g) (files.fetched f) (files.fetched g))
      → Does files sink f g out new journal by (c.Render script options) (told_in options.tells done)
  render_does script options done is reads =
      let same = same_stop options.tells done in (
        by_telling script options options.tells done refl is reads,
        rw same at is.cut,
        rw same at is.head,
      )

-- by what was done and what was said of it, a write failed only where the status says so
module _ {E : Type 0} (lines : Ghosts E) (err said : E) where
  write_is_five : (done : Result Telling Stop) (log : Option Record) (status : ℕ) → Finishes lines err said done log status → IsErrOf done Write → status ≡ 5
  write_is_five (Ok tells) log status said_so is = absurd (let no : ⊥ = cc is in no)
  write_is_five (Err stop) log status said_so is = let same : stop ≡ Write = cc is in said_so.0 ∙ ap status_of_stop same

  pub unfailed_by : (done : Result Telling Stop) (log : Option Record) (status before now : ℕ) → Finishes lines err said done log status → ((IsErrOf done Write → ⊥) → now ≡ before)
      → (status ≡ 5 → ⊥) → now ≡ before
  unfailed_by done log status before now said_so unfailed other = unfailed (λ is. other (write_is_five done log status said_so is))

  pub told_well : (done : Result Telling Stop) (log : Option Record) (status : ℕ) → Finishes lines err said done log status → status ≡ 0 → lines.faults said ≡ lines.faults err
  told_well (Ok telling.Nothing) log status said_so zero = ap lines.faults said_so.1
  told_well (Ok (telling.Report plan)) None status said_so zero = absurd said_so
  told_well (Ok (telling.Report plan)) (Some log) status said_so zero = said_so.steady zero
  told_well (Ok (telling.Journal workers)) None status said_so zero = absurd said_so
  told_well (Ok (telling.Journal workers)) (Some log) status said_so zero = let put = said_so.put in put.steady zero
  told_well (Err stop) log status said_so zero = absurd (never_zero stop (sym said_so.0 ∙ zero))

-- a report or a journal is told only where there is a journal
module _ {F S K : Type 0} (files : of_files.Ghosts F S) (sink : Ghosts K) (f g : F) (out new : K) (journal : Option Record) (by : RenderOptions → PoolSize) where
  abbrev IsSome : Type 0
  IsSome = (log : Record) × (journal ≡ Some log)

  some_log : (tells : Telling) → IsSome → HasLog (Ok tells) journal
  some_log telling.Nothing (log, there) = tt
  some_log (telling.Report plan) (log, there) = subst (HasLog (Ok (telling.Report plan))) (sym there) tt
  some_log (telling.Journal workers) (log, there) = subst (HasLog (Ok (telling.Journal workers))) (sym there) tt

  log_of : {told : Option World} {script : List ℕ} {capacity : ℕ} {pool_size : PoolSize} → IsScriptRendered told script capacity pool_size journal → IsSome
  log_of run = let serial = run.rendered in (serial.log, serial.there)

  pub has_log : (command : Command) (done : Result Telling Stop) → Does files sink f g out new journal by command done → HasLog done journal
  has_log command (Ok telling.Nothing) does = tt
  has_log command (Err stop) does = tt
  has_log (c.Render script options) (Ok (telling.Report plan)) ((whole, reads, untorn, (asked, workers, is)), cut, head) = some_log (telling.Report plan) (log_of is.run)
  has_log (c.Render script options) (Ok (telling.Journal workers)) ((whole, reads, untorn, (asked, plan, is)), cut, head) = some_log (telling.Journal workers) (log_of is.run)
  has_log (c.Info script) (Ok (telling.Report plan)) does = absurd does
  has_log (c.Info script) (Ok (telling.Journal workers)) does = absurd does
  has_log (c.SelfTest number) (Ok (telling.Report plan)) does = absurd does
  has_log (c.SelfTest number) (Ok (telling.Journal workers)) does = absurd does
  has_log (c.Session script list cache) (Ok (telling.Report plan)) does = absurd does
  has_log (c.Session script list cache) (Ok (telling.Journal workers)) does = absurd does
  has_log (c.Replay script name cache) (Ok (telling.Report plan)) does = absurd does
  has_log (c.Replay script name cache) (Ok (telling.Journal workers)) does = absurd does

module _ {F S K E : Type 0} (files : of_files.Ghosts F S) (sink : Ghosts K) (lines : Ghosts E) (f : F) (out : K) (err said : E) (by : RenderOptions → PoolSize) (words : List (List ℕ)) where
  -- what is left untouched
  untouched : KeepsFiles files f f
  untouched = record { world = refl; given = refl; fetched = omega arith; later = omega arith }

  -- memory ran out before anything was done
  memory_done : (command : Command) → Does files sink f f out out None by command (Err Memory)
  memory_done (c.Render script options) = (inl refl, tt, inl refl)
  memory_done (c.Info script) = refl
  memory_done (c.SelfTest number) = (refl, refl)
  memory_done (c.Session script list cache) = record {
    session = record {
      whole = tt;
      stop = tt;
      prefix = λ text is. gets_none (sink.bytes out) text;
      listed = λ log there. absurd (cc);
      unlisted = λ none. record { put = refl; why = λ world told text is. inr refl };
      run = tt;
      cut = tt;
    };
    steady = tt;
    fetched = tt;
  }
  memory_done (c.Replay script name cache) = record {
    replay = record { whole = tt; clip = tt; stop = (tt, refl) };
    steady = tt;
    fetched = tt;
  }

  none_left : (command : Command) → LeavesNone command None
  none_left (c.Render script options) = tt
  none_left (c.Info script) = refl
  none_left (c.SelfTest number) = refl
  none_left (c.Session script list cache) = tt
  none_left (c.Replay script name cache) = refl

  not_refused : (status : ℕ) → ((status ≡ 1) × Says lines err said usage_line) ⊎ ((status ≡ 6) × Says lines err said memory_line) → status ≡ 0 → ⊥
  not_refused status (inl one) zero = omega (arith, one.0, zero)
  not_refused status (inr six) zero = omega (arith, six.0, zero)

  -- the words break the rules, or there was no memory to read them
  ends_of_none : command_in words ≡ None → (status : ℕ) → IsRefused files sink lines f f out out err said status → IsLater lines err said
      → Ends files sink lines f f out out err said by words status None × LeavesJournal files sink lines f f out out err said by words status None
  ends_of_none none status refused later = (
    record {
      asked = λ other is. (let both : None ≡ Some other = sym none ∙ is in absurd (cc));
      refused = λ is. refused;
      usage = λ one. none;
      keeps = untouched;
      later = omega arith;
      later_lines = later;
      unfailed = λ other. refl;
      unfailed_lines = λ zero. absurd (not_refused status refused.line zero);
    },
    record { asked = λ other is. (let both : None ≡ Some other = sym none ∙ is in absurd (cc)); refused = λ is. refl },
  )

  pub ends_of_memory : (command : Option Command) → command_in words ≡ command → (status : ℕ) → Finishes lines err said (Err Memory) None status
      → Ends files sink lines f f out out err said by words status None × LeavesJournal files sink lines f f out out err said by words status None
  ends_of_memory None none status said_so = ends_of_none none status (record { line = inr said_so; files_stay = refl; out_stays = refl }) (let says = said_so.1 in says.later)
  ends_of_memory (Some command) asked status said_so =
      ends_of files sink lines f f out out err said by words None command (Err Memory) status asked (memory_done command) (none_left command) (λ is. absurd is) said_so
      (untouched, omega arith, (let says = said_so.1 in says.later), λ other. refl, λ zero. absurd (omega (arith, said_so.0, zero)))

  pub ends_of_usage : command_in words ≡ None → Says lines err said usage_line
      → Ends files sink lines f f out out err said by words 1 None × LeavesJournal files sink lines f f out out err said by words 1 None
  ends_of_usage none says = ends_of_none none 1 (record { line = inl (refl, says); files_stay = refl; out_stays = refl }) says.later
