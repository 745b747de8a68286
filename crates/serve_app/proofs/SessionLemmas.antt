-- What a session over files leaves, from what is answered over a graph.
use Rattle.std.proofs.Common.{◌≡◌, ◌∙◌, ◌⊎◌, ⊎_elim, ℕ, ◌<◌, ◌≤◌, Bool, true, false, IsTrue, List, [], ◌∷◌, ◌++◌, length, Option, Some, None, Result, Ok, Err, OnSome, OnOk, IfErr, refl, inl, inr, sym, ap, ap₂, subst, nat_lt, arith}
use Rattle.std.specs.Prelude.{IsErrOf, drop}
use Rattle.std.specs.FinMap.{get}
use Rattle.std.proofs.lemmas.Bool.Decides.{nat_tests}
use Rattle.std.proofs.lemmas.List.FromFn.{get_or-map-range_with_len}
use Rattle.fv_io.specs.Faults.{risen, HasRisen, with_faults}
use Rattle.fv_io.specs.World.{World, InWorld}
use Rattle.fv_io.specs.declared.files.FetchFault.{FetchFault}
use Rattle.fv_io.specs.declared.files.FetchFault.TheVariants as of_fetch
use Rattle.fv_io.specs.declared.source.Source as of_source
use Rattle.fv_io.specs.declared.sink.Sink.{Ghosts}
use Rattle.fv_io.specs.Sink.{Puts, PutsPrefix}
use Rattle.fv_io.specs.Source.{SourceFailed}
use Rattle.fv_io.proofs.CallerLemmas.{gets_all, gets_none}
use Rattle.fv_plane.specs.Picture.{bytes_of, picture_at, Picture}
use Rattle.fv_session.specs.Answers.{answer_to, answers, frame_text, frame_answer}
use Rattle.fv_session.specs.Requests.{Asked, requests}
use Rattle.fv_session.specs.declared.request.Request.{Request}
use Rattle.fv_session.specs.declared.request.Request.TheVariants.{Frame, Info, Quit, Bad, End}
use Rattle.fv_session.specs.declared.request.SessionFault.{SessionFault}
use Rattle.fv_session.specs.declared.request.SessionFault.TheVariants as of_fault
use Rattle.seq_source.specs.FrameSource.{FrameSource}
use Rattle.clip_graph.specs.Plan.{Application, application_at, IsPlan, key_picture}
use Rattle.inst_table.proofs.CallerLemmas.{test}
use Rattle.inst_table.specs.declared.place.Place.{Place}
use Rattle.inst_table.specs.declared.place.Slot.{Slot}
use Rattle.serve_machine.specs.declared.event.WindowStop.{WindowStop}
use Rattle.serve_machine.specs.declared.windows.Record.{Record}
use Rattle.serve_machine.specs.Events.{frame_key, WindowEvents, windows_of}
use Rattle.prefetch.specs.Windows.{clip_at, frames_at}
use Rattle.avs_meaning.specs.State.{Numbers}
use Rattle.avs_meaning.specs.Faults as f
use Rattle.avs_meaning.specs.Faults.{input}
use Rattle.avs_meaning.specs.Meaning as m
use Rattle.avs_meaning.specs.declared.state.SourceClip.{SourceClip}
use Rattle.avs_state.specs.Sources.{sources_of}
use Rattle.avs_files.specs.Opened.{told_of, AreOpened}
use Rattle.serve_text.specs.StopKinds.{status_of_stop}
use Rattle.serve_text.specs.declared.stop.FileFault.TheVariants as of_file
use Rattle.serve_text.specs.declared.stop.Stop.{Stop}
use Rattle.serve_text.specs.declared.stop.Stop.TheVariants as of_stop
use Rattle.prefetch.specs.Answered.{AreWindowsIn, TellsSession, numbers_asked, answers_over, AnswerShows, IsAnswered}
use Rattle.prefetch.specs.StreamClips.{SomeFailed, book_told}
use Rattle.prefetch.specs.Played.{frame_bytes_at, line_at}
use Rattle.prefetch.specs.declared.session.SessionStop.{SessionStop}
use Rattle.prefetch.specs.declared.session.SessionStop.TheVariants.{Stopped, ListFault}
use Rattle.serve_app.specs.Journals.{IsPlanOf}
use Rattle.serve_app.specs.Meaning.{meaning_in}
use Rattle.serve_app.specs.Opening.{OpeningShows}
use Rattle.serve_app.specs.Sessions.{answers_of, IsAnswersOf, IsToldAnswers, HasAnswers, InList, AnswersList, SessionCuts, fetch_stop, list_stop, stop_with, ended_with, TellsCut, SessionShows, IsScriptSession}
use Rattle.serve_core.specs.Stands.{Book}
use Rattle.serve_app.specs.Stop.{ScriptHasClip, HasFault, IsByScript}
use Rattle.serve_app.proofs.PlayLemmas.{in_told, told_same, a_clip_at, of_means, none_of, plan_of, has_one}

-- ---- answers over a clip

below : (a b : ℕ) → nat_lt a b ≡ true → a < b
below a b e = grind (arith, nat_tests)

-- answers of which the frames below the number of frames are the same
module _ (frames : ℕ) (one other : ℕ → List ℕ) (line : List ℕ) (same : (n : ℕ) → n < frames → one n ≡ other n) where
  same_frame : (n : ℕ) → frame_answer frames one line n ≡ frame_answer frames other line n
  same_frame n = ⊎_elim
      (λ (h : nat_lt n frames ≡ true). rw h (ap (frame_text n) (same n (below n frames h))))
      (λ (h : nat_lt n frames ≡ false). rw h refl) (test (nat_lt n frames))

  same_answer : (request : Request) → answer_to frames one line request ≡ answer_to frames other line request
  same_answer (Frame n) = same_frame n
  same_answer Info = refl
  same_answer Quit = refl
  same_answer Bad = refl
  same_answer End = refl

  same_answers : (asks : List Request) → answers frames one line asks ≡ answers frames other line asks
  same_answers [] = refl
  same_answers (request ∷ asks) = ap₂ (λ (x y : List ℕ). x ++ y) (same_answer request) (same_answers asks)

-- the answers over a plan are those over its clip
answers_at : (book : List (List Picture)) (plan : List Application) (root capacity : ℕ) (asks : List Request)
    → answers_over plan root capacity book asks ≡ answers_of (clip_at book plan root) asks
answers_at book plan root capacity asks =
    same_answers (frames_at plan root) (λ n. frame_bytes_at book plan root n) (λ n. bytes_of (picture_at (clip_at book plan root) n)) (line_at plan root)
    (λ n less. ap bytes_of (sym (picture_is n less))) asks
  where
    picture_is : (n : ℕ) → n < frames_at plan root → picture_at (clip_at book plan root) n ≡ key_picture book plan (frame_key root n)
    picture_is n less = get_or-map-range_with_len (λ k. key_picture book plan (frame_key root k)) 0 (frames_at plan root) n n (record { shape = (application_at plan root).info.shape; planes = [] }) less (omega arith)

-- ---- a told world

pub told_some : (told : Bool) (world : World) → IsTrue told → told_of told world ≡ Some world
told_some true world known = refl
told_some false world known = absurd (cc)

pub given : (bytes : Option (List ℕ)) → (bytes ≡ None → ⊥) → (some : List ℕ) × (bytes ≡ Some some)
given (Some bytes) there = (bytes, refl)
given None there = absurd (there refl)

-- ---- a list that was opened

module _ {S : Type 0} (of : of_source.Ghosts S) (told : Bool) (world : World) (script : List ℕ) (plan : List Application) (root : ℕ) (crew : Option Numbers)
    (listed : List SourceClip) (sources : List (FrameSource S)) (same : sources_of plan ≡ listed) (are : AreOpened of told world listed sources)
    (means : IsTrue told → meaning_in world script ≡ m.clip plan root crew)
    {L K : Type 0} (lister : of_source.Ghosts L) (s t : L) (name : List ℕ) (at_start : lister.place s ≡ 0)
    (tells : InWorld (told_of told world) (λ w. lister.bytes s ≡ get w name)) (there : InWorld (told_of told world) (λ w. get w name ≡ None → ⊥))
    (sink : Ghosts K) (out put : K) (capacity : ℕ) where
  abbrev InBytesOf : (Asked → Type 0) → Type 0
  InBytesOf Is = (bytes : List ℕ) → lister.bytes s ≡ Some bytes → Is (requests (drop (lister.place s) bytes))

  -- what its bytes ask is what the file of its name asks
  in_list : (Is : Asked → Type 0) → InBytesOf Is → InList (told_of told world) name Is
  in_list Is so w is bytes bytes_are = subst (λ n. Is (requests (drop n bytes))) at_start (so bytes (tells w is ∙ bytes_are))

  the_bytes : IsTrue told → (bytes : List ℕ) × (get world name ≡ Some bytes)
  the_bytes known = given (get world name) (there world (told_some told world known))

  an_answer : IsTrue told → (text : List ℕ) × IsAnswersOf world script name text
  an_answer known =
      let clip = a_clip_at of told world script plan root crew listed sources same are means known in
      let bytes = the_bytes known in
      (answers_of clip.0 (requests bytes.0).requests, record { clip = clip.0; means = clip.1; bytes = bytes.0; bytes_are = bytes.1; text_is = refl })

  pub has_answers : HasAnswers (told_of told world) script name
  has_answers = in_told told world (λ w. (text : List ℕ) × IsAnswersOf w script name text) an_answer

  -- the answers are those over the plan
  record IsOver (asks : List Request) (text : List ℕ) : Type 0 where
    pub pictures : List (List Picture)
    pub told_are : book_told of sources ≡ Some pictures
    pub text_is : answers_over plan root capacity pictures asks ≡ text

  over : IsTrue told → (text : List ℕ) → (is : IsAnswersOf world script name text) → IsOver (requests is.bytes).requests text
  over known text is =
      let clip = of_means of told world script plan root crew listed sources same are means known is.clip is.means in
      record {
        pictures = clip.pictures;
        told_are = clip.told;
        text_is = answers_at clip.pictures plan root capacity (requests is.bytes).requests
            ∙ ap (λ c. answers_of c (requests is.bytes).requests) (sym clip.clip_is) ∙ sym is.text_is;
      }

  abbrev PutsOver : List Request → Type 0
  PutsOver asks = (pictures : List (List Picture)) → book_told of sources ≡ Some pictures → Puts sink out put (answers_over plan root capacity pictures asks)

  -- all requests were answered
  all_put : (asks : List Request) (fault : Option SessionFault) → InBytesOf (λ asked. asked ≡ record { requests = asks; fault = fault }) → PutsOver asks
      → AnswersList (told_of told world) script name sink out put fault
  all_put asks fault asked puts = record {
    put = in_told told world (λ w. (text : List ℕ) × IsAnswersOf w script name text × Puts sink out put text) (λ known. let one = an_answer known in (one.0, one.1, put_one known one.0 one.1));
    fault_is = in_list (λ asked. asked.fault ≡ fault) (λ bytes is. ap (λ (a : Asked). a.fault) (asked bytes is));
  }
    where
      put_one : IsTrue told → (text : List ℕ) → IsAnswersOf world script name text → Puts sink out put text
      put_one known text is =
          let clip = over known text is in
          let all = in_list (λ asked. asked ≡ record { requests = asks; fault = fault }) asked world (told_some told world known) is.bytes is.bytes_are in
          subst (λ l. Puts sink out put l) (ap (λ (a : Asked). answers_over plan root capacity clip.pictures a.requests) (sym all) ∙ clip.text_is) (puts clip.pictures clip.told_are)

  -- a prefix of all answers
  prefix_put : InBytesOf (λ asked. (pictures : List (List Picture)) → book_told of sources ≡ Some pictures → PutsPrefix sink out put (answers_over plan root capacity pictures asked.requests))
      → (text : List ℕ) → IsToldAnswers (told_of told world) script name text → PutsPrefix sink out put text
  prefix_put cut text is =
      let both = told_same told world is.world is.told_is in
      let one : IsAnswersOf world script name text = rw (sym both.1) at is.is in
      let clip = over both.0 text one in
      let some = in_list (λ asked. (pictures : List (List Picture)) → book_told of sources ≡ Some pictures → PutsPrefix sink out put (answers_over plan root capacity pictures asked.requests)) cut world (told_some told world both.0) one.bytes one.bytes_are in
      subst (λ l. PutsPrefix sink out put l) clip.text_is (some clip.pictures clip.told_are)

  -- the windows are of what the file asks
  windows_in : (stop : Option WindowStop) (windows : List WindowEvents) → AreWindowsIn plan root capacity InBytesOf stop windows → AreWindowsIn plan root capacity (InList (told_of told world) name) stop windows
  windows_in None windows (ns, first, is) = (ns, in_list (λ asked. (rest : List ℕ) × (numbers_asked plan root capacity asked.requests ≡ ns ++ rest)) first, is)
  windows_in (Some why) windows (ns, n, first, is) = (ns, n, in_list (λ asked. (rest : List ℕ) × (numbers_asked plan root capacity asked.requests ≡ (ns ++ n ∷ []) ++ rest)) first, is)

  -- how the end is told
  tells_cut : (why : SessionStop) (stop : Option WindowStop) → TellsSession why plan stop → TellsCut (stop_with name why) plan stop
  tells_cut (Stopped stop) None (inl is) = subst (λ x. 3 ≤ status_of_stop x) (sym is) (omega arith)
  tells_cut (Stopped stop) None (inr (inl is)) = subst (λ x. 3 ≤ status_of_stop x) (sym is) (omega arith)
  tells_cut (Stopped stop) None (inr (inr is)) = subst (λ x. 3 ≤ status_of_stop x) (sym is) (omega arith)
  tells_cut (Stopped stop) (Some why) tells = tells
  tells_cut (ListFault of_fault.Read) None tells = omega arith
  tells_cut (ListFault of_fault.LineTooLong) None tells = omega arith
  tells_cut (ListFault of_fault.TooManyLines) None tells = omega arith
  tells_cut (ListFault fault) (Some why) tells = absurd tells

  module _ {I : Type 0} (faults : I → ℕ) (table : List (Place × Slot I)) (failed : Type 0) (fails : SomeFailed faults table → failed) (list_fails : SourceFailed lister s t → failed) where
    -- why not all requests were answered
    shown : (why : SessionStop) → AnswerShows plan root capacity faults (book_told of sources) lister s t sink out put table why
        → SessionShows (told_of told world) script name sink out put failed (stop_with name why)
    shown (Stopped (of_stop.Script kind text line)) shows = absurd shows
    shown (Stopped (of_stop.Input file fault)) shows = absurd shows
    shown (Stopped (of_stop.Changed file frame want got)) shows =
        (in_told told world (λ w. ⊥) (none_of of told world script plan root crew listed sources same are means sink out put shows.0), shows.1)
    shown (Stopped (of_stop.File file fault)) shows = absurd shows
    shown (Stopped of_stop.Read) (inl one) = fails one
    shown (Stopped of_stop.Read) (inr one) = list_fails one
    shown (Stopped of_stop.Write) shows = (shows, has_one of told world script plan root crew listed sources same are means)
    shown (Stopped of_stop.Memory) shows = tt
    shown (ListFault of_fault.Read) shows = absurd shows
    shown (ListFault of_fault.LineTooLong) shows = (refl, all_put shows.asks (Some of_fault.LineTooLong) shows.all shows.put)
    shown (ListFault of_fault.TooManyLines) shows = (refl, all_put shows.asks (Some of_fault.TooManyLines) shows.all shows.put)

    plan_is : IsPlan plan → root < length plan → IsPlanOf (told_of told world) script plan root
    plan_is is inside = plan_of of told world script plan root crew listed sources same are means sink out put is inside

    some_log : (journal : Option Record) (log : Record) → journal ≡ Some log → journal ≡ None → ⊥
    some_log journal log there none = let both : Some log ≡ None = sym there ∙ none in cc both

    -- all of it
    pub session_of : (journal : Option Record) (done : Result (Unit {0}) SessionStop) → IsPlan plan → root < length plan
        → IsAnswered plan root capacity faults (book_told of sources) lister s t sink out put journal table done
        → IsScriptSession (told_of told world) script name sink out put failed capacity journal (ended_with name done)
    session_of journal (Ok u) is inside answered =
        let all = answered.all in
        record {
          whole = all_put all.asks None all.all all.put;
          stop = tt;
          prefix = prefix_put (λ bytes there_is pictures book. gets_all (sink.bytes out) (sink.bytes put) _
              (subst (λ (l : List Request). Puts sink out put (answers_over plan root capacity pictures l)) (ap (λ (a : Asked). a.requests) (sym (all.all bytes there_is))) (all.put pictures book)));
          listed = λ log there_is. has_answers;
          unlisted = λ none. absurd (some_log journal answered.log answered.there none);
          run = record { plan = plan; root = root; is_plan = plan_is is inside; asks = all.asks; all = in_list (λ asked. asked ≡ record { requests = all.asks; fault = None }) all.all; log = answered.log; there = answered.there; windows_are = all.windows_are };
          cut = tt;
        }
    session_of journal (Err why) is inside answered =
        let some = answered.stop in
        record {
          whole = tt;
          stop = shown why some.shows;
          prefix = prefix_put some.prefix;
          listed = λ log there_is. has_answers;
          unlisted = λ none. absurd (some_log journal answered.log answered.there none);
          run = tt;
          cut = subst (λ (o : Option Record). SessionCuts (told_of told world) script name capacity (TellsCut (stop_with name why)) o) (sym answered.there)
              (record { plan = plan; root = root; is_plan = plan_is is inside; stop = some.cut; ends = tells_cut why some.cut some.told; windows_are = windows_in some.cut (windows_of answered.log) some.windows_are });
        }

-- ---- a list that was not opened

module _ {K : Type 0} (told : Option World) (script name : List ℕ) (sink : Ghosts K) (out : K) (failed : Type 0) (capacity : ℕ) where
  abbrev Shown : Stop → Type 0
  Shown stop = SessionShows told script name sink out out failed stop

  abbrev Excused : Stop → Type 0
  Excused stop = InWorld told (λ w. (text : List ℕ) → IsAnswersOf w script name text → (stop ≡ of_stop.Read) ⊎ (stop ≡ of_stop.Memory))

  nothing_yet : (stop : Stop) → Shown stop → Excused stop → IsScriptSession told script name sink out out failed capacity None (Err stop)
  nothing_yet stop shows why = record {
    whole = tt;
    stop = shows;
    prefix = λ text is. gets_none (sink.bytes out) text;
    listed = λ log there. absurd (cc);
    unlisted = λ none. record { put = refl; why = why };
    run = tt;
    cut = tt;
  }

  -- a script that means a fault has no answers
  no_answers : (fault : f.Fault) (stop : Stop) → HasFault told script fault → Excused stop
  no_answers fault stop wrong w there text is =
      let means = is.means in
      let both : m.wrong fault ≡ m.clip means.plan means.root means.crew = sym (wrong w there) ∙ means.means in
      absurd (cc)

  -- the script was not evaluated
  pub unevaluated : (stop : Stop) → OpeningShows told script failed stop → IsScriptSession told script name sink out out failed capacity None (Err stop)
  unevaluated (of_stop.Script kind text line) shown = nothing_yet (of_stop.Script kind text line) (shown, refl) (no_answers (f.script kind text line) _ shown)
  unevaluated (of_stop.Input file fault) shown = nothing_yet (of_stop.Input file fault) (shown, refl) (no_answers (input file fault) _ shown)
  unevaluated (of_stop.Changed file frame want got) shown = absurd shown
  unevaluated (of_stop.File file fault) shown = absurd shown
  unevaluated of_stop.Read shown = nothing_yet of_stop.Read shown (λ w is text answers. inl refl)
  unevaluated of_stop.Write shown = absurd shown
  unevaluated of_stop.Memory shown = nothing_yet of_stop.Memory tt (λ w is text answers. inr refl)

  -- the file of the list was not opened
  pub unopened_list : {X : Type 0} (fault : FetchFault) → ScriptHasClip told script
      → (IsErrOf {T = X} (Err fault) of_fetch.NotThere → InWorld told (λ w. get w name ≡ None)) → (IsErrOf {T = X} (Err fault) of_fetch.Failed → failed)
      → IsScriptSession told script name sink out out failed capacity None (Err (fetch_stop name fault))
  unopened_list of_fetch.NotThere has none fails =
      nothing_yet (of_stop.File name of_file.NotThere) (refl, (has, none refl, refl)) (λ w is text answers. let both : None ≡ Some answers.bytes = sym (none refl w is) ∙ answers.bytes_are in absurd (cc))
  unopened_list of_fetch.Failed has none fails = nothing_yet of_stop.Read (fails refl) (λ w is text answers. inl refl)
  unopened_list of_fetch.Memory has none fails = nothing_yet of_stop.Memory tt (λ w is text answers. inr refl)

-- ---- what was opened is told with the name of the list

pub all_well : (name : List ℕ) (done : Result (Unit {0}) SessionStop) (All Steady P : Type 0) → OnOk done All → OnOk done Steady → (All → Steady → P) → OnOk (ended_with name done) P
all_well name (Ok u) All Steady P all steady so = so all steady
all_well name (Err why) All Steady P all steady so = tt

pub on_some : {X : Type 0} (o : Option X) (P : Type 0) → P → OnSome o P
on_some (Some x) P is = is
on_some None P is = tt

-- ---- counts of faults

-- a list that failed shows in the count of the files once it is closed
pub list_rose : (before start mid now after faults : ℕ) → before ≤ start → mid ≡ with_faults start faults → mid ≤ now → now ≤ after → faults ≡ risen 0 → HasRisen before after
list_rose before start mid now after faults first closed more last failed = omega (arith, first, closed, more, last, failed)

-- and one that didn't leaves it as it was
pub list_stays : (start mid faults : ℕ) → mid ≡ with_faults start faults → faults ≡ 0 → mid ≡ start
list_stays start mid faults closed none = omega (arith, closed, none)

-- ---- stops that aren't for the script

pub no_fetch : (name : List ℕ) (fault : FetchFault) → IsByScript (fetch_stop name fault) → ⊥
no_fetch name of_fetch.NotThere by = by
no_fetch name of_fetch.Failed by = by
no_fetch name of_fetch.Memory by = by

no_list : (name : List ℕ) (fault : SessionFault) → IsByScript (list_stop name fault) → ⊥
no_list name of_fault.Read by = by
no_list name of_fault.LineTooLong by = by
no_list name of_fault.TooManyLines by = by

no_answer : {I L K : Type 0} (plan : List Application) (root capacity : ℕ) (faults : I → ℕ) (book : Book) (list : of_source.Ghosts L) (s t : L) (sink : Ghosts K) (old new : K)
    (table : List (Place × Slot I)) (stop : Stop) → AnswerShows plan root capacity faults book list s t sink old new table (Stopped stop) → IsByScript stop → ⊥
no_answer plan root capacity faults book list s t sink old new table (of_stop.Script kind name line) shown by = absurd shown
no_answer plan root capacity faults book list s t sink old new table (of_stop.Input name fault) shown by = absurd shown
no_answer plan root capacity faults book list s t sink old new table (of_stop.Changed name frame want got) shown by = by
no_answer plan root capacity faults book list s t sink old new table (of_stop.File name fault) shown by = by
no_answer plan root capacity faults book list s t sink old new table of_stop.Read shown by = by
no_answer plan root capacity faults book list s t sink old new table of_stop.Write shown by = by
no_answer plan root capacity faults book list s t sink old new table of_stop.Memory shown by = by

-- one of the answers, or of their list
pub answered_before : {I L K : Type 0} (plan : List Application) (root capacity : ℕ) (faults : I → ℕ) (book : Book) (list : of_source.Ghosts L) (s t : L) (sink : Ghosts K) (old new : K)
    (table : List (Place × Slot I)) (journal : Option Record) (done : Result (Unit {0}) SessionStop) (name : List ℕ) (P : Type 0)
    → IsAnswered plan root capacity faults book list s t sink old new journal table done → IfErr (ended_with name done) (λ stop. IsByScript stop → P)
answered_before plan root capacity faults book list s t sink old new table journal (Ok u) name P answered = tt
answered_before plan root capacity faults book list s t sink old new table journal (Err (Stopped stop)) name P answered =
    λ by. absurd (no_answer plan root capacity faults book list s t sink old new table stop (let some = answered.stop in some.shows) by)
answered_before plan root capacity faults book list s t sink old new table journal (Err (ListFault fault)) name P answered = λ by. absurd (no_list name fault by)
