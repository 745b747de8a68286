-- What a session over the core of a graph leaves.
use Rattle.std.proofs.Common.{◌≡◌, ◌∙◌, ℕ, true, false, List, [], ◌∷◌, ◌++◌, Option, Some, None, Result, Ok, Err, OnOk, IfErr, IsErrOf, refl, inl, inr, sym, ap, subst, arith}
use Rattle.std.specs.Prelude.{drop}
use Rattle.std.specs.Map.{keys_of}
use Rattle.std.proofs.lemmas.List.{append_assoc, append-nil}
use Rattle.std.proofs.lemmas.List.Concat.{flat_map-append}
use Rattle.fv_io.specs.declared.source.Source as of_source
use Rattle.fv_io.specs.declared.sink.Sink.{Ghosts}
use Rattle.fv_io.specs.Faults.{risen}
use Rattle.fv_io.specs.Sink.{Puts, PutsPrefix, IsLater, SinkFailed}
use Rattle.fv_io.proofs.CallerLemmas.{gets_none}
use Rattle.fv_plane.specs.Picture.{Picture}
use Rattle.fv_plane.specs.declared.key.Key.{Key}
use Rattle.seq_source.specs.FrameSource.{FrameSource}
use Rattle.fv_session.specs.Answers.{frame_asked, frames_asked}
use Rattle.fv_session.specs.Next.{ReaderState}
use Rattle.fv_session.specs.Requests.{Asked, requests, refused}
use Rattle.fv_session.specs.declared.request.Request.{Request}
use Rattle.fv_session.specs.declared.request.SessionFault.{SessionFault}
use Rattle.fv_session.specs.declared.request.SessionFault.TheVariants as of_fault
use Rattle.clip_graph.specs.Plan.{Application}
use Rattle.inst_table.specs.declared.place.Place.{Place}
use Rattle.inst_table.specs.declared.place.Slot.{Slot}
use Rattle.inst_table.specs.Places.{shared_place}
use Rattle.serve_machine.specs.declared.event.WindowStop.{WindowStop}
use Rattle.serve_machine.specs.declared.event.WindowStop.TheVariants as worker
use Rattle.serve_machine.specs.declared.windows.Record.{Record}
use Rattle.serve_machine.specs.Events.{names_source, WindowEvents, windows_of}
use Rattle.serve_machine.specs.Work.{FailedWork}
use Rattle.serve_core.specs.CoreValue.{CoreValue}
use Rattle.serve_core.specs.Sources.{faults_of as faults_in}
use Rattle.serve_core.specs.Stands.{Stands}
use Rattle.serve_session.specs.declared.player.Player as of_player
use Rattle.serve_session.specs.declared.player.PlayStop.{PlayStop}
use Rattle.serve_session.specs.declared.player.PlayStop.TheVariants as of_play
use Rattle.serve_session.specs.declared.serving.ServeStop.{ServeStop}
use Rattle.serve_session.specs.declared.serving.ServeStop.TheVariants.{Play, Session}
use Rattle.serve_session.specs.Serving.{prepend, some_request, MakesOne, Why, ServesAll, ServesPart, Ends as EndsServing}
use Rattle.serve_session.proofs.ServeLemmas.{makes_more, asked_more}
use Rattle.serve_worker.specs.declared.instance.Instance.{Instance}
use Rattle.serve_worker.specs.declared.instance.Instance.TheVariants as of_instance
use Rattle.serve_core.specs.Tables.{counts_in}
use Rattle.serve_worker.specs.Instances.{Ends, feed_of, faults_of, holds_of, held_of}
use Rattle.serve_core.proofs.Tables.{all_free}
use Rattle.prefetch.specs.Windows.{windows_asked, Keeps, WindowStopped, frames_at, Stays}
use Rattle.prefetch.proofs.RenderLemmas.{stays_on, keeps_first}
use Rattle.prefetch.specs.declared.stops.RenderStop.TheVariants as of_render
use Rattle.serve_text.specs.declared.stop.Stop.{Stop}
use Rattle.serve_text.specs.declared.stop.Stop.TheVariants as of_stop
use Rattle.prefetch.specs.declared.pool_size.Pool.{Pool}
use Rattle.prefetch.specs.declared.session.SessionStop.{SessionStop}
use Rattle.prefetch.specs.declared.session.SessionStop.TheVariants.{Stopped, ListFault}
use Rattle.prefetch.specs.Answered.{EndsEarly, EndsWith, InList, AreWindowsIn, TellsSession, numbers_asked, answers_over, IsCutSession, AnswersAll, AnswerShows, AnswersSome, IsAnswered}
use Rattle.prefetch.specs.StreamClips.{SomeFailed, book_told}
use Rattle.prefetch.specs.Cores.{book_at, IsCoreOf}
use Rattle.prefetch.specs.Played.{PlayedValue, StandsForFrames, MakesFrame, StopsInFrame, frame_bytes_at, line_at}
use Rattle.prefetch.specs.Sessions.{StopNamed, IsToldAs, IsToldSession}
use Rattle.prefetch.proofs.SessionLemmas.{Made, all_made}
use Rattle.prefetch.specs.Rendered.{ToldAs}
use Rattle.prefetch.proofs.StreamLemmas.{one_failed, tells_stop}

-- the ghosts of a clip that is played
abbrev pub played : {S : Type 0} → of_source.Ghosts S → of_player.Ghosts (PlayedValue (Instance S))
played of = record {
  frames = λ p. frames_at p.core.fixed.plan p.core.fixed.root;
  line = λ p. line_at p.core.fixed.plan p.core.fixed.root;
  stands_for = λ p at. StandsForFrames of p.core at;
  makes = λ p n q. MakesFrame of p n q;
  stops = λ p n q. StopsInFrame of p n q;
}

-- a source whose bytes ended early
early_by : {S : Type 0} (of : of_source.Ghosts S) (x : Instance S) (frame want got : ℕ) → Ends of x frame want got → EndsEarly frame want got
early_by of of_instance.Plain frame want got ends = absurd ends
early_by of (of_instance.Scratch width) frame want got ends = absurd ends
early_by of (of_instance.Source it) frame want got ends = record { index = it.index; is_index = ends.is_index; inside = ends.inside; want_is = ends.want_is; early = ends.early }

-- a reader that holds nothing
abbrev pub fresh : ReaderState
fresh = record { held = []; count = 0; failed = false }

module _ {S L K : Type 0} (of : of_source.Ghosts S) (list : of_source.Ghosts L) (sink : Ghosts K) (c : CoreValue (Instance S)) (empty : c.cache ≡ []) (keeps : Keeps (held_of of) c c)
    (stands : Stands (feed_of of) (faults_of of) (book_at of c) (faults_in (faults_of of) c.fixed.plan c.table) c) (s t : L) (old new : K) where
  abbrev first : PlayedValue (Instance S)
  first = record { core = c; windows = []; stop = None }

  abbrev plan : List Application
  plan = c.fixed.plan

  abbrev root : ℕ
  root = c.fixed.root

  -- the windows of these numbers, from what is cached
  from_empty : (ns : List ℕ) → windows_asked plan root c.fixed.capacity (keys_of c.cache) ns ≡ windows_asked plan root c.fixed.capacity [] ns
  from_empty ns = ap (λ (ps : List (Key × Picture)). windows_asked plan root c.fixed.capacity (keys_of ps) ns) empty

  -- it stands for the frames of a told book
  for_frames : (pictures : List (List Picture)) → book_at of c ≡ Some pictures → StandsForFrames of c (λ n. frame_bytes_at pictures plan root n)
  for_frames pictures is = record {
    book = pictures;
    numbers = faults_in (faults_of of) plan c.table;
    stands = subst (λ b. Stands (feed_of of) (faults_of of) b (faults_in (faults_of of) plan c.table) c) is stands;
    at_is = λ n less. refl;
  }

  pub answers_all : (q : PlayedValue (Instance S)) → ServesAll (played of) sink list fresh first q s t old new
      → AnswersAll plan root c.fixed.capacity (faults_of of) (book_at of c) list s t sink old new q.windows
  answers_all q all = record {
    asks = all.asks;
    all = all.all;
    put = λ pictures is. all.served.put (λ n. frame_bytes_at pictures plan root n) (for_frames pictures is);
    windows_are = (let made = all_made of (played of) (λ p n r m. m) first (frames_asked (frames_at plan root) all.asks) q keeps all.served.made in made.windows ∙ from_empty (frames_asked (frames_at plan root) all.asks));
    steady = all.steady;
  }

  -- a session that ended early
  module _ (q : PlayedValue (Instance S)) (stopped : ServeStop) (part : ServesPart (played of) sink list fresh first q s t old new stopped) where
    abbrev mid : PlayedValue (Instance S)
    mid = part.mid

    abbrev frames : ℕ
    frames = frames_at plan root

    abbrev ns : List ℕ
    ns = frames_asked frames part.asks

    before : Made of first ns mid
    before = all_made of (played of) (λ p n r m. m) first ns mid keeps part.served.made

    same_frames : frames_at mid.core.fixed.plan mid.core.fixed.root ≡ frames
    same_frames = let stays = before.keeps.stays in ap (λ l. frames_at l mid.core.fixed.root) stays.plan ∙ ap (λ i. frames_at plan i) stays.root

    -- what the list asks first, where it asks for these requests and others
    asked_then : (asked rest : Asked) (asks : List Request) → asked ≡ prepend asks rest → numbers_asked plan root c.fixed.capacity asked.requests ≡ frames_asked frames asks ++ frames_asked frames rest.requests
    asked_then asked rest asks is = ap (λ (a : Asked). frames_asked frames a.requests) is ∙ flat_map-append (frame_asked frames) asks rest.requests

    -- windows of the frames made before, and of one more or none
    windows_then : (ms : List ℕ) → MakesOne (played of) mid q ms → q.windows ≡ windows_asked plan root c.fixed.capacity [] (ns ++ ms)
    windows_then ms one = let made = all_made of (played of) (λ p n r m. m) first (ns ++ ms) q keeps (makes_more (played of) first mid q ns ms part.served.made one) in made.windows ∙ from_empty (ns ++ ms)

    -- how it ended, and how that is told
    pub record Ended (told : SessionStop) : Type 0 where
      pub shows : AnswerShows plan root c.fixed.capacity (faults_of of) (book_at of c) list s t sink old new q.core.table told
      pub cut : Option WindowStop
      pub windows_are : AreWindowsIn plan root c.fixed.capacity (InList plan root c.fixed.capacity (faults_of of) (book_at of c) list s t sink old new) cut q.windows
      pub tells : TellsSession told plan cut
      pub stays : Stays holds_of c q.core

    mid_stays : Stays holds_of mid.core mid.core
    mid_stays = let a = before.keeps.stays in
        record { between = a.between; plan = refl; root = refl; workers = refl; capacity = refl; unclaimed = a.unclaimed; free = a.free; held = refl }

    stays_one : (ms : List ℕ) → MakesOne (played of) mid q ms → Stays holds_of mid.core q.core
    stays_one [] is = subst (λ (x : PlayedValue (Instance S)). Stays holds_of mid.core x.core) (sym is) mid_stays
    stays_one (n ∷ ms) one = let keeps = (one.1).keeps in keeps.stays

    stays_first : Stays holds_of mid.core q.core → Stays holds_of c q.core
    stays_first stays = stays_on (held_of of) c mid.core q.core before.keeps.stays stays

    -- what the list asks for begins with these numbers
    abbrev AreFirst : List ℕ → Type 0
    AreFirst ms = (bytes : List ℕ) → list.bytes s ≡ Some bytes
        → (rest : List ℕ) × (numbers_asked plan root c.fixed.capacity (requests (drop (list.place s) bytes)).requests ≡ ms ++ rest)

    -- as it does where these requests are its first
    first_of : (asks : List Request) (ms : List ℕ) → frames_asked frames asks ≡ ms → ((bytes : List ℕ) → list.bytes s ≡ Some bytes → (rest : Asked) × (requests (drop (list.place s) bytes) ≡ prepend asks rest)) → AreFirst ms
    first_of asks ms are asked bytes is =
        let more = asked bytes is in
        (frames_asked frames (more.0).requests, asked_then (requests (drop (list.place s) bytes)) more.0 asks more.1 ∙ ap (λ (l : List ℕ). l ++ frames_asked frames (more.0).requests) are)

    first_with : (request : Request) → ((bytes : List ℕ) → list.bytes s ≡ Some bytes → (rest : Asked) × (requests (drop (list.place s) bytes) ≡ prepend (part.asks ++ some_request request) rest)) → AreFirst (ns ++ frame_asked frames request)
    first_with request = first_of (part.asks ++ some_request request) (ns ++ frame_asked frames request) (asked_more frames part.asks request)

    -- no window was cut short
    unstopped : (told : SessionStop) (ms : List ℕ) → MakesOne (played of) mid q ms → AreFirst (ns ++ ms)
        → AnswerShows plan root c.fixed.capacity (faults_of of) (book_at of c) list s t sink old new q.core.table told → TellsSession told plan None → Ended told
    unstopped told ms one asked shows tells = record {
      shows = shows;
      cut = None;
      windows_are = (ns ++ ms, asked, windows_then ms one);
      tells = tells;
      stays = stays_first (stays_one ms one);
    }

    abbrev EndsBy : ServeStop → Type 0
    EndsBy why = EndsServing (played of) sink list fresh first q s t old new mid part.here part.asks why

    -- the list ends with a fault: the requests before it are answered
    with_fault : (fault : SessionFault) → (new ≡ part.here) → ((bytes : List ℕ) → list.bytes s ≡ Some bytes → requests (drop (list.place s) bytes) ≡ record { requests = part.asks; fault = Some fault })
        → EndsWith plan root c.fixed.capacity (faults_of of) (book_at of c) list s t sink old new fault
    with_fault fault here asked = record {
      asks = part.asks;
      all = asked;
      put = λ pictures is. subst (λ k. Puts sink old k (answers_over plan root c.fixed.capacity pictures part.asks)) (sym here) (part.served.put (λ n. frame_bytes_at pictures plan root n) (for_frames pictures is));
    }

    faulty : (fault : SessionFault) → ((bytes : List ℕ) → list.bytes s ≡ Some bytes → requests (drop (list.place s) bytes) ≡ record { requests = part.asks; fault = Some fault })
        → (bytes : List ℕ) → list.bytes s ≡ Some bytes → (rest : Asked) × (requests (drop (list.place s) bytes) ≡ prepend part.asks rest)
    faulty fault asked bytes is = (refused fault, asked bytes is ∙ ap (λ (l : List Request). record { requests = l; fault = Some fault }) (sym (append-nil part.asks)))

    by_list : (fault : SessionFault) (told : SessionStop) → EndsBy (Session fault) → IsToldAs q.core.fixed.plan (Session fault) q.stop told → Ended told
    by_list of_fault.Read told ended is = subst (λ x. Ended x) (sym is)
        (unstopped (Stopped of_stop.Read) [] ended.0 (first_of part.asks (ns ++ []) (sym (append-nil ns)) (ended.2).1) (inr (ended.2).0) (inl refl))
    by_list of_fault.LineTooLong told ended is = subst (λ x. Ended x) (sym is)
        (unstopped (ListFault of_fault.LineTooLong) [] ended.0 (first_of part.asks (ns ++ []) (sym (append-nil ns)) (faulty of_fault.LineTooLong ended.2)) (with_fault of_fault.LineTooLong ended.1 ended.2) tt)
    by_list of_fault.TooManyLines told ended is = subst (λ x. Ended x) (sym is)
        (unstopped (ListFault of_fault.TooManyLines) [] ended.0 (first_of part.asks (ns ++ []) (sym (append-nil ns)) (faulty of_fault.TooManyLines ended.2)) (with_fault of_fault.TooManyLines ended.1 ended.2) tt)

    -- a request was not answered
    module _ (request : Request) (asked : (bytes : List ℕ) → list.bytes s ≡ Some bytes → (rest : Asked) × (requests (drop (list.place s) bytes) ≡ prepend (part.asks ++ some_request request) rest)) where
      why_write : (ms : List ℕ) → Why (played of) sink mid q part.here new ms of_play.Write → SinkFailed sink part.here new × MakesOne (played of) mid q ms
      why_write [] why = why
      why_write (n ∷ ms) why = why

      why_memory : (ms : List ℕ) → Why (played of) sink mid q part.here new ms of_play.Memory → q ≡ mid
      why_memory [] why = absurd why
      why_memory (n ∷ ms) why = why.0

      write_ends : (told : SessionStop) → Why (played of) sink mid q part.here new (frame_asked frames request) of_play.Write → told ≡ Stopped of_stop.Write → Ended told
      write_ends told why is = subst (λ x. Ended x) (sym is)
          (let both = why_write (frame_asked frames request) why in
          let failed : SinkFailed sink old new = both.0 ∙ ap risen part.steady in
          unstopped (Stopped of_stop.Write) (frame_asked frames request) both.1 (first_with request asked) failed (inr (inl refl)))

      memory_ends : (told : SessionStop) → Why (played of) sink mid q part.here new (frame_asked frames request) of_play.Memory → told ≡ Stopped of_stop.Memory → Ended told
      memory_ends told why is = subst (λ x. Ended x) (sym is)
          (unstopped (Stopped of_stop.Memory) [] (why_memory (frame_asked frames request) why) (first_asked (first_with request asked)) tt (inr (inr refl)))
        where
          first_asked : AreFirst (ns ++ frame_asked frames request) → AreFirst (ns ++ [])
          first_asked more bytes is =
              let some = more bytes is in
              (frame_asked frames request ++ some.0, some.1 ∙ append_assoc ns (frame_asked frames request) some.0 ∙ ap (λ (l : List ℕ). l ++ (frame_asked frames request ++ some.0)) (sym (append-nil ns)))

      why_stop : (ms : List ℕ) → Why (played of) sink mid q part.here new ms of_play.Stopped → (n : ℕ) × ((rest : List ℕ) × ((ms ≡ n ∷ rest) × StopsInFrame of mid n q))
      why_stop [] why = absurd why
      why_stop (n ∷ ms) why = (n, (ms, (refl, why)))

      module _ (n : ℕ) (rest : List ℕ) (are : frame_asked frames request ≡ n ∷ rest) (stops : StopsInFrame of mid n q) where
        cut_first : AreFirst (ns ++ n ∷ [])
        cut_first bytes is =
            let some = first_with request asked bytes is in
            (rest ++ some.0, some.1 ∙ ap (λ (l : List ℕ). (ns ++ l) ++ some.0) are ∙ append_assoc ns (n ∷ rest) some.0 ∙ sym (append_assoc ns (n ∷ []) (rest ++ some.0)))

        cut_window : IsCutSession plan root c.fixed.capacity stops.why q.windows ns n
        cut_window = let stays = before.keeps.stays in let cuts = stops.cuts in record {
          events = cuts.events;
          windows_are = cuts.log_is ∙ ap (λ (l : List WindowEvents). l ++ record { first = n; count = 1; events = cuts.events } ∷ []) (before.windows ∙ from_empty ns);
          cut = subst (λ i. FailedWork plan i 0 stops.why cuts.events) stays.root (subst (λ l. FailedWork l mid.core.fixed.root 0 stops.why cuts.events) stays.plan cuts.cut.cut);
          named = rw stays.plan at cuts.cut.named;
        }

        abbrev Shows : SessionStop → Type 0
        Shows told = AnswerShows plan root c.fixed.capacity (faults_of of) (book_at of c) list s t sink old new q.core.table told

        shows_stop : (why : WindowStop) (one : Stop) → names_source mid.core.fixed.plan why ≡ true → WindowStopped (held_of of) mid.core why q.core → ToldAs plan (of_render.Stopped why) one → Shows (Stopped one)
        shows_stop (worker.Read i) one named stopped_by is =
            let at_mid = before.keeps.stands (book_at of c) (faults_in (faults_of of) plan c.table) stands in
            let still = stopped_by.stands (book_at of c) at_mid.numbers at_mid.stands in
            let failed = still.with_it in
            let failure : SomeFailed (faults_of of) q.core.table = record { place = shared_place i; instance = failed.instance; there = failed.there; failed = one_failed (feed_of of) (faults_of of) (book_at of c) still.numbers _ failed.instance named failed.more } in
            subst (λ x. Shows (Stopped x)) (sym is) (inl failure)
        shows_stop (worker.Changed i frame want got) one named stopped_by (inl is) =
            let at_mid = before.keeps.stands (book_at of c) (faults_in (faults_of of) plan c.table) stands in
            let still = stopped_by.stands (book_at of c) at_mid.numbers at_mid.stands in
            let ended = stopped_by.ended in
            subst (λ x. Shows (Stopped x)) (sym is) (λ pictures there. (let none = still.with_it in absurd (cc)), early_by of ended.instance frame want got ended.early)
        shows_stop (worker.Changed i frame want got) one named stopped_by (inr is) = subst (λ x. Shows (Stopped x)) (sym is) tt
        shows_stop worker.Memory one named stopped_by is = subst (λ x. Shows (Stopped x)) (sym is) tt

        stop_told : (told : SessionStop) (one : Stop) → told ≡ Stopped one → ToldAs q.core.fixed.plan (of_render.Stopped stops.why) one → Ended told
        stop_told told one is told_as =
            let cuts = stops.cuts in
            let stays = stays_first cuts.stopped.stays in
            let as_plan = subst (λ l. ToldAs l (of_render.Stopped stops.why) one) stays.plan told_as in
            subst (λ x. Ended x) (sym is) (record {
              shows = shows_stop stops.why one cuts.cut.named cuts.stopped as_plan;
              cut = Some stops.why;
              windows_are = (ns, n, cut_first, cut_window);
              tells = tells_stop plan stops.why one as_plan;
              stays = stays;
            })

        stop_ends : (told : SessionStop) → IsToldAs q.core.fixed.plan (Play of_play.Stopped) q.stop told → Ended told
        stop_ends told is = let told_as = rw stops.stop at is in stop_told told told_as.0 told_as.1 told_as.2

      by_play : (stop : PlayStop) (told : SessionStop) → Why (played of) sink mid q part.here new (frame_asked frames request) stop → IsToldAs q.core.fixed.plan (Play stop) q.stop told → Ended told
      by_play of_play.Stopped told why is = let one = why_stop (frame_asked frames request) why in stop_ends one.0 (one.1).0 ((one.1).1).0 ((one.1).1).1 told is
      by_play of_play.Write told why is = write_ends told why is
      by_play of_play.Memory told why is = memory_ends told why is

    by_why : (why : ServeStop) (told : SessionStop) → EndsBy why → IsToldAs q.core.fixed.plan why q.stop told → Ended told
    by_why (Session fault) told ended is = by_list fault told ended is
    by_why (Play stop) told ended is =
        let un = ended.1 in
        by_play ended.0 ended.2 stop told (subst (λ m. Why (played of) sink mid q part.here new (frame_asked m ended.0) stop) same_frames un.why) is

    pub answers_some : (told : SessionStop) → IsToldAs q.core.fixed.plan stopped q.stop told → AnswersSome plan root c.fixed.capacity (faults_of of) (book_at of c) list s t sink old new q.core.table q.windows told × Stays holds_of c q.core
    answers_some told is =
        let ended = by_why stopped told part.ended is in (
          record {
            prefix = λ bytes there pictures book. part.prefix bytes there (λ n. frame_bytes_at pictures plan root n) (for_frames pictures book);
            shows = ended.shows;
            cut = ended.cut;
            windows_are = ended.windows_are;
            told = ended.tells;
          },
          ended.stays,
        )

    by_named : (why : ServeStop) → EndsBy why → StopNamed q.core.fixed.plan (Err why) q.stop
    by_named (Session fault) ended = tt
    by_named (Play of_play.Write) ended = tt
    by_named (Play of_play.Memory) ended = tt
    by_named (Play of_play.Stopped) ended =
        let un = ended.1 in
        let one = why_stop ended.0 ended.2 (frame_asked frames ended.0) (subst (λ m. Why (played of) sink mid q part.here new (frame_asked m ended.0) of_play.Stopped) same_frames un.why) in
        let stops = ((one.1).1).1 in
        let cuts = stops.cuts in
        let stays = cuts.stopped.stays in
        let named : names_source q.core.fixed.plan stops.why ≡ true = subst (λ l. names_source l stops.why ≡ true) (sym stays.plan) cuts.cut.named in
        subst (λ (o : Option WindowStop). StopNamed q.core.fixed.plan (Err (Play of_play.Stopped)) o) (sym stops.stop) named

    pub named_some : StopNamed q.core.fixed.plan (Err stopped) q.stop
    named_some = by_named stopped part.ended

  -- whether it ended early or not
  module _ (q : PlayedValue (Instance S)) where
    pub named_by : (done : Result (Unit {0}) ServeStop) → IfErr done (ServesPart (played of) sink list fresh first q s t old new) → StopNamed q.core.fixed.plan done q.stop
    named_by (Ok u) part = tt
    named_by (Err why) part = named_some q why part

    pub record Left (answer : Result (Unit {0}) SessionStop) : Type 0 where
      pub all : OnOk answer (AnswersAll plan root c.fixed.capacity (faults_of of) (book_at of c) list s t sink old new q.windows)
      pub stop : IfErr answer (AnswersSome plan root c.fixed.capacity (faults_of of) (book_at of c) list s t sink old new q.core.table q.windows)
      pub stays : Stays holds_of c q.core
      pub steady : OnOk answer (counts_in (faults_of of) q.core.table ≡ counts_in (faults_of of) c.table)

    pub left_by : (done : Result (Unit {0}) ServeStop) (answer : Result (Unit {0}) SessionStop) → OnOk done (ServesAll (played of) sink list fresh first q s t old new) → IfErr done (ServesPart (played of) sink list fresh first q s t old new)
        → IsToldSession q.core.fixed.plan done q.stop answer → Left answer
    left_by (Ok u) (Ok v) all part told =
        let made = all_made of (played of) (λ p n r m. m) first (frames_asked (frames_at plan root) all.asks) q keeps all.served.made in
        record { all = answers_all q all; stop = tt; stays = made.keeps.stays; steady = made.keeps.steady }
    left_by (Ok u) (Err stop) all part told = absurd told
    left_by (Err why) (Ok v) all part told = absurd told
    left_by (Err why) (Err stop) all part told =
        let some = answers_some q why part stop told in
        record { all = tt; stop = some.0; stays = some.1; steady = tt }

module _ {S L K : Type 0} (of : of_source.Ghosts S) (list : of_source.Ghosts L) (sink : Ghosts K) (graph : List Application) (root capacity : ℕ) (by : Pool) (sources : List (FrameSource S)) (c : CoreValue (Instance S))
    (is : IsCoreOf of c graph root capacity by sources) (s t : L) (old new : K) where
  core_keeps : Keeps (held_of of) c c
  core_keeps = keeps_first (held_of of) c is.between is.unclaimed (all_free c.table is.unlent)

  module _ (q : PlayedValue (Instance S)) (done : Result (Unit {0}) ServeStop) (ok : OnOk done (ServesAll (played of) sink list fresh (record { core = c; windows = []; stop = None }) q s t old new))
      (part : IfErr done (ServesPart (played of) sink list fresh (record { core = c; windows = []; stop = None }) q s t old new)) where
    pub stop_is_named : StopNamed q.core.fixed.plan done q.stop
    stop_is_named = named_by of list sink c is.empty core_keeps is.stands s t old new q done part

    module _ (answer : Result (Unit {0}) SessionStop) (told : IsToldSession q.core.fixed.plan done q.stop answer) where
      left : Left of list sink c is.empty core_keeps is.stands s t old new q answer
      left = left_by of list sink c is.empty core_keeps is.stands s t old new q done answer ok part told

      pub session_stays : Stays holds_of c q.core
      session_stays = left.stays

      pub session_steady : OnOk answer (counts_in (faults_of of) q.core.table ≡ counts_in (faults_of of) c.table)
      session_steady = left.steady

      answered_here : (log : Record) → windows_of log ≡ q.windows → IsAnswered c.fixed.plan c.fixed.root c.fixed.capacity (faults_of of) (book_at of c) list s t sink old new (Some log) q.core.table answer
      answered_here log windows = record { log = log; there = refl; all = rw windows left.all; stop = rw windows left.stop }

      pub session_answered : (log : Record) → windows_of log ≡ q.windows → IsAnswered graph root capacity (faults_of of) (book_told of sources) list s t sink old new (Some log) q.core.table answer
      session_answered log windows =
          subst (λ p. IsAnswered p root capacity (faults_of of) (book_told of sources) list s t sink old new (Some log) q.core.table answer) is.plan_is
          (subst (λ r. IsAnswered c.fixed.plan r capacity (faults_of of) (book_told of sources) list s t sink old new (Some log) q.core.table answer) is.root_is
          (subst (λ n. IsAnswered c.fixed.plan c.fixed.root n (faults_of of) (book_told of sources) list s t sink old new (Some log) q.core.table answer) is.capacity_is
          (subst (λ b. IsAnswered c.fixed.plan c.fixed.root c.fixed.capacity (faults_of of) b list s t sink old new (Some log) q.core.table answer) is.book_is (answered_here log windows))))

-- a failed write is told as one
told_write : (plan : List Application) (stop : Option WindowStop) (told : Result (Unit {0}) SessionStop) → IsToldSession plan (Err (Play of_play.Write)) stop told → IsErrOf told (Stopped of_stop.Write)
told_write plan stop (Ok u) is = absurd is
told_write plan stop (Err why) is = ap Err is

pub not_written : (plan : List Application) (done : Result (Unit {0}) ServeStop) (stop : Option WindowStop) (told : Result (Unit {0}) SessionStop) → IsToldSession plan done stop told
    → (IsErrOf told (Stopped of_stop.Write) → ⊥) → IsErrOf done (Play of_play.Write) → ⊥
not_written plan done stop told is other failed = other (told_write plan stop told (subst (λ (d : Result (Unit {0}) ServeStop). IsToldSession plan d stop told) failed is))

module _ {S L K : Type 0} (of : of_source.Ghosts S) (list : of_source.Ghosts L) (sink : Ghosts K) (graph : List Application) (root capacity : ℕ) (sources : List (FrameSource S)) (s t : L) (old new : K) where
  -- where no memory was found for a core nothing was answered
  pub nothing_answered : (log : Record) → windows_of log ≡ [] → (table : List (Place × Slot (Instance S))) → new ≡ old → IsAnswered graph root capacity (faults_of of) (book_told of sources) list s t sink old new (Some log) table (Err (Stopped of_stop.Memory))
  nothing_answered log windows table same = record {
    log = log;
    there = refl;
    all = tt;
    stop = record {
      prefix = λ bytes there pictures book. nothing_put (answers_over graph root capacity pictures (requests (drop (list.place s) bytes)).requests);
      shows = tt;
      cut = None;
      windows_are = ([], (λ bytes there. (numbers_asked graph root capacity (requests (drop (list.place s) bytes)).requests, refl)), windows);
      told = inr (inr refl);
    };
  }
    where
      nothing_put : (text : List ℕ) → PutsPrefix sink old new text
      nothing_put text = subst (λ k. PutsPrefix sink old k text) (sym same) (gets_none (sink.bytes old) text)
