-- What was put of a clip, from what a render of its core leaves.
use Rattle.std.proofs.Common.{◌≡◌, ◌∙◌, ℕ, zero, suc, ◌<◌, ◌≤◌, ◌==◌, min, Bool, true, false, List, [], ◌∷◌, ◌++◌, take, map, Option, Some, None, Result, Ok, Err, OnOk, IfErr, refl, inl, inr, sym, ap, subst, arith}
use Rattle.std.specs.Prelude.{All}
use Rattle.std.proofs.lemmas.List.Elements.{All-nil, All-cons, All-head, All-tail}
use Rattle.std.proofs.lemmas.List.FromFn.{length-map-range_with_len, take-map-range_with_len}
use Rattle.std.proofs.lemmas.Bool.{eqb-true, eqb-false}
use Rattle.fv_io.specs.declared.source.Source as of_source
use Rattle.fv_io.specs.declared.sink.Sink.{Ghosts}
use Rattle.fv_io.specs.Sink.{Puts, PutsPrefix, SinkFailed, IsLater}
use Rattle.fv_io.specs.Told.{with_piece}
use Rattle.fv_io.proofs.CallerLemmas.{with_piece_twice, gets_more, gets_after}
use Rattle.fv_plane.specs.Picture.{bytes_of, Clip, IsPictureOf, Picture, IsPicture}
use Rattle.fv_plane.specs.declared.format.Info.{Info}
use Rattle.y4m_stream.specs.Head.{head}
use Rattle.y4m_stream.specs.Stream.{frames_text, stream}
use Rattle.clip_term.specs.Terms.{Act, source}
use Rattle.clip_graph.specs.Plan.{Application, application_at, is_source, key_picture}
use Rattle.inst_table.specs.declared.place.Place.{Place}
use Rattle.inst_table.specs.declared.place.Slot.{Slot}
use Rattle.inst_table.specs.Places.{shared_place}
use Rattle.serve_machine.specs.declared.event.WindowStop.{WindowStop}
use Rattle.serve_machine.specs.declared.event.WindowStop.TheVariants as worker
use Rattle.serve_machine.specs.declared.windows.Record.{Record}
use Rattle.serve_machine.specs.Events.{frame_key, WindowEvents, windows_of}
use Rattle.serve_machine.specs.SerialRun.{SerialWindows, one_more_window, windows_after}
use Rattle.serve_core.specs.CoreValue.{CoreValue}
use Rattle.serve_core.specs.Sources.{book_of, faults_of as faults_in}
use Rattle.serve_core.specs.Stands.{Book, Stands, ExceedsAct}
use Rattle.serve_worker.specs.declared.instance.Instance.{Instance}
use Rattle.serve_worker.specs.declared.instance.Instance.TheVariants as of_instance
use Rattle.serve_worker.specs.Instances.{Ends, feed_of, faults_of, holds_of, held_of}
use Rattle.prefetch.specs.declared.stops.RenderStop.{RenderStop}
use Rattle.prefetch.specs.declared.stops.RenderStop.TheVariants.{Stopped, Write, Memory}
use Rattle.prefetch.specs.Windows.{pictures_from, clip_at, frames_at, pictures_text, PutsFirst}
use Rattle.prefetch.specs.Rendered.{Begins, EndsInFrame, PutsHead, HeadStops, ToldAs, TellsStop, HeadShows}
use Rattle.prefetch.proofs.TextLemmas.{text_of_part}
use Rattle.serve_text.specs.declared.stop.Stop.{Stop}
use Rattle.serve_text.specs.declared.stop.Stop.TheVariants as of_stop
use Rattle.prefetch.specs.declared.pool_size.Pool.{Pool}
use Rattle.prefetch.specs.declared.stream.RenderedClip.{RenderedClip}
use Rattle.prefetch.specs.Journals.{IsWholeBy, IsFirstBy, PutsCount, FailsWithin, CutsShort}
use Rattle.prefetch.specs.Renders.{pool_at, RendersBy, StopsBy}
use Rattle.prefetch.specs.StreamClips.{IsClipOf, SomeFailed, PutsFrames, PutsSome, StreamShows}
use Rattle.prefetch.specs.Cores.{book_at, StandsForSources, IsTold}
use Rattle.prefetch.specs.Streamed.{IsStreamed}

begins_first : (book : List (List Picture)) (plan : List Application) (root n : ℕ) → n ≤ frames_at plan root
    → Begins (record { info = (application_at plan root).info; pictures = pictures_from book plan root 0 n }) (clip_at book plan root)
begins_first book plan root n few = record {
  info = refl;
  pictures = sym (ap (λ k. take k (pictures_from book plan root 0 (frames_at plan root))) (length-map-range_with_len (λ i. key_picture book plan (frame_key root i)) 0 n)
      ∙ take-map-range_with_len (λ i. key_picture book plan (frame_key root i)) 0 (frames_at plan root) n few);
}

-- pictures of a shape that are whole
all_of : (info : Info) (pictures : List Picture) → All (λ (x : Picture). x.shape ≡ info.shape) pictures → All IsPicture pictures → All (IsPictureOf info) pictures
all_of info [] shapes whole = All-nil (IsPictureOf info)
all_of info (x ∷ xs) shapes whole =
    All-cons (IsPictureOf info) x xs (record { shape = All-head (λ (p : Picture). p.shape ≡ info.shape) x xs shapes; whole = All-head IsPicture x xs whole })
    (all_of info xs (All-tail (λ (p : Picture). p.shape ≡ info.shape) x xs shapes) (All-tail IsPicture x xs whole))

-- windows of a size go up to the last output
abbrev GoesTo : ℕ → ℕ → ℕ → Type 0
GoesTo k total n = (min k total ≤ n) × (n ≤ total)

next_of : (plan : List Application) (root capacity size total : ℕ) (done : SerialWindows) (k : ℕ) → 0 < size → GoesTo k total done.next
    → GoesTo (suc k) total (one_more_window plan root capacity size total done).next
next_of plan root capacity size total done k some goes = by_test (done.next == total) refl
  where
    low : min k total ≤ done.next
    low = goes.0

    high : done.next ≤ total
    high = goes.1

    by_test : (b : Bool) → (done.next == total) ≡ b → GoesTo (suc k) total (one_more_window plan root capacity size total done).next
    by_test true last = let all : done.next ≡ total = eqb-true done.next total last in rw last (omega (arith, all), omega (arith, all))
    by_test false more =
        let less : done.next ≡ total → ⊥ = eqb-false done.next total more in
        rw more (omega (arith, some, low, high, less), omega (arith, some, low, high, less))

next_after : (plan : List Application) (root capacity size total k : ℕ) → 0 < size → GoesTo k total (windows_after k plan root capacity size total []).next
next_after plan root capacity size total zero some = (omega arith, omega arith)
next_after plan root capacity size total (suc k) some =
    next_of plan root capacity size total (windows_after k plan root capacity size total []) k some (next_after plan root capacity size total k some)

-- the whole render begins itself
begins_itself : (plan : List Application) (root capacity : ℕ) (by : Pool) (total : ℕ) (windows : List WindowEvents) → 0 < by.window
    → IsWholeBy plan root capacity by total windows → IsFirstBy plan root capacity by total windows total
begins_itself plan root capacity by total windows some whole = record {
  alone = λ one. record {
    most = total;
    few = omega arith;
    windows_are = sym (whole.alone one);
    next_is = (let goes = next_after plan root capacity by.window total total some in let low = goes.0 in let high = goes.1 in omega (arith, low, high));
  };
  crew = λ several. whole.crew (omega (arith, several));
}

-- the stop of a worker is told as it is
pub tells_stop : (plan : List Application) (why : WindowStop) (told : Stop) → ToldAs plan (Stopped why) told → TellsStop (Some told) plan (Some why)
tells_stop plan (worker.Read node) told is = ap Some is
tells_stop plan (worker.Changed node frame want got) told (inl is) = inl (ap Some is)
tells_stop plan (worker.Changed node frame want got) told (inr is) = inr (ap Some is)
tells_stop plan worker.Memory told is = ap Some is

-- a source that exceeds its number has failed
pub one_failed : {I : Type 0} (feed : I → Option (List Picture)) (faults : I → ℕ) (book : Book) (numbers : List ℕ) (act : Act) (x : I) → is_source act ≡ true → ExceedsAct feed faults book numbers act x → 1 ≤ faults x
one_failed feed faults book numbers (source name number info) x is more = omega (arith, more)
one_failed feed faults book numbers _ x is more = absurd (cc)

module _ {S K : Type 0} (of : of_source.Ghosts S) (sink : Ghosts K) (c : CoreValue (Instance S)) (old mid new : K) (window : ℕ)
    (stands : Stands (feed_of of) (faults_of of) (book_of (feed_of of) c.fixed.plan c.table) (faults_in (faults_of of) c.fixed.plan c.table) c)
    (headed : Puts sink old mid (head (application_at c.fixed.plan c.fixed.root).info)) (quiet : sink.faults mid ≡ sink.faults old) where
  frames_put : (n : ℕ) → n ≤ frames_at c.fixed.plan c.fixed.root → PutsFirst (held_of of) c sink mid new n
      → PutsFrames sink c.fixed.plan c.fixed.root (book_of (feed_of of) c.fixed.plan c.table) old new n
  frames_put n few first = record {
    part = record { info = (application_at c.fixed.plan c.fixed.root).info; pictures = first.pictures };
    info_is = refl;
    count = first.count;
    pictures = (let put = first.put in all_of (application_at c.fixed.plan c.fixed.root).info first.pictures first.shapes put.whole);
    begins = λ clip is.
        (let told = subst (λ book. Stands (feed_of of) (faults_of of) book (faults_in (faults_of of) c.fixed.plan c.table) c) is.told stands in
        let same = first.right is.pictures (faults_in (faults_of of) c.fixed.plan c.table) told in
        let part = begins_first is.pictures c.fixed.plan c.fixed.root n few in
        subst (λ whole. Begins (record { info = (application_at c.fixed.plan c.fixed.root).info; pictures = first.pictures }) whole) (sym is.clip_is)
        (subst (λ pictures. Begins (record { info = (application_at c.fixed.plan c.fixed.root).info; pictures = pictures }) (clip_at is.pictures c.fixed.plan c.fixed.root)) (sym same) part));
    put = (let after = first.put in after.put ∙ ap (λ told. with_piece told (pictures_text first.pictures)) headed
        ∙ with_piece_twice (sink.bytes old) (head (application_at c.fixed.plan c.fixed.root).info) (pictures_text first.pictures));
    steady = (let after = first.put in after.steady ∙ quiet);
  }

  -- all frames, with their journal
  all_put : {windows : List WindowEvents} {d : CoreValue (Instance S)} → RendersBy of c sink mid new window windows d
      → PutsFrames sink c.fixed.plan c.fixed.root (book_of (feed_of of) c.fixed.plan c.table) old new (frames_at c.fixed.plan c.fixed.root)
  all_put all = frames_put (frames_at c.fixed.plan c.fixed.root) (omega arith) all.put

  some_put : (n : ℕ) → n ≤ frames_at c.fixed.plan c.fixed.root → PutsFirst (held_of of) c sink mid new n
      → PutsSome sink c.fixed.plan c.fixed.root (book_of (feed_of of) c.fixed.plan c.table) old new
  some_put n few first =
      let frames = frames_put n few first in
      inr (record { part = frames.part; pictures = frames.pictures; put = frames.put; begins = frames.begins; has_one = tt })

  count_put : (n : ℕ) → n ≤ frames_at c.fixed.plan c.fixed.root → PutsFirst (held_of of) c sink mid new n
      → PutsCount c.fixed.plan c.fixed.root c.fixed.capacity (pool_at c window) sink old new (IsClipOf c.fixed.plan c.fixed.root (book_of (feed_of of) c.fixed.plan c.table)) n
  count_put n few first =
      let frames = frames_put n few first in
      record { part = frames.part; info_is = frames.info_is; pictures = frames.pictures; count = frames.count; begins = frames.begins; put = frames.put }

  ends_by : (x : Instance S) (frame want got n : ℕ) → n ≤ frames_at c.fixed.plan c.fixed.root → PutsFirst (held_of of) c sink mid new n
      → Ends of x frame want got → EndsInFrame sink old new frame want got
  ends_by of_instance.Plain frame want got n few first ends = absurd ends
  ends_by (of_instance.Scratch width) frame want got n few first ends = absurd ends
  ends_by (of_instance.Source it) frame want got n few first ends =
      let frames = frames_put n few first in
      record {
        index = it.index;
        is_index = ends.is_index;
        inside = ends.inside;
        want_is = ends.want_is;
        early = ends.early;
        part = frames.part;
        pictures = frames.pictures;
        put = frames.put;
      }

  -- the cut text of a clip
  front_cut : (n : ℕ) → n ≤ frames_at c.fixed.plan c.fixed.root
      → ((b : List (List Picture)) (numbers : List ℕ) → Stands (feed_of of) (faults_of of) (Some b) numbers c
      → PutsPrefix sink mid new (pictures_text (pictures_from b c.fixed.plan c.fixed.root 0 n)))
      → (clip : Clip) → IsClipOf c.fixed.plan c.fixed.root (book_of (feed_of of) c.fixed.plan c.table) clip → PutsPrefix sink old new (stream clip)
  front_cut n few cut clip is =
      let told = subst (λ book. Stands (feed_of of) (faults_of of) book (faults_in (faults_of of) c.fixed.plan c.table) c) is.told stands in
      let text = pictures_text (pictures_from is.pictures c.fixed.plan c.fixed.root 0 n) in
      let start = head (application_at c.fixed.plan c.fixed.root).info in
      let after = gets_after (sink.bytes old) (sink.bytes mid) (sink.bytes new) start text headed (cut is.pictures _ told) in
      let rest = text_of_part _ _ (begins_first is.pictures c.fixed.plan c.fixed.root n few) in
      let whole = gets_more (sink.bytes old) (sink.bytes new) (start ++ text) rest.0 after in
      subst (λ other. PutsPrefix sink old new (stream other)) (sym is.clip_is) (subst (λ t. PutsPrefix sink old new t) (sym rest.1) whole)

  -- of its first frames
  within_first : (n : ℕ) → n ≤ frames_at c.fixed.plan c.fixed.root → SinkFailed sink old new
      → ((b : List (List Picture)) (numbers : List ℕ) → Stands (feed_of of) (faults_of of) (Some b) numbers c
      → PutsPrefix sink mid new (pictures_text (pictures_from b c.fixed.plan c.fixed.root 0 n)))
      → FailsWithin c.fixed.plan c.fixed.root c.fixed.capacity (pool_at c window) sink old new (IsClipOf c.fixed.plan c.fixed.root (book_of (feed_of of) c.fixed.plan c.table)) n
  within_first n few failed cut = record {
    failed = failed;
    cut = λ clip is.
        (let told = subst (λ book. Stands (feed_of of) (faults_of of) book (faults_in (faults_of of) c.fixed.plan c.table) c) is.told stands in
        let text = pictures_text (pictures_from is.pictures c.fixed.plan c.fixed.root 0 n) in
        let start = head (application_at c.fixed.plan c.fixed.root).info in
        let after = gets_after (sink.bytes old) (sink.bytes mid) (sink.bytes new) start text headed (cut is.pictures _ told) in
        subst (λ (whole : Clip). PutsPrefix sink old new (stream (record whole { pictures = take n whole.pictures }))) (sym is.clip_is)
        (subst (λ (l : List Picture). PutsPrefix sink old new (stream (record { info = (application_at c.fixed.plan c.fixed.root).info; pictures = l })))
        (sym (take-map-range_with_len (λ i. key_picture is.pictures c.fixed.plan (frame_key c.fixed.root i)) 0 (frames_at c.fixed.plan c.fixed.root) n few)) after));
  }

  module _ (windows : List WindowEvents) (d : CoreValue (Instance S)) where
    plan_stays : (stop : RenderStop) → StopsBy of c sink mid new window windows d stop → d.fixed.plan ≡ c.fixed.plan
    plan_stays (Stopped why) shown = let stays = shown.stays in stays.plan
    plan_stays Write shown = let stays = shown.stays in stays.plan
    plan_stays Memory shown = let stays = shown.stays in stays.plan

    -- what a stop shows
    stream_stops : (stop : RenderStop) (told : Stop) → IsLater sink old mid → StopsBy of c sink mid new window windows d stop → ToldAs c.fixed.plan stop told
        → StreamShows sink c.fixed.plan c.fixed.root (book_of (feed_of of) c.fixed.plan c.table) old new (faults_of of) d.table told
    stream_stops (Stopped (worker.Read i)) told later shown is =
        let still = shown.stands _ _ stands in
        let failed = still.with_it in
        let failure : SomeFailed (faults_of of) d.table = record { place = shared_place i; instance = failed.instance; there = failed.there; failed = one_failed (feed_of of) (faults_of of) (book_of (feed_of of) c.fixed.plan c.table) still.numbers _ failed.instance shown.journal.named failed.more } in
        subst (StreamShows sink c.fixed.plan c.fixed.root (book_of (feed_of of) c.fixed.plan c.table) old new (faults_of of) d.table) (sym is) (failure, some_put shown.count shown.few shown.put)
    stream_stops (Stopped (worker.Changed i frame want got)) told later shown (inl is) =
        let still = shown.stands _ _ stands in
        let ended = shown.ended in
        subst (StreamShows sink c.fixed.plan c.fixed.root (book_of (feed_of of) c.fixed.plan c.table) old new (faults_of of) d.table) (sym is)
        (λ pictures there. (let none = still.with_it in absurd (cc)), ends_by ended.instance frame want got shown.count shown.few shown.put ended.early)
    stream_stops (Stopped (worker.Changed i frame want got)) told later shown (inr is) =
        subst (StreamShows sink c.fixed.plan c.fixed.root (book_of (feed_of of) c.fixed.plan c.table) old new (faults_of of) d.table) (sym is) (some_put shown.count shown.few shown.put)
    stream_stops (Stopped worker.Memory) told later shown is =
        subst (StreamShows sink c.fixed.plan c.fixed.root (book_of (feed_of of) c.fixed.plan c.table) old new (faults_of of) d.table) (sym is) (some_put shown.count shown.few shown.put)
    stream_stops Write told later shown is =
        let failed : SinkFailed sink old new = omega (arith, later, shown.failed) in
        subst (StreamShows sink c.fixed.plan c.fixed.root (book_of (feed_of of) c.fixed.plan c.table) old new (faults_of of) d.table) (sym is) (failed, front_cut shown.count shown.few shown.cut)
    stream_stops Memory told later shown is =
        subst (StreamShows sink c.fixed.plan c.fixed.root (book_of (feed_of of) c.fixed.plan c.table) old new (faults_of of) d.table) (sym is) (some_put shown.count shown.few shown.put)

  -- and of the journal
  cut_short : (log : Record) (d : CoreValue (Instance S)) (stop : RenderStop) (told : Stop) → IsLater sink old mid → StopsBy of c sink mid new window (windows_of log) d stop → ToldAs c.fixed.plan stop told
      → CutsShort c.fixed.plan c.fixed.root c.fixed.capacity (pool_at c window) sink old new (IsClipOf c.fixed.plan c.fixed.root (book_of (feed_of of) c.fixed.plan c.table)) (TellsStop (Some told) c.fixed.plan) (Some log)
  cut_short log d (Stopped why) told later shown is = (Some why, tells_stop c.fixed.plan why told is, record { n = shown.count; few = shown.few; windows = shown.journal; put = inl (count_put shown.count shown.few shown.put) })
  cut_short log d Write told later shown is = (None, inr (inl (ap Some is)), record { n = shown.count; few = shown.few; windows = shown.journal; put = inr (within_first shown.count shown.few (omega (arith, later, shown.failed)) shown.cut) })
  cut_short log d Memory told later shown is = (None, inr (inr (ap Some is)), record { n = shown.count; few = shown.few; windows = shown.journal; put = inl (count_put shown.count shown.few shown.put) })

  -- the whole serial run begins the serial run
  whole_short : (log : Record) (d : CoreValue (Instance S)) → 0 < window → RendersBy of c sink mid new window (windows_of log) d
      → CutsShort c.fixed.plan c.fixed.root c.fixed.capacity (pool_at c window) sink old new (IsClipOf c.fixed.plan c.fixed.root (book_of (feed_of of) c.fixed.plan c.table)) (TellsStop None c.fixed.plan) (Some log)
  whole_short log d some all = (
    None,
    inl refl,
    record {
      n = frames_at c.fixed.plan c.fixed.root;
      few = omega arith;
      windows = begins_itself c.fixed.plan c.fixed.root c.fixed.capacity (pool_at c window) (frames_at c.fixed.plan c.fixed.root) (windows_of log) some all.journal;
      put = inl (count_put (frames_at c.fixed.plan c.fixed.root) (omega arith) all.put);
    },
  )

  -- the head was put, and what a render puts after it
  head_then : (rest : List ℕ) → Puts sink mid new rest → PutsHead sink old new (λ info. info ≡ (application_at c.fixed.plan c.fixed.root).info)
  head_then rest put = record {
    info = (application_at c.fixed.plan c.fixed.root).info;
    is = refl;
    rest = rest;
    put = put ∙ ap (λ told. with_piece told rest) headed ∙ with_piece_twice (sink.bytes old) (head (application_at c.fixed.plan c.fixed.root).info) rest;
  }

  head_of_all : (log : Record) (d : CoreValue (Instance S)) (told : Option Stop) → RendersBy of c sink mid new window (windows_of log) d
      → HeadShows sink old new (λ info. info ≡ (application_at c.fixed.plan c.fixed.root).info) told (Some log)
  head_of_all log d told all = let first = all.put in let put = first.put in head_then (pictures_text first.pictures) put.put

  head_of_stop : (log : Record) (d : CoreValue (Instance S)) (told : Option Stop) (stop : RenderStop) → StopsBy of c sink mid new window (windows_of log) d stop
      → HeadShows sink old new (λ info. info ≡ (application_at c.fixed.plan c.fixed.root).info) told (Some log)
  head_of_stop log d told (Stopped why) shown = let first = shown.put in let put = first.put in head_then (pictures_text first.pictures) put.put
  head_of_stop log d told Write shown = let begun = shown.begun in head_then begun.0 begun.1
  head_of_stop log d told Memory shown = let first = shown.put in let put = first.put in head_then (pictures_text first.pictures) put.put

  streamed_whole : (log : Record) (d : CoreValue (Instance S)) (all : RenderedClip) → 0 < window → all ≡ record { frames = frames_at c.fixed.plan c.fixed.root; workers = c.fixed.workers; graph = c.fixed.plan } → RendersBy of c sink mid new window (windows_of log) d
      → IsStreamed (faults_of of) c.fixed.plan c.fixed.root c.fixed.capacity (pool_at c window) (book_at of c) sink old new (Some log) d.table (Ok all)
  streamed_whole log d all some is whole = record {
    put = subst (PutsFrames sink c.fixed.plan c.fixed.root (book_at of c) old new) (sym (ap (λ (x : RenderedClip). x.frames) is)) (all_put whole);
    frames = ap (λ (x : RenderedClip). x.frames) is;
    graph = ap (λ (x : RenderedClip). x.graph) is;
    workers = ap (λ (x : RenderedClip). x.workers) is;
    stop = tt;
    rendered = record { log = log; there = refl; whole = whole.journal };
    cut = whole_short log d some whole;
    head = head_of_all log d None whole;
  }

  streamed_short : (log : Record) (d : CoreValue (Instance S)) (why : RenderStop) (told : Stop) → IsLater sink old mid → ToldAs c.fixed.plan why told → StopsBy of c sink mid new window (windows_of log) d why
      → IsStreamed (faults_of of) c.fixed.plan c.fixed.root c.fixed.capacity (pool_at c window) (book_at of c) sink old new (Some log) d.table (Err told)
  streamed_short log d why told later is stopped = record {
    put = tt;
    frames = tt;
    graph = tt;
    workers = tt;
    stop = stream_stops (windows_of log) d why told later stopped is;
    rendered = tt;
    cut = cut_short log d why told later stopped is;
    head = head_of_stop log d (Some told) why stopped;
  }

  streamed_by : (log : Record) (d : CoreValue (Instance S)) (done : Result (Unit {0}) RenderStop) (answer : Result RenderedClip Stop) → 0 < window → IsLater sink old mid
      → OnOk done (RendersBy of c sink mid new window (windows_of log) d) → IfErr done (StopsBy of c sink mid new window (windows_of log) d)
      → IsTold d.fixed.plan d.fixed.workers done (frames_at c.fixed.plan c.fixed.root) c.fixed.plan answer
      → IsStreamed (faults_of of) c.fixed.plan c.fixed.root c.fixed.capacity (pool_at c window) (book_at of c) sink old new (Some log) d.table answer
  streamed_by log d (Ok u) (Ok all) some later whole stopped is =
      streamed_whole log d all some (is ∙ ap (λ n. record { frames = frames_at c.fixed.plan c.fixed.root; workers = n; graph = c.fixed.plan }) whole.stays.workers) whole
  streamed_by log d (Ok u) (Err told) some later whole stopped is = absurd is
  streamed_by log d (Err why) (Ok all) some later whole stopped is = absurd is
  streamed_by log d (Err why) (Err told) some later whole stopped is =
      streamed_short log d why told later (subst (λ plan. ToldAs plan why told) (plan_stays (windows_of log) d why stopped) is) stopped

-- where the head was not put whole
module _ {K : Type 0} (sink : Ghosts K) (old new : K) where
  -- a head that was not put whole
  head_stops : {S : Type 0} (of : of_source.Ghosts S) (plan : List Application) (root : ℕ) (table : List (Place × Slot (Instance S))) (stop : Stop)
      → HeadStops sink old new (head (application_at plan root).info) stop → StreamShows sink plan root (book_of (feed_of of) plan table) old new (faults_of of) table stop
  head_stops of plan root table (of_stop.Script kind name line) shown = absurd shown
  head_stops of plan root table (of_stop.Input name fault) shown = absurd shown
  head_stops of plan root table (of_stop.Changed name frame want got) shown = absurd shown
  head_stops of plan root table (of_stop.File name fault) shown = absurd shown
  head_stops of plan root table of_stop.Read shown = absurd shown
  head_stops of plan root table of_stop.Write shown = (
    shown.0,
    λ clip is.
        (let text = frames_text (map bytes_of (let whole = clip_at is.pictures plan root in whole.pictures)) in
        subst (λ whole. PutsPrefix sink old new (stream whole)) (sym is.clip_is) (gets_more (sink.bytes old) (sink.bytes new) (head (application_at plan root).info) text shown.1)),
  )
  head_stops of plan root table of_stop.Memory shown = inl (ap sink.bytes shown)

  -- and there is no journal then
  head_unput : (info : Info) (stop : Stop) → HeadStops sink old new (head info) stop → HeadShows sink old new (λ i. i ≡ info) (Some stop) None
  head_unput info (of_stop.Script kind name line) shown = absurd shown
  head_unput info (of_stop.Input name fault) shown = absurd shown
  head_unput info (of_stop.Changed name frame want got) shown = absurd shown
  head_unput info (of_stop.File name fault) shown = absurd shown
  head_unput info of_stop.Read shown = absurd shown
  head_unput info of_stop.Write shown = inr (refl, record { info = info; is = refl; failed = shown.0; cut = shown.1 })
  head_unput info of_stop.Memory shown = inl (ap sink.bytes shown)

module _ {S K : Type 0} (of : of_source.Ghosts S) (sink : Ghosts K) (c : CoreValue (Instance S)) (window : ℕ) (info : Info) where
  -- what is left where the head was not put whole
  pub streamed_headless : (old new : K) (stop : Stop) (journal : Option Record) → info ≡ (application_at c.fixed.plan c.fixed.root).info → HeadStops sink old new (head info) stop → journal ≡ None
      → IsStreamed (faults_of of) c.fixed.plan c.fixed.root c.fixed.capacity (pool_at c window) (book_at of c) sink old new journal c.table (Err stop)
  streamed_headless old new stop journal same stopped none =
      let there = rw same at stopped in
      subst (λ j. IsStreamed (faults_of of) c.fixed.plan c.fixed.root c.fixed.capacity (pool_at c window) (book_at of c) sink old new j c.table (Err stop)) (sym none)
      (record {
        put = tt;
        frames = tt;
        graph = tt;
        workers = tt;
        stop = head_stops sink old new of c.fixed.plan c.fixed.root c.table stop there;
        rendered = tt;
        cut = tt;
        head = head_unput sink old new (application_at c.fixed.plan c.fixed.root).info stop there;
      })

  -- what is left after the head and a render
  pub streamed : (old mid new : K) (log : Record) (d : CoreValue (Instance S)) (done : Result (Unit {0}) RenderStop) (graph : List Application) (answer : Result RenderedClip Stop)
      → 0 < window → StandsForSources of c → info ≡ (application_at c.fixed.plan c.fixed.root).info → Puts sink old mid (head info) → sink.faults mid ≡ sink.faults old → IsLater sink old mid → graph ≡ c.fixed.plan
      → OnOk done (RendersBy of c sink mid new window (windows_of log) d) → IfErr done (StopsBy of c sink mid new window (windows_of log) d) → IsTold d.fixed.plan d.fixed.workers done info.frames graph answer
      → IsStreamed (faults_of of) c.fixed.plan c.fixed.root c.fixed.capacity (pool_at c window) (book_at of c) sink old new (Some log) d.table answer
  streamed old mid new log d done graph answer some stands same headed quiet later graph_is whole stopped is =
      streamed_by of sink c old mid new window stands (rw same at headed) quiet log d done answer some later whole stopped
      (subst (λ frames. IsTold d.fixed.plan d.fixed.workers done frames c.fixed.plan answer) (ap (λ (i : Info). i.frames) same) (subst (λ g. IsTold d.fixed.plan d.fixed.workers done info.frames g answer) graph_is is))
