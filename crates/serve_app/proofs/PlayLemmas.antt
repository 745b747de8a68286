-- A clip that was put, and what a script means.
use Rattle.std.proofs.Common.{◌≡◌, ◌∙◌, ◌⊎◌, ℕ, zero, suc, ◌<◌, arith, Bool, true, false, IsTrue, List, [], ◌∷◌, ◌++◌, length, map, get_or, slice_get, Option, Some, None, Result, Ok, Err, IfErr, refl, inl, inr, sym, ap, ap₂, subst}
use Rattle.std.proofs.lemmas.List.{take_all, length-map}
use Rattle.std.proofs.lemmas.List.FromFn.{length-range_with_len}
use Rattle.std.specs.List.{range_with_len}
use Rattle.fv_io.specs.Faults.{HasRisen}
use Rattle.fv_io.specs.World.{World, InWorld}
use Rattle.fv_io.specs.Told.{with_piece}
use Rattle.fv_io.specs.declared.source.Source as of_source
use Rattle.fv_io.specs.declared.sink.Sink.{Ghosts}
use Rattle.fv_io.specs.Sink.{Puts, PutsPrefix}
use Rattle.fv_plane.specs.declared.format.Info.{Info}
use Rattle.fv_plane.specs.Picture.{bytes_of, Clip, Picture}
use Rattle.y4m_stream.specs.Head.{head}
use Rattle.y4m_stream.specs.Stream.{frames_text, stream}
use Rattle.seq_source.specs.FrameSource.{FrameSource, frames_of as frames_in}
use Rattle.seq_source.proofs.CallerLemmas.{clip_told}
use Rattle.clip_term.specs.Terms.{Act, source}
use Rattle.clip_graph.specs.Plan.{Application, application_at, IsPlan, key_picture}
use Rattle.serve_worker.specs.Sources.{AreSources, source_infos}
use Rattle.inst_table.specs.declared.place.Place.{Place}
use Rattle.inst_table.specs.declared.place.Slot.{Slot}
use Rattle.serve_text.specs.InfoText.{info_text}
use Rattle.avs_meaning.specs.State.{Numbers, workers, window}
use Rattle.serve_machine.specs.declared.windows.Record.{Record}
use Rattle.serve_machine.specs.Events.{frame_key}
use Rattle.prefetch.specs.Windows.{clip_at, pool}
use Rattle.avs_eval.specs.Evaluates.{Evaluates}
use Rattle.avs_eval.specs.declared.evaluation.Opened.{Opened}
use Rattle.avs_meaning.specs.Faults as f
use Rattle.avs_meaning.specs.Faults.{Fault, input}
use Rattle.avs_meaning.specs.Meaning as m
use Rattle.avs_meaning.specs.declared.state.SourceClip.{SourceClip}
use Rattle.avs_meaning.specs.declared.stop.EvalError.{EvalError}
use Rattle.avs_meaning.specs.declared.stop.EvalError.TheVariants as of_text
use Rattle.avs_state.specs.Sources.{source_of, sources_of}
use Rattle.avs_files.specs.Opened.{told_of, IsOpened, AreOpened}
use Rattle.avs_files.proofs.CallerLemmas.{frames_of, has_clip, infos_listed}
use Rattle.serve_text.specs.declared.stop.Stop.{Stop}
use Rattle.serve_text.specs.declared.stop.Stop.TheVariants as of_stop
use Rattle.serve_text.specs.StopKinds.{stop_of}
use Rattle.serve_app.specs.Meaning.{meaning_in, HasPictures, IsBookOf, MeansClip}
use Rattle.serve_app.specs.Info.{IsInfoOf, IsToldInfo, InfoShows, PutsInfo}
use Rattle.prefetch.specs.StreamClips.{book_told, IsClipOf, SomeFailed, PutsFrames, PutsSome, StreamShows}
use Rattle.prefetch.specs.declared.pool_size.PoolSize.{PoolSize}
use Rattle.prefetch.specs.declared.stream.RenderedClip.{RenderedClip}
use Rattle.prefetch.specs.Streamed.{IsStreamed}
use Rattle.prefetch.specs.Journals.{IsRendered, PutsCount, FailsWithin, CutsShort}
use Rattle.serve_app.specs.Journals.{IsPool, IsPlanOf, IsScriptRendered, IsRunOf, ScriptCuts}
use Rattle.serve_app.specs.Renders.{IsScriptRender, PutsClip}
use Rattle.serve_app.specs.Opening.{Tells, EndsBefore}
use Rattle.prefetch.specs.Rendered.{PutsWholeFrames, TellsStop, HeadShows}
use Rattle.serve_core.specs.Stands.{Book}
use Rattle.serve_app.specs.Stop.{IsOfScript, ScriptHasClip, HasInfo, IsByScript, RenderShows}
use Rattle.serve_app.proofs.MeaningLemmas.{same_plan, same_root, same_crew}

-- ---- worlds that are told

pub told_same : (told : Bool) (world other : World) → told_of told world ≡ Some other → IsTrue told × (world ≡ other)
told_same true world other is = (refl, cc)
told_same false world other is = cc is

pub in_told : (told : Bool) (world : World) (P : World → Type 0) → (IsTrue told → P world) → InWorld (told_of told world) P
in_told told world P holds other is =
    let same = told_same told world other is in
    rw same.1 at (holds same.0)

-- ---- the sources of a plan

by_act : (act : Act) (inputs : List ℕ) (info : Info) (mode depth : ℕ) (rest : List Application) → map (λ (one : SourceClip). one.info) (sources_of rest) ≡ source_infos rest
    → map (λ (one : SourceClip). one.info) (source_of act ++ sources_of rest) ≡ source_infos (record { act = act; inputs = inputs; info = info; mode = mode; depth = depth } ∷ rest)
by_act (source name number info) inputs shown mode depth rest is = ap (λ l. info ∷ l) is
by_act _ inputs shown mode depth rest is = is

pub infos_are : (plan : List Application) → map (λ (one : SourceClip). one.info) (sources_of plan) ≡ source_infos plan
infos_are [] = refl
infos_are (application ∷ rest) = by_act application.act application.inputs application.info application.mode application.depth rest (infos_are rest)

module _ {S : Type 0} (of : of_source.Ghosts S) (told : Bool) (world : World) where
  -- the opened sources are those of a plan that lists them
  pub fit : (plan : List Application) (listed : List SourceClip) (sources : List (FrameSource S)) → sources_of plan ≡ listed → AreOpened of told world listed sources
      → AreSources plan sources
  fit plan listed sources same are =
      infos_listed of told world listed sources are ∙ ap (map (λ (one : SourceClip). one.info)) (sym same) ∙ infos_are plan

  -- a source tells the pictures of its file
  source_told : (one : SourceClip) (it : FrameSource S) (pictures : List Picture) → IsOpened of told world one it → IsTrue told → HasPictures world one.name pictures → frames_in of it ≡ Some pictures
  source_told one it pictures opened tells is =
      let has = frames_of of told world one it opened tells is.clip is.file in
      let sound = opened.sound in
      clip_told of it is.clip has sound.count ∙ ap Some (sym is.pictures_are)

  told_by : (listed : List SourceClip) (sources : List (FrameSource S)) (book : List (List Picture)) → length listed ≡ length sources → length book ≡ length listed → IsTrue told
      → ((k : ℕ) (one : SourceClip) (it : FrameSource S) → slice_get listed k ≡ Some one → slice_get sources k ≡ Some it → IsOpened of told world one it)
      → ((k : ℕ) (one : SourceClip) → slice_get listed k ≡ Some one → HasPictures world one.name (get_or book k []))
      → book_told of sources ≡ Some book
  told_by [] [] [] long count tells each has = refl
  told_by [] [] (z ∷ zs) long count tells each has = absurd (omega (arith, count))
  told_by [] (y ∷ ys) book long count tells each has = absurd (omega (arith, long))
  told_by (x ∷ xs) [] book long count tells each has = absurd (omega (arith, long))
  told_by (x ∷ xs) (y ∷ ys) [] long count tells each has = absurd (omega (arith, count))
  told_by (x ∷ xs) (y ∷ ys) (z ∷ zs) long count tells each has =
      let first : frames_in of y ≡ Some z = source_told x y z (each zero x y refl refl) tells (has zero x refl) in
      let rest : book_told of ys ≡ Some zs = told_by xs ys zs (omega (arith, long)) (omega (arith, count)) tells (λ k a b here there. each (suc k) a b here there) (λ k a here. has (suc k) a here) in
      rw (first, rest) refl

  -- the pictures of the files are those of the sources
  pub to_book : (listed : List SourceClip) (sources : List (FrameSource S)) (book : List (List Picture)) → AreOpened of told world listed sources → IsTrue told
      → IsBookOf world listed book → book_told of sources ≡ Some book
  to_book listed sources book are tells is = told_by listed sources book are.count is.count tells are.each is.each

  more_books : (x : SourceClip) (xs : List SourceClip) (pictures : List Picture) (book : List (List Picture)) → HasPictures world x.name pictures
      → ((k : ℕ) (one : SourceClip) → slice_get xs k ≡ Some one → HasPictures world one.name (get_or book k []))
      → (k : ℕ) (one : SourceClip) → slice_get (x ∷ xs) k ≡ Some one → HasPictures world one.name (get_or (pictures ∷ book) k [])
  more_books x xs pictures book first rest zero one is = let same : x ≡ one = cc in rw same at first
  more_books x xs pictures book first rest (suc k) one is = rest k one is

  book_by : (listed : List SourceClip) (sources : List (FrameSource S)) → length listed ≡ length sources → IsTrue told
      → ((k : ℕ) (one : SourceClip) (it : FrameSource S) → slice_get listed k ≡ Some one → slice_get sources k ≡ Some it → IsOpened of told world one it)
      → (book : List (List Picture)) × IsBookOf world listed book
  book_by [] [] long tells each = ([], record { count = refl; each = λ k one is. cc is })
  book_by [] (y ∷ ys) long tells each = absurd (omega (arith, long))
  book_by (x ∷ xs) [] long tells each = absurd (omega (arith, long))
  book_by (x ∷ xs) (y ∷ ys) long tells each =
      let one = has_clip of told world x y (each zero x y refl refl) tells in
      let rest = book_by xs ys (omega (arith, long)) tells (λ k a b here there. each (suc k) a b here there) in
      let clip = one.0 in
      let book = rest.1 in (
        clip.pictures ∷ rest.0,
        record {
          count = omega (arith, book.count);
          each = more_books x xs clip.pictures rest.0 (record { clip = clip; file = one.1; pictures_are = refl }) book.each;
        },
      )

  -- the files have pictures
  pub a_book : (listed : List SourceClip) (sources : List (FrameSource S)) → AreOpened of told world listed sources → IsTrue told
      → (book : List (List Picture)) × IsBookOf world listed book
  a_book listed sources are tells = book_by listed sources are.count tells are.each

-- ---- the clip of a script

module _ {S : Type 0} (of : of_source.Ghosts S) (told : Bool) (world : World) (script : List ℕ) (plan : List Application) (root : ℕ) (crew : Option Numbers)
    (listed : List SourceClip) (sources : List (FrameSource S)) (same : sources_of plan ≡ listed) (are : AreOpened of told world listed sources)
    (means : IsTrue told → meaning_in world script ≡ m.clip plan root crew) where
  pub a_clip_at : IsTrue told → (clip : Clip) × MeansClip world script clip
  a_clip_at tells =
      let book = a_book of told world listed sources are tells in
      (clip_at book.0 plan root, record { plan = plan; root = root; crew = crew; means = means tells; book = book.0; is_book = subst (λ l. IsBookOf world l book.0) (sym same) book.1; clip_is = refl })

  pub has_one : ScriptHasClip (told_of told world) script
  has_one = in_told told world (λ w. (clip : Clip) × MeansClip w script clip) a_clip_at

  pub of_means : IsTrue told → (clip : Clip) → MeansClip world script clip → IsClipOf plan root (book_told of sources) clip
  of_means tells clip is =
      let both = sym is.means ∙ means tells in
      let plans = same_plan is.plan plan is.root root is.crew crew both in
      let roots = same_root is.plan plan is.root root is.crew crew both in
      let book : IsBookOf world listed is.book = rw (ap sources_of plans ∙ same) at is.is_book in
      record {
        pictures = is.book;
        told = to_book of told world listed sources is.book are tells book;
        clip_is = is.clip_is ∙ ap (λ p. clip_at is.book p is.root) plans ∙ ap (λ i. clip_at is.book plan i) roots;
      }

  -- what a script means is the clip of its plan
  pub of_script : (clip : Clip) → IsOfScript (told_of told world) script clip → IsClipOf plan root (book_told of sources) clip
  of_script clip is =
      let both = told_same told world is.world is.told_is in
      of_means both.0 clip (rw (sym both.1) at is.means)

  module _ {K : Type 0} (sink : Ghosts K) (out put : K) where
    whole_clip : PutsFrames sink plan root (book_told of sources) out put (application_at plan root).info.frames → (clip : Clip) → IsClipOf plan root (book_told of sources) clip → Puts sink out put (stream clip)
    whole_clip frames clip is =
        let part = frames.part in
        let begins = frames.begins clip is in
        let count : length clip.pictures ≡ (application_at plan root).info.frames
        = ap (λ (c : Clip). length c.pictures) is.clip_is ∙ length-map (range_with_len 0 (application_at plan root).info.frames) (λ n. key_picture is.pictures plan (frame_key root n))
        ∙ length-range_with_len 0 (application_at plan root).info.frames in
        let all : part.pictures ≡ clip.pictures = begins.pictures ∙ take_all (length part.pictures) clip.pictures (omega (arith, frames.count, count)) in
        frames.put ∙ ap (λ (i : Info). with_piece (sink.bytes out) (head i ++ frames_text (map bytes_of part.pictures))) begins.info
        ∙ ap (λ (l : List Picture). with_piece (sink.bytes out) (head clip.info ++ frames_text (map bytes_of l))) all

    -- all frames are the clip
    pub all_frames : (frames : ℕ) → frames ≡ (application_at plan root).info.frames → PutsFrames sink plan root (book_told of sources) out put frames
        → InWorld (told_of told world) (λ w. PutsClip sink w script out put frames)
    unfolding a_clip_at
    all_frames frames all some = in_told told world (λ w. PutsClip sink w script out put frames) (λ tells.
        (let one = a_clip_at tells in
        record {
          clip = one.0;
          means = one.1;
          put = whole_clip (rw all at some) one.0 (of_means tells one.0 one.1);
          frames_are = all ∙ ap (λ (c : Clip). c.info.frames) (sym (let is = one.1 in is.clip_is));
        }))

    some_frames : PutsSome sink plan root (book_told of sources) out put → PutsWholeFrames sink out put (IsOfScript (told_of told world) script) (ScriptHasClip (told_of told world) script)
    some_frames (inl none) = inl none
    some_frames (inr frames) = inr (record { part = frames.part; pictures = frames.pictures; put = frames.put; begins = λ clip is. frames.begins clip (of_script clip is); has_one = has_one })

    pub none_of : ((pictures : List (List Picture)) → book_told of sources ≡ Some pictures → ⊥) → IsTrue told → ⊥
    none_of none tells =
        let book = a_book of told world listed sources are tells in
        none book.0 (to_book of told world listed sources book.0 are tells book.1)

    -- what a stop of the stream shows
    pub stream_shown : {I : Type 0} (faults : I → ℕ) (table : List (Place × Slot I)) (failed : Type 0) → (SomeFailed faults table → failed) → (stop : Stop)
        → StreamShows sink plan root (book_told of sources) out put faults table stop → RenderShows failed sink (told_of told world) script out put stop
    stream_shown faults table failed fails (of_stop.Script kind name line) shown = absurd shown
    stream_shown faults table failed fails (of_stop.Input name fault) shown = absurd shown
    stream_shown faults table failed fails (of_stop.Changed name frame want got) shown = (in_told told world (λ w. ⊥) (none_of shown.0), shown.1)
    stream_shown faults table failed fails (of_stop.File name fault) shown = absurd shown
    stream_shown faults table failed fails of_stop.Read shown = (fails shown.0, some_frames shown.1)
    stream_shown faults table failed fails of_stop.Write shown = (shown.0, record { prefix = λ clip is. shown.1 clip (of_script clip is); has_one = has_one })
    stream_shown faults table failed fails of_stop.Memory shown = some_frames shown

    pub plan_of : IsPlan plan → root < length plan → IsPlanOf (told_of told world) script plan root
    plan_of is inside = record { is_plan = is; inside = inside; crew = crew; means = in_told told world (λ w. meaning_in w script ≡ m.clip plan root crew) means }

    module _ (capacity : ℕ) (pool_size : PoolSize) where
      -- and of the journal
      script_rendered : (journal : Option Record) → IsPlan plan → root < length plan → IsPool (pool pool_size crew) → IsRendered plan root capacity (pool pool_size crew) journal
          → IsScriptRendered (told_of told world) script capacity pool_size journal
      unfolding plan_of
      script_rendered journal is inside is_pool rendered = record { plan = plan; root = root; is_plan = plan_of is inside; is_pool = is_pool; rendered = rendered }

      -- and of the graph that was kept, and of the workers
      pub script_run : (journal : Option Record) → IsPlan plan → root < length plan → IsPool (pool pool_size crew) → IsRendered plan root capacity (pool pool_size crew) journal
          → (kept : List Application) → kept ≡ plan → (workers : ℕ) → workers ≡ (pool pool_size crew).workers
          → IsRunOf (told_of told world) script capacity pool_size journal kept workers
      unfolding script_rendered plan_of
      script_run journal is inside is_pool rendered kept is_kept workers are_workers =
          record { run = script_rendered journal is inside is_pool rendered; plan_is = sym is_kept; workers_are = sym are_workers }

      count_of : (n : ℕ)
          → PutsCount plan root capacity (pool pool_size crew) sink out put (IsClipOf plan root (book_told of sources)) n ⊎ FailsWithin plan root capacity (pool pool_size crew) sink out put (IsClipOf plan root (book_told of sources)) n
          → PutsCount plan root capacity (pool pool_size crew) sink out put (IsOfScript (told_of told world) script) n ⊎ FailsWithin plan root capacity (pool pool_size crew) sink out put (IsOfScript (told_of told world) script) n
      count_of n (inl some) = inl (record { part = some.part; info_is = some.info_is; pictures = some.pictures; count = some.count; begins = λ clip is. some.begins clip (of_script clip is); put = some.put })
      count_of n (inr cut) = inr (record { failed = cut.failed; cut = λ clip is. cut.cut clip (of_script clip is) })

      pub script_cuts : (answer : Option Stop) (journal : Option Record) → IsPlan plan → root < length plan
          → CutsShort plan root capacity (pool pool_size crew) sink out put (IsClipOf plan root (book_told of sources)) (TellsStop answer plan) journal
          → ScriptCuts (told_of told world) script capacity pool_size sink out put (TellsStop answer) journal
      unfolding plan_of
      script_cuts answer None is inside cut = tt
      script_cuts answer (Some log) is inside cut =
          let short = cut.2 in
          record { plan = plan; root = root; is_plan = plan_of is inside; stop = cut.0; ends = cut.1; cut = record { n = short.n; few = short.few; windows = short.windows; put = count_of short.n short.put } }

    -- the info of the plan is that of the clip
    info_of_clip : (info : Info) → info ≡ (application_at plan root).info → HasInfo (told_of told world) script info
    unfolding a_clip_at
    info_of_clip info is = in_told told world (λ w. (clip : Clip) × MeansClip w script clip × (info ≡ clip.info)) (λ tells.
        (let one = a_clip_at tells in (one.0, one.1, is ∙ ap (λ (c : Clip). c.info) (sym (let means = one.1 in means.clip_is)))))

    -- and of the head
    pub script_head : (answer : Option Stop) (journal : Option Record) → HeadShows sink out put (λ info. info ≡ (application_at plan root).info) answer journal
        → HeadShows sink out put (HasInfo (told_of told world) script) answer journal
    script_head answer None (inl none) = inl none
    script_head answer None (inr (failed, cut)) = inr (failed, record { info = cut.info; is = info_of_clip cut.info cut.is; failed = cut.failed; cut = cut.cut })
    script_head answer (Some log) headed = record { info = headed.info; is = info_of_clip headed.info headed.is; rest = headed.rest; put = headed.put }

    -- all of it
    pub script_render : {I : Type 0} (faults : I → ℕ) (table : List (Place × Slot I)) (failed : Type 0) → (SomeFailed faults table → failed)
        → (capacity : ℕ) (pool_size : PoolSize) (journal : Option Record) (done : Result RenderedClip Stop) → IsPlan plan → root < length plan → IsPool (pool pool_size crew)
        → IsStreamed faults plan root capacity (pool pool_size crew) (book_told of sources) sink out put journal table done
        → IsScriptRender (told_of told world) script capacity pool_size failed sink out put journal done
    script_render faults table failed fails capacity pool_size journal (Ok all) is inside is_pool streamed = record {
      whole = all_frames all.frames streamed.frames streamed.put;
      stop = tt;
      untorn = (let put = streamed.put in record { part = put.part; pictures = put.pictures; put = put.put });
      rendered = script_run capacity pool_size journal is inside is_pool streamed.rendered all.graph streamed.graph all.workers streamed.workers;
      cut = script_cuts capacity pool_size None journal is inside streamed.cut;
      head = script_head None journal streamed.head;
    }
    script_render faults table failed fails capacity pool_size journal (Err stop) is inside is_pool streamed = record {
      whole = tt;
      stop = stream_shown faults table failed fails stop streamed.stop;
      untorn = tt;
      rendered = tt;
      cut = script_cuts capacity pool_size (Some stop) journal is inside streamed.cut;
      head = script_head (Some stop) journal streamed.head;
    }

-- ---- a script without a clip

-- the stop of a script is told as a stop of the render
pub told_as : (meaning : m.Meaning) (stop : EvalError) → Evaluates meaning (Err stop) → Tells meaning (Err (stop_of stop))
told_as meaning (of_text.Fault kind name line) is = is
told_as meaning (of_text.Input name fault) is = is
told_as meaning of_text.Read is = tt
told_as meaning of_text.Memory is = tt

-- a stream that isn't put whole isn't the script's fault
no_script : {I K : Type 0} (sink : Ghosts K) (plan : List Application) (root : ℕ) (book : Book) (out put : K) (faults : I → ℕ) (table : List (Place × Slot I)) (stop : Stop)
    → StreamShows sink plan root book out put faults table stop → IsByScript stop → ⊥
no_script sink plan root book out put faults table (of_stop.Script kind name line) shown by = absurd shown
no_script sink plan root book out put faults table (of_stop.Input name fault) shown by = absurd shown
no_script sink plan root book out put faults table (of_stop.Changed name frame want got) shown by = by
no_script sink plan root book out put faults table (of_stop.File name fault) shown by = by
no_script sink plan root book out put faults table of_stop.Read shown by = by
no_script sink plan root book out put faults table of_stop.Write shown by = by
no_script sink plan root book out put faults table of_stop.Memory shown by = by

pub not_by_script : {I K : Type 0} (sink : Ghosts K) (plan : List Application) (root : ℕ) (book : Book) (out put : K) (faults : I → ℕ) (table : List (Place × Slot I)) {X : Type 0} (done : Result X Stop) (P : Type 0)
    → IfErr done (StreamShows sink plan root book out put faults table) → IfErr done (λ stop. IsByScript stop → P)
not_by_script sink plan root book out put faults table (Ok x) P shown = tt
not_by_script sink plan root book out put faults table (Err stop) P shown = λ by. absurd (no_script sink plan root book out put faults table stop shown by)
