-- Windows, one after the other.
use Rattle.std.proofs.Common.{◌≡◌, ℕ, ◌+◌, ◌-◌, ◌≤◌, List, [], ◌++◌, length, true, Option, Some, None, Result, Ok, Err, OnOk, IfErr, sym, refl, ap, ◌∙◌, subst, arith, length-append}
use Rattle.std.specs.Prelude.{All}
use Rattle.std.specs.Option.{is_some}
use Rattle.std.proofs.lemmas.List.Elements.{All-nil, All-append}
use Rattle.fv_io.specs.declared.sink.Sink.{Ghosts}
use Rattle.fv_io.specs.Sink.{Puts, PutsPrefix, IsLater, SinkFailed}
use Rattle.fv_io.specs.Told.{with_piece}
use Rattle.fv_io.proofs.CallerLemmas.{with_piece_twice, with_no_piece, gets_more, gets_after}
use Rattle.fv_plane.specs.Picture.{Picture}
use Rattle.clip_graph.specs.Plan.{Application}
use Rattle.inst_table.specs.declared.held.Held.{Ghosts as HeldGhosts}
use Rattle.serve_machine.specs.declared.event.Event.{Event}
use Rattle.serve_machine.specs.declared.event.WindowStop.{WindowStop}
use Rattle.serve_machine.specs.Events.{WindowEvents}
use Rattle.serve_core.specs.declared.answers.Finished.{Finished}
use Rattle.serve_core.specs.CoreValue.{CoreValue}
use Rattle.serve_core.specs.Sources.{shape_at}
use Rattle.serve_core.specs.Stands.{Stands, StopFits}
use Rattle.serve_core.specs.Tables.{AllFree}
use Rattle.prefetch.specs.declared.stops.RenderStop.{RenderStop}
use Rattle.prefetch.specs.declared.stops.RenderStop.TheVariants.{Stopped, Write, Memory}
use Rattle.prefetch.specs.Windows.{pictures_from, with_window, PutsFinished, PutStops, Keeps, WindowDelivered, WindowStopped, WindowEnds, AddsWindow, CutsWindow, PutsWindow, WindowShows, PutsPictures, given, pictures_text, frames_at, Stays, PutsFirst, AllRendered, StoppedAfter, FailedAfter, EndedBetween, RenderEnds}
use Rattle.prefetch.proofs.PutLemmas.{text_twice, puts_none, puts_twice, pictures_more}

module _ {I : Type 0} (of : HeldGhosts I) (c : CoreValue I) where
  pub stays_on : (d e : CoreValue I) → Stays of.holds c d → Stays of.holds d e → Stays of.holds c e
  stays_on d e a b = record {
    between = b.between;
    plan = b.plan ∙ a.plan;
    root = b.root ∙ a.root;
    workers = b.workers ∙ a.workers;
    capacity = b.capacity ∙ a.capacity;
    unclaimed = b.unclaimed;
    free = b.free;
    held = b.held ∙ a.held;
  }

  pub keeps_first : c.fixed.count ≡ 0 → c.claims ≡ [] → AllFree c.table → Keeps of c c
  keeps_first between unclaimed free = record {
    stays = record { between = between; plan = refl; root = refl; workers = refl; capacity = refl; unclaimed = unclaimed; free = free; held = refl };
    stands = λ book numbers s. record { numbers = numbers; stands = s; with_it = tt };
    steady = refl;
  }

  pub keeps_on : (d e : CoreValue I) → Keeps of c d → Keeps of d e → Keeps of c e
  keeps_on d e a b = record { stays = stays_on d e a.stays b.stays; stands = λ book numbers s. let one = a.stands book numbers s in b.stands book one.numbers one.stands; steady = b.steady ∙ a.steady }

  -- a window that ended is put, or is not
  module _ (IsWhole : List Event → CoreValue I → Type 0) (IsCut : WindowStop → List Event → Type 0) (first count : ℕ) (d : CoreValue I) (finished : Finished)
      (is : WindowEnds of c IsWhole IsCut first count finished finished.stop d) where
    pub ends_early : true ≡ is_some finished.stop → (why : WindowStop) × WindowStopped of c why d
    ends_early = go finished.stop is
      where
        go : (stop : Option WindowStop) → WindowEnds of c IsWhole IsCut first count finished stop d → true ≡ is_some stop → (why : WindowStop) × WindowStopped of c why d
        go None w bad = absurd (cc)
        go (Some why) w some = (why, w.0)

    module _ (log longer : List WindowEvents) (log_is : longer ≡ with_window log first count finished.events.items) where
      pub adds_window : finished.stop ≡ None → AddsWindow of c IsWhole IsCut first count log longer d finished
      adds_window no_stop =
          let both = subst (λ s. WindowEnds of c IsWhole IsCut first count finished s d) no_stop is in
          record { delivered = both.0; whole = both.1; log_is = log_is }

      pub cuts_window : (why : WindowStop) → finished.stop ≡ Some why → CutsWindow of c IsWhole IsCut first count log longer d why
      cuts_window why stopped =
          let both = subst (λ s. WindowEnds of c IsWhole IsCut first count finished s d) stopped is in
          record { events = finished.events.items; stopped = both.0; cut = both.1; log_is = log_is }

      module _ {K : Type 0} (sink : Ghosts K) (old new : K) where
        pub window_put : (r : Result (Unit {0}) RenderStop) → OnOk r (PutsFinished sink old new finished) → OnOk r (PutsWindow of c IsWhole IsCut first count log longer d sink old new)
        window_put (Err stop) put = tt
        window_put (Ok u) put = record { finished = finished; adds = adds_window put.0; put = put.1 }

        pub window_not_put : (r : Result (Unit {0}) RenderStop) → IfErr r (PutStops sink old new finished) → IfErr r (WindowShows of c IsWhole IsCut first count log longer d sink old new)
        window_not_put (Ok u) put = tt
        window_not_put (Err (Stopped why)) put = (cuts_window why put.0, put.1)
        window_not_put (Err Write) put = record { finished = finished; adds = adds_window put.0; failed = put.1; cut = put.2 }
        window_not_put (Err Memory) put = absurd put

  module _ {K : Type 0} (sink : Ghosts K) (old : K) where
    -- what was put and the frames that are still to be put are the first n of the root
    pub record Waits (here : K) (frames : List (Option Picture)) (n : ℕ) : Type 0 where
      pub pictures : List Picture
      pub count : length pictures + length (given frames) ≡ n
      pub shapes : All (λ (x : Picture). x.shape ≡ shape_at c.fixed.plan c.fixed.root) (pictures ++ given frames)
      pub right : (b : List (List Picture)) (numbers : List ℕ) → Stands of.feed of.faults (Some b) numbers c → pictures ++ given frames ≡ pictures_from b c.fixed.plan c.fixed.root 0 n
      pub put : PutsPictures sink old here pictures

    pub put_none : PutsFirst of c sink old old 0
    put_none = record {
      pictures = [];
      count = refl;
      shapes = All-nil (λ (x : Picture). x.shape ≡ shape_at c.fixed.plan c.fixed.root);
      right = λ b numbers s. refl;
      put = puts_none sink old;
    }

    pub none_waits : Waits old [] 0
    none_waits = record {
      pictures = [];
      count = refl;
      shapes = All-nil (λ (x : Picture). x.shape ≡ shape_at c.fixed.plan c.fixed.root);
      right = λ b numbers s. refl;
      put = puts_none sink old;
    }

    module _ (here there : K) (frames : List (Option Picture)) (n : ℕ) (w : Waits here frames n) where
      pub put_waiting : PutsPictures sink here there (given frames) → PutsFirst of c sink old there n
      put_waiting put = record {
        pictures = w.pictures ++ given frames;
        count = length-append w.pictures (given frames) ∙ w.count;
        shapes = w.shapes;
        right = w.right;
        put = puts_twice sink old here there w.pictures (given frames) w.put put;
      }

      -- the sink failed at them, and the journal has m outputs
      pub waiting_fails : {IsFirst : List WindowEvents → ℕ → Type 0} (windows : List WindowEvents) (d : CoreValue I) (m : ℕ) → n ≤ m → m ≤ frames_at c.fixed.plan c.fixed.root → Stays of.holds c d → IsLater sink old here
          → SinkFailed sink here there → PutsPrefix sink here there (pictures_text (given frames)) → IsFirst windows m → FailedAfter of c sink old there IsFirst windows d
      waiting_fails windows d m low most stays later failed cut journal = record {
        stays = stays;
        count = m;
        few = most;
        failed = omega (arith, later, failed);
        begun = (let before = w.put in (pictures_text w.pictures ++ cut.0, cut.3 ∙ ap (λ o. with_piece o cut.0) before.put ∙ with_piece_twice (sink.bytes old) (pictures_text w.pictures) cut.0));
        cut = λ b numbers s.
            let before = w.put in
            let rest = pictures_text (pictures_from b c.fixed.plan c.fixed.root n (m - n)) in
            let all : m ≡ n + (m - n) = omega arith in
            let whole : pictures_text (pictures_from b c.fixed.plan c.fixed.root 0 m) ≡ (pictures_text w.pictures ++ pictures_text (given frames)) ++ rest
            = ap (λ k. pictures_text (pictures_from b c.fixed.plan c.fixed.root 0 k)) all ∙ ap pictures_text (pictures_more b c.fixed.plan c.fixed.root n (m - n) ∙ ap (λ l. l ++ pictures_from b c.fixed.plan c.fixed.root n (m - n)) (sym (w.right b numbers s)))
            ∙ text_twice (w.pictures ++ given frames) (pictures_from b c.fixed.plan c.fixed.root n (m - n)) ∙ ap (λ l. l ++ rest) (text_twice w.pictures (given frames)) in
            rw whole (gets_more (sink.bytes old) (sink.bytes there) (pictures_text w.pictures ++ pictures_text (given frames)) rest (gets_after (sink.bytes old) (sink.bytes here) (sink.bytes there) (pictures_text w.pictures) (pictures_text (given frames)) before.put cut));
        journal = journal;
      }

    -- nothing was rendered yet
    pub ends_at_once : {IsFirst : List WindowEvents → ℕ → Type 0} (windows : List WindowEvents) → Keeps of c c → IsFirst windows 0 → EndedBetween of c sink old old IsFirst windows c
    ends_at_once windows kept first = record { stays = kept.stays; count = 0; few = omega arith; put = put_none; journal = first }

    -- all windows
    pub renders_all : {IsWhole : List WindowEvents → Type 0} (here : K) (d : CoreValue I) (n : ℕ) (log : List WindowEvents) → n ≡ frames_at c.fixed.plan c.fixed.root → Keeps of c d → PutsFirst of c sink old here n → IsWhole log
        → AllRendered of c sink old here IsWhole log d
    renders_all here d n log all kept p whole = record { stays = kept.stays; put = subst (PutsFirst of c sink old here) all p; journal = whole; steady = kept.steady }

    module _ (here there : K) (d e : CoreValue I) (n count : ℕ) (kept : Keeps of c d) where
      module _ (finished : Finished) (w : WindowDelivered of d n count finished e) where
        -- the pictures of the window, as the plan before it has them
        these : (b : List (List Picture)) (numbers : List ℕ) → Stands of.feed of.faults (Some b) numbers c → given finished.frames.items ≡ pictures_from b c.fixed.plan c.fixed.root n count
        these b numbers s =
            let one = kept.stands (Some b) numbers s in
            w.right b one.numbers one.stands ∙ ap (λ (z : List Application × ℕ). pictures_from b z.0 z.1 n count) (λ i. (kept.stays.plan i, kept.stays.root i))

        -- its frames are still to be put
        pub more_waits : PutsFirst of c sink old here n → Waits here finished.frames.items (n + count)
        more_waits p = record {
          pictures = p.pictures;
          count = λ i. p.count i + w.all i;
          shapes = All-append (λ (x : Picture). x.shape ≡ shape_at c.fixed.plan c.fixed.root) p.pictures (given finished.frames.items) p.shapes
              (subst (λ (z : List Application × ℕ). All (λ (x : Picture). x.shape ≡ shape_at z.0 z.1) (given finished.frames.items)) (λ i. (kept.stays.plan i, kept.stays.root i)) w.shapes);
          right = λ b numbers s. (λ i. p.right b numbers s i ++ these b numbers s i) ∙ sym (pictures_more b c.fixed.plan c.fixed.root n count);
          put = p.put;
        }

        pub put_more : PutsFirst of c sink old here n → PutsPictures sink here there (given finished.frames.items) → PutsFirst of c sink old there (n + count)
        put_more p = put_waiting here there finished.frames.items (n + count) (more_waits p)

      -- the window of the next outputs was cut short
      pub stopped_after : {IsWhole : List Event → CoreValue I → Type 0} {IsCut : WindowStop → List Event → Type 0} {IsCutAfter : WindowStop → List WindowEvents → ℕ → Type 0} (log longer : List WindowEvents) (why : WindowStop) → n + count ≤ frames_at c.fixed.plan c.fixed.root
          → PutsFirst of c sink old there n → CutsWindow of d IsWhole IsCut n count log longer e why → IsCutAfter why longer n → StoppedAfter of c sink old there IsCutAfter longer why e
      stopped_after log longer why most p w journal = record {
        stays = stays_on d e kept.stays w.stopped.stays;
        count = n;
        few = omega arith;
        put = p;
        journal = journal;
        ended = w.stopped.ended;
        stands = λ book numbers s.
            let one = kept.stands book numbers s in
            let two = w.stopped.stands book one.numbers one.stands in
            record { numbers = two.numbers; stands = two.stands; with_it = subst (λ pl. StopFits of.feed of.faults book two.numbers pl e.table why) kept.stays.plan two.with_it };
      }

      -- it could not begin
      pub ended_between : {IsFirst : List WindowEvents → ℕ → Type 0} (log longer : List WindowEvents) → n + count ≤ frames_at c.fixed.plan c.fixed.root → PutsFirst of c sink old there n → IsFirst log n → longer ≡ log → e ≡ d
          → EndedBetween of c sink old there IsFirst longer e
      ended_between {IsFirst = IsFirst} log longer most p first same left =
          subst (λ (z : List WindowEvents × CoreValue I). EndedBetween of c sink old there IsFirst z.0 z.1) (λ i. (sym same i, sym left i)) (record { stays = kept.stays; count = n; few = omega arith; put = p; journal = first })

      -- why a render stops that puts the frames of each window at its end
      pub window_stops : (IsWhole : List Event → CoreValue I → Type 0) (IsCut : WindowStop → List Event → Type 0) (IsFirst : List WindowEvents → ℕ → Type 0) (IsCutAfter : WindowStop → List WindowEvents → ℕ → Type 0) (log longer : List WindowEvents)
          → n + count ≤ frames_at c.fixed.plan c.fixed.root → IsLater sink old here → IsFirst log n → ((finished : Finished) → AddsWindow of d IsWhole IsCut n count log longer e finished → IsFirst longer (n + count))
          → ((why : WindowStop) → CutsWindow of d IsWhole IsCut n count log longer e why → IsCutAfter why longer n) → PutsFirst of c sink old here n
          → (stop : RenderStop) → WindowShows of d IsWhole IsCut n count log longer e sink here there stop → RenderEnds of c sink old there IsFirst IsCutAfter longer e stop
      window_stops IsWhole IsCut IsFirst IsCutAfter log longer most later first more cut_is p (Stopped why) w = stopped_after log longer why most (subst (λ z. PutsFirst of c sink old z n) (sym w.1) p) w.0 (cut_is why w.0)
      window_stops IsWhole IsCut IsFirst IsCutAfter log longer most later first more cut_is p Write w =
          waiting_fails here there w.finished.frames.items (n + count) (more_waits w.finished w.adds.delivered p) longer e (n + count) (omega arith) most (stays_on d e kept.stays w.adds.delivered.keeps.stays) later w.failed w.cut (more w.finished w.adds)
      window_stops IsWhole IsCut IsFirst IsCutAfter log longer most later first more cut_is p Memory w = ended_between log longer most (subst (λ z. PutsFirst of c sink old z n) (sym w.1) p) first w.0 w.2
