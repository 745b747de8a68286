-- Frames that were made one after the other, and what a session over them leaves.
use Rattle.std.proofs.Common.{◌≡◌, ◌∙◌, ℕ, ◌<◌, List, [], ◌∷◌, ◌++◌, length, Option, Some, Err, refl, sym, ap, subst, arith}
use Rattle.std.proofs.lemmas.List.{append_assoc, append-nil}
use Rattle.std.specs.Prelude.{IsErrOf}
use Rattle.std.specs.Map.{keys_of}
use Rattle.fv_io.specs.declared.source.Source as of_source
use Rattle.fv_plane.specs.Picture.{bytes_of, Picture}
use Rattle.fv_plane.specs.declared.key.Key.{Key}
use Rattle.clip_graph.specs.Plan.{Application, key_picture}
use Rattle.serve_machine.specs.Events.{frame_key, WindowEvents}
use Rattle.serve_core.specs.declared.answers.Finished.{Finished}
use Rattle.serve_core.specs.CoreValue.{CoreValue}
use Rattle.serve_core.specs.Stands.{Stands}
use Rattle.serve_session.specs.declared.player.Player as of_player
use Rattle.serve_session.specs.declared.player.PlayStop.{PlayStop}
use Rattle.serve_session.specs.declared.player.PlayStop.TheVariants as of_play
use Rattle.serve_session.specs.Serving.{Makes, start, one_more}
use Rattle.serve_worker.specs.declared.instance.Instance.{Instance}
use Rattle.serve_worker.specs.Instances.{Ends, feed_of, faults_of, holds_of, held_of}
use Rattle.prefetch.specs.Windows.{window_asked, keys_left, windows_asked, Keeps, AddsWindow, frames_at, given, Stays}
use Rattle.prefetch.specs.SerialWindows.{IsSerialWindow, IsCutSerial}
use Rattle.prefetch.proofs.AskedLemmas.{asked_one}
use Rattle.prefetch.proofs.RenderLemmas.{keeps_on}
use Rattle.prefetch.specs.Played.{PlayedValue, StandsForFrames, MakesFrame, StopsInFrame, IsFrameOf}

module _ (plan : List Application) (root capacity : ℕ) where
  -- what is cached after several windows
  abbrev pub keys_after : List Key → List ℕ → List Key
  keys_after keys [] = keys
  keys_after keys (n ∷ ns) = keys_after (keys_left plan root capacity keys n) ns

  pub windows_more : (keys : List Key) (ns : List ℕ) (n : ℕ) → windows_asked plan root capacity keys (ns ++ n ∷ [])
      ≡ windows_asked plan root capacity keys ns ++ window_asked plan root capacity (keys_after keys ns) n ∷ []
  windows_more keys [] n = refl
  windows_more keys (m ∷ ns) n = ap (λ (l : List WindowEvents). window_asked plan root capacity keys m ∷ l) (windows_more (keys_left plan root capacity keys m) ns n)

  pub keys_more : (keys : List Key) (ns : List ℕ) (n : ℕ) → keys_after keys (ns ++ n ∷ []) ≡ keys_left plan root capacity (keys_after keys ns) n
  keys_more keys [] n = refl
  keys_more keys (m ∷ ns) n = keys_more (keys_left plan root capacity keys m) ns n

-- a list of one
only : {A : Type 0} (xs : List A) → length xs ≡ 1 → (x : A) × (xs ≡ x ∷ [])
only [] is = absurd (omega arith)
only (x ∷ []) is = (x, refl)
only (x ∷ y ∷ ys) is = absurd (omega arith)

pub one_is : {A : Type 0} (x y : A) → Some x ≡ Some y → x ≡ y
one_is x y is = cc

head_is : {A : Type 0} (x y : A) → x ∷ [] ≡ y ∷ [] → x ≡ y
head_is x y is = cc

module _ {S : Type 0} (of : of_source.Ghosts S) where
  -- the frame of a window that was added
  pub frame_of : (p : PlayedValue (Instance S)) (n : ℕ) (log longer : List WindowEvents) (d : CoreValue (Instance S)) (finished : Finished) (frames : List (Option Picture)) → n < frames_at p.core.fixed.plan p.core.fixed.root
      → AddsWindow (held_of of) p.core (IsSerialWindow p.core n 1) (IsCutSerial p.core) n 1 log longer d finished → frames ≡ finished.frames.items → IsFrameOf of p n (given frames)
  frame_of p n log longer d finished frames less adds is =
      let one = only (given finished.frames.items) adds.delivered.all in
      record {
        one = one.0;
        only = ap given is ∙ one.1;
        right = λ at stands.
            ap bytes_of (head_is one.0 (key_picture stands.book p.core.fixed.plan (frame_key p.core.fixed.root n)) (sym one.1 ∙ adds.delivered.right stands.book stands.numbers stands.stands)) ∙ sym (stands.at_is n less);
      }

  -- a core that stays stands for the same frames
  stands_on : (c d : CoreValue (Instance S)) (at : ℕ → List ℕ) → Stays holds_of c d → (s : StandsForFrames of c at) → (numbers : List ℕ) → Stands (feed_of of) (faults_of of) (Some s.book) numbers d → StandsForFrames of d at
  stands_on c d at stays s numbers still = record { book = s.book; numbers = numbers; stands = still; at_is = rw (stays.plan, stays.root) s.at_is }

  pub made_stands : (p q : PlayedValue (Instance S)) (n : ℕ) (at : ℕ → List ℕ) → MakesFrame of p n q → StandsForFrames of p.core at → StandsForFrames of q.core at
  made_stands p q n at made s = let still = made.keeps.stands (Some s.book) s.numbers s.stands in stands_on p.core q.core at made.keeps.stays s still.numbers still.stands

  pub unmade_stands : (p q : PlayedValue (Instance S)) (n : ℕ) (at : ℕ → List ℕ) {X : Type 0} (stop : PlayStop) → (IsErrOf {T = X} (Err stop) of_play.Stopped → StopsInFrame of p n q) → (IsErrOf {T = X} (Err stop) of_play.Memory → q ≡ p)
      → (IsErrOf {T = X} (Err stop) of_play.Write → ⊥) → StandsForFrames of p.core at → StandsForFrames of q.core at
  unmade_stands p q n at of_play.Stopped stopped memory write s =
      let cuts = (stopped refl).cuts in
      let still = cuts.stopped.stands (Some s.book) s.numbers s.stands in
      stands_on p.core q.core at cuts.stopped.stays s still.numbers still.stands
  unmade_stands p q n at of_play.Write stopped memory write s = absurd (write refl)
  unmade_stands p q n at of_play.Memory stopped memory write s = subst (λ (x : PlayedValue (Instance S)). StandsForFrames of x.core at) (sym (memory refl)) s

  -- a frame whose window was added
  pub made_of : (p q : PlayedValue (Instance S)) (n : ℕ) (finished : Finished)
      → AddsWindow (held_of of) p.core (IsSerialWindow p.core n 1) (IsCutSerial p.core) n 1 p.windows q.windows q.core finished → q.stop ≡ p.stop → MakesFrame of p n q
  made_of p q n finished adds stop =
      let asked = asked_one (held_of of) p.core q.core n p.windows q.windows finished adds in
      record { keeps = adds.delivered.keeps; windows = asked.0; keys = asked.1; stop = stop }

  -- the frames of these numbers were made
  pub record Made (p : PlayedValue (Instance S)) (ns : List ℕ) (q : PlayedValue (Instance S)) : Type 0 where
    pub keeps : Keeps (held_of of) p.core q.core
    pub windows : q.windows ≡ p.windows ++ windows_asked p.core.fixed.plan p.core.fixed.root p.core.fixed.capacity (keys_of p.core.cache) ns
    pub keys : keys_of q.core.cache ≡ keys_after p.core.fixed.plan p.core.fixed.root p.core.fixed.capacity (keys_of p.core.cache) ns
    pub stop : q.stop ≡ p.stop

  pub none_made : (p : PlayedValue (Instance S)) → Keeps (held_of of) p.core p.core → Made p [] p
  none_made p keeps = record { keeps = keeps; windows = sym (append-nil p.windows); keys = refl; stop = refl }

  module _ (p q r : PlayedValue (Instance S)) (ns : List ℕ) (n : ℕ) (a : Made p ns q) (b : MakesFrame of q n r) where
    abbrev before : List Key
    before = keys_after p.core.fixed.plan p.core.fixed.root p.core.fixed.capacity (keys_of p.core.cache) ns

    -- the same window by the plan of the first
    same_window : window_asked q.core.fixed.plan q.core.fixed.root q.core.fixed.capacity (keys_of q.core.cache) n ≡ window_asked p.core.fixed.plan p.core.fixed.root p.core.fixed.capacity before n
    same_window = let stays = a.keeps.stays in
        ap (λ l. window_asked l q.core.fixed.root q.core.fixed.capacity (keys_of q.core.cache) n) stays.plan
        ∙ ap (λ i. window_asked p.core.fixed.plan i q.core.fixed.capacity (keys_of q.core.cache) n) stays.root
        ∙ ap (λ m. window_asked p.core.fixed.plan p.core.fixed.root m (keys_of q.core.cache) n) stays.capacity
        ∙ ap (λ keys. window_asked p.core.fixed.plan p.core.fixed.root p.core.fixed.capacity keys n) a.keys

    same_keys : keys_left q.core.fixed.plan q.core.fixed.root q.core.fixed.capacity (keys_of q.core.cache) n ≡ keys_left p.core.fixed.plan p.core.fixed.root p.core.fixed.capacity before n
    same_keys = let stays = a.keeps.stays in
        ap (λ l. keys_left l q.core.fixed.root q.core.fixed.capacity (keys_of q.core.cache) n) stays.plan
        ∙ ap (λ i. keys_left p.core.fixed.plan i q.core.fixed.capacity (keys_of q.core.cache) n) stays.root
        ∙ ap (λ m. keys_left p.core.fixed.plan p.core.fixed.root m (keys_of q.core.cache) n) stays.capacity
        ∙ ap (λ keys. keys_left p.core.fixed.plan p.core.fixed.root p.core.fixed.capacity keys n) a.keys

    pub one_made : Made p (ns ++ n ∷ []) r
    one_made = record {
      keeps = keeps_on (held_of of) p.core q.core r.core a.keeps b.keeps;
      windows = b.windows
          ∙ ap (λ (l : List WindowEvents). l ++ window_asked q.core.fixed.plan q.core.fixed.root q.core.fixed.capacity (keys_of q.core.cache) n ∷ []) a.windows
          ∙ append_assoc p.windows (windows_asked p.core.fixed.plan p.core.fixed.root p.core.fixed.capacity (keys_of p.core.cache) ns) _
          ∙ ap (λ (l : List WindowEvents). p.windows ++ l)
          (ap (λ (w : WindowEvents). windows_asked p.core.fixed.plan p.core.fixed.root p.core.fixed.capacity (keys_of p.core.cache) ns ++ w ∷ []) same_window
          ∙ sym (windows_more p.core.fixed.plan p.core.fixed.root p.core.fixed.capacity (keys_of p.core.cache) ns n));
      keys = b.keys ∙ same_keys ∙ sym (keys_more p.core.fixed.plan p.core.fixed.root p.core.fixed.capacity (keys_of p.core.cache) ns n);
      stop = b.stop ∙ a.stop;
    }

  -- the frames that a session made
  pub all_made : (player : of_player.Ghosts (PlayedValue (Instance S))) → ((p : PlayedValue (Instance S)) (n : ℕ) (q : PlayedValue (Instance S)) → player.makes p n q → MakesFrame of p n q)
      → (p : PlayedValue (Instance S)) (ns : List ℕ) (q : PlayedValue (Instance S)) → Keeps (held_of of) p.core p.core → Makes player p ns q → Made p ns q
  all_made player each p ns q keeps start = none_made p keeps
  all_made player each p ns q keeps (one_more {ns = ms} {n = n} {q = r} before one) = one_made p r q ms n (all_made player each p ms r keeps before) (each r n q one)
