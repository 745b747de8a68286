-- A window that ended.
use Rattle.std.proofs.Common.{◌≡◌, ℕ, suc, ◌+◌, ◌<◌, List, [], ◌∷◌, length, slice_get, Option, Some, None, sym, refl, ap, ◌∙◌, subst, arith}
use Rattle.std.specs.Prelude.{All}
use Rattle.std.proofs.lemmas.List.Elements.{All-nil, All-cons}
use Rattle.fv_plane.specs.declared.format.Shape.{Shape}
use Rattle.fv_plane.specs.Picture.{Picture}
use Rattle.clip_graph.specs.Plan.{Application, IsPlan, key_picture}
use Rattle.inst_table.specs.declared.held.Held.{Ghosts as HeldGhosts}
use Rattle.serve_machine.specs.declared.event.WindowStop.{WindowStop}
use Rattle.serve_machine.specs.Events.{frame_key}
use Rattle.serve_core.specs.declared.answers.Finished.{Finished}
use Rattle.serve_core.specs.Calls.{after_begin, after_end}
use Rattle.serve_core.specs.CoreValue.{CoreValue, Fixed}
use Rattle.serve_core.specs.Sources.{shape_at, faults_of}
use Rattle.serve_core.specs.Stands.{Book, Stands, StopFits, EndShows, CallsStand}
use Rattle.serve_core.proofs.Standing.{calls_stand}
use Rattle.serve_core.specs.Tables.{AllFree, held_in, counts_in}
use Rattle.prefetch.specs.Windows.{pictures_from, WindowDelivered, WindowStopped, given, Stays}

given_count : (frames : List (Option Picture)) → ((j : ℕ) → j < length frames → (x : Picture) × (slice_get frames j ≡ Some (Some x))) → length (given frames) ≡ length frames
given_count [] all = refl
given_count (None ∷ xs) all = let bad = (all 0 (omega arith)).1 in absurd (cc)
given_count (Some x ∷ xs) all = let rest = given_count xs (λ j less. all (suc j) (omega arith)) in omega arith

given_shapes : (shape : Shape) (frames : List (Option Picture)) → ((j : ℕ) (x : Picture) → slice_get frames j ≡ Some (Some x) → x.shape ≡ shape) → All (λ (x : Picture). x.shape ≡ shape) (given frames)
given_shapes shape [] all = All-nil (λ (x : Picture). x.shape ≡ shape)
given_shapes shape (None ∷ xs) all = given_shapes shape xs (λ j x h. all (suc j) x h)
given_shapes shape (Some x ∷ xs) all = All-cons (λ (y : Picture). y.shape ≡ shape) x (given xs) (all 0 x refl) (given_shapes shape xs (λ j y h. all (suc j) y h))

-- all outputs of a window, as its frames
given_right : (b : List (List Picture)) (plan : List Application) (root : ℕ) (frames : List (Option Picture)) (at : ℕ) → ((j : ℕ) → j < length frames → (x : Picture) × (slice_get frames j ≡ Some (Some x)))
    → ((j : ℕ) (x : Picture) → slice_get frames j ≡ Some (Some x) → x ≡ key_picture b plan (frame_key root (at + j))) → given frames ≡ pictures_from b plan root at (length frames)
given_right b plan root [] at all right = refl
given_right b plan root (None ∷ xs) at all right = let bad = (all 0 (omega arith)).1 in absurd (cc)
given_right b plan root (Some x ∷ xs) at all right =
    let here : x ≡ key_picture b plan (frame_key root at) = right 0 x refl ∙ ap (λ n. key_picture b plan (frame_key root n)) (omega arith) in
    let rest = given_right b plan root xs (at + 1) (λ j less. all (suc j) (omega arith)) (λ j y h. right (suc j) y h ∙ ap (λ n. key_picture b plan (frame_key root n)) (omega arith)) in
    λ i. here i ∷ rest i

module _ {I : Type 0} (of : HeldGhosts I) (c c1 c2 d : CoreValue I) (first count : ℕ) (plan : IsPlan c.fixed.plan)
    (begins : c1 ≡ after_begin c first count) (same : c2.fixed ≡ c1.fixed) (ends_it : d ≡ after_end c2) where
  law : CallsStand of.feed of.faults
  law = calls_stand of.feed of.faults

  fixed : c2.fixed ≡ (after_begin c first count).fixed
  fixed = same ∙ ap (λ (z : CoreValue I). z.fixed) begins

  -- the counts of faults when the window began
  abbrev counts : List ℕ
  counts = faults_of of.faults c.fixed.plan c.table

  begun_stands : (book : Book) (numbers : List ℕ) → Stands of.feed of.faults book numbers c → Stands of.feed of.faults book counts c1
  begun_stands book numbers s = subst (Stands of.feed of.faults book counts) (sym begins) (law.begin_window book numbers c first count s plan)

  ended_stands : (book : Book) (numbers : List ℕ) → Stands of.feed of.faults book numbers c2 → Stands of.feed of.faults book numbers d
  ended_stands book numbers s = subst (Stands of.feed of.faults book numbers) (sym ends_it) (law.end_window book numbers c2 s)

  pub ended_stays : c2.claims ≡ [] → AllFree c2.table → held_in of.holds c2.table ≡ held_in of.holds c1.table → Stays of.holds c d
  ended_stays unclaimed free held = subst (Stays of.holds c) (sym ends_it) (record {
    between = refl;
    plan = ap (λ z. z.plan) fixed;
    root = ap (λ z. z.root) fixed;
    workers = ap (λ z. z.workers) fixed;
    capacity = ap (λ z. z.capacity) fixed;
    unclaimed = unclaimed;
    free = free;
    held = held ∙ ap (λ (z : CoreValue I). held_in of.holds z.table) begins;
  })

  -- the instances have failed as often as before the window, where they did in it
  pub ended_steady : counts_in of.faults c2.table ≡ counts_in of.faults c1.table → counts_in of.faults d.table ≡ counts_in of.faults c.table
  ended_steady steady = ap (λ (z : CoreValue I). counts_in of.faults z.table) ends_it ∙ (steady ∙ ap (λ (z : CoreValue I). counts_in of.faults z.table) begins)

  module _ (finished : Finished) (stays : Stays of.holds c d) (right : (book : Book) (numbers : List ℕ) → Stands of.feed of.faults book numbers c1 → Stands of.feed of.faults book numbers c2)
      (frames : finished.frames.items ≡ c2.outputs.frames) (size : length finished.frames.items ≡ c2.fixed.count)
      (shapes : (j : ℕ) (x : Picture) → slice_get finished.frames.items j ≡ Some (Some x) → x.shape ≡ shape_at c2.fixed.plan c2.fixed.root) where
    pub window_delivered : counts_in of.faults c2.table ≡ counts_in of.faults c1.table → ((j : ℕ) → j < count → (x : Picture) × (slice_get c2.outputs.frames j ≡ Some (Some x))) → WindowDelivered of c first count finished d
    window_delivered steady delivered =
        let many : length finished.frames.items ≡ count = size ∙ ap (λ z. z.count) fixed in
        let all : (j : ℕ) → j < length finished.frames.items → (x : Picture) × (slice_get finished.frames.items j ≡ Some (Some x)) = λ j less. let one = delivered j (omega arith) in (one.0, ap (λ l. slice_get l j) frames ∙ one.1) in
        record {
          all = given_count finished.frames.items all ∙ many;
          shapes = given_shapes (shape_at c.fixed.plan c.fixed.root) finished.frames.items (λ j x h. shapes j x h ∙ ap (λ z. shape_at z.plan z.root) fixed);
          right = λ b numbers s.
              let last = right (Some b) counts (begun_stands (Some b) numbers s) in
              given_right b c.fixed.plan c.fixed.root finished.frames.items first all (λ j x h. last.outputs j x (ap (λ l. slice_get l j) (sym frames) ∙ h) b refl ∙ ap (λ (z : Fixed). key_picture b z.plan (frame_key z.root (z.first + j))) fixed) ∙ ap (pictures_from b c.fixed.plan c.fixed.root first) many;
          keeps = record { stays = stays; stands = λ book numbers s. record { numbers = counts; stands = ended_stands book counts (right book counts (begun_stands book numbers s)); with_it = tt }; steady = ended_steady steady };
        }

  pub window_stopped : (why : WindowStop) → Stays of.holds c d → ((book : Book) (numbers : List ℕ) → Stands of.feed of.faults book numbers c1 → Stands of.feed of.faults book numbers c2 × StopFits of.feed of.faults book numbers c.fixed.plan c2.table why)
      → EndShows of.ends c2.table why → WindowStopped of c why d
  window_stopped why stays right shows = record {
    stays = stays;
    ended = subst (λ (z : CoreValue I). EndShows of.ends z.table why) (sym ends_it) shows;
    stands = λ book numbers s.
        let both = right book counts (begun_stands book numbers s) in record {
          numbers = counts;
          stands = ended_stands book counts both.0;
          with_it = subst (λ (z : CoreValue I). StopFits of.feed of.faults book counts c.fixed.plan z.table why) (sym ends_it) both.1;
        };
  }
