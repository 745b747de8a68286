-- A table whose instances are taken one by one: what is left, and what was counted.
use Rattle.std.proofs.Common.{◌≡◌, ℕ, zero, suc, ◌+◌, ◌-◌, ◌^◌, ◌≤◌, min, max, Bool, true, false, List, [], ◌∷◌, ◌++◌, length, slice_get, Option, Some, sym, refl, ap, ◌∙◌, subst, ⊎_elim, arith, add-zero}
use Rattle.std.specs.List.{remove}
use Rattle.std.specs.Prelude.{sum}
use Rattle.std.proofs.lemmas.List.{length-append}
use Rattle.std.proofs.lemmas.List.Folds.{fold-map}
use Rattle.std.proofs.lemmas.List.Sums.{sum_by-append, sum_by-cons, sum_by_push}
use Rattle.fv_io.specs.Faults.{with_faults, HasRisen}
use Rattle.fv_io.specs.World.{World}
use Rattle.fv_io.specs.declared.source.Source.{Ghosts}
use Rattle.inst_table.specs.declared.place.Place.{Place}
use Rattle.inst_table.specs.declared.place.Slot.{Slot}
use Rattle.inst_table.specs.declared.place.Slot.TheVariants.{Free, Leased}
use Rattle.inst_table.specs.Places.{same_place, slot_at, AllLent}
use Rattle.seq_source.specs.FrameSource.{FrameSource}
use Rattle.avs_meaning.specs.declared.state.SourceClip.{SourceClip}
use Rattle.avs_files.specs.Closed.{faults_among, CountsFaults}
use Rattle.avs_files.specs.Opened.{IsOpened, AreOpened}
use Rattle.inst_table.specs.Changes.{TakesOne}
use Rattle.inst_table.proofs.CallerLemmas.{test}
use Rattle.serve_worker.specs.declared.instance.Instance.{Instance}
use Rattle.serve_worker.specs.declared.instance.Instance.TheVariants.{Plain, Scratch, Source}
use Rattle.serve_core.specs.Tables.{AllFree}
use Rattle.serve_worker.specs.Furnishing.{sources_in, source_of, fault_counts}
use Rattle.serve_worker.specs.Instances.{faults_of}
use Rattle.prefetch.specs.StreamClips.{SomeFailed}

module _ {I : Type 0} where
  same_slot : (o : Option (Place × Slot I)) (p q : Place) (s t : Slot I) → o ≡ Some (p, s) → o ≡ Some (q, t) → s ≡ t
  same_slot o p q s t here was =
      let one : Place × Slot I = (p, s) in
      let other : Place × Slot I = (q, t) in
      let both : Some one ≡ Some other = sym here ∙ was in
      let pair : one ≡ other = cc in
      ap (λ (e : Place × Slot I). e.1) pair

  same_value : (o : Option (Place × Slot I)) (p q : Place) (x v : I) → o ≡ Some (p, Free x) → o ≡ Some (q, Free v) → v ≡ x
  same_value o p q x v here was = let slot = same_slot o p q (Free x) (Free v) here was in cc

  free_after : (es : List (Place × Slot I)) (i : ℕ) → AllFree es → AllFree (remove es i)
  free_after [] zero free = free
  free_after [] (suc i) free = free
  free_after ((p, Free x) ∷ es) zero free = free
  free_after ((p, Free x) ∷ es) (suc i) free = free_after es i free
  free_after ((p, Leased w) ∷ es) i free = absurd free

  -- once none is lent and none can be taken, none is there
  pub none_left : (es : List (Place × Slot I)) → AllFree es → AllLent es → es ≡ []
  none_left [] free lent = refl
  none_left ((p, Free x) ∷ es) free lent = let no' = lent 0 (p, Free x) (omega arith) in absurd (cc)
  none_left ((p, Leased w) ∷ es) free lent = absurd free

module _ {S : Type 0} where
  -- what is counted of the sources of a table, one by one: less, by what the instance that was taken keeps
  less_after : (count : List (FrameSource S) → ℕ) → count [] ≡ 0 → ((xs : List (FrameSource S)) (it : FrameSource S) → count (xs ++ it ∷ []) ≡ count xs + count (it ∷ []))
      → (es : List (Place × Slot (Instance S))) (i : ℕ) (q : Place) (v : Instance S) → slice_get es i ≡ Some (q, Free v) → count (sources_in (remove es i)) + count (source_of v) ≡ count (sources_in es)
  less_after count none more [] i q v was = absurd (cc)
  less_after count none more ((p, Free Plain) ∷ es) zero q v was = let is : v ≡ Plain = same_value _ p q Plain v refl was in let n = ap (λ (x : Instance S). count (source_of x)) is in omega arith
  less_after count none more ((p, Free (Scratch width)) ∷ es) zero q v was = let is : v ≡ Scratch width = same_value _ p q (Scratch width) v refl was in let n = ap (λ (x : Instance S). count (source_of x)) is in omega arith
  less_after count none more ((p, Free (Source it)) ∷ es) zero q v was =
      let is : v ≡ Source it = same_value _ p q (Source it) v refl was in let n = ap (λ (x : Instance S). count (source_of x)) is in let m = more (sources_in es) it in omega arith
  less_after count none more ((p, Leased w) ∷ es) zero q v was = let slot = same_slot _ p q (Leased w) (Free v) refl was in absurd (cc)
  less_after count none more ((p, Free Plain) ∷ es) (suc i) q v was = less_after count none more es i q v was
  less_after count none more ((p, Free (Scratch width)) ∷ es) (suc i) q v was = less_after count none more es i q v was
  less_after count none more ((p, Free (Source it)) ∷ es) (suc i) q v was =
      let ih = less_after count none more es i q v was in let m = more (sources_in es) it in let n = more (sources_in (remove es i)) it in omega arith
  less_after count none more ((p, Leased w) ∷ es) (suc i) q v was = less_after count none more es i q v was

  count_after : (es : List (Place × Slot (Instance S))) (i : ℕ) (q : Place) (v : Instance S) → slice_get es i ≡ Some (q, Free v)
      → length (sources_in (remove es i)) + length (source_of v) ≡ length (sources_in es)
  count_after es i q v was = less_after length refl (λ xs it. length-append xs (it ∷ [])) es i q v was

  -- the faults of a source are those of its instance
  faults_kept : (source : Ghosts S) (v : Instance S) → faults_among source (source_of v) ≡ faults_of source v
  faults_kept source Plain = refl
  faults_kept source (Scratch width) = refl
  faults_kept source (Source it) = sum_by-cons (λ (s : FrameSource S). source.faults s.source) it [] ∙ add-zero (source.faults it.source)

  faults_after : (source : Ghosts S) (es : List (Place × Slot (Instance S))) (i : ℕ) (q : Place) (v : Instance S) → slice_get es i ≡ Some (q, Free v)
      → faults_among source (sources_in (remove es i)) + faults_of source v ≡ faults_among source (sources_in es)
  faults_after source es i q v was =
      ap (λ n. faults_among source (sources_in (remove es i)) + n) (sym (faults_kept source v))
      ∙ less_after (faults_among source) refl (λ xs it. sum_by-append (λ (s : FrameSource S). source.faults s.source) xs (it ∷ [])) es i q v was

-- no faults change no count
pub no_faults : (count : ℕ) → with_faults count 0 ≡ count
no_faults count = omega arith

-- faults that count one after the other count together
faults_twice : (top count more later : ℕ) → max (max count (min (count + more) top)) (min (max count (min (count + more) top) + later) top) ≡ max count (min (count + (later + more)) top)
faults_twice top count more later = omega arith

-- a table that some instances were taken from, and the numbers of the files before and now
pub record Taken {S : Type 0} (source : Ghosts S) (start table : List (Place × Slot (Instance S))) (given_old given_now faults_old faults_now : ℕ) : Type 0 where
  pub free : AllFree table
  pub few : length (sources_in table) ≤ length (sources_in start)
  pub given : given_now ≡ given_old - (length (sources_in start) - length (sources_in table))
  pub faults : with_faults faults_now (faults_among source (sources_in table)) ≡ with_faults faults_old (faults_among source (sources_in start))

module _ {S : Type 0} (source : Ghosts S) (start : List (Place × Slot (Instance S))) (given0 faults0 : ℕ) where
  pub taken_none : AllFree start → Taken source start start given0 given0 faults0 faults0
  taken_none free = record { free = free; few = omega arith; given = omega arith; faults = refl }

  pub taken_more : (old new : List (Place × Slot (Instance S))) (v : Instance S) (given faults given' faults' : ℕ)
      → Taken source start old given0 given faults0 faults → TakesOne old v new → given' ≡ given - length (source_of v)
      → faults' ≡ with_faults faults (faults_of source v) → Taken source start new given0 given' faults0 faults'
  taken_more old new v given faults given' faults' so took fewer more =
      let count : length (sources_in new) + length (source_of v) ≡ length (sources_in old) =
      ap (λ es. length (sources_in es) + length (source_of v)) took.rest ∙ count_after old took.index took.place v took.was in
      let all : faults_among source (sources_in new) + faults_of source v ≡ faults_among source (sources_in old) =
      ap (λ es. faults_among source (sources_in es) + faults_of source v) took.rest ∙ faults_after source old took.index took.place v took.was in
      let few = so.few in
      let given_is = so.given in
      record {
        free = subst (λ es. AllFree es) (sym took.rest) (free_after old took.index so.free);
        few = omega arith;
        given = omega arith;
        faults = ap (λ n. with_faults n (faults_among source (sources_in new))) more
            ∙ (faults_twice (2 ^ 64 - 1) faults (faults_of source v) (faults_among source (sources_in new)) ∙ (ap (with_faults faults) all ∙ so.faults));
      }

  -- no instance is left that can be taken
  pub given_all : (table : List (Place × Slot (Instance S))) (given faults : ℕ) → Taken source start table given0 given faults0 faults → AllLent table
      → given ≡ given0 - length (sources_in start)
  given_all table given faults so lent =
      let none : length (sources_in table) ≡ 0 = ap (λ es. length (sources_in es)) (none_left table so.free lent) in
      let given_is = so.given in
      omega arith

  pub counts_all : (table : List (Place × Slot (Instance S))) (given faults : ℕ) → Taken source start table given0 given faults0 faults → AllLent table
      → CountsFaults source (sources_in start) faults0 faults
  counts_all table given faults so lent = sym (no_faults faults) ∙ (ap (λ es. with_faults faults (faults_among source (sources_in es))) (sym (none_left table so.free lent)) ∙ so.faults)

-- ---- what the counts show

module _ {S : Type 0} (source : Ghosts S) where
  -- the faults of an instance in a table are among those of its sources
  among_all : (p : Place) (x : Instance S) (es : List (Place × Slot (Instance S))) → slot_at p es ≡ Some (Free x) → faults_of source x ≤ faults_among source (sources_in es)
  among_all p x [] at = absurd (cc)
  among_all p x ((q, Leased w) ∷ es) at = ⊎_elim
      (λ (h : same_place p q ≡ true). let here : Some (Leased w) ≡ Some (Free x) = rw h at at in absurd (cc))
      (λ (h : same_place p q ≡ false). among_all p x es (rw h at at)) (test (same_place p q))
  among_all p x ((q, Free Plain) ∷ es) at = ⊎_elim
      (λ (h : same_place p q ≡ true). let here : Some (Free Plain) ≡ Some (Free x) = rw h at at in let is : Plain ≡ x = cc in let none = ap (faults_of source) is in omega arith)
      (λ (h : same_place p q ≡ false). among_all p x es (rw h at at)) (test (same_place p q))
  among_all p x ((q, Free (Scratch width)) ∷ es) at = ⊎_elim
      (λ (h : same_place p q ≡ true). let here : Some (Free (Scratch width)) ≡ Some (Free x) = rw h at at in let is : Scratch width ≡ x = cc in let none = ap (faults_of source) is in omega arith)
      (λ (h : same_place p q ≡ false). among_all p x es (rw h at at)) (test (same_place p q))
  among_all p x ((q, Free (Source it)) ∷ es) at =
      let sum = sum_by_push (λ (s : FrameSource S). source.faults s.source) (sources_in es) it in ⊎_elim
      (λ (h : same_place p q ≡ true). let here : Some (Free (Source it)) ≡ Some (Free x) = rw h at at in let is : Source it ≡ x = cc in let same = ap (faults_of source) is in omega arith)
      (λ (h : same_place p q ≡ false). let ih = among_all p x es (rw h at at) in omega arith) (test (same_place p q))

  -- so one that failed shows in the count
  pub count_rose : (table : List (Place × Slot (Instance S))) (left : List (FrameSource S)) (before mid now after : ℕ) → before ≤ mid → CountsFaults source (sources_in table) mid now → CountsFaults source left now after
      → SomeFailed (faults_of source) table → HasRisen before after
  count_rose table left before mid now after first counts last failed =
      let few = among_all failed.place failed.instance table failed.there in
      let some = failed.failed in
      omega (arith, first, counts, last, few, some)

  -- and where none has failed the count stays
  among_counts : (sources : List (FrameSource S)) → faults_among source sources ≡ sum (fault_counts source sources)
  among_counts sources = sym (fold-map (λ a x. a + x) (λ (s : FrameSource S). source.faults s.source) 0 sources)

  pub none_failed : (told : Bool) (world : World) (listed : List SourceClip) (sources : List (FrameSource S)) → AreOpened source told world listed sources → faults_among source sources ≡ 0
  none_failed told world listed sources are = go listed sources are.count are.each
    where
      go : (listed : List SourceClip) (sources : List (FrameSource S)) → length listed ≡ length sources
          → ((k : ℕ) (one : SourceClip) (it : FrameSource S) → slice_get listed k ≡ Some one → slice_get sources k ≡ Some it → IsOpened source told world one it) → faults_among source sources ≡ 0
      go [] [] long each = refl
      go [] (y ∷ ys) long each = absurd (omega (arith, long))
      go (x ∷ xs) [] long each = absurd (omega (arith, long))
      go (x ∷ xs) (y ∷ ys) long each =
          let first = each zero x y refl refl in
          let none = first.unfailed in
          let rest = go xs ys (omega (arith, long)) (λ k a b here there. each (suc k) a b here there) in
          sum_by-cons (λ (s : FrameSource S). source.faults s.source) y ys ∙ omega (arith, none, rest)

  pub count_stays : (table : List (Place × Slot (Instance S))) (left sources : List (FrameSource S)) (mid now after : ℕ) → fault_counts source (left ++ sources_in table) ≡ fault_counts source sources → faults_among source sources ≡ 0
      → CountsFaults source (sources_in table) mid now → CountsFaults source left now after → after ≡ mid
  count_stays table left sources mid now after steady none counts last =
      let both : faults_among source left + faults_among source (sources_in table) ≡ 0 =
      sym (sum_by-append (λ (s : FrameSource S). source.faults s.source) left (sources_in table)) ∙ (among_counts (left ++ sources_in table) ∙ (ap sum steady ∙ (sym (among_counts sources) ∙ none))) in
      omega (arith, both, counts, last)
