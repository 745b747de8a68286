-- Instances that are added node after node, from the last node to the first.
use Rattle.std.proofs.Common.{◌≡◌, ◌⊎◌, ℕ, zero, suc, ◌+◌, ◌<◌, ◌==◌, true, false, if◌then◌else◌, List, [], ◌∷◌, ◌++◌, length, take, slice_get, Option, Some, None, Result, Ok, Err, OnOk, OnErr, sym, refl, ap, ◌∙◌, subst, inl, inr, ⊎_elim, arith, append_assoc, append-nil, eq-eqb, ne_eqb, ◌≤◌}
use Rattle.std.specs.Prelude.{is_some, option_map}
use Rattle.std.proofs.lemmas.Bool.{eqb-true}
use Rattle.std.proofs.lemmas.List.{length-append, take_all, length-map}
use Rattle.std.proofs.lemmas.List.Sums.{count_by_more_yes, count_by_more_no}
use Rattle.std.proofs.lemmas.List.Recursion.{is_count_by}
use Rattle.std.specs.List.{cons_option}
use Rattle.fv_plane.specs.declared.format.Info.{Info}
use Rattle.seq_source.specs.FrameSource.{FrameSource}
use Rattle.clip_term.specs.Terms.{Act, source, SourcePart, source_info, source_part}
use Rattle.clip_graph.specs.Plan.{Application, application_at, no_application, is_source, sources_in as count_sources, IsPlan, IsCounted}
use Rattle.serve_worker.specs.Sources.{source_infos, AreSources}
use Rattle.serve_worker.proofs.SourceLemmas.{has_source}
use Rattle.inst_table.specs.declared.place.Place.{Place}
use Rattle.inst_table.specs.declared.place.Slot.{Slot}
use Rattle.inst_table.specs.declared.place.Slot.TheVariants.{Free, Leased}
use Rattle.inst_table.specs.Places.{place_at, shared_place, own_place, same_place, slot_at, has_place, IsNewPair}
use Rattle.inst_table.proofs.CallerLemmas.{test, same_places, place_itself, slot_added}
use Rattle.serve_machine.specs.Events.{mode_at}
use Rattle.serve_core.specs.Kept.{leases_out}
use Rattle.serve_core.specs.Sources.{opened_at, HoldTheirs}
use Rattle.serve_core.proofs.Places.{free_same, some_same}
use Rattle.serve_worker.specs.declared.instance.Instance.{Instance}
use Rattle.serve_worker.specs.declared.instance.Instance.TheVariants.{Plain, Scratch, Source}
use Rattle.serve_worker.specs.Instances.{holds_of}
use Rattle.serve_worker.specs.Furnishing.{sources_in, IsKindOf, filter_instance, own_entries, IsNewNode, EndsIn, IsNext, source_of, node_entries, Moves, Adds}
use Rattle.serve_core.proofs.Making.{source_mode}

-- TABLES

module _ {I : Type 0} where
  -- entries after others
  slot_after : (p : Place) (es fs : List (Place × Slot I)) → slot_at p es ≡ None → slot_at p (es ++ fs) ≡ slot_at p fs
  slot_after p [] fs none = refl
  slot_after p (e ∷ es) fs none = ⊎_elim
      (λ (h : same_place p e.0 ≡ true). let bad : Some e.1 ≡ None = rw h at none in absurd (cc))
      (λ (h : same_place p e.0 ≡ false). rw h (slot_after p es fs (rw h at none))) (test (same_place p e.0))

  slot_before : (p : Place) (s : Slot I) (es fs : List (Place × Slot I)) → slot_at p es ≡ Some s → slot_at p (es ++ fs) ≡ Some s
  slot_before p s [] fs some' = absurd (cc)
  slot_before p s (e ∷ es) fs some' = ⊎_elim
      (λ (h : same_place p e.0 ≡ true). rw h (rw h at some'))
      (λ (h : same_place p e.0 ≡ false). rw h (slot_before p s es fs (rw h at some'))) (test (same_place p e.0))

  -- what stands in both
  slot_in : (p : Place) (s : Slot I) (es fs : List (Place × Slot I)) → slot_at p (es ++ fs) ≡ Some s → (slot_at p es ≡ Some s) ⊎ (slot_at p fs ≡ Some s)
  slot_in p s [] fs h = inr h
  slot_in p s (e ∷ es) fs h = ⊎_elim
      (λ (k : same_place p e.0 ≡ true). inl (rw k (rw k at h)))
      (λ (k : same_place p e.0 ≡ false). rw k (slot_in p s es fs (rw k at h))) (test (same_place p e.0))

  -- one entry
  slot_one : (p q : Place) (s t : Slot I) → slot_at p ((q, s) ∷ []) ≡ Some t → (p ≡ q) × (t ≡ s)
  slot_one p q s t h = ⊎_elim
      (λ (k : same_place p q ≡ true). let h' : Some s ≡ Some t = rw k at h in (same_places p q k, sym (some_same h')))
      (λ (k : same_place p q ≡ false). let bad : None ≡ Some t = rw k at h in absurd (cc)) (test (same_place p q))

  is_none : (o : Option (Slot I)) → ((s : Slot I) → o ≡ Some s → ⊥) → o ≡ None
  is_none None none = refl
  is_none (Some s) none = absurd (none s refl)

  leases_more : (p : Place) (x : I) (es : List (Place × Slot I)) → leases_out (es ++ (p, Free x) ∷ []) ≡ leases_out es
  leases_more p x [] = refl
  leases_more p x ((q, Free y) ∷ es) = leases_more p x es
  leases_more p x ((q, Leased w) ∷ es) = let ih = leases_more p x es in omega arith

seam : {A : Type 0} (xs : List A) (y : A) (ys : List A) → slice_get (xs ++ y ∷ ys) (length xs) ≡ Some y
seam [] y ys = refl
seam (x ∷ xs) y ys = seam xs y ys

-- THE SOURCES IN A TABLE

module _ {S : Type 0} where
  sources_more : (p : Place) (x : Instance S) (es : List (Place × Slot (Instance S))) → sources_in (es ++ (p, Free x) ∷ []) ≡ source_of x ++ sources_in es
  sources_more p Plain [] = refl
  sources_more p (Scratch width) [] = refl
  sources_more p (Source it) [] = refl
  sources_more p x ((q, Free Plain) ∷ es) = sources_more p x es
  sources_more p x ((q, Free (Scratch width)) ∷ es) = sources_more p x es
  sources_more p x ((q, Free (Source j)) ∷ es) = ap (λ l. l ++ j ∷ []) (sources_more p x es) ∙ append_assoc (source_of x) (sources_in es) (j ∷ [])
  sources_more p x ((q, Leased w) ∷ es) = sources_more p x es

  same_more : (p : Place) (x : Instance S) (es : List (Place × Slot (Instance S))) → source_of x ≡ [] → sources_in (es ++ (p, Free x) ∷ []) ≡ sources_in es
  same_more p x es none = sources_more p x es ∙ ap (λ l. l ++ sources_in es) none

  -- filters keep none
  no_source : (act : Act) → source_of {S = S} (filter_instance act) ≡ []
  no_source (source name number info) = refl
  no_source _ = refl

  -- an instance that keeps a source is one
  is_it : (x : Instance S) (info : Info) → holds_of x ≡ Some info → (it : FrameSource S) × (x ≡ Source it) × (source_of x ≡ it ∷ [])
  is_it Plain info h = absurd (cc)
  is_it (Scratch width) info h = absurd (cc)
  is_it (Source it) info h = (it, refl, refl)

  held_source : (act : Act) (x : Instance S) → is_source act ≡ true → holds_of x ≡ source_info act → (it : FrameSource S) × (source_of x ≡ it ∷ [])
  held_source (source name number info) x is holds = let own = is_it x info holds in (own.0, own.2)
  held_source _ x is holds = absurd (cc)

  is_no : (x : Instance S) → holds_of x ≡ None → source_of x ≡ []
  is_no Plain h = refl
  is_no (Scratch width) h = refl
  is_no (Source it) h = absurd (cc)

no_held : (S : Type 0) (act : Act) → holds_of (filter_instance {S = S} act) ≡ None
no_held S (source name number info) = refl
no_held S _ = refl

-- what a filter keeps
filter_kind : (S : Type 0) (act : Act) → source_info act ≡ None → IsKindOf {S = S} act (filter_instance act)
filter_kind S (source name number info) none = absurd (cc)
filter_kind S _ none = refl

-- ONE FOR EACH WORKER

apart : (p q : Place) → (p ≡ q → ⊥) → same_place p q ≡ false
apart p q differ = ⊎_elim (λ (h : same_place p q ≡ true). absurd (differ (same_places p q h))) (λ (h : same_place p q ≡ false). h) (test (same_place p q))

module _ {S : Type 0} (i : ℕ) (x : Instance S) where
  own_absent : (p : Place) (n : ℕ) → ((w : ℕ) → w < n → p ≡ own_place w i → ⊥) → slot_at p (own_entries i x n) ≡ None
  own_absent p zero differ = refl
  own_absent p (suc n) differ =
      slot_after p (own_entries i x n) ((own_place n i, Free x) ∷ []) (own_absent p n (λ w less. differ w (omega arith)))
      ∙ (let other = apart p (own_place n i) (differ n (omega arith)) in rw other refl)

  own_there : (w n : ℕ) → w < n → slot_at (own_place w i) (own_entries i x n) ≡ Some (Free x)
  own_there w zero less = absurd (omega arith)
  own_there w (suc n) less = ⊎_elim
      (λ (e : (w == n) ≡ true).
      let same : w ≡ n = eqb-true w n e in
      subst (λ v. slot_at (own_place v i) (own_entries i x (suc n)) ≡ Some (Free x)) (sym same)
      (slot_added (own_place n i) (Free x) (own_entries i x n) (own_absent (own_place n i) n (λ v less' e'. let at : n ≡ v = ap (λ (p : Place). p.instance) e' in omega arith))))
      (λ (e : (w == n) ≡ false).
      let differ : w ≡ n → ⊥ = λ same. let bad : true ≡ false = sym (eq-eqb w n same) ∙ e in absurd (cc) in
      slot_before (own_place w i) (Free x) (own_entries i x n) ((own_place n i, Free x) ∷ []) (own_there w n (omega arith))) (test (w == n))

  own_only : (p : Place) (s : Slot (Instance S)) (n : ℕ) → slot_at p (own_entries i x n) ≡ Some s → (p.node ≡ i) × (p.shared ≡ false) × (s ≡ Free x)
  own_only p s zero h = absurd (cc)
  own_only p s (suc n) h = ⊎_elim
      (λ (e : slot_at p (own_entries i x n) ≡ Some s). own_only p s n e)
      (λ (e : slot_at p ((own_place n i, Free x) ∷ []) ≡ Some s). let one = slot_one p (own_place n i) (Free x) s e in (ap (λ (q : Place). q.node) one.0, ap (λ (q : Place). q.shared) one.0, one.1))
      (slot_in p s (own_entries i x n) ((own_place n i, Free x) ∷ []) h)

  -- the next worker has none yet
  pub own_new : (es fs : List (Place × Slot (Instance S))) (w : ℕ) → fs ≡ es ++ own_entries i x w → IsNewNode i es → IsNewPair i w fs
  own_new es fs w is new shared =
      ap (slot_at (place_at i w shared)) is ∙ (slot_after (place_at i w shared) es (own_entries i x w) (new w shared)
      ∙ own_absent (place_at i w shared) w (λ v less e. let at : w ≡ v = ap (λ (p : Place). p.instance) e in omega arith))

  own_sources : (es : List (Place × Slot (Instance S))) (w : ℕ) → source_of x ≡ [] → sources_in (es ++ own_entries i x w) ≡ sources_in es
  own_sources es zero none = ap sources_in (append-nil es)
  own_sources es (suc w) none =
      ap sources_in (sym (append_assoc es (own_entries i x w) ((own_place w i, Free x) ∷ [])))
      ∙ (same_more (own_place w i) x (es ++ own_entries i x w) none ∙ own_sources es w none)

  own_leases : (es : List (Place × Slot (Instance S))) (w : ℕ) → leases_out (es ++ own_entries i x w) ≡ leases_out es
  own_leases es zero = ap leases_out (append-nil es)
  own_leases es (suc w) =
      ap leases_out (sym (append_assoc es (own_entries i x w) ((own_place w i, Free x) ∷ [])))
      ∙ (leases_more (own_place w i) x (es ++ own_entries i x w) ∙ own_leases es w)

-- so many workers have one
module _ {S : Type 0} (i : ℕ) (act : Act) (es fs : List (Place × Slot (Instance S))) (w : ℕ) (is : fs ≡ es ++ own_entries i (filter_instance act) w) where
  pub given_sources : sources_in fs ≡ sources_in es
  given_sources = ap sources_in is ∙ own_sources i (filter_instance act) es w (no_source act)

  pub given_leases : leases_out fs ≡ leases_out es
  given_leases = ap leases_out is ∙ own_leases i (filter_instance act) es w

-- ONE FOR ALL WORKERS

module _ {S : Type 0} (sources left : List (FrameSource S)) (old new : List (Place × Slot (Instance S))) (i : ℕ) where
  moved : Moves sources left old new i → (sources ++ sources_in old ≡ left ++ sources_in new) × (leases_out new ≡ leases_out old)
  moved m = (
    ap (λ l. l ++ sources_in old) m.from ∙ (append_assoc left (m.it ∷ []) (sources_in old)
        ∙ ap (λ l. left ++ l) (sym (ap sources_in m.to ∙ sources_more (shared_place i) (Source m.it) old))),
    ap leases_out m.to ∙ leases_more (shared_place i) (Source m.it) old,
  )

module _ {S E : Type 0} (sources left : List (FrameSource S)) (old new : List (Place × Slot (Instance S))) (i : ℕ) where
  -- a source that went to its node, or came back
  pub moved_kept : (r : Result Unit E) → OnOk r (Moves sources left old new i) → OnErr r (left ≡ sources) → OnErr r (new ≡ old) → sources ++ sources_in old ≡ left ++ sources_in new
  moved_kept (Ok u) m back same = (moved sources left old new i m).0
  moved_kept (Err e) m back same = λ k. sym back k ++ sources_in (sym same k)

  pub moved_leases : (r : Result Unit E) → OnOk r (Moves sources left old new i) → OnErr r (new ≡ old) → leases_out new ≡ leases_out old
  moved_leases (Ok u) m same = (moved sources left old new i m).1
  moved_leases (Err e) m same = ap leases_out same

  pub moved_adds : (r : Result Unit E) (act : Act) (part : SourcePart) → source_part act ≡ Some part → IsNext act sources → OnOk r (Moves sources left old new i) → OnOk r (Adds sources left old new act (λ x. (shared_place i, Free x) ∷ []))
  moved_adds (Ok u) act part is next m =
      let ends : EndsIn part.info sources = rw is at next in
      record { value = Source m.it; holds = ap Some (ends.info_is left m.it m.from) ∙ sym (ap (option_map (λ (p : SourcePart). p.info)) is); kind = rw is (m.it, refl); from = m.from; to = m.to }
  moved_adds (Err e) act part is next m = tt

module _ {S E : Type 0} (sources : List (FrameSource S)) (old new : List (Place × Slot (Instance S))) (p : Place) (act : Act) where
  -- a filter's instance, or nothing
  pub put_kept : (r : Result Unit E) → OnOk r (new ≡ old ++ (p, Free (filter_instance act)) ∷ []) → OnErr r (new ≡ old) → sources ++ sources_in old ≡ sources ++ sources_in new
  put_kept (Ok u) to same = ap (λ l. sources ++ l) (sym (ap sources_in to ∙ same_more p (filter_instance act) old (no_source act)))
  put_kept (Err e) to same = ap (λ l. sources ++ sources_in l) (sym same)

  pub put_leases : (r : Result Unit E) → OnOk r (new ≡ old ++ (p, Free (filter_instance act)) ∷ []) → OnErr r (new ≡ old) → leases_out new ≡ leases_out old
  put_leases (Ok u) to same = ap leases_out to ∙ leases_more p (filter_instance act) old
  put_leases (Err e) to same = ap leases_out same

-- filters that were added
put_filter : {S : Type 0} (sources : List (FrameSource S)) (old new : List (Place × Slot (Instance S))) (act : Act) (entries : Instance S → List (Place × Slot (Instance S)))
    → source_info act ≡ None → new ≡ old ++ entries (filter_instance act) → Adds sources sources old new act entries
put_filter {S = S} sources old new act entries none to = record { value = filter_instance act; holds = no_held S act ∙ sym none; kind = filter_kind S act none; from = sym (ap (λ l. sources ++ l) (no_source act) ∙ append-nil sources); to = to }

pub filter_adds : {S E : Type 0} (sources : List (FrameSource S)) (old new : List (Place × Slot (Instance S))) (act : Act) (entries : Instance S → List (Place × Slot (Instance S))) (r : Result Unit E)
    → source_info act ≡ None → OnOk r (new ≡ old ++ entries (filter_instance act)) → OnOk r (Adds sources sources old new act entries)
filter_adds sources old new act entries (Ok u) none to = put_filter sources old new act entries none to
filter_adds sources old new act entries (Err e) none to = tt

-- an op that is no source
opened_filter : (act : Act) → is_source act ≡ false → source_info act ≡ None
opened_filter (source name number info) is = absurd (cc)
opened_filter _ is = refl

pub opened_none : (plan : List Application) (i : ℕ) → IsPlan plan → i < length plan → (mode_at plan i ≡ 3 → ⊥) → opened_at plan i ≡ None
opened_none plan i is less differ = ⊎_elim
    (λ (e : is_source (application_at plan i).act ≡ true). absurd (differ (source_mode plan i is less e)))
    (λ (e : is_source (application_at plan i).act ≡ false). opened_filter (application_at plan i).act e) (test (is_source (application_at plan i).act))

-- THE INSTANCES OF A NODE

module _ {S : Type 0} (mode i workers : ℕ) (x : Instance S) where
  by_mode : (P : List (Place × Slot (Instance S)) → Type 0) → (mode ≡ 3 → P ((shared_place i, Free x) ∷ [])) → (mode ≡ 2 → P (own_entries i x workers)) → ((mode ≡ 3 → ⊥) → (mode ≡ 2 → ⊥) → P [])
      → P (node_entries mode i workers x)
  by_mode P three two one = ⊎_elim
      (λ (e : (mode == 3) ≡ true). rw e (three (eqb-true mode 3 e)))
      (λ (e : (mode == 3) ≡ false).
      let differ : mode ≡ 3 → ⊥ = λ same. let bad : true ≡ false = sym (eq-eqb mode 3 same) ∙ e in absurd (cc) in
      rw e (⊎_elim
      (λ (f : (mode == 2) ≡ true). rw f (two (eqb-true mode 2 f)))
      (λ (f : (mode == 2) ≡ false). rw f (one differ (λ same. let bad : true ≡ false = sym (eq-eqb mode 2 same) ∙ f in absurd (cc)))) (test (mode == 2)))) (test (mode == 3))

  entries_apart : (p : Place) → (p.node ≡ i → ⊥) → slot_at p (node_entries mode i workers x) ≡ None
  entries_apart p differ = by_mode (λ es. slot_at p es ≡ None)
      (λ three. let other = apart p (shared_place i) (λ e. differ (ap (λ (q : Place). q.node) e)) in rw other refl)
      (λ two. own_absent i x p workers (λ w less e. differ (ap (λ (q : Place). q.node) e)))
      (λ a b. refl)

  entries_here : mode ≡ 3 → slot_at (shared_place i) (node_entries mode i workers x) ≡ Some (Free x)
  entries_here three = rw (eq-eqb mode 3 three) (rw (place_itself (shared_place i)) refl)

  entries_shared : has_place (shared_place i) (node_entries mode i workers x) ≡ (mode == 3)
  entries_shared = by_mode (λ es. has_place (shared_place i) es ≡ (mode == 3))
      (λ three. rw (eq-eqb mode 3 three) (rw (place_itself (shared_place i)) refl))
      (λ two. ap is_some (own_absent i x (shared_place i) workers (λ w less e. let bad : true ≡ false = ap (λ (q : Place). q.shared) e in absurd (cc))) ∙ sym (ne_eqb mode 3 (λ same. omega arith)))
      (λ a b. sym (ne_eqb mode 3 a))

  entries_own : (w : ℕ) → w < workers → mode ≡ 2 → has_place (own_place w i) (node_entries mode i workers x) ≡ true
  entries_own w less two = by_mode (λ es. has_place (own_place w i) es ≡ true)
      (λ three. absurd (omega arith))
      (λ two'. ap is_some (own_there i x w workers less))
      (λ a b. absurd (b two))

  entries_only : (p : Place) (s : Slot (Instance S)) → slot_at p (node_entries mode i workers x) ≡ Some s → (p.node ≡ i) × (s ≡ Free x)
  entries_only p s = by_mode (λ es. slot_at p es ≡ Some s → (p.node ≡ i) × (s ≡ Free x))
      (λ three h. let one = slot_one p (shared_place i) (Free x) s h in (ap (λ (q : Place). q.node) one.0, one.1))
      (λ two h. let one = own_only i x p s workers h in (one.0, one.2))
      (λ a b h. absurd (cc))

pub each_adds : {S E : Type 0} (sources : List (FrameSource S)) (old new : List (Place × Slot (Instance S))) (a : Application) (i workers : ℕ) (r : Result Unit E) → a.mode ≡ 2 → source_info a.act ≡ None
    → OnOk r (new ≡ old ++ own_entries i (filter_instance a.act) workers) → OnOk r (Adds sources sources old new a.act (node_entries a.mode i workers))
each_adds {S = S} sources old new a i workers r two none to =
    subst (λ m. OnOk r (Adds sources sources old new a.act (node_entries m i workers))) (sym two) (filter_adds sources old new a.act (λ x. own_entries i x workers) r none to)

-- a node that needs no instance
pub none_adds : {S : Type 0} (sources : List (FrameSource S)) (table : List (Place × Slot (Instance S))) (a : Application) (i workers : ℕ) → (a.mode ≡ 3 → ⊥) → (a.mode ≡ 2 → ⊥) → source_info a.act ≡ None
    → Adds sources sources table table a.act (node_entries a.mode i workers)
none_adds sources table a i workers three two none = put_filter sources table table a.act (node_entries a.mode i workers) none
    (by_mode a.mode i workers (filter_instance a.act) (λ es. table ≡ table ++ es) (λ e. absurd (three e)) (λ e. absurd (two e)) (λ e f. sym (append-nil table)))

-- NODE AFTER NODE

-- the nodes from a number on are furnished, and the sources of the earlier ones are left
pub record FurnishedFrom {S : Type 0} (plan : List Application) (workers : ℕ) (sources : List (FrameSource S)) (i : ℕ)
    (left : List (FrameSource S)) (table : List (Place × Slot (Instance S))) : Type 0 where
  pub within : i ≤ length plan
  pub new : (j : ℕ) → j < i → IsNewNode j table
  pub shared : (j : ℕ) → i ≤ j → j < length plan → has_place (shared_place j) table ≡ (mode_at plan j == 3)
  pub own : (w j : ℕ) → w < workers → i ≤ j → j < length plan → mode_at plan j ≡ 2
      → has_place (own_place w j) table ≡ true
  pub theirs : HoldTheirs holds_of plan table
  pub kinds : (p : Place) (x : Instance S) → slot_at p table ≡ Some (Free x)
      → IsKindOf (application_at plan p.node).act x
  pub at_nodes : (j number : ℕ) (name : List ℕ) (info : Info) (it : FrameSource S) → i ≤ j
      → (application_at plan j).act ≡ source name number info → slice_get sources number ≡ Some it
      → slot_at (shared_place j) table ≡ Some (Free (Source it))
  pub count : length left ≡ count_sources (take i plan)
  pub kept : sources ≡ left ++ sources_in table
  pub leases : leases_out table ≡ 0

-- the sources that a plan opens
length_infos : (act : Act) (infos : List Info) → length (cons_option (source_info act) infos) ≡ (if is_source act then 1 + length infos else length infos)
length_infos (source name number info) infos = omega arith
length_infos _ infos = refl

count_infos : (plan : List Application) → length (source_infos plan) ≡ count_sources plan
count_infos plan = is_count_by (λ (as' : List Application). length (source_infos as')) (λ (a : Application). is_source a.act) refl (λ a later. length_infos a.act (source_infos later)) plan

source_within : (plan : List Application) (i : ℕ) (name : List ℕ) (number : ℕ) (info : Info) → (application_at plan i).act ≡ source name number info → i < length plan
source_within [] i name number info h = absurd (cc)
source_within (a ∷ later) zero name number info h = omega arith
source_within (a ∷ later) (suc i) name number info h = let ih = source_within later i name number info h in omega arith

module _ {S : Type 0} (plan : List Application) (workers : ℕ) (sources : List (FrameSource S)) (is : IsPlan plan) (are : AreSources plan sources) where
  pub furnished_none : (table : List (Place × Slot (Instance S))) (n : ℕ) → table ≡ [] → n ≡ length plan → FurnishedFrom plan workers sources n sources table
  furnished_none table n empty all =
      let none : (p : Place) → slot_at p table ≡ None = λ p. ap (slot_at p) empty in
      record {
        within = omega arith;
        new = λ j less instance shared. none (place_at j instance shared);
        shared = λ j low high. absurd (omega arith);
        own = λ w j less low high two. absurd (omega arith);
        theirs = λ p x h. let bad : None ≡ Some (Free x) = sym (none p) ∙ h in absurd (cc);
        kinds = λ p x h. let bad : None ≡ Some (Free x) = sym (none p) ∙ h in absurd (cc);
        at_nodes = λ j number name info it low act found. let high = source_within plan j name number info act in absurd (omega arith);
        count = sym (length-map sources (λ (it : FrameSource S). it.index.info)) ∙ (ap length are ∙ (count_infos plan ∙ ap count_sources (sym (take_all n plan (omega arith)))));
        kept = sym (ap (λ t. sources ++ sources_in t) empty ∙ append-nil sources);
        leases = ap leases_out empty;
      }

  module _ (i : ℕ) (left : List (FrameSource S)) (table : List (Place × Slot (Instance S))) (v : FurnishedFrom plan workers sources (i + 1) left table) where
    less : i < length plan
    less = let within = v.within in omega arith

    -- the last source that is left, where the node is a source
    last_is : (front : List (FrameSource S)) (it : FrameSource S) → left ≡ front ++ it ∷ [] → slice_get sources (length front) ≡ Some it
    last_is front it e = ap (λ l. slice_get l (length front)) (v.kept ∙ (ap (λ l. l ++ sources_in table) e ∙ append_assoc front (it ∷ []) (sources_in table))) ∙ seam front it (sources_in table)

    one_more : is_source (application_at plan i).act ≡ true → length left ≡ count_sources (take i plan) + 1
    one_more h = v.count ∙ count_by_more_yes (λ (a : Application). is_source a.act) plan i no_application less h

    counted_so : (name : List ℕ) (number : ℕ) (info : Info) → (application_at plan i).act ≡ source name number info → number ≡ count_sources (take i plan)
    counted_so name number info act = (subst (λ a. IsCounted a (count_sources (take i plan)) (application_at plan i).mode) act (is.each i less).counted).0

    next_at : (act : Act) → (application_at plan i).act ≡ act → IsNext act left
    next_at (source name number info) act =
        let count = one_more (ap is_source act) in
        record {
          some = omega arith;
          info_is = λ front it e.
              let fewer : length left ≡ length front + 1 = ap length e ∙ (length-append front (it ∷ [])) in
              let number_is = counted_so name number info act in
              let at : length front ≡ number = omega arith in
              let own = has_source plan sources i name number info is less act are in
              let same : Some it ≡ Some own.it = sym (last_is front it e) ∙ (ap (slice_get sources) at ∙ own.there) in
              ap (λ (j : FrameSource S). j.index.info) (some_same same) ∙ own.info_is;
        }
    next_at _ act = tt

    pub next_is : IsNext (application_at plan i).act left
    next_is = next_at (application_at plan i).act refl

    module _ (rest : List (FrameSource S)) (after : List (Place × Slot (Instance S))) (added : Adds left rest table after (application_at plan i).act (node_entries (application_at plan i).mode i workers)) where
      abbrev mode : ℕ
      mode = (application_at plan i).mode

      abbrev entries : List (Place × Slot (Instance S))
      entries = node_entries mode i workers added.value

      -- at other nodes nothing changes
      stays : (p : Place) → (p.node ≡ i → ⊥) → slot_at p after ≡ slot_at p table
      stays p differ = ap (slot_at p) added.to ∙ pick (slot_at p table) refl
        where
          pick : (o : Option (Slot (Instance S))) → slot_at p table ≡ o → slot_at p (table ++ entries) ≡ slot_at p table
          pick None e = slot_after p table entries e ∙ (entries_apart mode i workers added.value p differ ∙ sym e)
          pick (Some s) e = slot_before p s table entries e ∙ sym e

      -- at this node all is new
      here : (p : Place) → p.node ≡ i → slot_at p after ≡ slot_at p entries
      here p same =
          let none : slot_at (place_at p.node p.instance p.shared) table ≡ None = v.new p.node (omega arith) p.instance p.shared in
          ap (slot_at p) added.to ∙ slot_after p table entries none

      theirs_now : (p : Place) (x : Instance S) → slot_at p after ≡ Some (Free x) → holds_of x ≡ opened_at plan p.node
      theirs_now p x h = ⊎_elim
          (λ (e : (p.node == i) ≡ true).
          let same = eqb-true p.node i e in
          let only = entries_only mode i workers added.value p (Free x) (sym (here p same) ∙ h) in
          ap holds_of (free_same only.1) ∙ (added.holds ∙ ap (opened_at plan) (sym same)))
          (λ (e : (p.node == i) ≡ false).
          v.theirs p x (sym (stays p (λ same. let bad : true ≡ false = sym (eq-eqb p.node i same) ∙ e in absurd (cc))) ∙ h)) (test (p.node == i))

      kinds_now : (p : Place) (x : Instance S) → slot_at p after ≡ Some (Free x) → IsKindOf (application_at plan p.node).act x
      kinds_now p x h = ⊎_elim
          (λ (e : (p.node == i) ≡ true).
          let same = eqb-true p.node i e in
          let only = entries_only mode i workers added.value p (Free x) (sym (here p same) ∙ h) in
          subst (λ j. IsKindOf (application_at plan j).act x) (sym same)
          (subst (IsKindOf (application_at plan i).act) (sym (free_same only.1)) added.kind))
          (λ (e : (p.node == i) ≡ false).
          v.kinds p x (sym (stays p (λ same. let bad : true ≡ false = sym (eq-eqb p.node i same) ∙ e in absurd (cc))) ∙ h)) (test (p.node == i))

      -- the source that stands here
      source_here : (number : ℕ) (name : List ℕ) (info : Info) (it : FrameSource S) → (application_at plan i).act ≡ source name number info → slice_get sources number ≡ Some it → slot_at (shared_place i) after ≡ Some (Free (Source it))
      source_here number name info it act found =
          let own = is_it added.value info (added.holds ∙ ap source_info act) in
          let from : left ≡ rest ++ own.0 ∷ [] = added.from ∙ ap (λ l. rest ++ l) own.2 in
          let count = one_more (ap is_source act) in
          let fewer : length left ≡ length rest + 1 = ap length from ∙ (length-append rest (own.0 ∷ [])) in
          let number_is = counted_so name number info act in
          let at : length rest ≡ number = omega arith in
          let same : Some own.0 ≡ Some it = sym (last_is rest own.0 from) ∙ (ap (slice_get sources) at ∙ found) in
          let three = source_mode plan i is less (ap is_source act) in
          here (shared_place i) refl ∙ (entries_here mode i workers added.value three ∙ ap (λ (y : Instance S). Some (Free y)) (own.1 ∙ ap Source (some_same same)))

      count_now : length rest ≡ count_sources (take i plan)
      count_now = ⊎_elim
          (λ (e : is_source (application_at plan i).act ≡ true).
          let own = held_source (application_at plan i).act added.value e added.holds in
          let fewer : length left ≡ length rest + 1 = ap length (added.from ∙ ap (λ l. rest ++ l) own.1) ∙ (length-append rest (own.0 ∷ [])) in
          let count = one_more e in omega arith)
          (λ (e : is_source (application_at plan i).act ≡ false).
          let none = is_no added.value (added.holds ∙ opened_filter (application_at plan i).act e) in
          let same : left ≡ rest = added.from ∙ (ap (λ l. rest ++ l) none ∙ append-nil rest) in
          ap length (sym same) ∙ (v.count ∙ count_by_more_no (λ (a : Application). is_source a.act) plan i no_application less e)) (test (is_source (application_at plan i).act))

      pub furnished_more : left ++ sources_in table ≡ rest ++ sources_in after → leases_out after ≡ leases_out table → FurnishedFrom plan workers sources i rest after
      furnished_more kept leases = record {
        within = omega arith;
        new = λ j below instance shared. stays (place_at j instance shared) (λ same. omega arith) ∙ v.new j (omega arith) instance shared;
        shared = λ j low high. ⊎_elim
            (λ (e : (i == j) ≡ true). subst (λ k. has_place (shared_place k) after ≡ (mode_at plan k == 3)) (eqb-true i j e) (ap is_some (here (shared_place i) refl) ∙ entries_shared mode i workers added.value))
            (λ (e : (i == j) ≡ false). let differ = other j e in ap is_some (stays (shared_place j) (λ same. differ (sym same))) ∙ v.shared j (omega arith) high) (test (i == j));
        own = λ w j few low high two. ⊎_elim
            (λ (e : (i == j) ≡ true). subst (λ k. mode_at plan k ≡ 2 → has_place (own_place w k) after ≡ true) (eqb-true i j e) (λ two'. ap is_some (here (own_place w i) refl) ∙ entries_own mode i workers added.value w few two') two)
            (λ (e : (i == j) ≡ false). let differ = other j e in ap is_some (stays (own_place w j) (λ same. differ (sym same))) ∙ v.own w j few (omega arith) high two) (test (i == j));
        theirs = theirs_now;
        kinds = kinds_now;
        at_nodes = λ j number name info it low act found. ⊎_elim
            (λ (e : (i == j) ≡ true). subst (λ k. (application_at plan k).act ≡ source name number info → slot_at (shared_place k) after ≡ Some (Free (Source it))) (eqb-true i j e) (λ act'. source_here number name info it act' found) act)
            (λ (e : (i == j) ≡ false). let differ = other j e in stays (shared_place j) (λ same. differ (sym same)) ∙ v.at_nodes j number name info it (omega arith) act found) (test (i == j));
        count = count_now;
        kept = v.kept ∙ kept;
        leases = leases ∙ v.leases;
      }
        where
          other : (j : ℕ) → (i == j) ≡ false → i ≡ j → ⊥
          other j e same = let bad : true ≡ false = sym (eq-eqb i j same) ∙ e in absurd (cc)
