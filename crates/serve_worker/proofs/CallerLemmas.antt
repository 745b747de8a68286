-- What other crates may cite: the frames that a furnished table tells, how many sources it has, how often these have
-- failed, and its places.
use Rattle.std.proofs.Common.{◌≡◌, ℕ, suc, ◌+◌, ◌<◌, true, false, if◌then◌else◌, List, [], ◌∷◌, ◌++◌, length, map, take, slice_get, Option, Some, None, sym, refl, ap, ◌∙◌, subst, ⊎_elim, arith}
use Rattle.std.specs.List.{cons_option}
use Rattle.std.proofs.lemmas.List.{length-append, map-append}
use Rattle.std.proofs.lemmas.List.Recursion.{is_count_by}
use Rattle.fv_io.specs.declared.source.Source.{Ghosts}
use Rattle.fv_plane.specs.declared.format.Info.{Info}
use Rattle.seq_source.specs.FrameSource.{FrameSource, frames_of}
use Rattle.clip_term.specs.Terms.{Act, source, source_info}
use Rattle.clip_graph.specs.Plan.{Application, application_at, is_source, sources_in as count_sources, IsPlan, IsCounted}
use Rattle.serve_worker.specs.Sources.{source_infos, AreSources}
use Rattle.inst_table.specs.declared.place.Place.{Place}
use Rattle.inst_table.specs.declared.place.Slot.{Slot}
use Rattle.inst_table.specs.declared.place.Slot.TheVariants.{Free, Leased}
use Rattle.inst_table.specs.Places.{slot_at, shared_place}
use Rattle.inst_table.proofs.CallerLemmas.{test}
use Rattle.serve_core.specs.Sources.{sources_from, all_told, feed_at, book_of}
use Rattle.serve_worker.specs.declared.instance.Instance.{Instance}
use Rattle.serve_worker.specs.declared.instance.Instance.TheVariants.{Plain, Scratch, Source}
use Rattle.serve_core.specs.Tables.{AllFree, held_in, counts_in}
use Rattle.serve_worker.specs.Furnishing.{sources_in, fault_counts, some_in, Furnishes}
use Rattle.serve_worker.specs.Instances.{feed_of, faults_of, holds_of}

-- how many of these are sources
abbrev counted : List Application → ℕ
counted [] = 0
counted (a ∷ later) = if is_source a.act then 1 + counted later else counted later

counted_is : (plan : List Application) → counted plan ≡ count_sources plan
counted_is plan = is_count_by counted (λ (a : Application). is_source a.act) refl (λ a later. refl) plan

-- the first of the sources is that of the first op, where the op is one
pub record Begins {S : Type 0} (sources : List (FrameSource S)) (infos : List Info) : Type 0 where
  pub it : FrameSource S
  pub later : List (FrameSource S)
  pub are : sources ≡ it ∷ later
  pub rest : map (λ (s : FrameSource S). s.index.info) later ≡ infos

begins : {S : Type 0} (act : Act) (sources : List (FrameSource S)) (infos : List Info) → is_source act ≡ true → map (λ (s : FrameSource S). s.index.info) sources ≡ cons_option (source_info act) infos → Begins sources infos
begins (source name number info) [] infos is are = absurd (cc)
begins (source name number info) (it ∷ later) infos is are = record { it = it; later = later; are = refl; rest = cc }
begins _ sources infos is are = absurd (cc)

none_first : (act : Act) (infos : List Info) → is_source act ≡ false → cons_option (source_info act) infos ≡ infos
none_first (source name number info) infos is = absurd (cc)
none_first _ infos is = refl

no_more : {S : Type 0} (sources : List (FrameSource S)) → map (λ (s : FrameSource S). s.index.info) sources ≡ [] → sources ≡ []
no_more [] are = refl
no_more (it ∷ later) are = absurd (cc)

-- the op of a source
named : (act : Act) → is_source act ≡ true → (name : List ℕ) × ((number : ℕ) × ((info : Info) × (act ≡ source name number info)))
named (source name number info) is = (name, (number, (info, refl)))
named _ is = absurd (cc)

module _ {S : Type 0} (of : Ghosts S) (table : List (Place × Slot (Instance S))) where
  told_from : (i : ℕ) (plan : List Application) (sources : List (FrameSource S)) → map (λ (it : FrameSource S). it.index.info) sources ≡ source_infos plan
      → ((j : ℕ) (it : FrameSource S) → j < length plan → is_source (application_at plan j).act ≡ true → slice_get sources (counted (take j plan)) ≡ Some it → slot_at (shared_place (i + j)) table ≡ Some (Free (Source it)))
      → map (λ k. feed_at (feed_of of) (slot_at (shared_place k) table)) (sources_from i plan) ≡ map (frames_of of) sources
  told_from i [] sources are there = ap (map (frames_of of)) (sym (no_more sources are))
  told_from i (a ∷ later) sources are there = ⊎_elim
      (λ (h : is_source a.act ≡ true).
      let first = begins a.act sources (source_infos later) h are in
      let none : i + 0 ≡ i = omega arith in
      let here : slot_at (shared_place i) table ≡ Some (Free (Source first.it)) = subst (λ k. slot_at (shared_place k) table ≡ Some (Free (Source first.it))) none (there 0 first.it (omega arith) h (ap (λ l. slice_get l 0) first.are)) in
      let ih = told_from (i + 1) later first.later first.rest (λ j it less is found.
      let next : i + suc j ≡ i + 1 + j = omega arith in
      let more : counted (a ∷ take j later) ≡ suc (counted (take j later)) = rw h (omega arith) in
      subst (λ k. slot_at (shared_place k) table ≡ Some (Free (Source it))) next
      (there (suc j) it (omega arith) is (ap (λ l. slice_get l (counted (a ∷ take j later))) first.are ∙ (ap (slice_get (first.it ∷ first.later)) more ∙ found)))) in
      let told : feed_at (feed_of of) (slot_at (shared_place i) table) ≡ frames_of of first.it = ap (feed_at (feed_of of)) here in
      rw h ((λ k. told k ∷ ih k) ∙ ap (map (frames_of of)) (sym first.are)))
      (λ (h : is_source a.act ≡ false).
      rw h (told_from (i + 1) later sources (are ∙ none_first a.act (source_infos later) h) (λ j it less is found.
      let next : i + suc j ≡ i + 1 + j = omega arith in
      let same : counted (a ∷ take j later) ≡ counted (take j later) = rw h refl in
      subst (λ k. slot_at (shared_place k) table ≡ Some (Free (Source it))) next
      (there (suc j) it (omega arith) is (ap (slice_get sources) same ∙ found))))) (test (is_source a.act))

-- where a table is furnished, its book is what the sources tell
pub told_book : {S : Type 0} (of : Ghosts S) (plan : List Application) (workers : ℕ) (sources : List (FrameSource S)) (table : List (Place × Slot (Instance S))) → Furnishes plan workers sources table → IsPlan plan → AreSources plan sources
    → book_of (feed_of of) plan table ≡ all_told (map (frames_of of) sources)
told_book of plan workers sources table furnishes is are = ap all_told (told_from of table 0 plan sources are (λ j it less source' found.
    let op = named (application_at plan j).act source' in
    let act = op.1.1.1 in
    let number : op.1.0 ≡ count_sources (take j plan) = (subst (λ a. IsCounted a (count_sources (take j plan)) (application_at plan j).mode) act (is.each j less).counted).0 in
    let at : op.1.0 ≡ counted (take j plan) = number ∙ sym (counted_is (take j plan)) in
    let none : j ≡ 0 + j = omega arith in
    subst (λ k. slot_at (shared_place k) table ≡ Some (Free (Source it))) none (furnishes.at_nodes j op.1.0 op.0 op.1.1.0 it act (ap (slice_get sources) at ∙ found))))

-- each source in a table with no lease counts as one that is held
pub count_held : {S : Type 0} (table : List (Place × Slot (Instance S))) → AllFree table → length (sources_in table) ≡ some_in (held_in holds_of table)
count_held [] free = refl
count_held ((p, Free Plain) ∷ es) free = count_held es free
count_held ((p, Free (Scratch width)) ∷ es) free = count_held es free
count_held ((p, Free (Source it)) ∷ es) free = length-append (sources_in es) (it ∷ []) ∙ ap (λ n. n + 1) (count_held es free)
count_held ((p, Leased w) ∷ es) free = absurd free

-- the numbers beside the infos that are there, the last first
abbrev beside : List (Place × Option Info) → List ℕ → List ℕ
beside [] ns = []
beside ((p, None) ∷ infos) [] = []
beside ((p, None) ∷ infos) (n ∷ ns) = beside infos ns
beside ((p, Some info) ∷ infos) [] = []
beside ((p, Some info) ∷ infos) (n ∷ ns) = beside infos ns ++ n ∷ []

counts_beside : {S : Type 0} (of : Ghosts S) (table : List (Place × Slot (Instance S))) → AllFree table → fault_counts of (sources_in table) ≡ beside (held_in holds_of table) (counts_in (faults_of of) table)
counts_beside of [] free = refl
counts_beside of ((p, Free Plain) ∷ es) free = counts_beside of es free
counts_beside of ((p, Free (Scratch width)) ∷ es) free = counts_beside of es free
counts_beside of ((p, Free (Source it)) ∷ es) free = map-append (λ (s : FrameSource _). of.faults s.source) (sources_in es) (it ∷ []) ∙ ap (λ l. l ++ of.faults it.source ∷ []) (counts_beside of es free)
counts_beside of ((p, Leased w) ∷ es) free = absurd free

-- the sources in two tables that keep the same, and whose instances have failed as often
pub same_counts : {S : Type 0} (of : Ghosts S) (es fs : List (Place × Slot (Instance S))) → AllFree es → AllFree fs → held_in holds_of fs ≡ held_in holds_of es → counts_in (faults_of of) fs ≡ counts_in (faults_of of) es
    → fault_counts of (sources_in fs) ≡ fault_counts of (sources_in es)
same_counts of es fs free free' held counts = counts_beside of fs free' ∙ ((λ i. beside (held i) (counts i)) ∙ sym (counts_beside of es free))
