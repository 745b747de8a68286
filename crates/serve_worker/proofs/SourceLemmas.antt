-- The source that a node of a plan reads.
use Rattle.std.proofs.Common.{◌≡◌, ℕ, zero, suc, ◌+◌, ◌<◌, List, [], ◌∷◌, length, map, take, Some, refl, arith}
use Rattle.std.specs.Prelude.{if◌then◌else◌}
use Rattle.std.specs.List.{slice_get, cons_option}
use Rattle.std.proofs.lemmas.List.Sums.{sum_by-cons}
use Rattle.fv_plane.specs.declared.format.Info.{Info}
use Rattle.seq_source.specs.FrameSource.{FrameSource}
use Rattle.clip_term.specs.declared.op.Op.TheVariants as op
use Rattle.clip_term.specs.Terms.{Act, source, source_info}
use Rattle.clip_graph.specs.Plan.{Application, application_at, is_source, sources_in, IsPlan}
use Rattle.serve_worker.specs.Sources.{source_infos, AreSources}

-- the act that stands first
with_first : (act : Act) (infos : List Info) (k : ℕ) (info : Info) → slice_get infos k ≡ Some info
    → slice_get (cons_option (source_info act) infos) ((if is_source act then 1 else 0) + k) ≡ Some info
with_first (source name number told) infos k info found = let more : 1 + k ≡ suc k = omega arith in rw more found
with_first _ infos k info found = let same : 0 + k ≡ k = omega arith in rw same found

-- the info of a source, by the number of those before it
info_found : (plan : List Application) (i : ℕ) (name : List ℕ) (number : ℕ) (info : Info) → i < length plan → (application_at plan i).act ≡ source name number info
    → slice_get (source_infos plan) (sources_in (take i plan)) ≡ Some info
info_found [] i name number info within same = absurd (omega arith)
info_found (a ∷ plan) zero name number info within same = rw same refl
info_found (a ∷ plan) (suc i) name number info within same =
    let found = info_found plan i name number info (omega arith) same in
    rw (sum_by-cons (λ (b : Application). if is_source b.act then 1 else 0) a (take i plan)) (with_first a.act (source_infos plan) (sources_in (take i plan)) info found)

-- the source of a plan's place
pub record HasSource {S : Type 0} (sources : List (FrameSource S)) (number : ℕ) (info : Info) : Type 0 where
  pub it : FrameSource S
  pub there : slice_get sources number ≡ Some it
  pub info_is : it.index.info ≡ info

mapped : {S : Type 0} (sources : List (FrameSource S)) (number : ℕ) (info : Info) → slice_get (map (λ (it : FrameSource S). it.index.info) sources) number ≡ Some info → HasSource sources number info
mapped [] number info found = absurd (let none : ⊥ = cc in none)
mapped (it ∷ rest) zero info found = record { it = it; there = refl; info_is = cc }
mapped (it ∷ rest) (suc number) info found = let later = mapped rest number info found in record { it = later.it; there = later.there; info_is = later.info_is }

counted_as : (plan : List Application) (i : ℕ) (name : List ℕ) (number : ℕ) (info : Info) → IsPlan plan → i < length plan → (application_at plan i).act ≡ source name number info → number ≡ sources_in (take i plan)
counted_as plan i name number info is within same = let counted = (is.each i within).counted in let both = rw same at counted in both.0

-- a node that is a source has its own among those of the plan
pub has_source : {S : Type 0} (plan : List Application) (sources : List (FrameSource S)) (i : ℕ) (name : List ℕ) (number : ℕ) (info : Info) → IsPlan plan → i < length plan
    → (application_at plan i).act ≡ source name number info → AreSources plan sources → HasSource sources number info
has_source plan sources i name number info is within same are =
    mapped sources number info (rw (are, counted_as plan i name number info is within same) (info_found plan i name number info within same))
