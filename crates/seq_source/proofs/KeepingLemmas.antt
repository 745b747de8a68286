-- What two calls in a row keep, and what a fault of the second shows.
use Rattle.std.proofs.Common.{◌≡◌, ℕ, ◌≤◌, length, List, Some, Result, Ok, Err, IfErr, inl, inr, ◌∙◌, ap, arith}
use Rattle.fv_io.specs.declared.source.Source.{Ghosts}
use Rattle.fv_io.specs.Faults.{risen}
use Rattle.fv_io.specs.Source.{KeepsSource, IsSteady}
use Rattle.seq_source.specs.declared.fault.SeqFault.{SeqFault}
use Rattle.seq_source.specs.declared.fault.SeqFault.TheVariants.{Read, Changed, Memory}
use Rattle.seq_source.specs.FrameSource.{RewindsOnce}
use Rattle.seq_source.specs.Faults.{FaultShows, IsNoChange}

module _ {S : Type 0} (source : Ghosts S) where
  pub no_rewind : (old new : S) → KeepsSource source old new → RewindsOnce source old new
  no_rewind old new keeps = record { told = keeps.told; once = inl keeps.rewinds; later = keeps.later }

  pub and_then : (old mid new : S) → RewindsOnce source old mid → KeepsSource source mid new → RewindsOnce source old new
  and_then old mid new first later = record {
    told = later.told ∙ first.told;
    once = elim first.once [ inl none ↦ inl (later.rewinds ∙ none) | inr one ↦ inr (later.rewinds ∙ one) ];
    later = (let before = first.later in let after = later.later in omega arith);
  }

  -- a fault of the second call is one of both
  pub shows_both : (old mid new : S) → RewindsOnce source old mid → IsSteady source old mid → (n past : ℕ) (fault : SeqFault) → FaultShows source mid new n past fault → FaultShows source old new n past fault
  shows_both old mid new first steady n past Read shown = shown ∙ ap risen steady
  shows_both old mid new first steady n past (Changed frame want got) shown =
      record { frame_is = shown.frame_is; want_is = shown.want_is; early = shown.early; at = shown.at; ended = λ bytes is. shown.ended bytes (first.told ∙ is) }
  shows_both old mid new first steady n past Memory shown = tt

  pub answer_shows : {T : Type 0} (r : Result T SeqFault) (old mid new : S) → RewindsOnce source old mid → IsSteady source old mid → (n past : ℕ) → IfErr r (FaultShows source mid new n past) → IfErr r (FaultShows source old new n past)
  answer_shows (Ok value) old mid new first steady n past shown = tt
  answer_shows (Err fault) old mid new first steady n past shown = shows_both old mid new first steady n past fault shown

-- a fault over bytes that have all of the frame doesn't say that they changed
pub no_change : {S : Type 0} (source : Ghosts S) (old new : S) (n past : ℕ) (told : List ℕ) → source.bytes old ≡ Some told → past ≤ length told → (fault : SeqFault) → FaultShows source old new n past fault → IsNoChange fault
no_change source old new n past told is inside Read shown = tt
no_change source old new n past told is inside (Changed frame want got) shown =
    let want_is = shown.want_is in
    let early = shown.early in
    let ended = shown.ended told is in
    omega arith
no_change source old new n past told is inside Memory shown = tt

-- a call that keeps the source, and another
pub keeps_both : {S : Type 0} (source : Ghosts S) (old mid new : S) → KeepsSource source old mid → KeepsSource source mid new → KeepsSource source old new
keeps_both source old mid new first later = record {
  told = later.told ∙ first.told;
  rewinds = later.rewinds ∙ first.rewinds;
  later = (let before = first.later in let after = later.later in omega arith);
}
