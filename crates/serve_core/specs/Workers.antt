-- What a worker has in a core is told by its own events of the journal.
use Rattle.std.specs.Prelude.{◌≡◌, ℕ, ◌-◌, ◌<◌, ◌≤◌, true, [], ◌∷◌, length, slice_get, is_some, Some, None}
use Rattle.fv_plane.specs.Picture.{Picture}
use Rattle.fv_plane.specs.declared.key.Key.{Key}
use Rattle.frame_cache.specs.Cached.{at_key}
use Rattle.inst_table.specs.declared.place.Place.{Place}
use Rattle.inst_table.specs.declared.place.Slot.TheVariants.{Leased}
use Rattle.inst_table.specs.Places.{slot_at}
use Rattle.serve_machine.specs.Events.{has, own_events}
use Rattle.serve_machine.specs.Machine.{is_by, first_stop}
use Rattle.serve_machine.specs.Holdings.{Holdings, has_number, own_holdings, claims_of}
use Rattle.serve_core.specs.Kept.{leases_out}
use Rattle.serve_core.specs.CoreValue.{CoreValue}
use Rattle.serve_core.specs.Holds.{claims_at, holds_none}
use Rattle.serve_core.specs.Runs.{IsRun}
use Rattle.serve_machine.specs.Work.{takes}

module _ {I : Type 0} where
  -- what the worker's own events say that it has
  abbrev pub told_holdings : CoreValue I → ℕ → Holdings
  told_holdings c w = own_holdings c.fixed.plan (own_events w c.journal)

  -- the worker took the output, and did not deliver it
  pub record HasOutput (c : CoreValue I) (w n : ℕ) : Type 0 where
    pub low : c.fixed.first ≤ n
    pub taken : slice_get c.outputs.taken (n - c.fixed.first) ≡ Some w
    pub undelivered : slice_get c.outputs.frames (n - c.fixed.first) ≡ Some None

  -- the worker has what its own events say
  pub record HasTold (c : CoreValue I) (w : ℕ) : Type 0 where
    pub claims : (told_holdings c w).claims ≡ claims_of w c.claims
    pub claim : (k : Key) → has k (told_holdings c w).claims ≡ is_by w (at_key k c.claims)
    pub node : (k : Key) → has k (told_holdings c w).claims ≡ true → claims_at w k.node c.claims ≡ true
    pub lease : (p : Place) → (told_holdings c w).leases ≡ p ∷ [] → slot_at p c.table ≡ Some (Leased w)
    pub idle : (told_holdings c w).leases ≡ [] → holds_none w c.table ≡ true
    pub output : (n : ℕ) → has_number n (told_holdings c w).outputs ≡ true → HasOutput c w n
    pub failed : w < c.fixed.workers → slice_get c.failed w ≡ Some (is_some (first_stop (own_events w c.journal)))

-- in every core
abbrev pub OwnEventsTell : Type 0 → Type 0
OwnEventsTell I = (c : CoreValue I) (w : ℕ) → IsRun c → HasTold c w

-- The journal tells how many outputs were taken. Where each worker has closed what it opened, no claim and no instance is
-- open, and each output that was taken is delivered.
pub record WorkersTell (I : Type 0) : Type 0 where
  pub taken : (c : CoreValue I) → IsRun c → length c.outputs.taken ≡ takes c.journal
  pub closed_claims : (c : CoreValue I) → IsRun c
      → ((w : ℕ) → w < c.fixed.workers → (told_holdings c w).claims ≡ []) → c.claims ≡ []
  pub closed_leases : (c : CoreValue I) → IsRun c
      → ((w : ℕ) → w < c.fixed.workers → (told_holdings c w).leases ≡ []) → leases_out c.table ≡ 0
  pub delivered : (c : CoreValue I) → IsRun c
      → ((w : ℕ) → w < c.fixed.workers → (told_holdings c w).outputs ≡ [])
      → (j : ℕ) → j < length c.outputs.taken → (x : Picture) × (slice_get c.outputs.frames j ≡ Some (Some x))
