-- What a worker does to the core in one turn: c is the core at its start, and d at its end.
use Rattle.std.specs.Prelude.{◌≡◌, ◌⊎◌, ℕ, ◌<◌, false, List, [], ◌∷◌, slice_get, Option, Some, None}
use Rattle.fv_plane.specs.declared.format.Info.{Info}
use Rattle.fv_plane.specs.declared.key.Key.{Key}
use Rattle.serve_machine.specs.declared.event.WindowStop.{WindowStop}
use Rattle.serve_machine.specs.declared.event.WindowStop.TheVariants.{Memory}
use Rattle.serve_machine.specs.Holdings.{claims_of}
use Rattle.serve_core.specs.declared.answers.Ask.TheVariants.{Hit as IsCached, Claimed as IsClaimed, Taken as IsTaken}
use Rattle.serve_core.specs.declared.answers.Admitted.TheVariants.{Leased as IsLeased, Busy as IsBusy}
use Rattle.serve_core.specs.Calls.{Asked, Admits, TookOutput, after_abandon, after_fail}
use Rattle.serve_core.specs.CoreValue.{CoreValue}
use Rattle.serve_core.specs.Sources.{shape_at, opened_at}
use Rattle.serve_shared.specs.declared.steps.Found.{Found}
use Rattle.serve_shared.specs.declared.steps.Found.TheVariants.{Hit, Claimed, Taken}
use Rattle.serve_shared.specs.declared.steps.Entry.{Entry}
use Rattle.serve_shared.specs.declared.steps.Entry.TheVariants.{Leased, Busy}

module _ {I : Type 0} where
  -- a worker of a window, which has not failed in it
  pub record IsRunning (w : ℕ) (c : CoreValue I) : Type 0 where
    pub worker : w < c.fixed.workers
    pub window : 0 < c.fixed.count
    pub unfailed : slice_get c.failed w ≡ Some false

  -- the worker's claims on these keys are given up, the last first
  abbrev pub given_up : ℕ → List Key → CoreValue I → CoreValue I
  given_up w [] c = c
  given_up w (k ∷ ks) c = after_abandon (given_up w ks c) w k

  -- all its claims are
  abbrev pub closed : ℕ → CoreValue I → CoreValue I
  closed w c = given_up w (claims_of w c.claims) c

  -- out of memory: the worker has closed its work, and failed
  abbrev pub RunsOut : ℕ → WindowStop → CoreValue I → CoreValue I → Type 0
  RunsOut w why c d = (why ≡ Memory) × (d ≡ after_fail (closed w c) w Memory)

  -- and the window was not stopped before: a worker that another has stopped does not fail
  abbrev pub RunsOutFirst : ℕ → WindowStop → CoreValue I → CoreValue I → Type 0
  RunsOutFirst w why c d = (c.stop ≡ None) × RunsOut w why c d

  -- or it has closed its work as the window was stopped
  abbrev pub Refuses : ℕ → WindowStop → CoreValue I → CoreValue I → Type 0
  Refuses w why c d = RunsOutFirst w why c d ⊎ ((c.stop ≡ Some why) × (d ≡ closed w c))

  -- what the core answered: the frame, the claim, or that another worker has the claim
  abbrev pub Finds : CoreValue I → ℕ → Key → Found → CoreValue I → Type 0
  Finds c w k (Hit x) d = Asked c w k (IsCached x) d × (x.shape ≡ shape_at c.fixed.plan k.node)
  Finds c w k Claimed d = Asked c w k IsClaimed d
  Finds c w k (Taken heard) d = (by : ℕ) × Asked c w k (IsTaken by) d

  -- and for an instance
  abbrev pub Enters : (I → Option Info) → CoreValue I → ℕ → ℕ → Entry I → CoreValue I → Type 0
  Enters holds c w i (Leased l) d = Admits c w i (IsLeased l) d × (holds l.value ≡ opened_at c.fixed.plan i)
  Enters holds c w i (Busy heard) d = (holder : ℕ) × Admits c w i (IsBusy holder) d

  -- an output is taken as the key of its frame
  abbrev pub Takes : CoreValue I → ℕ → Option Key → CoreValue I → Type 0
  Takes c w None d = TookOutput c w None d
  Takes c w (Some k) d = TookOutput c w (Some k.n) d × (k.node ≡ c.fixed.root)
